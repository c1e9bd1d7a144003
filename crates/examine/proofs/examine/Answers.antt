-- `examine` meets its contract: size, marker, and then the header of what is derandomised. Assumes nothing.
use mathlib.Core.Path.{sym, ◌∙◌, ap}
use Rattle.frame.specs.Header.{frame_of}
use Rattle.frame.specs.Refusals.{examined_header}
use Rattle.frame.proofs.Answers.{other-size, other-marker, of-header}
use Rattle.frame.proofs.Framing.{missized, unmarked, is_framed, plain-framed, plain-unframed}
use Rattle.frame.proofs.Sizes.{coded}
use Rattle.examine.proofs.examine.Goals as goal

pub returns-then-frame-ne-SIZE : goal.returns-then-frame-ne-SIZE
returns-then-frame-ne-SIZE c = record {
  value = sym (other-size _ _ _ c.if-frame-ne-SIZE.true);
  plain_after = sym (plain-unframed _ _ (missized _ c.if-frame-ne-SIZE.true));
}

pub returns-then-not-marked : goal.returns-then-not-marked
returns-then-not-marked c =
    let size = c.if-frame-ne-SIZE.false in
    let unlike = sym c.marked.ensures ∙ c.if-not-marked.true in
    record { value = sym (other-marker _ _ _ size unlike); plain_after = sym (plain-unframed _ _ (unmarked _ size unlike)) }

pub returns : goal.returns
returns c =
    let size = c.if-frame-ne-SIZE.false in
    let framed = is_framed _ size (sym c.marked.ensures ∙ c.if-not-marked.false) in
    let plain = c.mix.ensures ∙ coded _ size in record {
      value = c.examine_header.ensures ∙ ap (examined_header _ _) (c.read-h.ensures.value ∙ ap frame_of plain) ∙ sym (of-header _ _ _ framed);
      plain_after = plain ∙ sym (plain-framed _ _ framed);
    }
