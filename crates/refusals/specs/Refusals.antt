-- What a call answers: a result, or a refusal with the paper's number for it. Assumes nothing.
use Rattle.std.specs.Prelude.{List, ℕ, Result, Ok, Err, ⊤}
use Rattle.octets.specs.Reasons.{Reason, decided}
use Rattle.refusals.specs.declared.Refusal.{Refusal}

-- refused by this number: "Every number but 0 carries no other result"
abbrev pub refuse : {A : Type 0} → ℕ → Result A Refusal
refuse n = Err (record { 0 = n })

-- the number that a call answers by: "0: done"
abbrev pub answer_of : {A : Type 0} → Result A Refusal → ℕ
answer_of (Ok a) = 0
answer_of (Err r) = r.0

-- what comes of a test: nothing to refuse, or the first number that applies
abbrev pub verdict : List Reason → Result ⊤ Refusal
verdict rs = decided rs (Ok tt) refuse
