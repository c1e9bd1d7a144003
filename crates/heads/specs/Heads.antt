-- docs/VECTORS.md, the questions `F` and `P`: the text of what a frame's header and a packet's say. Assumes nothing.
use Rattle.std.specs.Prelude.{List, ◌++◌, ℕ}
use Rattle.text.specs.Pieces.{ascii, spaced}
use Rattle.text.specs.Lines.{spaced_three}
use Rattle.frame.specs.declared.Frame.{Frame}
use Rattle.frame.specs.declared.Pointer.{Pointer}
use Rattle.frame.specs.declared.Pointer.TheVariants as pointer
use Rattle.frame.specs.Header.{pointer_meaning}
use Rattle.packet.specs.declared.Kind.{Kind}
use Rattle.packet.specs.declared.Kind.TheVariants.{File, Other, Fill}
use Rattle.packet.specs.declared.Look.{Look}
use Rattle.packet.specs.declared.Look.TheVariants as look
use Rattle.packet.specs.Header.{size_of}
use Rattle.packet.specs.Kinds.{kind_of}

-- "then `at` and the offset, or `refused`, or `none`: what the pointer means"
unfoldable pub meaning_text : Pointer → List ℕ
meaning_text (pointer.Offset offset) = ascii " at" ++ spaced offset
meaning_text pointer.Refused = ascii " refused"
meaning_text pointer.NoStart = ascii " none"

-- F: "`F version spacecraft channel counter pointer`", then what the pointer means
unfoldable pub frame_text : Frame → List ℕ
frame_text f =
    ascii "F" ++ spaced_three f.version f.spacecraft f.channel.0 ++ spaced f.counter.0
    ++ (spaced f.pointer ++ meaning_text (pointer_meaning f.pointer))

-- "kind is `file` (up to 2015), `other` (2016 to 2046) or `fill` (2047)"
unfoldable pub kind_text : Kind → List ℕ
kind_text File = ascii " file"
kind_text Other = ascii " other"
kind_text Fill = ascii " fill"

-- P: "`P short` under six octets; `P bad` for a bad packet header; else `P good application kind flags count size`: .. size the octets of the
-- whole packet"
unfoldable pub packet_text : Look → List ℕ
packet_text look.Short = ascii "P short"
packet_text look.Bad = ascii "P bad"
packet_text (look.Good p) =
    ascii "P good" ++ spaced p.application.0 ++ kind_text (kind_of p.application) ++ spaced_three p.flags p.count.0 (size_of p)
