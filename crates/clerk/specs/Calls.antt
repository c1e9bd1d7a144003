-- What `clerk` owns, and what a command does to it, by its letter. Assumes nothing.
use Rattle.std.specs.Prelude.{List, ◌++◌, ℕ, ◌/◌, ◌%◌, ◌^◌, min, eqb, take, drop, set, if◌then◌else◌, Result, Ok, Err}
use Rattle.octets.specs.Buffer.{put}
use Rattle.refusals.specs.declared.Refusal.{Refusal}
use Rattle.script.specs.declared.Command.{Command}
use Rattle.facts.specs.declared.Facts.{Facts}
use Rattle.catalogue.specs.Entering.{Outcome, begun, file_entered}
use Rattle.clerk.specs.declared.Held.{Held}
use Rattle.clerk.specs.declared.Memory.{Memory}

-- "It owns a buffer of 32,768 octets .. and two numbers ..: how many octets of the buffer, from its first on, are lent to a call, and how many octets
-- the catalogue has"
abbrev pub memory : Held → List ℕ → Memory
memory h buffer = record { buffer = buffer; lent = h.lent; used = h.used }

-- B: "begin"; "`B` and `E` are lent all that is lent"
abbrev pub begins_in : Memory → Outcome
begins_in m = begun (take m.lent m.buffer)

-- E: "channel a, application b, the file counter in the upper two octets of c, L in d"
abbrev pub facts_in : Command → Facts
facts_in x =
    record { channel = record { 0 = x.a }; application = record { 0 = x.b }; counter = x.c / 2 ^ 16; bits = x.d }

-- E: "enter"; "the lower two octets of c say how many octets follow as payload, the file"; it "is given the number of octets of the catalogue as it is"
abbrev pub enters_in : Command → List ℕ → Memory → Outcome
enters_in x file m = file_entered (take m.lent m.buffer) m.used (facts_in x) file

-- "after 0 the catalogue has as many octets as begin said", and "as enter said"
abbrev pub used_after : Result ℕ Refusal → ℕ → ℕ
used_after (Err n) used = used
used_after (Ok n) used = n

-- B and E: of the buffer, what was lent is what the call left there
unfoldable pub wrote : Outcome → Memory → Memory
wrote o m =
    record { buffer = o.buffer ++ drop m.lent m.buffer; lent = m.lent; used = used_after o.answer m.used }

-- M: "from now on c octets are lent (32,768 if c is more), and the catalogue has d octets"; W: "c octets follow as payload ..; they are put at the
-- start of the buffer, and the catalogue has c octets; how many are lent stays"; P: "octet d of the buffer, from 0, becomes b modulo 256; past its end
-- nothing changes", as `set` has it; J, F, I, C and H change nothing
unfoldable pub settled : Command → List ℕ → Memory → Memory
settled x payload m =
    if eqb x.letter 0x4D then record { buffer = m.buffer; lent = min x.c 32768; used = x.d }
    else if eqb x.letter 0x57 then record { buffer = put m.buffer 0 payload; lent = m.lent; used = x.c }
    else if eqb x.letter 0x50 then record { buffer = set m.buffer x.d (x.b % 256); lent = m.lent; used = m.used }
    else m

-- by the letter: B, E, and the others
unfoldable pub carried_out : Command → List ℕ → Memory → Memory
carried_out x payload m =
    if eqb x.letter 0x42 then wrote (begins_in m) m
    else if eqb x.letter 0x45 then wrote (enters_in x payload m) m
    else settled x payload m
