-- docs/VECTORS.md, "The questions": the text of the answer, from the question's octets q. Assumes nothing.
use Rattle.std.specs.Prelude.{Option, Some, None, Bool, ◌||◌, List, [], ◌∷◌, ◌++◌, ℕ, zero, suc, leb, ltb, eqb, length, get_or, take, drop, if◌then◌else◌}
use Prim.Native.Char.{code}
use Rattle.io.specs.Digits.{last_digits}
use Rattle.octets.specs.Number.{number_at}
use Rattle.text.specs.Pieces.{ascii, spaced, in_hex}
use Rattle.noise.specs.Noise.{noise_at}
use Rattle.crc.specs.Crc.{crc_of}
use Rattle.frame.specs.Header.{frame_of}
use Rattle.frame.specs.Kinds.{counter_follows}
use Rattle.packet.specs.declared.Count.{Count}
use Rattle.packet.specs.Header.{look_of}
use Rattle.transport.specs.Length.{good_length, need, rest}
use Rattle.transport.specs.Shape.{fits}
use Rattle.records.specs.Reader.{read_header, read_record}
use Rattle.heads.specs.Heads.{frame_text, packet_text}
use Rattle.readout.specs.Readout.{header_text, record_text}
use Rattle.vectors.specs.Question.{question_of}

-- "A line that is not of this form .. prints `?` alone."
abbrev pub no_question : List ℕ
no_question = ascii "?"

-- "an octet count that the table does not allow": the answer where the octets are so many
abbrev pub of_octets : ℕ → List ℕ → List ℕ → List ℕ
of_octets n q text = if eqb (length q) n then text else no_question

-- "`W 1` if .., else `W 0`"
abbrev pub spaced_bool : Bool → List ℕ
spaced_bool b = spaced (if b then 1 else 0)

-- "the octets of the pseudo-random sequence from place `from` on, that many .. (it never begins anew)"
unfoldable pub sequence : ℕ → ℕ → List ℕ
sequence from zero = []
sequence from (suc n) = noise_at from ∷ sequence (suc from) n

-- N: "from (2), number (2), the number at most 1,024": "`N`, and if the number is not 0 a space and the octets .. in hexadecimal"
unfoldable pub noise_text : ℕ → ℕ → List ℕ
noise_text from number =
    if ltb 1024 number then no_question
    else if eqb number 0 then ascii "N"
    else ascii "N " ++ in_hex (sequence from number)

-- C: "`C` and the CRC of the octets, four hexadecimal digits"
unfoldable pub crc_text : List ℕ → List ℕ
crc_text q = ascii "C " ++ last_digits 16 4 (crc_of q)

-- L: "`L bad` if L is 0; else `L need last`: the need N, and the octets of data in the file's last packet (of its only one if N is 1)"
unfoldable pub length_text : ℕ → List ℕ
length_text L = if good_length L then ascii "L" ++ spaced (need L) ++ spaced (rest L) else ascii "L bad"

-- "`S 1` if the packet has the right shape for its flags, else `S 0`. L is taken as good (a bad L prints `S bad`)."
unfoldable pub fit_text : ℕ → ℕ → ℕ → ℕ → Count → Count → List ℕ
fit_text flags size L accepted last count =
    if good_length L then ascii "S" ++ spaced_bool (fits flags size L accepted last count) else ascii "S bad"

-- S: "flags (1, 0 to 3), octets of data (2), L (8), packets accepted so far (2), last count (2), count (2)": "Flags over 3 and counts of 16,384
-- or more print `?`, before L is looked at."
unfoldable pub shape_text : List ℕ → List ℕ
shape_text q =
    if ltb 3 (number_at q 0 1) || leb 16384 (number_at q 13 2) || leb 16384 (number_at q 15 2) then no_question
    else fit_text (number_at q 0 1) (number_at q 1 2) (number_at q 3 8) (number_at q 11 2) (record { 0 = number_at q 13 2 }) (record { 0 = number_at q 15 2 })

-- W: "last frame counter (3), next (3)": "`W 1` if the next follows the last modulo 2^24, else `W 0`"
unfoldable pub counter_text : ℕ → ℕ → List ℕ
counter_text last next = ascii "W" ++ spaced_bool (counter_follows (record { 0 = last }) (record { 0 = next }))

-- R: "a number n (2), then any number: a file": "record n, counted from 0. Under two octets: `?`"
unfoldable pub numbered_text : List ℕ → List ℕ
numbered_text q = if ltb (length q) 2 then no_question else record_text (read_record (drop 2 q) (number_at q 0 2))

-- the table: the letter, the octets that its question has, and their answer; "another letter" is no question
unfoldable pub answer_to : ℕ → List ℕ → List ℕ
answer_to letter q =
    if eqb letter (code "N") then of_octets 4 q (noise_text (number_at q 0 2) (number_at q 2 2))
    else if eqb letter (code "C") then crc_text q
    else if eqb letter (code "F") then of_octets 8 q (frame_text (frame_of q))
    else if eqb letter (code "P") then packet_text (look_of q)
    else if eqb letter (code "L") then of_octets 8 q (length_text (number_at q 0 8))
    else if eqb letter (code "S") then of_octets 17 q (shape_text q)
    else if eqb letter (code "W") then of_octets 6 q (counter_text (number_at q 0 3) (number_at q 3 3))
    else if eqb letter (code "H") then header_text (read_header q)
    else if eqb letter (code "R") then numbered_text q
    else no_question

-- the octets that a line asks about, behind its letter, or none
abbrev pub answer_if : ℕ → Option (List ℕ) → List ℕ
answer_if letter None = no_question
answer_if letter (Some q) = answer_to letter q

-- the answer to a line: "more than 2,048 digits" is no question
unfoldable pub line_answer : List ℕ → List ℕ
line_answer line = if ltb 2050 (length line) then no_question else answer_if (get_or line 0 0) (question_of line)

-- the same of a line of so many octets, of which as many are kept as a question can have
unfoldable pub answer_of : List ℕ → ℕ → List ℕ
answer_of line held = if ltb (length line) held then no_question else answer_if (get_or line 0 0) (question_of (take held line))
