-- From a frame's zone to the packets in it ("Frames", 5 and 6). Assumes nothing.
use Rattle.std.specs.Prelude.{◌≡◌, Bool, true, false, List, [], ◌∷◌, ◌++◌, ℕ, zero, suc, ◌-◌, ◌<◌, ltb, leb, eqb, length, take, drop, if◌then◌else◌}
use Rattle.packet.specs.declared.Packet.{Packet}
use Rattle.packet.specs.declared.Look.{Look}
use Rattle.packet.specs.declared.Look.TheVariants.{Short, Bad, Good}
use Rattle.packet.specs.Header.{look_of, size_of}
use Rattle.frame.specs.declared.Pointer.{Pointer}
use Rattle.frame.specs.declared.Pointer.TheVariants.{Offset, NoStart, Refused}
use Rattle.events.specs.Event.{Event, bare}
use Rattle.judge.specs.Contract.{Whole}

-- octets read from their first on: the whole packets, whether a bad header was met, and what is left unfinished
pub record Split : Type 0 where
  pub packets : List (List ℕ)
  pub bad : Bool
  pub left : List ℕ

abbrev pub unfinished : List ℕ → Split
unfinished xs = record { packets = []; bad = false; left = xs }

-- "A bad header met later in the zone .. drops the rest of the zone."
abbrev pub broken : Split
broken = record { packets = []; bad = true; left = [] }

abbrev pub behind : List ℕ → Split → Split
behind p sp = record { packets = p ∷ sp.packets; bad = sp.bad; left = sp.left }

-- at most n packets: a packet has seven octets at least, so as many as there are octets are enough
-- "What is left unfinished at the zone's end is held."
unfoldable pub split_by : ℕ → List ℕ → Split
split_by zero xs = unfinished xs
split_by (suc n) xs =
    elim (look_of xs) [
      | Short ↦ unfinished xs
      | Bad ↦ broken
      | Good h ↦ if ltb (length xs) (size_of h) then unfinished xs else behind (take (size_of h) xs) (split_by n (drop (size_of h) xs))
    ]

unfoldable pub split : List ℕ → Split
split xs = split_by (length xs) xs

-- each of some packets is whole: a good header, and exactly its size
abbrev pub Wholes : List (List ℕ) → Type 0
Wholes [] = Unit {0}
Wholes (p ∷ ps) = Whole p × Wholes ps

-- what is left at a zone's end: not yet a header, or a good one whose packet is longer
pub data Unfinished (xs : List ℕ) : Type 0 where
  header : length xs < 6 → Unfinished xs
  packet : {h : Packet} → look_of xs ≡ Good h → length xs < size_of h → Unfinished xs

-- where reading goes on in a frame: the event that comes first, if any, and the octets to be read
pub record Reading : Type 0 where
  pub events : List Event
  pub octets : List ℕ

-- "reading begins at the pointer, or nowhere if it is 2047"
unfoldable pub from_pointer : Pointer → List ℕ → List ℕ
from_pointer (Offset p) zone = drop p zone
from_pointer NoStart zone = []
from_pointer Refused zone = []

-- "r is what the packet lacked at the zone's start: the pointer must be r if r is below 884, and 2047 otherwise". An offset is below 884, and
-- 2047 is no start
unfoldable pub agrees : ℕ → Pointer → Bool
agrees r (Offset p) = eqb p r
agrees r NoStart = leb 884 r
agrees r Refused = false

-- the held octets and the zone are one stretch of octets, read from the held packet's header on
unfoldable pub carried_by : Look → List ℕ → List ℕ → Pointer → Reading
carried_by Short held zone p = record { events = []; octets = held ++ zone }
carried_by Bad held zone p = record { events = bare 3 ∷ []; octets = from_pointer p zone }
carried_by (Good h) held zone p =
    if agrees (size_of h - length held) p
    then record { events = []; octets = held ++ zone }
    else record { events = bare 2 ∷ []; octets = from_pointer p zone }

-- "If octets are held, they are carried on into the zone. When six are there, a bad header gives event 3 and drops the packet. Else .. if
-- not, event 2 and the packet is dropped. After a drop, or with nothing held, reading begins at the pointer"
unfoldable pub reading : List ℕ → List ℕ → Pointer → Reading
reading [] zone p = record { events = []; octets = from_pointer p zone }
reading (x ∷ held) zone p = carried_by (look_of (x ∷ held ++ zone)) (x ∷ held) zone p
