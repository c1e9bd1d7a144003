-- Application numbers and packet counts. Assumes nothing.
use Rattle.std.specs.Prelude.{Bool, ℕ, ◌+◌, ◌%◌, leb, ltb, eqb, if◌then◌else◌, Option, Some, None}
use Rattle.packet.specs.declared.Application.{Application}
use Rattle.packet.specs.declared.Kind.{Kind}
use Rattle.packet.specs.declared.Kind.TheVariants.{File, Other, Fill}
use Rattle.packet.specs.declared.Count.{Count}

-- an application number has 11 bits
abbrev pub checked_application : ℕ → Option Application
checked_application n = if leb n 2047 then Some (record { 0 = n }) else None

-- "Application 2047 is fill: skipped, no event. 2016 to 2046: event 13, skipped. Otherwise" it belongs to a file
abbrev pub kind_of : Application → Kind
kind_of a = if leb a.0 2015 then File else if leb a.0 2046 then Other else Fill

-- "Packet counts run modulo 16,384"
abbrev pub checked_count : ℕ → Option Count
checked_count n = if ltb n 16384 then Some (record { 0 = n }) else None

abbrev pub next_count : Count → Count
next_count c = record { 0 = (c.0 + 1) % 16384 }

-- "the count must follow the last modulo 16,384"
unfoldable pub count_follows : Count → Count → Bool
count_follows last c = eqb c.0 (next_count last).0
