-- A command and its payload, as they come from the input. Assumes nothing.
use Rattle.std.specs.Prelude.{◌≡◌, ◌≤◌, Some}
use Rattle.script.specs.Script.{payload_of}
use Rattle.trial.specs.declared.Fetched.{Fetched}
use Rattle.trial.specs.declared.Fetched.TheVariants as fetched

-- a payload that came whole is as long as the command says
abbrev pub Fetches : Fetched → Type 0
Fetches (fetched.Octets x n) = (payload_of x ≡ Some n) × (n ≤ 2048)
Fetches (fetched.Unused n) = Unit
