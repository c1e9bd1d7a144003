-- What the functions of this crate ask and promise about a frame's first octets. Assumes nothing.
use Rattle.std.specs.Prelude.{◌≡◌, true, false, List, [], ◌∷◌, ℕ, min, ◌+◌, ◌-◌, ◌*◌, ◌≤◌, ◌<◌, length, take, drop}
use Rattle.octets.specs.Buffer.{put}
use Rattle.frame.specs.declared.Accepted.{Accepted}
use Rattle.packet.specs.declared.Packet.{Packet}
use Rattle.packet.specs.declared.Look.TheVariants.{Good}
use Rattle.packet.specs.Header.{look_of, size_of}
use Rattle.state.specs.declared.Desk.{Desk}
use Rattle.zone.specs.declared.Sequel.{Sequel}
use Rattle.zone.specs.declared.Sequel.TheVariants.{Dropped, CarriedOn}
use Rattle.zone.specs.Walk.{gap}
use Rattle.zone.specs.Contract.{start_at, sequel_of}
use Rattle.carry.specs.declared.Opening.{Opening}
use Rattle.carry.specs.declared.Opening.TheVariants.{Reads, Carries}

-- as many of a zone's octets as fit behind the held ones, and the desks with them there
abbrev pub more_of : ℕ → ℕ
more_of held = min 884 (8198 - held)

abbrev pub joined_on : Accepted → ℕ → List ℕ → List ℕ → List ℕ
joined_on a held zone desks = put desks (8198 * a.desk + held) (take (more_of held) zone)

-- the octets of a frame's desk up to a place, as the code lends them
abbrev pub desk_to : Accepted → ℕ → List ℕ → List ℕ
desk_to a end desks = take (end - 8198 * a.desk) (drop (8198 * a.desk) desks)

-- the sequel of the held packet, by what then stands on the desk
abbrev pub sequel_on : Accepted → ℕ → List ℕ → Sequel
sequel_on a held desks = sequel_of (look_of (desk_to a (8198 * a.desk + held + more_of held) desks)) held a.pointer

-- octets are held on a desk of eight, and a good header of theirs is that of a packet which is not shorter
pub record Joining (a : Accepted) (held : ℕ) (zone desks : List ℕ) : Type 0 where
  pub low : a.desk < 8
  pub few : held ≤ 8197
  pub frame : length zone ≡ 884
  pub desked : 8198 * a.desk + 8198 ≤ length desks
  pub lacks :
      (h : Packet) → look_of (desk_to a (8198 * a.desk + held + more_of held) (joined_on a held zone desks)) ≡ Good h → held ≤ size_of h

pub record Beginning (d : Desk) (a : Accepted) (zone desks list : List ℕ) : Type 0 where
  pub joining : 0 < d.held → Joining a d.held zone desks
  pub room : 3 ≤ length list

-- why reading begins at the pointer: a gap, nothing held, or a packet that was dropped, with event k
pub data Afresh (d : Desk) (a : Accepted) (zone desks list : List ℕ) (n : ℕ) (desked listed : List ℕ) : Type 0 where
  by-gap : gap d a.counter ≡ true → desked ≡ desks → n ≡ 0 + 1 → listed ≡ put list (3 * 0) (1 ∷ 0 ∷ 0 ∷ []) → Afresh d a zone desks list n desked listed
  by-none : gap d a.counter ≡ false → d.held ≡ 0 → desked ≡ desks → n ≡ 0 → listed ≡ list → Afresh d a zone desks list n desked listed
  by-drop : {k : ℕ} → gap d a.counter ≡ false → 0 < d.held → desked ≡ joined_on a d.held zone desks → sequel_on a d.held desked ≡ Dropped k
      → n ≡ 0 + 1 → listed ≡ put list (3 * 0) (k ∷ 0 ∷ 0 ∷ []) → Afresh d a zone desks list n desked listed

-- the held packet goes on, and is put together on its desk
pub record Onwards (d : Desk) (a : Accepted) (zone desks list : List ℕ) (size : ℕ) (desked listed : List ℕ) : Type 0 where
  pub seamless : gap d a.counter ≡ false
  pub some : 0 < d.held
  pub wrote : desked ≡ joined_on a d.held zone desks
  pub sequel : sequel_on a d.held desked ≡ CarriedOn size
  pub none : listed ≡ list

-- how the frame begins
abbrev pub Begins : Desk → Accepted → List ℕ → List ℕ → List ℕ → Opening → List ℕ → List ℕ → Type 0
Begins d a zone desks list (Reads from n) desked listed = (from ≡ start_at a.pointer) × Afresh d a zone desks list n desked listed
Begins d a zone desks list (Carries size) desked listed = Onwards d a zone desks list size desked listed
