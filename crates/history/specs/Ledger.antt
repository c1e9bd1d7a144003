-- The ledger: for each slot the data of the packets accepted for its file since it was opened, in order. Nobody keeps it but the theorems.
-- It is made from the packets that are judged and the events that they give: event 10 that names the slot begins its page with the
-- packet's data, 11 or 12 adds it, 6 empties it, and so does letting it go, if that is answered by 0. Assumes nothing.
use Rattle.std.specs.Prelude.{Bool, false, ◌&&◌, ◌||◌, List, [], ◌∷◌, ◌++◌, ℕ, eqb, if◌then◌else◌}
use Rattle.state.specs.declared.Station.{Station}
use Rattle.events.specs.Event.{Event}
use Rattle.judge.specs.Judge.{Judged, data_of}
use Rattle.history.specs.Run.{World, Call, after}
use Rattle.history.specs.Things.{Thing, did, things}
use Rattle.history.specs.Things.Thing.{packet, left, gone}

abbrev pub Page : Type 0
Page = List (List ℕ)

-- a page for each slot
abbrev pub Ledger : Type 0
Ledger = ℕ → Page

-- whether an event of this kind names slot k
unfoldable pub told : ℕ → ℕ → List Event → Bool
told n k [] = false
told n k (e ∷ es) = eqb e.kind n && eqb e.slot k || told n k es

-- the page of slot k after a packet with data d that gave the events es
unfoldable pub noted : ℕ → List ℕ → List Event → Page → Page
noted k d es page =
    if told 10 k es then d ∷ []
    else if told 11 k es || told 12 k es then page ++ (d ∷ [])
    else if told 6 k es then []
    else page

-- after a thing that gave the events es
unfoldable pub noted_by : ℕ → Thing → List Event → Page → Page
noted_by k (packet c p) es page = noted k (data_of p) es page
noted_by k (left i d) es page = page
noted_by k (gone j) es page = if eqb j k then [] else page

-- the ledger after things one after the other
unfoldable pub noted_all : Station → List ℕ → List Thing → Ledger → Ledger
noted_all s store [] l = l
noted_all s store (t ∷ ts) l =
    let j : Judged = did s store t in
    noted_all j.station j.store ts (λ k. noted_by k t j.events (l k))

-- after a call; what is refused brings nothing
abbrev pub ledger_after : World → Call → Ledger → Ledger
ledger_after w c l = noted_all w.station w.store (things w c) l

-- along a run, from empty pages
unfoldable pub ledger_run : World → List Call → Ledger → Ledger
ledger_run w [] l = l
ledger_run w (c ∷ cs) l = ledger_run (after w c) cs (ledger_after w c l)

abbrev pub no_pages : Ledger
no_pages = λ k. []
