-- A packet is judged under the channel that its frame's header names, and a file's packets all came on frames of its channel. Assumes nothing.
use mathlib.Core.Path.{◌≡◌, refl, sym, ap, subst, ◌∙◌}
use mathlib.Core.Logic.{⊎_elim}
use mathlib.Core.List.Memᴰ
use mathlib.Core.List.{List, [], ◌∷◌, ◌++◌, map, Memᴰ}
use Prim.Native.Nat.{ℕ}
use native.Mathlib.Decide.{ℕ_discrete}
use native.Mathlib.Omega.{arith}
use Rattle.frame.specs.declared.Channel.{Channel}
use Rattle.frame.proofs.Answers.{good-size}
use Rattle.frame.proofs.Plainly.{plainly}
use Rattle.octets.proofs.Lists.{in_either}
use Rattle.packet.specs.Header.{packet_of}
use Rattle.state.specs.declared.Slot.{Slot}
use Rattle.state.specs.declared.Desk.{Desk}
use Rattle.state.specs.Slots.{number}
use Rattle.judge.specs.Judge.{first_slot}
use Rattle.station.specs.Frame.{channel_at}
use Rattle.station.proofs.Sorted.{desk-channel}
use Rattle.history.specs.Run as runs
use Rattle.history.specs.Run.{World, Call, answer, run, Start, fresh, SoundWorld}
use Rattle.history.specs.Run.Call.{frame, read, let-go}
use Rattle.history.specs.Things.{Thing, split_in, things, all_things}
use Rattle.history.specs.Things.Thing.{packet, left, gone}
use Rattle.history.specs.Follow.{Fate, fate, follow, added_by, added}
use Rattle.history.specs.Follow.Fate.{Still, Ended}
use Rattle.history.specs.Store.{Moment}
use Rattle.history.specs.Sorted.{header_channel, Names, SortedByChannel, Brought, FilesSorted}
use Rattle.history.proofs.Framing.{Taken}
use Rattle.history.proofs.Moments.{things-refused, things-read, things-let-go, things-taken, frame-taken}
use Rattle.history.proofs.Follows.{follow-on, follow-over}
use Rattle.history.proofs.Order.{never-still, still-same, added-on, Next, next-as}
use Rattle.history.proofs.Order.Next.{none, one}

-- the packets of a frame are all of one channel
of-frame : {c d : Channel} {p : List ℕ} (ps : List (List ℕ)) (i : ℕ) (k : Desk) → Memᴰ (packet d p) (map (packet c) ps ++ (left i k ∷ [])) → d ≡ c
of-frame {c} {d} {p} [] i k m =
    let e : packet d p ≡ left i k = Memᴰ.eq_of_singleton m in
    absurd (let z : ◌≡◌ {A = ℕ} 0 1 = cc in omega arith)
of-frame {c} {d} {p} (q ∷ ps) i k m = ⊎_elim (λ (e : packet d p ≡ packet c q). cc) (of-frame ps i k) (Memᴰ.cases_cons m)

never-gone : {c : Channel} {p : List ℕ} {k : ℕ} → Memᴰ (packet c p) (gone k ∷ []) → ⊥
never-gone {c} {p} {k} m =
    let e : packet c p ≡ gone k = Memᴰ.eq_of_singleton m in
    let z : ◌≡◌ {A = ℕ} 0 1 = cc in
    omega arith

-- the channel of the desk that a frame goes to is the one that its header names
pub desk-sorted : {w : World} (h : SoundWorld w) {f list : List ℕ} (t : Taken w f list) → channel_at w.station t.frame.desk ≡ header_channel f
desk-sorted {w} h {f} t = desk-channel w.station f t.frame t.good

-- a call that brings a packet is answered by 0
module _ (w : World) {c : Channel} {p : List ℕ} where
  done : (call : Call) → Memᴰ (packet c p) (things w call) → answer w call ≡ 0
  done call m =
      elim (ℕ_discrete (answer w call) 0) [
        | yes e ↦ e
        | no n ↦ absurd (Memᴰ.not-nil (subst (Memᴰ (packet c p)) (things-refused w call n) m))
      ]

  -- and if it is a frame, the packet is of its channel
  frame-names : (f list : List ℕ) → Memᴰ (packet c p) (things w (frame f list)) → Names f c
  frame-names f list m =
      let t = frame-taken w f list (done (frame f list) m) in
      let e : c ≡ header_channel f =
      of-frame (split_in w f t.frame).packets t.frame.desk _ (subst (Memᴰ (packet c p)) (things-taken w t) m)
      ∙ desk-channel w.station f t.frame t.good in
      record { header = e; in-octets = λ o. ap number e ∙ (plainly f (good-size _ _ f t.frame t.good) o).channel }

  -- no other call brings a packet
  brought-now : (call : Call) (cs : List Call) → Memᴰ (packet c p) (things w call) → Brought w (call ∷ cs) c p
  unfolding run
  brought-now (frame f list) cs m =
      record {
        earlier = [];
        sent = f;
        list = list;
        behind = cs;
        calls = refl;
        names = frame-names f list m;
        among = m;
      }
  brought-now (read k offset buffer) cs m = absurd (Memᴰ.not-nil (subst (Memᴰ (packet c p)) (things-read w k offset buffer) m))
  brought-now (let-go k) cs m = absurd (never-gone (subst (Memᴰ (packet c p)) (things-let-go w k (done (let-go k) m)) m))

brought-later : {w : World} {c : Channel} {p : List ℕ} (call : Call) (cs : List Call) → Brought (runs.after w call) cs c p → Brought w (call ∷ cs) c p
unfolding run
brought-later call cs b =
    record {
      earlier = call ∷ b.earlier;
      sent = b.sent;
      list = b.list;
      behind = b.behind;
      calls = ap (λ (us : List Call). call ∷ us) b.calls;
      names = b.names;
      among = b.among;
    }

-- every packet of a run was brought by a frame of its channel
pub brought : {w : World} {c : Channel} {p : List ℕ} (cs : List Call) → Memᴰ (packet c p) (all_things w cs) → Brought w cs c p
unfolding all_things
brought [] m = absurd (Memᴰ.not-nil m)
brought {w} (call ∷ cs) m =
    ⊎_elim (brought-now w call cs) (λ n. brought-later call cs (brought {w = runs.after w call} cs n))
    (in_either (things w call) (all_things (runs.after w call) cs) m)

-- the packets that went on with a file are among the things, under the file's channel
abbrev Sorted : Slot → List Thing → List (List ℕ) → Slot → Type 0
Sorted x ts ps y = (y.channel ≡ x.channel) × ((p : List ℕ) → Memᴰ p ps → Memᴰ (packet x.channel p) ts)

sorted-next : {x z : Slot} {t : Thing} {ts : List Thing} (y : Slot) (ps : List (List ℕ)) → Next x t z → Sorted z ts ps y
    → Sorted x (t ∷ ts) (added_by x t ps) y
sorted-next {x} {z} {t} {ts} y ps next (e, g) = by next
  where
    behind : z.channel ≡ x.channel → (p : List ℕ) → Memᴰ p ps → Memᴰ (packet x.channel p) (t ∷ ts)
    behind d p m = Memᴰ.tail (Memᴰ.cast (ap (λ (c : Channel). packet c p) (sym d)) (g p m))

    by : Next x t z → Sorted x (t ∷ ts) (added_by x t ps) y
    by (none q f) =
        let d : z.channel ≡ x.channel = ap (λ (v : Slot). v.channel) q in
        (e ∙ d, λ p m. behind d p (subst (Memᴰ p) (f ps) m))
    by (one own w q f) =
        let d : z.channel ≡ x.channel = ap (λ (v : Slot). v.channel) q in (
          e ∙ d,
          λ p m.
              ⊎_elim (λ r. Memᴰ.head (ap (packet x.channel) r ∙ sym own)) (behind d p)
              (Memᴰ.cases_cons (subst (Memᴰ p) (f ps) m)),
        )

pub added-sorted : (k : ℕ) (x y : Slot) (ts : List Thing) → follow k x ts ≡ Still y → Sorted x ts (added k x ts) y
unfolding follow added
added-sorted k x y [] q = (ap (λ (v : Slot). v.channel) (sym (still-same q)), λ p m. absurd (Memᴰ.not-nil m))
added-sorted k x y (t ∷ ts) q = by (fate k x t) refl (λ z. added-sorted k z y ts)
  where
    by : (f : Fate) → fate k x t ≡ f → ((z : Slot) → follow k z ts ≡ Still y → Sorted z ts (added k z ts) y) → Sorted x (t ∷ ts) (added k x (t ∷ ts)) y
    by (Still z) e rest =
        rw (added-on k x t ts e) (sorted-next y (added k z ts) (next-as k x t z e) (rest z (sym (follow-on k x t ts e) ∙ q)))
    by Ended e rest = absurd (never-still (sym (follow-over k x t ts e) ∙ q))

-- "sorted by channel"
pub sorted-by-channel : (m : Moment) → SortedByChannel m
sorted-by-channel m =
    frame-names (run (fresh m.start) m.calls) m.sent m.list
    (subst (Memᴰ (packet m.channel m.p)) (sym m.brought) (Memᴰ.append_right m.before (Memᴰ.head refl)))

pub files-sorted : (x : Start) (cs : List Call) → FilesSorted x cs
files-sorted x cs k y m p n =
    rw o.0 (brought cs (subst (Memᴰ (packet m.channel p)) (sym m.split) (Memᴰ.append_right m.before here)))
  where
    o : Sorted (first_slot m.channel (packet_of m.first) m.file) m.later
        (added k (first_slot m.channel (packet_of m.first) m.file) m.later) y
    o = added-sorted k (first_slot m.channel (packet_of m.first) m.file) y m.later m.followed

    here : Memᴰ (packet m.channel p) (packet m.channel m.first ∷ m.later)
    here = ⊎_elim (λ e. Memᴰ.head (ap (packet m.channel) e)) (λ q. Memᴰ.tail (o.1 p q)) (Memᴰ.cases_cons n)
