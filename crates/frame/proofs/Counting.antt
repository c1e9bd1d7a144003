-- Frame counters run modulo 2^24. Assumes nothing.
use mathlib.Core.Path.{◌≡◌, ap}
use mathlib.Core.Bool.{true}
use borrow.Author.Tests.{eq-eqb, eqb-true}
use Rattle.frame.specs.declared.Counter.{Counter}
use Rattle.frame.specs.Kinds.{next_counter, counter_follows}

pub follows_next : (last c : Counter) → counter_follows last c ≡ true → c ≡ next_counter last
unfolding counter_follows
follows_next last c e =
    let same : c.0 ≡ (next_counter last).0 = eqb-true _ _ e in
    λ i. record { 0 = same i }

pub next-follows : (last c : Counter) → c ≡ next_counter last → counter_follows last c ≡ true
unfolding counter_follows
next-follows last c e = eq-eqb _ _ (ap (λ (x : Counter). x.0) e)
