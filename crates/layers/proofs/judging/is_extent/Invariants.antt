-- `layers::judging::is_extent` meets its contract. The invariant: the flags tell of the samples so far whether none is less, none is more, and none equals
-- either number.
use Prim.Native.Nat.{ℕ, ◌≤◌}
use mathlib.Core.Bool.{Bool}
use lib.Ieee.{Float, ne}
use Rattle.laws.specs.Below.{all_below}
use Rattle.layers.specs.Best.{not_less, not_more}
use mathlib.Core.Path.{◌≡◌}
use Rattle.layers.specs.Held.{samples_from}
use Rattle.layers.proofs.judging.is_extent.Given as goal

module _ (f : ℕ → Float) (v : Float) where
  abbrev pub no_less : ℕ → Bool
  no_less = all_below (λ k. not_more v (f k))

  abbrev pub no_more : ℕ → Bool
  no_more = all_below (λ k. not_less v (f k))

  abbrev pub all_apart : ℕ → Bool
  all_apart = all_below (λ k. ne v (f k))

abbrev pub invariant-loop-k : goal.invariant-loop-k
invariant-loop-k l =
    (l.k ≤ l.count)
    × (l.none_less ≡ no_less (samples_from l.samples l.from) l.told.least l.k)
    × (l.none_more ≡ no_more (samples_from l.samples l.from) l.told.greatest l.k)
    × (l.least_apart ≡ all_apart (samples_from l.samples l.from) l.told.least l.k)
    × (l.greatest_apart ≡ all_apart (samples_from l.samples l.from) l.told.greatest l.k)
