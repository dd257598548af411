-- `layers::judging::is_extent` meets its contract. The invariant: the flags tell of the samples so far whether none is less, none is more, and none equals
-- either number.
use Prim.Native.Nat.{ℕ, ◌+◌, ◌<◌}
use native.Mathlib.Numerals.{add-one}
use native.Mathlib.Omega.{arith}
use mathlib.Core.Path.{◌≡◌, refl, ap, ap₂, ◌∙◌}
use mathlib.Core.Bool.{Bool, not, ◌&&◌}
use lib.Ieee.{Float}
use Rattle.model.specs.Layers.{best_of, less, more, extent_of}
use Rattle.layers.specs.Held.{samples_from}
use Rattle.layers.specs.Best.{Number, not_less, not_more, upward, downward, best_is, best_known}
use Rattle.layers.proofs.judging.is_extent.Goals as goal
use Rattle.layers.proofs.judging.is_extent.Invariants.{no_less, no_more, all_apart}

pub loop-k-init : goal.loop-k-init
loop-k-init c = (omega arith, refl, refl, refl, refl)

pub overflow_add-from : goal.overflow_add-from
overflow_add-from c = omega arith

pub value_in_block-s-requires : goal.value_in_block-s-requires
value_in_block-s-requires c = omega arith

pub overflow_step-k : goal.overflow_step-k
overflow_step-k c = omega arith

pub loop-k-smaller : goal.loop-k-smaller
loop-k-smaller c = omega arith

pub loop-k-preserved : goal.loop-k-preserved
loop-k-preserved c =
    let so_far = c.loop-k.invariant in
    let read = c.value_in_block-s.ensures in (
      omega arith,
      rw (add-one, so_far.1, read),
      rw (add-one, so_far.2, read),
      rw (add-one, so_far.3, read),
      rw (add-one, so_far.4, read),
    )

pub returns : goal.returns
unfolding extent_of
returns c =
    let a = c.args in
    let n = a.count in
    let turn = c.loop-k in
    let f : ℕ → Float = samples_from a.samples.now a.from in
    let end : turn.k ≡ n = omega arith in
    let numbers : (k : ℕ) → k < n → Number (f k) = λ k l. c.requires.0 (a.from + k) (omega arith) in
    let least = best_known less not_more upward f n a.told.least (best_of less f n) (best_is less not_more upward f n c.requires.1.0 numbers) in
    let greatest = best_known more not_less downward f n a.told.greatest (best_of more f n) (best_is more not_less downward f n c.requires.1.0 numbers) in
    ap₂ ◌&&◌
    (ap₂ (λ (x y : Bool). x && not y) (turn.invariant.1 ∙ ap (no_less f a.told.least) end) (turn.invariant.3 ∙ ap (all_apart f a.told.least) end) ∙ least)
    (ap₂ (λ (x y : Bool). x && not y) (turn.invariant.2 ∙ ap (no_more f a.told.greatest) end) (turn.invariant.4 ∙ ap (all_apart f a.told.greatest) end) ∙ greatest)
