-- `layers::extents::extent_from` meets its contract. The invariant: the two are the best of the samples passed.
use Prim.Native.Nat.{ℕ}
use native.Mathlib.Nat.{add-zero}
use native.Mathlib.Numerals.{add-one}
use native.Mathlib.Omega.{arith}
use mathlib.Core.Path.{◌≡◌, sym, ap, ap₂, ◌∙◌}
use lib.Ieee.{Float, nan}
use lib.ListN.{get_or}
use Rattle.model.specs.Layers.{better, best_of, less, more, extent_of}
use Rattle.layers.specs.Held.{samples_from}
use Rattle.layers.proofs.extents.extent_from.Goals as goal

pub loop-k-init : goal.loop-k-init
loop-k-init c =
    let a = c.args in
    let first = c.value_in_block-first.ensures ∙ ap (λ (k : ℕ). get_or a.samples.now k nan) (sym (add-zero a.from)) in
    (omega arith, first, first)

pub overflow_add-from : goal.overflow_add-from
overflow_add-from c = omega arith

pub value_in_block-next-requires : goal.value_in_block-next-requires
value_in_block-next-requires c = omega arith

pub overflow_step-k : goal.overflow_step-k
overflow_step-k c = omega arith

pub loop-k-smaller : goal.loop-k-smaller
loop-k-smaller c = omega arith

pub loop-k-preserved : goal.loop-k-preserved
loop-k-preserved c =
    let turn = c.loop-k in
    let next = c.value_in_block-next.ensures in (
      omega arith,
      rw add-one (c.lesser-least.ensures ∙ ap₂ (better less) turn.invariant.1 next),
      rw add-one (c.greater-greatest.ensures ∙ ap₂ (better more) turn.invariant.2 next),
    )

pub returns : goal.returns
unfolding extent_of
returns c =
    let a = c.args in
    let turn = c.loop-k in
    let f : ℕ → Float = samples_from a.samples.now a.from in
    let end : turn.k ≡ a.count = omega arith in
    let least = turn.invariant.1 ∙ ap (best_of less f) end in
    let greatest = turn.invariant.2 ∙ ap (best_of more f) end in
    λ i. record { least = least i; greatest = greatest i }
