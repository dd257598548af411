-- `judge::samples::halves_usable` meets its contract. The invariant: the flag tells whether the samples before this place of each half can be used.
use Prim.Native.Nat.{◌+◌}
use mathlib.Core.Path.{◌≡◌, ◌∙◌}
use native.Mathlib.Omega.{arith}
use native.Mathlib.Numerals.{add-one}
use lib.Ieee.{nan}
use lib.ListN.{get_or}
use Rattle.model.specs.Judging.{usable}
use Rattle.laws.specs.Below.{two_parts}
use Rattle.judge.specs.Counted.{all_usable, usable_after, one_more_each}
use Rattle.judge.proofs.samples.halves_usable.Goals as goal

pub loop-place-preserved : goal.loop-place-preserved
loop-place-preserved c =
    let l = c.loop-place in
    let a = c.args in
    let samples = a.samples.now in (
      omega arith,
      rw (add-one, l.invariant.1, c.is_usable.ensures, c.is_usable-in-loop-place.ensures)
          (one_more_each (all_usable samples l.place) (usable_after samples a.half l.place) (usable (get_or samples l.place nan)) (usable (get_or samples (a.half + l.place) nan))),
    )

pub returns : goal.returns
returns c =
    let a = c.args in
    let l = c.loop-place in
    let end : l.place ≡ a.half = omega arith in
    rw end at l.invariant.1 ∙ two_parts (λ k. usable (get_or a.samples.now k nan)) a.half a.half
