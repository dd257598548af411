-- `count_bad` meets its contract. The invariant: so many of the samples passed have a change.
use Prim.Native.Nat.{ℕ, ◌-◌}
use mathlib.Core.Path.{◌≡◌, refl, ap, ◌∙◌}
use native.Mathlib.Omega.{arith}
use lib.ListN.{length}
use Rattle.laws.specs.Counting.{gather}
use Rattle.repair.specs.Definition.{filler_at}
use Rattle.repair.specs.Listed.{count_turn}
use Rattle.repair.proofs.listing.count_bad.Goals as goal

pub loop-place-init : goal.loop-place-init
loop-place-init c = (omega arith, (omega arith, refl))

pub overflow_add-bad : goal.overflow_add-bad
overflow_add-bad c = omega (arith, c.count_found-bad.ensures.1)

pub loop-place-preserved : goal.loop-place-preserved
loop-place-preserved c = (
  omega arith,
  (
    omega (arith, c.count_found-bad.ensures.1),
    count_turn (filler_at c.args.list c.args.filler c.args.bits.now) c.loop-place.invariant.1.1 c.count_found-bad.ensures.0 c.filler_at.ensures,
  ),
)

pub returns : goal.returns
returns c = let all : c.loop-place.place ≡ length c.args.bits.now = omega arith in
    (c.loop-place.invariant.1.1 ∙ ap (λ (k : ℕ). length (gather (filler_at c.args.list c.args.filler c.args.bits.now) k)) all, omega arith)
