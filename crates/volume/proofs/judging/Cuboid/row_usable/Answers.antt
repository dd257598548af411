-- `Cuboid::row_usable` meets its contract. The invariant: the flag tells whether the samples passed can be used.
use Prim.Native.Nat.{◌+◌, ◌*◌, ◌≤◌}
use native.Mathlib.Numerals.{add-one}
use native.Mathlib.Omega.{arith}
use mathlib.Core.Path.{◌≡◌, refl, ap, ◌∙◌}
use lib.ListN.{length}
use Rattle.volume.specs.Boxes.{row_usable}
use Rattle.volume.proofs.judging.Cuboid.row_usable.Goals as goal
use Rattle.volume.proofs.judging.Cuboid.row_usable.Goals.{In-loop-k}

-- the sample of this turn is in the volume
sample_in : (c : In-loop-k) → let args = c.args in
    4 * (args.self.from + c.loop-k.k) + 4 ≤ length args.bytes.now
sample_in c = c.requires c.loop-k.k (omega arith)

pub loop-k-init : goal.loop-k-init
loop-k-init c = (omega arith, refl)

pub overflow_add-self : goal.overflow_add-self
overflow_add-self c = omega (arith, sample_in (goal.at.overflow_add-self c).In-loop-k)

pub is_usable_at-usable-requires : goal.is_usable_at-usable-requires
is_usable_at-usable-requires c = sample_in (goal.at.is_usable_at-usable-requires c).In-loop-k

pub overflow_step-k : goal.overflow_step-k
overflow_step-k c = omega arith

pub loop-k-smaller : goal.loop-k-smaller
loop-k-smaller c = omega arith

pub loop-k-preserved : goal.loop-k-preserved
loop-k-preserved c = (omega arith, rw (add-one, c.loop-k.invariant.1, c.is_usable_at-usable.ensures))

pub returns : goal.returns
returns c =
    let args = c.args in
    let all : c.loop-k.k ≡ args.self.count = omega arith in
    c.loop-k.invariant.1 ∙ ap (row_usable args.bytes.now args.self.from) all
