-- `list_bad` meets its contract. The invariant: the changes of the samples passed are listed, one a sample at most.
use Prim.Native.Nat.{ℕ}
use mathlib.Core.Path.{◌≡◌, subst}
use native.Mathlib.Omega.{arith}
use lib.ListN.{length}
use Rattle.laws.specs.Counting.{gather}
use Rattle.repair.specs.Definition.{filler_at}
use Rattle.repair.specs.Listed.{Listed, few_found, listed_none, listed_turn}
use Rattle.repair.proofs.listing.list_bad.Goals as goal

pub loop-place-init : goal.loop-place-init
loop-place-init c = (omega arith, (omega arith, listed_none _ _))

pub put_found-at-requires : goal.put_found-at-requires
put_found-at-requires c = omega (arith, c.loop-place.invariant.1.0, c.requires)

pub loop-place-preserved : goal.loop-place-preserved
loop-place-preserved c =
    let turn = c.loop-place in (
      omega arith,
      (
        omega (arith, turn.invariant.1.0, c.put_found-at.ensures.next_is, few_found c.filler_at.result),
        listed_turn (filler_at c.args.list c.args.filler c.args.bits.now) c.args.from turn.invariant.1.1 c.put_found-at.ensures c.filler_at.ensures,
      ),
    )

pub shape_of-changes : goal.shape_of-changes
shape_of-changes c = c.loop-place.invariant.1.1.long

pub returns : goal.returns
returns c =
    let a = c.args in
    let turn = c.loop-place in
    let all : turn.place ≡ length a.bits.now = omega arith in
    record {
      few = omega (arith, turn.invariant.1.0);
      listed = subst (λ (k : ℕ). Listed a.changes.now a.from (gather (filler_at a.list a.filler a.bits.now) k) turn.at turn.changes) all turn.invariant.1.1;
    }
