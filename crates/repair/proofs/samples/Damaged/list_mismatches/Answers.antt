-- `Damaged::list_mismatches` meets its contract. The invariant: the changes of the spots passed are listed, one a spot at most.
use mathlib.Core.Path.{◌≡◌, sym, ap, ◌∙◌, subst}
use mathlib.Core.List.{List}
use native.Mathlib.Omega.{arith}
use Rattle.laws.specs.Counting.{gather}
use Rattle.grid.specs.Places.{small}
use Rattle.repair.specs.declared.Change.{Change}
use Rattle.repair.specs.Damaged.{delivered}
use Rattle.repair.specs.Filled.{filled_in}
use Rattle.repair.specs.Faces.{spot_count, mismatch_spot, in_one_row}
use Rattle.repair.specs.Listed.{Listed, few_found, listed_none, listed_turn}
use Rattle.repair.proofs.samples.Damaged.list_mismatches.Goals as goal

pub loop-k-init : goal.loop-k-init
loop-k-init c = (omega arith, (omega arith, listed_none _ _))

pub mismatch_at-requires : goal.mismatch_at-requires
mismatch_at-requires c = omega (arith, c.spot_count-k-end.ensures)

pub put_found-at-requires : goal.put_found-at-requires
put_found-at-requires c =
    omega (
      arith,
      c.loop-k.invariant,
      c.requires,
      c.spot_count-k-end.ensures,
      (small c.args.self.now.header.block.subdivisions (omega (arith, c.args.self.now.shaped.few))).square,
    )

pub loop-k-smaller : goal.loop-k-smaller
loop-k-smaller c = omega (arith, c.spot_count-k-end.ensures)

pub loop-k-preserved : goal.loop-k-preserved
loop-k-preserved c =
    let d = c.args.self.now in
    let turn = c.loop-k in (
      omega (arith, c.spot_count-k-end.ensures),
      (
        omega (arith, turn.invariant.1.0, c.put_found-at.ensures.next_is, few_found c.mismatch_at.result),
        listed_turn (mismatch_spot d.header (filled_in d.filler (delivered d))) c.args.from turn.invariant.1.1 c.put_found-at.ensures c.mismatch_at.ensures,
      ),
    )

pub shape_of-changes : goal.shape_of-changes
shape_of-changes c = c.loop-k.invariant.1.1.long

pub returns : goal.returns
returns c =
    let d = c.args.self.now in
    let turn = c.loop-k in
    let all : turn.k ≡ spot_count d.header.block.subdivisions = omega (arith, c.spot_count-k-end.ensures) in
    subst (λ (l : List Change). Listed c.args.changes.now c.args.from l turn.at turn.changes)
    (ap (gather (mismatch_spot d.header (filled_in d.filler (delivered d)))) all ∙ sym (in_one_row d.header (filled_in d.filler (delivered d)))) turn.invariant.1.1
