-- `Damaged::count_mismatches` meets its contract. The invariant: so many of the spots passed have a change.
use Prim.Native.Nat.{ℕ}
use mathlib.Core.Path.{◌≡◌, refl, sym, ap, ◌∙◌}
use native.Mathlib.Omega.{arith}
use lib.ListN.{length}
use Rattle.laws.specs.Counting.{gather}
use Rattle.repair.specs.Damaged.{delivered}
use Rattle.repair.specs.Filled.{filled_in}
use Rattle.repair.specs.Faces.{spot_count, mismatch_spot, in_one_row}
use Rattle.repair.specs.Listed.{count_turn}
use Rattle.repair.proofs.samples.Damaged.count_mismatches.Goals as goal

pub loop-k-init : goal.loop-k-init
loop-k-init c = (omega arith, (omega arith, refl))

pub mismatch_at-requires : goal.mismatch_at-requires
mismatch_at-requires c = omega (arith, c.spot_count-k-end.ensures)

pub overflow_add-count : goal.overflow_add-count
overflow_add-count c = omega (arith, c.count_found-count.ensures.1)

pub loop-k-smaller : goal.loop-k-smaller
loop-k-smaller c = omega (arith, c.spot_count-k-end.ensures)

pub loop-k-preserved : goal.loop-k-preserved
loop-k-preserved c =
    let d = c.args.self.now in (
      omega (arith, c.spot_count-k-end.ensures),
      (
        omega (arith, c.count_found-count.ensures.1),
        count_turn (mismatch_spot d.header (filled_in d.filler (delivered d))) c.loop-k.invariant.1.1 c.count_found-count.ensures.0 c.mismatch_at.ensures,
      ),
    )

pub returns : goal.returns
returns c =
    let d = c.args.self.now in
    let all : c.loop-k.k ≡ spot_count d.header.block.subdivisions = omega (arith, c.spot_count-k-end.ensures) in (
      c.loop-k.invariant.1.1 ∙ ap (λ (k : ℕ). length (gather (mismatch_spot d.header (filled_in d.filler (delivered d))) k)) all
          ∙ ap length (sym (in_one_row d.header (filled_in d.filler (delivered d)))),
      omega arith,
    )
