-- `Damaged::count_changes` meets its contract: bad samples of both lists, and mismatches of what the fillers leave.
use mathlib.Core.Path.{sym, ◌∙◌}
use Prim.Native.Nat.{◌+◌}
use native.Mathlib.Omega.{arith}
use Rattle.grid.specs.Places.{small}
use Rattle.repair.specs.Damaged.{delivered}
use Rattle.repair.specs.Filled.{changes_long}
use Rattle.repair.specs.Faces.{centre_small, neighbours_small}
use Rattle.repair.proofs.samples.Damaged.count_changes.Goals as goal

pub count_bad-requires : goal.count_bad-requires
count_bad-requires c = let d = c.args.self.now in centre_small d.header (delivered d) d.shaped

pub count_bad-requires-2 : goal.count_bad-requires-2
count_bad-requires-2 c = let d = c.args.self.now in neighbours_small d.header (delivered d) d.shaped

pub overflow_add-result : goal.overflow_add-result
overflow_add-result c =
    omega (
      arith,
      c.count_bad.ensures.1,
      c.count_bad-2.ensures.1,
      c.count_mismatches.ensures.1,
      (small c.args.self.now.header.block.subdivisions (omega (arith, c.args.self.now.shaped.few))).square,
    )

pub returns : goal.returns
returns c =
    let d = c.args.self.now in
    (λ i. c.count_bad.ensures.0 i + c.count_bad-2.ensures.0 i + c.count_mismatches.ensures.0 i) ∙ sym (changes_long d.header d.filler (delivered d))
