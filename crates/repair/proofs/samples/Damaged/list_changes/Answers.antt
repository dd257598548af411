-- `Damaged::list_changes` meets its contract: what each of the three calls lists stands behind what was there.
use native.Mathlib.Omega.{arith}
use Rattle.repair.specs.Damaged.{delivered}
use Rattle.repair.specs.Filled.{changes_are}
use Rattle.repair.specs.Faces.{centre_small, neighbours_small}
use Rattle.repair.specs.Listed.{listed_more}
use Rattle.repair.proofs.samples.Damaged.list_changes.Goals as goal

pub list_bad-of_centre-requires : goal.list_bad-of_centre-requires
list_bad-of_centre-requires c = let d = c.args.self.now in (centre_small d.header (delivered d) d.shaped, omega arith)

pub list_bad-bad-requires : goal.list_bad-bad-requires
list_bad-bad-requires c =
    let d = c.args.self.now in
    (neighbours_small d.header (delivered d) d.shaped, omega (arith, centre_small d.header (delivered d) d.shaped, c.list_bad-of_centre.ensures.few))

pub list_mismatches-requires : goal.list_mismatches-requires
list_mismatches-requires c =
    let d = c.args.self.now in
    omega (
      arith,
      centre_small d.header (delivered d) d.shaped,
      neighbours_small d.header (delivered d) d.shaped,
      c.list_bad-of_centre.ensures.few,
      c.list_bad-bad.ensures.few,
    )

pub returns : goal.returns
returns c =
    let d = c.args.self.now in
    rw (changes_are d.header d.filler (delivered d))
    (listed_more (listed_more c.list_bad-of_centre.ensures.listed c.list_bad-bad.ensures.listed) c.list_mismatches.ensures)
