-- The part of the lent array is the row of cell data of the case's class. Assumes nothing.
use native.Mathlib.Omega.{arith}
use Rattle.tables.specs.Arrays.{regular_data_length, regular_cell_at}
use Rattle.tables.proofs.RulesCorners.{regular_class_small}
use Rattle.tables.proofs.regular_case_cell.Goals as goal

pub row_of-requires : goal.row_of-requires
row_of-requires c =
    omega (arith, regular_data_length c.args.cells.now c.requires.1, c.regular_class-row.ensures.1)

pub returns : goal.returns
returns c =
    let e = regular_cell_at c.args.cells.now c.args.case c.requires.1 (regular_class_small c.args.case c.requires.2) in
    cc
