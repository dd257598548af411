-- The part of the lent array is the row of cell data of the case's class. Assumes nothing.
use native.Mathlib.Omega.{arith}
use Rattle.tables.specs.Arrays.{transition_data_length, transition_cell_at}
use Rattle.tables.proofs.RulesCorners.{transition_class_small}
use Rattle.tables.proofs.transition_case_cell.Goals as goal

pub row_of-requires : goal.row_of-requires
row_of-requires c =
    omega (arith, transition_data_length c.args.cells.now c.requires.1, c.transition_class-row.ensures.1)

pub returns : goal.returns
returns c =
    let e = transition_cell_at c.args.cells.now c.args.case c.requires.1 (transition_class_small c.args.case c.requires.2) in
    cc
