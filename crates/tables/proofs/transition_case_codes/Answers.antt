-- The part of the lent array is the case's row of codes. Assumes nothing.
use mathlib.Core.Path.{◌∙◌}
use native.Mathlib.Omega.{arith}
use Rattle.tables.specs.Arrays.{transition_codes_length, transition_codes_at}
use Rattle.tables.proofs.transition_case_codes.Goals as goal

pub row_of-requires : goal.row_of-requires
row_of-requires c =
    omega (arith, transition_codes_length c.args.codes.now c.requires.0, c.requires.1)

pub returns : goal.returns
returns c =
    c.row_of.ensures ∙ transition_codes_at c.args.codes.now c.args.case c.requires.0 c.requires.1
