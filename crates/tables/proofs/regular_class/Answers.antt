-- The row is the class of the case, below the number of classes. Assumes nothing.
use mathlib.Core.Path.{◌∙◌}
use native.Mathlib.Omega.{arith}
use Rattle.tables.specs.Arrays.{regular_class_length, regular_class_at}
use Rattle.tables.proofs.RulesCorners.{regular_class_small}
use Rattle.tables.proofs.regular_class.Goals as goal

pub bounds-classes-case : goal.bounds-classes-case
bounds-classes-case c =
    omega (arith, regular_class_length c.args.classes.now c.requires.0, c.requires.1)

pub returns : goal.returns
returns c =
    let e = regular_class_at c.args.classes.now c.args.case c.requires.0 in
    let r = c.from.ensures ∙ e in
    (r, omega (arith, regular_class_small c.args.case c.requires.1))
