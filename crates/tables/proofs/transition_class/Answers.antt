-- The row is the class of the case, below the number of classes. Assumes nothing.
use mathlib.Core.Path.{◌∙◌, ap}
use Prim.Native.Nat.{ℕ, ◌%◌}
use native.Mathlib.Omega.{arith}
use Rattle.tables.specs.Arrays.{transition_class_length, transition_class_at}
use Rattle.tables.proofs.RulesCorners.{transition_class_small}
use Rattle.tables.proofs.transition_class.Goals as goal

pub bounds-classes-case : goal.bounds-classes-case
bounds-classes-case c =
    omega (arith, transition_class_length c.args.classes.now c.requires.0, c.requires.1)

pub returns : goal.returns
returns c =
    let e = transition_class_at c.args.classes.now c.args.case c.requires.0 in
    let r = c.from.ensures ∙ ap (λ (n : ℕ). n % 128) e in
    (r, omega (arith, transition_class_small c.args.case c.requires.1))
