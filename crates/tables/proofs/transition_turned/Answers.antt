-- The answer is bit 0x80 of the case's class. Assumes nothing.
use mathlib.Core.Path.{ap}
use Prim.Native.Nat.{ℕ}
use lib.Dec.{leb}
use native.Mathlib.Omega.{arith}
use Rattle.tables.specs.Cases.{transition_turned}
use Rattle.tables.specs.Arrays.{transition_class_length, transition_class_at}
use Rattle.tables.proofs.transition_turned.Goals as goal

pub bounds-classes-case : goal.bounds-classes-case
bounds-classes-case c =
    omega (arith, transition_class_length c.args.classes.now c.requires.0, c.requires.1)

pub returns : goal.returns
unfolding transition_turned
returns c =
    let a = c.args in
    ap (λ (n : ℕ). leb 128 n) (transition_class_at a.classes.now a.case c.requires.0)
