-- `sixteens::by_sixteens` meets its contract. The loop's invariant: the sixteens passed have their new numbers.
use Prim.Native.Nat.{◌*◌}
use Rattle.cases.specs.Sheets.{side_by_side, Renewed}
use Rattle.cases.proofs.sixteens.by_sixteens.Given as goal

abbrev pub invariant-loop-i : goal.invariant-loop-i
invariant-loop-i g l = Renewed (goal.F-post g l.number) (side_by_side * l.i) l.initial.places l.places
