-- `sixteens::by_sixteens` meets its contract. The loop's invariant: the sixteens passed have their new numbers.
use native.Mathlib.Omega.{arith}
use Prim.Native.Nat.{◌+◌, ◌*◌}
use mathlib.Core.Path.{◌≡◌}
use Rattle.cases.specs.Sheets.{side_by_side}
use Rattle.cases.specs.Rows.{sixteen_renewed}
use Rattle.cases.proofs.sixteens.by_sixteens.Goals as goal

pub loop-i-preserved : goal.loop-i-preserved
loop-i-preserved g c =
    let next : side_by_side * c.loop-i.i + side_by_side ≡ side_by_side * (c.loop-i.i + 1) = omega arith in
    rw next at (sixteen_renewed _ (side_by_side * c.loop-i.i) _ _ _ _ c.loop-i.invariant c.sixteen-numbers.ensures c.put_sixteen.ensures)
