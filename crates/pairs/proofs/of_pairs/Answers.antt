-- `of_pairs` meets its contract: four pairs make a number of the table.
use Prim.Native.Nat.{◌+◌}
use native.Mathlib.Omega.{arith}
use Rattle.pairs.proofs.of_pairs.Goals as goal

pub overflow_cast-result : goal.overflow_cast-result
overflow_cast-result c =
    let small = c.requires.1 in
    let i = c.args.i in
    let m = c.args.m in
    omega (arith, small i (omega arith), small (i + m) (omega arith), small (i + 1) (omega arith), small (i + m + 1) (omega arith))
