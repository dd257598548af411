-- `marks::clear_bytes` meets its contract: the word is a multiple of the power of two that its lowest set bit stands for.
use native.Mathlib.Omega.{arith}
use lib.Count.{trailing_le}
use Rattle.cases.proofs.Marking.{trailing_clear}
use Rattle.cases.proofs.marks.clear_bytes.Goals as goal

pub overflow_cast-result : goal.overflow_cast-result
overflow_cast-result c = omega (arith, trailing_le 64 c.args.word)

pub returns : goal.returns
returns c =
    let word = c.args.word in
    (omega (arith, trailing_le 64 word), trailing_clear 64 word _ (omega arith))
