-- `weighed` meets its contract by what `inside` ensures of the sample that is read.
use mathlib.Core.Path.{sym}
use native.Mathlib.Nat.{mul-one, mul-zero}
use native.Mathlib.Omega.{arith}
use Rattle.cases.proofs.weighed.Goals as goal

pub returns-then-inside : goal.returns-then-inside
returns-then-inside c = (rw (← c.value_in_block.ensures, ← c.inside.ensures, c.if-inside.true) (sym (mul-one _)), omega arith)

pub returns-else-inside : goal.returns-else-inside
returns-else-inside c = (rw (← c.value_in_block.ensures, ← c.inside.ensures, c.if-inside.false) (sym (mul-zero _)), omega arith)
