-- `in_row` meets its contract: a row's number and its width are small.
use Prim.Native.Nat.{◌*◌, ◌≤◌}
use native.Mathlib.Nat.{mul-le-mul_right}
use native.Mathlib.Omega.{arith}
use mathlib.Core.Path.{refl}
use Rattle.volume.specs.Definition.{most_across}
use Rattle.volume.proofs.places.in_row.Goals as goal
use Rattle.volume.proofs.places.in_row.Goals.{Start}

wide : (c : Start) → c.args.width * c.args.row ≤ most_across * c.args.row
wide c = mul-le-mul_right c.args.row c.requires.1.0

pub overflow_mul-result : goal.overflow_mul-result
overflow_mul-result c = omega (arith, wide c)

pub overflow_add-result : goal.overflow_add-result
overflow_add-result c = omega (arith, wide c)

pub returns : goal.returns
returns c = (refl, omega (arith, wide c))
