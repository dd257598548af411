-- `grid::rotation::stepped` meets its contract: k steps along a part that is 0 or 1 are at most k.
use Prim.Native.Nat.{◌*◌, ◌≤◌}
use native.Mathlib.Nat.{mul-le-mul}
use native.Mathlib.Omega.{arith}
use Rattle.model.specs.Limits.{most_fine}
use Rattle.grid.proofs.rotation.stepped.Goals as goal
use Rattle.grid.proofs.rotation.stepped.Goals.{Start}

ups : (c : Start) → c.args.k * c.args.up ≤ most_fine
ups c = mul-le-mul c.requires.k_few c.requires.up_unit

downs : (c : Start) → c.args.k * c.args.down ≤ most_fine
downs c = mul-le-mul c.requires.k_few c.requires.down_unit

pub overflow_mul-result : goal.overflow_mul-result
overflow_mul-result c = omega (arith, ups c)

pub overflow_add-result : goal.overflow_add-result
overflow_add-result c = omega (arith, ups c)

pub overflow_mul-result-2 : goal.overflow_mul-result-2
overflow_mul-result-2 c = omega (arith, downs c)
