-- `seen::slot` meets its contract: what is left by an and is no more than the mask. Assumes nothing.
use Prim.Native.Nat.{◌-◌}
use native.Mathlib.Omega.{arith}
use mathlib.Core.Path.{refl}
use lib.Bits.{and_le_r}
use Rattle.weld.proofs.seen.slot.Goals as goal

pub returns : goal.returns
returns c = let a = c.args in (refl, omega (arith, and_le_r a.x (a.places - 1)))
