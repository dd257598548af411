-- `grid::voxel_blocks::one_up` meets its contract. A signed local holds bits; `to_z-of_z` reads the number back, and the rest goes by cases on it.
use Prim.Native.Nat.{ℕ, zero, suc, ◌+◌}
use mathlib.Core.Path.{◌≡◌, refl, subst}
use mathlib.Core.Bool.{true, false}
use native.Mathlib.Omega.{arith}
use borrow.Author.Tests.{ltb-true, ltb-false}
use lib.Dec.{T}
use lib.IntN.{ℤ, pos, negsuc, nat_abs}
use lib.Signed.{lt_z, non_neg}
use mir.Syntax.{w32}
use mir.Val.{Fits}
use mir.Facts.{to_z-of_z, Fits-nat_abs}
use Rattle.model.specs.Samples.{one_up}
use Rattle.grid.proofs.voxel_blocks.one_up.Goals as goal
use Rattle.grid.proofs.voxel_blocks.one_up.Goals.{Else-c-lt0}

module _ (n : ℕ) where
  farther : (z : ℤ) → lt_z z (negsuc 0) ≡ true → n + 3 ≡ one_up n z
  unfolding one_up
  farther (pos c) h = cc
  farther (negsuc zero) h = cc
  farther (negsuc (suc c)) h = refl

  one_below : (z : ℤ) → lt_z z (negsuc 0) ≡ false → lt_z z (pos 0) ≡ true → 0 ≡ one_up n z
  unfolding one_up
  one_below (pos c) h k = let below = ltb-true c 0 k in omega arith
  one_below (negsuc zero) h k = refl
  one_below (negsuc (suc c)) h k = let above = ltb-false 0 (suc c) h in omega arith

  from_zero : (z : ℤ) → T (non_neg z) → nat_abs z + 1 ≡ one_up n z
  unfolding one_up
  from_zero (pos c) t = refl
  from_zero (negsuc c) t = absurd t

not_below : (z : ℤ) → lt_z z (pos 0) ≡ false → T (non_neg z)
not_below (pos c) h = tt
not_below (negsuc c) h = subst T h tt

-- past both tests the number is not below 0
up : (c : Else-c-lt0) → T (non_neg c.args.c)
up c = not_below c.args.c (rw (to_z-of_z {w = w32} c.ranges.c) at c.if-c-lt0.false)

pub returns-then-c-ltminus1 : goal.returns-then-c-ltminus1
returns-then-c-ltminus1 c = farther c.args.n c.args.c (rw (to_z-of_z {w = w32} c.ranges.c) at c.if-c-ltminus1.true)

pub returns-then-c-lt0 : goal.returns-then-c-lt0
returns-then-c-lt0 c =
    one_below c.args.n c.args.c (rw (to_z-of_z {w = w32} c.ranges.c) at c.if-c-ltminus1.false) (rw (to_z-of_z {w = w32} c.ranges.c) at c.if-c-lt0.true)

pub overflow_cast-result : goal.overflow_cast-result
overflow_cast-result c = rw (to_z-of_z {w = w32} c.ranges.c) (up c, Fits-nat_abs tt c.ranges.c)

pub overflow_cast-result-2 : goal.overflow_cast-result-2
overflow_cast-result-2 c = rw (to_z-of_z {w = w32} c.ranges.c) (Fits-nat_abs tt c.ranges.c)

pub overflow_add-result-2 : goal.overflow_add-result-2
overflow_add-result-2 c =
    let size : Fits w32 (nat_abs c.args.c) = Fits-nat_abs tt c.ranges.c in
    rw (to_z-of_z {w = w32} c.ranges.c) (omega arith)

pub returns : goal.returns
returns c = rw (to_z-of_z {w = w32} c.ranges.c) (from_zero c.args.n c.args.c (up c))
