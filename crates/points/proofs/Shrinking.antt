-- Document 01, 'Regular cells': a held point stays at its original position, and every other one moves on each axis. With no
-- named side all stay: those that touch a face are held, and no axis moves the others.
use mathlib.Core.Path.{◌≡◌, refl, sym, ◌∙◌}
use mathlib.Core.Bool.{Bool, true, false, cond, ◌&&◌, ◌||◌}
use Prim.Native.Nat.{ℕ}
use lib.Dec.{eqb}
use lib.Ieee.{Float}
use Rattle.laws.specs.Tests.{neither}
use Rattle.model.specs.declared.Xyz.{Xyz}
use Rattle.model.specs.declared.Vector.{Vector}
use Rattle.model.specs.declared.Block.{Block}
use Rattle.model.specs.Sides.{named}
use Rattle.model.specs.Formulas.{◌⊕◌, ◌⊖◌, vector, held_by, held, moved, shrink_amount, regular_position}
use Rattle.points.specs.Positions.{original_position}

-- an axis that touches neither of its faces moves nothing
untouched : (low high : Bool) (added taken at : Float) → (low && true || high && true) ≡ false → cond low added (cond high taken at) ≡ at
untouched true high added taken at e = cc
untouched false true added taken at e = cc
untouched false false added taken at e = refl

module _ (n : ℕ) (amount : Float) (p : Xyz) (at : Vector) where
  unmoved : held n 0 p ≡ false
      → vector (moved n amount p.x at.x) (moved n amount p.y at.y) (moved n amount p.z at.z) ≡ at
  unfolding held named
  unmoved free =
      let x = neither (held_by n 0 0 p.x) (held_by n 0 2 p.y || held_by n 0 4 p.z) free in
      let rest = neither (held_by n 0 2 p.y) (held_by n 0 4 p.z) x.1 in
      rw (
        untouched (eqb p.x 0) (eqb p.x n) (at.x ⊕ amount) (at.x ⊖ amount) at.x x.0,
        untouched (eqb p.y 0) (eqb p.y n) (at.y ⊕ amount) (at.y ⊖ amount) at.y rest.0,
        untouched (eqb p.z 0) (eqb p.z n) (at.z ⊕ amount) (at.z ⊖ amount) at.z rest.1,
      )

module _ (block : Block) (mask : ℕ) (p : Xyz) (at : Vector) (is : at ≡ original_position block p) where
  pub stays : held block.subdivisions mask p ≡ true → at ≡ regular_position block mask p
  unfolding regular_position
  stays h = rw (h, is)

  abbrev along : ℕ → Float → Float
  along index at = moved block.subdivisions (shrink_amount block.size block.subdivisions) index at

  pub moves : held block.subdivisions mask p ≡ false
      → vector (along p.x at.x) (along p.y at.y) (along p.z at.z) ≡ regular_position block mask p
  unfolding regular_position
  moves h = rw (h, is)

  pub stays_unnamed : mask ≡ 0 → at ≡ regular_position block mask p
  stays_unnamed none = go (held block.subdivisions mask p) refl
    where
      go : (is_held : Bool) → held block.subdivisions mask p ≡ is_held → at ≡ regular_position block mask p
      go true e = stays e
      go false e = sym (unmoved block.subdivisions (shrink_amount block.size block.subdivisions) p at (rw none at e)) ∙ moves e
