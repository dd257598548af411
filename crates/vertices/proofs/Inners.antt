-- What is known of a cell that touches no block face.
use Prim.Native.Nat.{ℕ, ◌+◌, ◌<◌}
use mathlib.Core.Path.{◌≡◌, refl, sym, ap, ◌∙◌}
use mathlib.Core.Bool.{Bool, true, false, cond, and-eq-true_iff, or-false}
use mathlib.Core.List.{List}
use Rattle.std.proofs.Common.{None, Some}
use native.Mathlib.Omega.{arith}
use borrow.Author.Tests.{ltb-true, le-ltb}
use lib.Dec.{eqb, ltb}
use lib.Ieee.{Float}
use lib.ListN.{length}
use Rattle.tables.specs.Codes.{is_new, step_x, step_y, step_z}
use Rattle.model.specs.declared.Xyz.{Xyz}
use Rattle.model.specs.Points.{corner_point}
use Rattle.model.specs.Star.{Star}
use Rattle.model.specs.Mesh.{made_by, regular_leaves}
use Rattle.points.specs.Steps.{Inside}
use Rattle.codes.specs.declared.CellIndex.{CellIndex}
use Rattle.codes.specs.declared.CellIndex.TheVariants.{Regular, Transition}
use Rattle.codes.specs.Kinds.{use_at, makes_at, InBlock, Usable}
use Rattle.vertices.specs.Puts.{CodePut}
use Rattle.vertices.specs.Inner.{between, inner_at, regular_at, Inner}
use Rattle.vertices.specs.Uses.{use_count}

both_ends : (n c : ℕ) → between n c ≡ true → (0 < c) × (c + 1 < n)
both_ends n c e =
    let ends = (and-eq-true_iff (ltb 0 c) (ltb (c + 1) n)).0 e in
    (ltb-true 0 c ends.0, ltb-true (c + 1) n ends.1)

-- it is a regular cell
inner_is : (n : ℕ) (at : CellIndex) → inner_at n at ≡ true → (at ≡ Regular (regular_at at)) × Inner n (regular_at at)
inner_is n (Regular at) e =
    let first = (and-eq-true_iff (between n at.x) _).0 e in
    let rest = (and-eq-true_iff (between n at.y) (between n at.z)).0 first.1 in
    let x = both_ends n at.x first.0 in
    let y = both_ends n at.y rest.0 in
    let z = both_ends n at.z rest.1 in
    (refl, record { x_low = x.0; x_high = x.1; y_low = y.0; y_high = y.1; z_low = z.0; z_high = z.1 })
inner_is n (Transition at) e =
    let z : ◌≡◌ {A = ℕ} 0 1 = cc in
    absurd (omega arith)

pub inner_found : (n : ℕ) (at : CellIndex) (cell : Xyz) → Some cell ≡ cond (inner_at n at) (Some (regular_at at)) None → (at ≡ Regular cell) × Inner n cell
inner_found n at cell e = go (inner_at n at) refl e
  where
    go : (b : Bool) → inner_at n at ≡ b → Some cell ≡ cond b (Some (regular_at at)) None → (at ≡ Regular cell) × Inner n cell
    go true h e = let is : cell ≡ regular_at at = cc in rw is (inner_is n at h)
    go false h e = cc

-- what holds of a regular cell by its coordinates
module _ {at : CellIndex} {cell : Xyz} (e : at ≡ Regular cell) where
  pub regular_usable : {code : ℕ} → Usable at code → Usable (Regular cell) code
  regular_usable usable = rw e at usable

  pub regular_put : (s : Star) (code : ℕ) {next index next' reads : ℕ} {vertices vertices' : List Float} {store store' : List ℕ}
      → CodePut (use_at s (Regular cell) code) next vertices store index next' reads vertices' store'
      → CodePut (use_at s at code) next vertices store index next' reads vertices' store'
  regular_put s code put = rw e put

module _ {n : ℕ} {at : Xyz} (h : Inner n at) where
  pub inner_placed : InBlock n at.x at.y at.z
  inner_placed = record { x_in = omega arith; y_in = omega arith; z_in = omega arith }

  -- its corners touch none either
  pub corner_inside_lem : (k : ℕ) (p : Xyz) → p ≡ corner_point at.x at.y at.z k → Inside n p
  corner_inside_lem k p e =
      rw e
      (record { x_low = omega arith; x_high = omega arith; y_low = omega arith; y_high = omega arith; z_low = omega arith; z_high = omega arith })

  -- no step leaves the block
  pub inner_stays : (code : ℕ) → regular_leaves at.x at.y at.z code ≡ false
  unfolding regular_leaves
  inner_stays code = rw (le-ltb at.x (step_x code) (omega arith), le-ltb at.y (step_y code) (omega arith), le-ltb at.z (step_z code) (omega arith))

  -- so just the new codes make a vertex
  pub inner_makes : (code : ℕ) → eqb (is_new code) 1 ≡ makes_at (Regular at) code
  inner_makes code = rw (inner_stays code, or-false)

  pub inner_count : (s : Star) (cell : CellIndex) (code : ℕ) → cell ≡ Regular at → length (made_by (use_at s cell code)) ≡ cond (eqb (is_new code) 1) 1 0
  inner_count s cell code e = use_count s cell code ∙ (rw e (ap (λ (b : Bool). cond b 1 0) (sym (inner_makes code))))
