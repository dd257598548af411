-- What is known of a code that makes no vertex: it is not new, and its steps stay inside.
use Rattle.std.specs.Prelude.{ℕ, ◌≤◌, ◌≡◌, false, ◌&&◌, eqb, ltb}
use Rattle.std.proofs.Common.{ltb-false}
use Rattle.laws.specs.Tests.{neither}
use Rattle.tables.specs.Codes.{step_x, step_y, step_z, is_new}
use Rattle.model.specs.declared.Xyz.{Xyz}
use Rattle.model.specs.declared.FacePoint.{FacePoint}
use Rattle.model.specs.Mesh.{regular_leaves, transition_leaves}
use Rattle.codes.specs.declared.CellIndex.{CellIndex}
use Rattle.codes.specs.declared.CellIndex.TheVariants.{Regular, Transition}
use Rattle.codes.specs.Kinds.{makes_at}

pub regular_stays : (x y z code : ℕ) → regular_leaves x y z code ≡ false → (step_x code ≤ x) × (step_y code ≤ y) × (step_z code ≤ z)
unfolding regular_leaves
regular_stays x y z code e =
    let in-x = neither _ _ e in
    let in-y = neither _ _ in-x.1 in
    (ltb-false _ _ in-x.0, ltb-false _ _ in-y.0, ltb-false _ _ in-y.1)

pub transition_stays : (u v code : ℕ) → transition_leaves u v code ≡ false → (step_x code ≤ u) × (step_y code ≤ v)
unfolding transition_leaves
transition_stays u v code e =
    let steps = neither (ltb u (step_x code)) (ltb v (step_y code)) (neither (eqb (step_x code) 0 && eqb (step_y code) 0) _ e).1 in
    (ltb-false _ _ steps.0, ltb-false _ _ steps.1)

module _ (at : CellIndex) (code : ℕ) (kept : makes_at at code ≡ false) where
  pub regular_kept : (cell : Xyz) → at ≡ Regular cell → regular_leaves cell.x cell.y cell.z code ≡ false
  regular_kept cell e = (neither (eqb (is_new code) 1) _ (rw e at kept)).1

  pub transition_kept : (cell : FacePoint) → at ≡ Transition cell → transition_leaves cell.u cell.v code ≡ false
  transition_kept cell e = (neither (eqb (is_new code) 1) _ (rw e at kept)).1
