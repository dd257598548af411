-- The two points of every code that a cell lists: one is inside and the other outside, by T2 for a regular cell, by T5 for a transition cell and, at
-- the points of its coarse face, by 8. So the vertex between them is weighed.
use Rattle.std.specs.Prelude.{ℕ, ◌+◌, ◌*◌, ◌<◌, ◌≡◌, ◌≢◌, ◌⊎◌, Bool, true, false, cond, Float, Ok}
use Rattle.std.proofs.Math.Path.{refl, sym, ap₂}
use Rattle.std.proofs.Common.{◌∙◌, subst, inl, inr}
use native.Mathlib.Omega.{arith}
use Rattle.std.specs.Float.{binary32}
use Rattle.std.specs.Float.Ieee.Fits.{div-fits}
use Rattle.tables.specs.Codes.{point_a, point_b}
use Rattle.tables.specs.Cases.{regular_code, regular_vertices, transition_code, transition_vertices}
use Rattle.tables.specs.Points.{cell_point, along_u, along_v, point_u, point_v, transition_inside}
use Rattle.tables.specs.Listed.{differ}
use Rattle.tables.proofs.RulesTransition.{transition_lists}
use Rattle.tables.proofs.RulesBorder.{transition_code_right}
use Rattle.tables.specs.declared.aux_tables.CellPoint.{CellPoint}
use Rattle.tables.specs.declared.aux_tables.CellPoint.TheVariants.{Fine, Coarse}
use Rattle.model.specs.declared.Xyz.{Xyz}
use Rattle.model.specs.declared.GridPoint.{GridPoint}
use Rattle.model.specs.Limits.{most_size}
use Rattle.model.specs.Formulas.{inside, inside_bit, vertex_between}
use Rattle.model.specs.Star.{Star, subdivisions}
use Rattle.model.specs.Points.{corner_point, regular_case, regular_point, fine_grid_point, transition_case, transition_point}
use Rattle.model.specs.Judging.{judge_star, faces_agree, judge_faces}
use Rattle.grid.specs.Places.{Within}
use Rattle.grid.specs.RotationLaws.{OnFace, OnFineFace, face_point_in, fine_point_in}
use Rattle.agreement.specs.Faces.{faces_agree_lem}
use Rattle.points.specs.CellPoints.{InCell, cell_point_in}
use Rattle.closed.specs.Clauses.{inside_at, IsCell}
use Rattle.closed.specs.Cells.{high_is, code_right, code_crossed}
use Rattle.closed.specs.SideCells.{fine_inside, agreed_inside, case_small, case_inside}
use Rattle.closed.specs.Indices.{IsSideCell}
use Rattle.weights.specs.Clauses.{OneInside, AreF32, Weighed}
use Rattle.weights.specs.Small.{Small}
use Rattle.weights.specs.Coordinates.{Reached, regular_reached, fine_reached}
use Rattle.weights.proofs.Weighing.{weigh}
use Rattle.weights.proofs.Segments.{coordinate}
use Rattle.weights.specs.Samples.{shaped, threshold_small, measured, centre_small, fine_small}

-- ---- a vertex between two points, one inside and the other outside

-- a point whose sample and position can be reckoned with
pub record Ready (p : GridPoint) : Type 0 where
  pub sample : Small most_size p.sample
  pub position : Reached p.position

one_of_two : (t a b : Float) → inside_bit t a ≢ inside_bit t b → OneInside t a b
one_of_two t a b d = go (inside t a) (inside t b) d
  where
    go : (p q : Bool) → cond {A = ℕ} p 1 0 ≢ cond {A = ℕ} q 1 0 → ((p ≡ false) × (q ≡ true)) ⊎ ((p ≡ true) × (q ≡ false))
    go true true d = absurd (d refl)
    go true false d = inr (refl, refl)
    go false true d = inl (refl, refl)
    go false false d = absurd (d refl)

between_two : (t : Float) (a b : GridPoint) → Small most_size t → Ready a → Ready b → inside_bit t a.sample ≢ inside_bit t b.sample
    → Weighed t a b (vertex_between t a b)
between_two t a b pt pa pb d =
    let one = one_of_two t a.sample b.sample d in
    let w = weigh a.sample b.sample t pa.sample pb.sample pt one in
    record {
      one_inside = one;
      weighed = w;
      vertex_is = refl;
      x = coordinate _ _ pa.position.x pb.position.x _ _ t _ (div-fits binary32 _ _) w;
      y = coordinate _ _ pa.position.y pb.position.y _ _ t _ (div-fits binary32 _ _) w;
      z = coordinate _ _ pa.position.z pb.position.z _ _ t _ (div-fits binary32 _ _) w;
    }

-- ---- regular cells: 1 to 7

module _ (s : Star) (fit : AreF32 s) (passed : judge_star s ≡ Ok tt) where
  pub regular_ready : (p : Xyz) → Within (subdivisions s) p → Ready (regular_point s p)
  unfolding regular_point
  regular_ready p w = record { sample = centre_small s fit passed p w; position = regular_reached s.block (measured s fit passed) s.mask p w }

  pub points_weighed : (p q : Xyz) → Within (subdivisions s) p → Within (subdivisions s) q → inside_at s p ≢ inside_at s q
      → Weighed s.threshold (regular_point s p) (regular_point s q) (vertex_between s.threshold (regular_point s p) (regular_point s q))
  unfolding regular_point
  points_weighed p q wp wq = between_two s.threshold _ _ (threshold_small s fit passed) (regular_ready p wp) (regular_ready q wq)

  pub regular_weighed : (x y z k : ℕ) → IsCell s x y z → k < regular_vertices (regular_case s x y z)
      → let code = regular_code (regular_case s x y z) k in
      let a = regular_point s (corner_point x y z (point_a code)) in
      let b = regular_point s (corner_point x y z (point_b code)) in
      Weighed s.threshold a b (vertex_between s.threshold a b)
  regular_weighed x y z k c h =
      let code = regular_code (regular_case s x y z) k in
      let low = corner_point x y z (point_a code) in
      points_weighed low (corner_point x y z (point_b code)) (omega arith) (omega arith)
      (subst (λ p. inside_at s low ≢ inside_at s p) (high_is x y z code (code_right s x y z k h)) (code_crossed s x y z k h))

  -- ---- transition cells: 1 to 8

  module _ (faces : judge_faces s ≡ Ok tt) (side u v : ℕ) (cell : IsSideCell s side u v) where
    abbrev at : CellPoint → GridPoint
    at = transition_point s side u v

    point_ready : (c : CellPoint) → InCell c → Ready (at c)
    unfolding transition_point fine_grid_point
    point_ready (Fine offset) h =
        let few = (shaped s fit passed).few in
        let on : OnFineFace (subdivisions s) side (2 * u + offset.u) (2 * v + offset.v) = omega arith in
        record {
          sample = fine_small s fit passed side _ _ on cell.side_named;
          position = fine_reached s.block (measured s fit passed) _ (fine_point_in (subdivisions s) side _ _ on);
        }
    point_ready (Coarse corner) h =
        let few = (shaped s fit passed).few in
        let on : OnFace (subdivisions s) side (u + corner.u) (v + corner.v) = omega arith in
        regular_ready _ (face_point_in (subdivisions s) side _ _ on)

    -- a point is inside where the fine point at its place is: for a point of the coarse face by 8
    point_inside : (c : CellPoint) → InCell c
        → inside_bit s.threshold (at c).sample ≡ fine_inside s side (2 * u + along_u c) (2 * v + along_v c)
    unfolding transition_point fine_grid_point regular_point faces_agree
    point_inside (Fine offset) h = refl
    point_inside (Coarse corner) h =
        let agree = faces_agree_lem s faces side (u + corner.u) (v + corner.v) cell.side_in cell.side_named (omega arith) (omega arith) in
        agreed_inside s side (u + corner.u) (v + corner.v) agree
        ∙ ap₂ (fine_inside s side) (doubled u corner.u) (doubled v corner.v)
      where
        doubled : (u c : ℕ) → 2 * (u + c) ≡ 2 * u + 2 * c
        doubled u c = omega arith

    code_inside : (p : ℕ) → p < 13 → inside_bit s.threshold (at (cell_point p)).sample ≡ transition_inside (transition_case s side u v) p
    unfolding point_u point_v
    code_inside p h = point_inside (cell_point p) (cell_point_in p) ∙ sym (case_inside s side u v p h)

    pub side_weighed : (k : ℕ) → k < transition_vertices (transition_case s side u v)
        → let code = transition_code (transition_case s side u v) k in
        let a = transition_point s side u v (cell_point (point_a code)) in
        let b = transition_point s side u v (cell_point (point_b code)) in
        Weighed s.threshold a b (vertex_between s.threshold a b)
    side_weighed k h =
        let case = transition_case s side u v in
        let code = transition_code case k in
        let right = transition_code_right case k (case_small s side u v) h in
        between_two s.threshold _ _ (threshold_small s fit passed) (point_ready _ (cell_point_in (point_a code)))
        (point_ready _ (cell_point_in (point_b code)))
        (λ e.
        differ transition_lists case k (case_small s side u v) h
        (sym (code_inside (point_a code) right.a_small) ∙ e ∙ code_inside (point_b code) right.b_small))
