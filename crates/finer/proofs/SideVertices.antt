-- The vertex that a code of a transition cell makes lies on the edge that its label tells.
use Rattle.std.specs.Prelude.{◌≡◌, refl, cond, ℕ, ◌+◌, ◌*◌, ◌/◌, ◌≤◌, ◌<◌, eqb}
use Rattle.std.proofs.Math.Path.{ap, ap₂}
use Rattle.std.proofs.Common.{◌∙◌, inl, inr, ⊎_elim, arith}
use Rattle.std.proofs.Math.Dec.{T}
use Rattle.laws.specs.Tests.{both_of}
use Rattle.laws.specs.Counting.{has}
use Rattle.tables.specs.Codes.{point_a, edge_of}
use Rattle.tables.specs.Corners.{axis_of}
use Rattle.tables.specs.Points.{point_u, point_v, point_face, cell_point, along_u, along_v, face_of}
use Rattle.tables.specs.declared.aux_tables.CellPoint.{CellPoint}
use Rattle.tables.specs.declared.aux_tables.CellPoint.TheVariants.{Fine, Coarse}
use Rattle.tables.specs.RulesTransition.{transition_used, transition_edges}
use Rattle.tables.proofs.RulesTransition.{transition_lists}
use Rattle.tables.specs.FinerSides.{fine_edge, coarse_edge}
use Rattle.model.specs.Rotations.{face_point}
use Rattle.model.specs.Formulas.{vertex_between}
use Rattle.model.specs.Star.{Star, subdivisions}
use Rattle.model.specs.Points.{regular_point, fine_grid_point, transition_point}
use Rattle.model.specs.Mesh.{transition_vertex, transition_use}
use Rattle.closed.specs.Clauses.{number}
use Rattle.closed.specs.Cells.{byte_points}
use Rattle.closed.specs.Indices.{IsSideCell}
use Rattle.finer.specs.Labels.{label_of, labelled_use}
use Rattle.finer.specs.Clauses.{OnFineEdge, OnCoarseEdge, OnSide}
use Rattle.finer.specs.SideLabels.{EdgeRight, edge_right, IsFine, IsCoarse, fine_or_coarse, byte_label, fine_label, coarse_label, fine_within}
use Rattle.finer.proofs.Faces.{edge_on, edge_is, of_block, in_side, edge_vertex}

fine_step : (u a b k : ℕ) → b ≡ a + (1 + 0) * k → 2 * u + b ≡ 2 * u + a + k
fine_step u a b k e = omega arith

coarse_step : (u a b k : ℕ) → b ≡ a + (1 + 1) * k → u + b / 2 ≡ u + a / 2 + k
coarse_step u a b k e = omega arith

-- an edge of a cell's square is one of the side's
of_side_square : (n u u2 k : ℕ) → u < n → u2 + k ≤ 2 * u + 2 → u2 + k ≤ 0 + 2 * n
of_side_square n u u2 k h l = omega arith

-- a point of the cell by its face and its place in fine steps
half : (k : ℕ) → 2 * k / 2 ≡ k
half k = omega arith

point_by : (s : Star) (side u v : ℕ) (p : CellPoint)
    → transition_point s side u v p
    ≡ cond (eqb (face_of p) 0) (fine_grid_point s side (2 * u + along_u p) (2 * v + along_v p))
    (regular_point s (face_point (subdivisions s) side (u + along_u p / 2) (v + along_v p / 2)))
unfolding transition_point
point_by s side u v (Fine offset) = refl
point_by s side u v (Coarse corner) = rw (half corner.u, half corner.v)

module _ (s : Star) (side u v : ℕ) where
  fine_point : (p : ℕ) → point_face p ≡ 0 → transition_point s side u v (cell_point p) ≡ fine_grid_point s side (2 * u + point_u p) (2 * v + point_v p)
  unfolding point_face point_u point_v
  fine_point p f = point_by s side u v (cell_point p) ∙ rw f

  coarse_point : (p : ℕ) → point_face p ≡ 1
      → transition_point s side u v (cell_point p) ≡ regular_point s (face_point (subdivisions s) side (u + point_u p / 2) (v + point_v p / 2))
  unfolding point_face point_u point_v
  coarse_point p c = point_by s side u v (cell_point p) ∙ rw c

  module _ (cell : IsSideCell s side u v) (e : ℕ) (used : T (has e transition_edges)) where
    right : EdgeRight e
    right = edge_right e used

    on_fine_lem : IsFine e → OnFineEdge s side (record { vertex = transition_vertex s side u v e; edge = label_of s side u v e })
    unfolding transition_vertex
    on_fine_lem f =
        let w = fine_within s side u v e right f in
        record {
          u2 = 2 * u + point_u (point_a e);
          v2 = 2 * v + point_v (point_a e);
          axis = axis_of e;
          within = record {
            axis_is = w.axis_is;
            low_u = omega arith;
            low_v = omega arith;
            high_u = of_side_square _ u _ _ cell.u_in w.high_u;
            high_v = of_side_square _ v _ _ cell.v_in w.high_v;
          };
          label_is = fine_label s side u v e f;
          vertex_is =
              ap₂ (vertex_between s.threshold) (fine_point _ f)
              (fine_point _ (right.b_face ∙ f)
              ∙ ap₂ (fine_grid_point s side) (fine_step u _ _ _ (rw f at right.b_u)) (fine_step v _ _ _ (rw f at right.b_v)));
        }

    on_coarse : IsCoarse e → OnCoarseEdge s side (record { vertex = transition_vertex s side u v e; edge = label_of s side u v e })
    unfolding transition_vertex fine_edge coarse_edge
    on_coarse c =
        let hs = cell.side_in in
        let t : T (coarse_edge e) = both_of _ _ (rw c tt) used in
        let n = subdivisions s in
        record {
          on = edge_on s side u v hs cell.u_in cell.v_in e t;
          of_block = of_block s side u v hs cell.u_in cell.v_in e t;
          in_side = in_side s side u v hs cell.u_in cell.v_in e t;
          label_is = coarse_label s side u v e c ∙ ap (number s) (edge_is s side u v hs cell.u_in cell.v_in e t);
          vertex_is =
              ap₂ (vertex_between s.threshold) (coarse_point _ c)
              (coarse_point _ (right.b_face ∙ c)
              ∙ ap₂ (λ (a b : ℕ). regular_point s (face_point n side a b)) (coarse_step u _ _ _ (rw c at right.b_u))
              (coarse_step v _ _ _ (rw c at right.b_v)))
              ∙ edge_vertex s side u v hs cell.u_in cell.v_in e t;
        }

    on_side : OnSide s side (record { vertex = transition_vertex s side u v e; edge = label_of s side u v e })
    on_side = ⊎_elim (λ f. inl (on_fine_lem f)) (λ c. inr (on_coarse c)) (fine_or_coarse e right.face_in)

  -- a code has the points of its low byte
  byte_vertex : (code : ℕ) → transition_vertex s side u v (edge_of code) ≡ transition_vertex s side u v code
  unfolding transition_vertex
  byte_vertex code = let p = byte_points code in rw (p.0, p.1)

  pub made_lies : IsSideCell s side u v → (code : ℕ) → T (has code transition_used)
      → OnSide s side (labelled_use (label_of s side u v code) (transition_use s side u v code)).made
  unfolding transition_use
  made_lies cell code used =
      rw (← byte_vertex code, ← byte_label s side u v code) (on_side cell (edge_of code) (transition_lists.is_edge code used))
