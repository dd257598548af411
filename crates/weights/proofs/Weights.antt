-- The theorem: every vertex of the mesh of a block that passes 1 to 8 was made by the step of a code between that code's two points, one inside and the
-- other outside; its weight is finite, from 0 to 1 and near the exact quotient, and each coordinate of its position lies between those of the two points.
use Rattle.std.specs.Prelude.{ℕ, ◌≡◌, Ok}
use Rattle.std.proofs.Math.Path.{refl}
use Rattle.std.proofs.Math.Logic.{inl, inr}
use Rattle.model.specs.Star.{Star}
use Rattle.model.specs.Judging.{judge_star, judge_faces}
use Rattle.model.specs.Mesh.{Made, regular_vertex, regular_use, regular_cell, regular_mesh, regular_to, transition_vertex, transition_use, transition_cell, transition_to, mesh_of}
use Rattle.closed.specs.Clauses.{IsCell}
use Rattle.closed.specs.Indices.{IsSideCell}
use Rattle.weights.specs.Clauses.{AreF32, MakesAt, VertexWeighed, Weights}
use Rattle.weights.proofs.Ends.{regular_weighed, side_weighed}
use Rattle.weights.proofs.EveryVertex.{each_regular, each_vertex}

module _ (s : Star) (fit : AreF32 s) (passed : judge_star s ≡ Ok tt) where
  abbrev Well : ℕ → Made → Type 0
  Well i m = VertexWeighed s i m.vertex

  regular_well : (x y z : ℕ) → IsCell s x y z → (k i : ℕ) → MakesAt (regular_cell s x y z) (regular_to s x y z) k i → Well i ((regular_cell s x y z).uses k).made
  unfolding regular_cell regular_use regular_vertex
  regular_well x y z c k i m =
      record {
        a = _;
        b = _;
        made = inl (record { x = x; y = y; z = z; k = k; cell = c; made = m; a_is = refl; b_is = refl });
        is_weighed = regular_weighed s fit passed x y z k c m.listed;
      }

  -- the regular cells alone: 1 to 7
  pub regular_weights : Weights s (regular_mesh s)
  regular_weights = each_regular Well s regular_well

  -- all cells: 1 to 8
  module _ (faces : judge_faces s ≡ Ok tt) where
    side_well : (side u v : ℕ) → IsSideCell s side u v → (k i : ℕ) → MakesAt (transition_cell s side u v) (transition_to s side u v) k i
        → Well i ((transition_cell s side u v).uses k).made
    unfolding transition_cell transition_use transition_vertex
    side_well side u v c k i m =
        record {
          a = _;
          b = _;
          made = inr (record { side = side; u = u; v = v; k = k; cell = c; made = m; a_is = refl; b_is = refl });
          is_weighed = side_weighed s fit passed faces side u v c k m.listed;
        }

    pub weights : Weights s (mesh_of s)
    weights = each_vertex Well s regular_well side_well
