-- What a layer of regular cells adds, and what the named sides' transition cells add, is what the definition counts there.
use Rattle.std.specs.Prelude.{◌≡◌, ℕ, ◌+◌}
use Rattle.std.proofs.Math.Path.{refl}
use Rattle.std.proofs.Common.{sym, ap₂, ◌∙◌, add-one, arith}
use Rattle.laws.specs.Steps.{total}
use Rattle.model.specs.declared.Counts.{Counts}
use Rattle.model.specs.Star.{Star, subdivisions}
use Rattle.model.specs.Mesh.{empty_mesh, regular_layer}
use Rattle.counting.specs.Counting.{Grows}
use Rattle.laws.specs.Sums.{total_skip}
use Rattle.model.specs.Limits.{side_count}
use Rattle.model.specs.Sides.{named}
use Rattle.model.specs.Mesh.{transition_side}
use Rattle.model.specs.OverCells.{over_side, triangles_on_side}
use Rattle.grid.specs.SideLaws.{NextSide}
use Rattle.counting.specs.Counting as Counting
use Rattle.sheet.specs.Definition.{made_on_side}
use Rattle.sheet.specs.Planes.{LayerCounts}
use Rattle.sheet.specs.Fine.{SideCounts}
use Rattle.sheet.proofs.Counted.{layer_vertices, layer_triangles, side_vertices, side_triangles}

pub layer_counts : (s : Star) (x : ℕ) (counts : Counts) → Grows (regular_layer s x) counts → LayerCounts s x counts
layer_counts s x counts g =
    let m = empty_mesh (subdivisions s) in
    record {
      vertices_are = omega (arith, g.vertices m, layer_vertices s x m);
      triangles_are = omega (arith, g.triangles m, layer_triangles s x m);
    }

-- the sides that are named up to one, and the next of them
module _ (s : Star) where
  -- sides that are not named add nothing
  skip : (parts : ℕ → ℕ → ℕ → ℕ) (from to : ℕ) → NextSide s.mask from to → total (over_side s parts) from ≡ total (over_side s parts) to
  skip parts from to step = sym (total_skip (over_side s parts) from to step.from_le (λ i l h. rw (step.none_between i l h)))

  pub sides_none : SideCounts s 0 (record { vertices = 0; triangles = 0 })
  sides_none = record { vertices_are = refl; triangles_are = refl }

  pub sides_skip : {from to : ℕ} {counts : Counts} → NextSide s.mask from to → SideCounts s from counts → SideCounts s to counts
  sides_skip {from} {to} next so_far =
      record {
        vertices_are = so_far.vertices_are ∙ skip (made_on_side s) from to next;
        triangles_are = so_far.triangles_are ∙ skip (triangles_on_side s) from to next;
      }

  pub sides_start : (side : ℕ) → NextSide s.mask 0 side → SideCounts s side (record { vertices = 0; triangles = 0 })
  sides_start side step = sides_skip step sides_none

  pub sides_on : (side : ℕ) {counts more : Counts} → Grows (transition_side s side) more → SideCounts s side counts
      → SideCounts s (side + 1) (Counting.plus counts more)
  sides_on side g so_far =
      let m = empty_mesh (subdivisions s) in
      record {
        vertices_are = added (over_side s (made_on_side s)) (omega (arith, g.vertices m, side_vertices s side m)) so_far.vertices_are;
        triangles_are = added (over_side s (triangles_on_side s)) (omega (arith, g.triangles m, side_triangles s side m)) so_far.triangles_are;
      }
    where
      added : (f : ℕ → ℕ) {a b : ℕ} → b ≡ f side → a ≡ total f side → a + b ≡ total f (side + 1)
      added f e so_far = rw add-one (ap₂ ◌+◌ so_far e)

  -- a side, and past those that are not named
  pub sides_more : (side next : ℕ) (counts more : Counts) → Grows (transition_side s side) more → NextSide s.mask (side + 1) next
      → SideCounts s side counts → SideCounts s next (Counting.plus counts more)
  sides_more side next counts more g step so_far = sides_skip step (sides_on side g so_far)

  pub no_sides : s.mask ≡ 0 → SideCounts s side_count (record { vertices = 0; triangles = 0 })
  unfolding named
  no_sides e = rw e (record { vertices_are = refl; triangles_are = refl })
