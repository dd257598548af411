-- The vertex and triangle figures of a block are the lengths of the definition's mesh, so what extraction would write. And a layer of regular cells
-- or a side's transition cells add their part of the figures to any mesh: what the counting pass rests on.
use Rattle.std.specs.Prelude.{◌≡◌, ℕ, ◌+◌}
use Rattle.std.proofs.Math.Path.{refl}
use Rattle.std.proofs.Math.ListN.{length}
use Rattle.laws.specs.Sums.{square}
use Rattle.model.specs.Star.{Star, subdivisions}
use Rattle.model.specs.Mesh.{Mesh, empty_mesh, regular_use, regular_cell, regular_layer, transition_use, transition_cell, transition_side, mesh_of}
use Rattle.model.specs.OverCells.{over_side, triangles_at, triangles_on_side}
use Rattle.model.specs.Adding.{cell_triangles, layer_measures, side_measures, mesh_measures}
use Rattle.cells.specs.Fills.{made_of, cell_made}
use Rattle.blankness.specs.Counted.{triangles_counted}
use Rattle.sheet.specs.Definition.{regular_made, transition_made, made_at, made_on_side, vertex_figure, triangle_figure}

module _ (s : Star) where
  pub vertices_are : length (mesh_of s).made ≡ vertex_figure s
  unfolding vertex_figure regular_made transition_made empty_mesh regular_cell regular_use transition_cell transition_use
  vertices_are = mesh_measures (λ m. length m.made) made_of cell_made s refl

  pub triangles_are : length (mesh_of s).triangles ≡ triangle_figure s
  unfolding triangle_figure
  triangles_are = triangles_counted s

  pub layer_vertices : (x : ℕ) (m : Mesh) → length (regular_layer s x m).made ≡ length m.made + square (made_at s x) (subdivisions s)
  unfolding regular_made regular_cell regular_use
  layer_vertices = layer_measures (λ m. length m.made) made_of cell_made s

  pub layer_triangles : (x : ℕ) (m : Mesh) → length (regular_layer s x m).triangles ≡ length m.triangles + square (triangles_at s x) (subdivisions s)
  unfolding regular_cell
  layer_triangles = layer_measures (λ m. length m.triangles) (λ c. c.triangles) cell_triangles s

  pub side_vertices : (side : ℕ) (m : Mesh) → length (transition_side s side m).made ≡ length m.made + over_side s (made_on_side s) side
  unfolding transition_made transition_cell transition_use
  side_vertices = side_measures (λ m. length m.made) made_of cell_made s

  pub side_triangles : (side : ℕ) (m : Mesh) → length (transition_side s side m).triangles ≡ length m.triangles + over_side s (triangles_on_side s) side
  unfolding transition_cell
  side_triangles = side_measures (λ m. length m.triangles) (λ c. c.triangles) cell_triangles s
