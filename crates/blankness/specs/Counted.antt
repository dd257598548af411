-- The triangles of the mesh are those of its cells: their number is a sum over the cells.
use Rattle.std.specs.Prelude.{◌≡◌, ℕ}
use Rattle.std.proofs.Math.Path.{refl}
use Rattle.std.proofs.Math.ListN.{length}
use Rattle.model.specs.Star.{Star}
use Rattle.model.specs.Mesh.{empty_mesh, regular_cell, transition_cell, mesh_of}
use Rattle.model.specs.OverCells.{over_side, over_cells, triangles_at, triangles_on_side}
use Rattle.model.specs.Adding.{cell_triangles, mesh_measures}

module _ (s : Star) where
  -- of a side's cells
  abbrev pub of_side : ℕ → ℕ
  of_side side = over_side s (triangles_on_side s) side

  pub triangles_counted : length (mesh_of s).triangles ≡ over_cells s (triangles_at s) (triangles_on_side s)
  unfolding empty_mesh regular_cell transition_cell
  triangles_counted = mesh_measures (λ m. length m.triangles) (λ c. c.triangles) cell_triangles s refl
