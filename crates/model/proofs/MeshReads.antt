-- Document 02, [7]: what the reads of a sheet of cells, and of the whole mesh, come to: a product.
use Rattle.std.specs.Prelude.{ℕ, ◌+◌, ◌*◌, ◌≡◌, cond}
use Rattle.std.proofs.Common.{arith, ap, ◌∙◌}
use Rattle.laws.specs.Steps.{total}
use Rattle.laws.specs.Sums.{total_same, square_equal, cube_equal}
use Rattle.model.specs.Limits.{side_count}
use Rattle.model.specs.Sides.{named}
use Rattle.model.specs.Star.{Star, subdivisions}
use Rattle.model.specs.Mesh.{Mesh, regular_reads, transition_reads, cell_step, regular_cell, regular_layer, transition_cell, transition_side, mesh_of}
use Rattle.model.specs.OverCells.{over_side}
use Rattle.model.specs.Adding.{Adds, layer_adds, side_adds, mesh_adds}
use Rattle.model.specs.Reads.{Reads, reads_none, cell_reads, side_reads}

module _ (s : Star) where
  abbrev n : ℕ
  n = subdivisions s

  abbrev each_regular : ℕ → ℕ → ℕ → ℕ
  each_regular x y z = regular_reads

  abbrev each_transition : ℕ → ℕ → ℕ → ℕ
  each_transition side u v = transition_reads

  regular_cell_lem : (x y z : ℕ) → Adds Reads (cell_step (regular_cell s x y z)) regular_reads
  unfolding regular_cell
  regular_cell_lem x y z = cell_reads (regular_cell s x y z)

  transition_cell_lem : (side u v : ℕ) → Adds Reads (cell_step (transition_cell s side u v)) transition_reads
  unfolding transition_cell
  transition_cell_lem side u v = cell_reads (transition_cell s side u v)

  -- a layer of regular cells
  pub layer_reads_lem : (x cases : ℕ) (m : Mesh) → Reads cases m → Reads (cases + regular_reads * n * n) (regular_layer s x m)
  layer_reads_lem x cases m h =
      omega (arith, layer_adds Reads s each_regular each_transition regular_cell_lem transition_cell_lem x cases m h, square_equal regular_reads n)

  over_side_lem : (side : ℕ) → over_side s each_transition side ≡ side_reads s side
  over_side_lem side = ap (λ (k : ℕ). cond (named s.mask side) k 0) (square_equal transition_reads n ∙ omega arith)

  pub side_reads_lem : (side cases : ℕ) (m : Mesh) → Reads cases m → Reads (cases + side_reads s side) (transition_side s side m)
  side_reads_lem side cases m h = rw (← over_side_lem side) (side_adds Reads s each_regular each_transition regular_cell_lem transition_cell_lem side cases m h)

  pub mesh_reads : Reads (regular_reads * n * n * n + total (side_reads s) side_count) (mesh_of s)
  mesh_reads =
      omega (
        arith,
        mesh_adds Reads s each_regular each_transition regular_cell_lem transition_cell_lem (reads_none n),
        cube_equal regular_reads n,
        total_same (over_side s each_transition) (side_reads s) side_count (λ side h. over_side_lem side),
      )
