-- The directed sides of the whole mesh, counted by the vertices that its triangles name, are those that the tables say, summed over the cells.
use Rattle.std.specs.Prelude.{◌≡◌, ℕ, zero, suc, ◌+◌, ◌≤◌, ◌<◌}
use Rattle.std.proofs.Math.Path.{refl}
use Rattle.std.proofs.Common.{sym, ap, ◌∙◌, add-zero, le_refl, le_of_lt, arith}
use Rattle.tables.specs.Cases.{regular_triangles, regular_corner}
use Rattle.tables.specs.Sides.{regular_sides_lem}
use Rattle.laws.specs.Steps.{total}
use Rattle.laws.specs.Counting.{weighed}
use Rattle.laws.specs.Sums.{square, cube}
use Rattle.model.specs.Star.{Star, subdivisions}
use Rattle.model.specs.Points.{regular_case}
use Rattle.model.specs.Mesh.{Mesh, empty_mesh, regular_cell, regular_to, regular_mesh}
use Rattle.closed.specs.Clauses.{number, runs, IsCell}
use Rattle.closed.specs.Places.{rank}
use Rattle.closed.specs.Cells.{code_edge, code_at, byte_edge}
use Rattle.closed.specs.CellStep.{step_counted}
use Rattle.closed.proofs.Whole.{Whole, corner_named, in_reach, column_end, layer_end, block_end, whole_at}
use Rattle.closed.proofs.Weighing.{all_weighed}
use Rattle.closed.specs.Flux.{weight, cell_runs}

cell_counted : (s : Star) (g h x y z : ℕ) (c : IsCell s x y z) → Whole s (rank s x y z) (regular_to s x y z)
    → runs (regular_to s x y (suc z)) g h ≡ runs (regular_to s x y z) g h + cell_runs s g h x y z
unfolding regular_to regular_cell cell_runs weight
cell_counted s g h x y z c p =
    let case = regular_case s x y z in
    let at : ℕ → ℕ = λ k. number s (code_edge x y z k) in
    let code : ℕ → ℕ = λ k. code_at s x y z (regular_corner case k) in
    step_counted (regular_cell s x y z) (regular_to s x y z) (λ k. at (code k)) (in_reach s _ _ p) (corner_named s x y z c p) g h
    ∙ ap (λ (k : ℕ). runs (regular_to s x y z) g h + k)
    (all_weighed at g h (λ c. ap (number s) (byte_edge x y z c)) code (regular_triangles case)
    ∙ sym (ap (weighed (weight s g h x y z)) (regular_sides_lem case)))

-- ---- all cells

module _ (s : Star) (g h : ℕ) where
  none_counted : runs (regular_to s 0 0 0) g h ≡ 0
  unfolding runs regular_to empty_mesh
  none_counted = refl

  cells_counted : (x y : ℕ) → x < subdivisions s → y < subdivisions s → (z : ℕ) → z ≤ subdivisions s
      → runs (regular_to s x y z) g h ≡ runs (regular_to s x y 0) g h + total (cell_runs s g h x y) z
  cells_counted x y hx hy zero l = sym (add-zero _)
  cells_counted x y hx hy (suc z) l =
      omega (
        arith,
        cell_counted s g h x y z (record { x_in = hx; y_in = hy; z_in = l }) (whole_at s x y z hx hy (le_of_lt l)),
        cells_counted x y hx hy z (le_of_lt l),
      )

  columns_counted : (x : ℕ) → x < subdivisions s → (y : ℕ) → y ≤ subdivisions s
      → runs (regular_to s x y 0) g h ≡ runs (regular_to s x 0 0) g h + total (λ v. total (cell_runs s g h x v) (subdivisions s)) y
  columns_counted x hx zero l = sym (add-zero _)
  columns_counted x hx (suc y) l =
      omega (
        arith,
        ap (λ (m : Mesh). runs m g h) (column_end s x y),
        cells_counted x y hx l (subdivisions s) (le_refl _),
        columns_counted x hx y (le_of_lt l),
      )

  layers_counted : (x : ℕ) → x ≤ subdivisions s
      → runs (regular_to s x 0 0) g h ≡ total (λ u. square (cell_runs s g h u) (subdivisions s)) x
  layers_counted zero l = none_counted
  layers_counted (suc x) l =
      omega (
        arith,
        ap (λ (m : Mesh). runs m g h) (layer_end s x),
        columns_counted x l (subdivisions s) (le_refl _),
        layers_counted x (le_of_lt l),
      )

  pub block_counted : runs (regular_mesh s) g h ≡ cube (cell_runs s g h) (subdivisions s)
  block_counted = ap (λ (m : Mesh). runs m g h) (sym (block_end s)) ∙ layers_counted (subdivisions s) (le_refl _)
