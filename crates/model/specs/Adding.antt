-- What the cells of a block add to its mesh, one after another: where each cell adds its part to a number that is told of the mesh, the mesh has the sum
-- over the cells. It holds whatever is told: that something measures so much, or at most so much, or that the reads come to it. Assumes nothing.
use Rattle.std.specs.Prelude.{ℕ, zero, suc, ◌+◌, ◌≡◌, refl, Bool, length}
use Rattle.std.proofs.Math.Nat.{add-zero}
use Rattle.std.proofs.Common.{zero-add, add_assoc, length-append}
use Rattle.std.proofs.Math.Path.{subst}
use Rattle.std.proofs.Math.Bool.{true, false, cond}
use Rattle.laws.specs.Steps.{iterate, total}
use Rattle.laws.specs.Lists.{length_listed}
use Rattle.laws.specs.Sums.{square, cube}
use Rattle.model.specs.Limits.{side_count}
use Rattle.model.specs.Sides.{named}
use Rattle.model.specs.Star.{Star, subdivisions}
use Rattle.model.specs.OverCells.{over_side, over_cells}
use Rattle.model.specs.Mesh.{Cell, Mesh, empty_mesh, cell_step, regular_cell, regular_column, regular_layer, regular_mesh, transition_cell, transition_row, transition_side, mesh_of}

module _ (Told : ℕ → Mesh → Type 0) where
  -- a step adds so much, whatever was there before it
  abbrev pub Adds : (Mesh → Mesh) → ℕ → Type 0
  Adds step part = (k : ℕ) (m : Mesh) → Told k m → Told (k + part) (step m)

  pub steps_add : (step : ℕ → Mesh → Mesh) (parts : ℕ → ℕ) → ((i : ℕ) → Adds (step i) (parts i)) → (count : ℕ) → Adds (iterate step count) (total parts count)
  steps_add step parts adds zero k m h = rw add-zero h
  steps_add step parts adds (suc i) k m h =
      subst (λ (all : ℕ). Told all (step i (iterate step i m))) (add_assoc k (total parts i) (parts i))
      (adds i (k + total parts i) (iterate step i m) (steps_add step parts adds i k m h))

  module _ (s : Star) (regular transition : ℕ → ℕ → ℕ → ℕ) (regular-adds : (x y z : ℕ) → Adds (cell_step (regular_cell s x y z)) (regular x y z))
      (transition-adds : (side u v : ℕ) → Adds (cell_step (transition_cell s side u v)) (transition side u v)) where
    abbrev n : ℕ
    n = subdivisions s

    column_adds : (x y : ℕ) → Adds (regular_column s x y) (total (regular x y) n)
    unfolding regular_column
    column_adds x y = steps_add (λ z. cell_step (regular_cell s x y z)) (regular x y) (regular-adds x y) n

    pub layer_adds : (x : ℕ) → Adds (regular_layer s x) (square (regular x) n)
    unfolding regular_layer
    layer_adds x = steps_add (regular_column s x) (λ y. total (regular x y) n) (column_adds x) n

    block_adds : Told 0 (empty_mesh n) → Told (cube regular n) (regular_mesh s)
    unfolding regular_mesh
    block_adds none =
        subst (λ (all : ℕ). Told all (iterate (regular_layer s) n (empty_mesh n))) (zero-add _)
        (steps_add (regular_layer s) (λ x. square (regular x) n) layer_adds n 0 (empty_mesh n) none)

    row_adds : (side u : ℕ) → Adds (transition_row s side u) (total (transition side u) n)
    unfolding transition_row
    row_adds side u = steps_add (λ v. cell_step (transition_cell s side u v)) (transition side u) (transition-adds side u) n

    pub side_adds : (side : ℕ) → Adds (transition_side s side) (over_side s transition side)
    unfolding transition_side
    side_adds side k m h = go (named s.mask side)
      where
        go : (b : Bool) → Told (k + cond b (square (transition side) n) 0) (cond b (iterate (transition_row s side) n m) m)
        go true = steps_add (transition_row s side) (λ u. total (transition side u) n) (row_adds side) n k m h
        go false = rw add-zero h

    pub mesh_adds : Told 0 (empty_mesh n) → Told (over_cells s regular transition) (mesh_of s)
    unfolding mesh_of
    mesh_adds none = steps_add (transition_side s) (over_side s transition) side_adds side_count (cube regular n) (regular_mesh s) (block_adds none)

-- ---- triangles

pub cell_triangles : (c : Cell) (m : Mesh) → length (cell_step c m).triangles ≡ length m.triangles + c.triangles
unfolding cell_step
cell_triangles c m = rw (length-append, length_listed)

-- ---- what is measured, where each cell adds a part of its own

module _ (measure : Mesh → ℕ) (part : Cell → ℕ) (cell-adds : (c : Cell) (m : Mesh) → measure (cell_step c m) ≡ measure m + part c) (s : Star) where
  abbrev Measures : ℕ → Mesh → Type 0
  Measures k m = measure m ≡ k

  abbrev part_at : ℕ → ℕ → ℕ → ℕ
  part_at x y z = part (regular_cell s x y z)

  abbrev part_on_side : ℕ → ℕ → ℕ → ℕ
  part_on_side side u v = part (transition_cell s side u v)

  cell_measures : (c : Cell) → Adds Measures (cell_step c) (part c)
  cell_measures c k m h = rw (cell-adds, h)

  pub layer_measures : (x : ℕ) (m : Mesh) → measure (regular_layer s x m) ≡ measure m + square (part_at x) (subdivisions s)
  layer_measures x m =
      layer_adds Measures s part_at part_on_side (λ x y z. cell_measures (regular_cell s x y z)) (λ side u v. cell_measures (transition_cell s side u v))
      x (measure m) m refl

  pub side_measures : (side : ℕ) (m : Mesh) → measure (transition_side s side m) ≡ measure m + over_side s part_on_side side
  side_measures side m =
      side_adds Measures s part_at part_on_side (λ x y z. cell_measures (regular_cell s x y z)) (λ side u v. cell_measures (transition_cell s side u v))
      side (measure m) m refl

  pub mesh_measures : measure (empty_mesh (subdivisions s)) ≡ 0 → measure (mesh_of s) ≡ over_cells s part_at part_on_side
  mesh_measures =
      mesh_adds Measures s part_at part_on_side (λ x y z. cell_measures (regular_cell s x y z)) (λ side u v. cell_measures (transition_cell s side u v))
