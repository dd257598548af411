-- The cells of the named sides, one after another: what each cell's step keeps holds before each cell and in the end.
use Rattle.std.specs.Prelude.{◌≡◌, refl, Bool, true, false, cond, ℕ, zero, suc, ◌≤◌, ◌<◌}
use Rattle.std.proofs.Common.{le_refl, le_of_lt}
use Rattle.laws.specs.Steps.{iterate}
use Rattle.model.specs.Limits.{side_count}
use Rattle.model.specs.Sides.{named}
use Rattle.model.specs.Star.{Star, subdivisions}
use Rattle.model.specs.Mesh.{Cell, Mesh, cell_step, regular_mesh, transition_cell, transition_row, transition_side, mesh_of}
use Rattle.closed.specs.Indices.{IsSideCell}
use Rattle.finer.specs.Labels.{row_with, side_with, mesh_with}
use Rattle.finer.specs.Clauses.{IsSide}

-- the model's mesh is the one with its own transition cells
pub whole_is : (s : Star) → mesh_of s ≡ mesh_with s (transition_cell s)
unfolding mesh_of transition_side transition_row mesh_with
whole_is s = refl

-- Q side u v of the mesh before the cell (u, v) of a named side, and R side of the mesh before a side
pub record Keeps (s : Star) (cell : ℕ → ℕ → ℕ → Cell) (Q : ℕ → ℕ → ℕ → Mesh → Type 0) (R : ℕ → Mesh → Type 0) : Type 0 where
  pub start : R 0 (regular_mesh s)
  pub enter : (side : ℕ) (m : Mesh) → IsSide s side → R side m → Q side 0 0 m
  pub next : (side u v : ℕ) (m : Mesh) → IsSideCell s side u v → Q side u v m → Q side u (suc v) (cell_step (cell side u v) m)
  pub row : (side u : ℕ) (m : Mesh) → IsSide s side → Q side u (subdivisions s) m → Q side (suc u) 0 m
  pub leave : (side : ℕ) (m : Mesh) → IsSide s side → Q side (subdivisions s) 0 m → R (suc side) m
  pub pass : (side : ℕ) (m : Mesh) → side < side_count → named s.mask side ≡ false → R side m → R (suc side) m

module _ (s : Star) (cell : ℕ → ℕ → ℕ → Cell) (Q : ℕ → ℕ → ℕ → Mesh → Type 0) (R : ℕ → Mesh → Type 0) (k : Keeps s cell Q R) where
  abbrev n : ℕ
  n = subdivisions s

  cells : (side u : ℕ) (m : Mesh) → IsSide s side → u < n → Q side u 0 m → (v : ℕ) → v ≤ n
      → Q side u v (iterate (λ v. cell_step (cell side u v)) v m)
  cells side u m a hu q zero h = q
  cells side u m a hu q (suc v) h = k.next side u v _ (record { side_in = a.side_in; side_named = a.side_named; u_in = hu; v_in = h }) (cells side u m a hu q v (le_of_lt h))

  rows : (side : ℕ) (m : Mesh) → IsSide s side → Q side 0 0 m → (u : ℕ) → u ≤ n → Q side u 0 (iterate (row_with s cell side) u m)
  rows side m a q zero h = q
  rows side m a q (suc u) h = k.row side u _ a (cells side u _ a h (rows side m a q u (le_of_lt h)) n (le_refl _))

  one_side : (side : ℕ) (m : Mesh) → side < side_count → R side m → (b : Bool) → named s.mask side ≡ b
      → R (suc side) (cond b (iterate (row_with s cell side) n m) m)
  one_side side m h r true e =
      let a : IsSide s side = record { side_in = h; side_named = e } in
      k.leave side _ a (rows side m a (k.enter side m a r) n (le_refl _))
  one_side side m h r false e = k.pass side m h e r

  sides : (side : ℕ) → side ≤ side_count → R side (iterate (side_with s cell) side (regular_mesh s))
  sides zero h = k.start
  sides (suc side) h = one_side side _ h (sides side (le_of_lt h)) (named s.mask side) refl

  pub kept_all : R side_count (mesh_with s cell)
  unfolding mesh_with
  kept_all = sides side_count (le_refl _)
