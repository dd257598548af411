-- Laws of the walk over the cells: sheet by sheet, and over a sheet row by row; nothing that was made is taken away.
use Prim.Native.Nat.{ℕ, zero, suc, ◌+◌, ◌≤◌, ◌<◌}
use Rattle.std.proofs.Common.{le_refl, le_trans, sym, ◌∙◌}
use Rattle.std.proofs.Math.Numerals.{add-one}
use native.Mathlib.Omega.{arith}
use Rattle.std.specs.Prelude.{◌≡◌, Bool, cond, List, Float, length}
use Rattle.std.proofs.Math.Path.{refl}
use Rattle.std.proofs.Math.Bool.{true, false}
use Rattle.std.proofs.Math.ListN.{length-append}
use Rattle.laws.specs.Steps.{iterate}
use Rattle.laws.specs.Iterated.{iterate_upto, steps_skip}
use Rattle.model.specs.Limits.{side_count}
use Rattle.model.specs.Sides.{named}
use Rattle.model.specs.Star.{Star, subdivisions}
use Rattle.model.specs.Mesh.{Cell, Mesh, filled, empty_mesh, cell_step, regular_cell, regular_column, regular_layer, regular_mesh, regular_to, transition_cell, transition_row, transition_side, transition_to, mesh_of}
use Rattle.grid.specs.SideLaws.{NextSide}
use Rattle.cases.specs.Sheets.{row_start}
use Rattle.cases.specs.Marks.{uncut, NextMarked}
use Rattle.cells.specs.declared.SheetIndex.{SheetIndex}
use Rattle.cells.specs.declared.SheetIndex.TheVariants.{Layer, Side}
use Rattle.cells.specs.SheetCells.{sheet_cell, case_at, all_of}
use Rattle.cells.specs.Puts.{Nothing, SameMade}
use Rattle.cells.specs.Uncut.{nothing_step, made_skip, regular_nothing, transition_nothing}
use Rattle.layers.specs.Over.{Trusted, NextLayer}
use Rattle.layers.specs.Layered.{layer_nothing}
use Rattle.walk.specs.Order.{Held, SheetIn, row_to, rows_to, row_before, whole_sheet, sheet_after}

module _ (c : Cell) (m : Mesh) where
  pub cell_made : length (cell_step c m).made ≡ length m.made + length (filled c m).made
  unfolding cell_step
  cell_made = length-append m.made (filled c m).made

-- ---- what a later mesh has at least

pub record Upto (m m' : Mesh) : Type 0 where
  pub vertices : length m.made ≤ length m'.made
  pub triangles : length m.triangles ≤ length m'.triangles

upto_same : (m : Mesh) → Upto m m
upto_same m = record { vertices = le_refl _; triangles = le_refl _ }

pub upto_trans : {m m' m'' : Mesh} → Upto m m' → Upto m' m'' → Upto m m''
upto_trans h k = record { vertices = le_trans h.vertices k.vertices; triangles = le_trans h.triangles k.triangles }

upto_cell : (c : Cell) (m : Mesh) → Upto m (cell_step c m)
unfolding cell_step
upto_cell c m = record { vertices = rw length-append (omega arith); triangles = rw length-append (omega arith) }

module _ (f : ℕ → Mesh → Mesh) (grows : (k : ℕ) (m : Mesh) → Upto m (f k m)) (m : Mesh) where
  upto_iterate : (j k : ℕ) → j ≤ k → Upto (iterate f j m) (iterate f k m)
  upto_iterate j k h =
      record {
        vertices = iterate_upto (λ (m : Mesh). length m.made) f (λ k m. (grows k m).vertices) m j k h;
        triangles = iterate_upto (λ (m : Mesh). length m.triangles) f (λ k m. (grows k m).triangles) m j k h;
      }

-- ---- a sheet of cells

unmarked : (cut : Bool) → ◌≡◌ {A = ℕ} (cond cut 0 1) 0 → cut ≡ true
unmarked true e = refl
unmarked false e = absurd (let x : ⊥ = omega arith in x)

nothing : (s : Star) (sheet : SheetIndex) (u v : ℕ) → uncut (case_at s sheet u v) (all_of sheet) ≡ true → Nothing (sheet_cell s sheet u v)
nothing s (Layer x) = regular_nothing s x
nothing s (Side side) = transition_nothing s side

module _ (s : Star) (sheet : SheetIndex) {n : ℕ} {layer side marks : List ℕ} (held : Held s sheet n layer side marks) where
  -- the cells of a row that are not marked are stepped over: they only read their samples
  module _ (u from next : ℕ) (u_in : u < n) (step : NextMarked n marks (row_start n u) from next) where
    passed : (v : ℕ) → from ≤ v → v < next → (m : Mesh) → SameMade (cell_step (sheet_cell s sheet u v) m) m
    passed v l h =
        nothing_step _
        (nothing s sheet u v (unmarked _ (sym (held.marked.case_at u v u_in (omega (arith, step.within))) ∙ step.none_marked v l h)))

    pub row_skip : (m : Mesh) → SameMade (row_to (sheet_cell s sheet u) from m) (row_to (sheet_cell s sheet u) next m)
    row_skip m = made_skip (λ v. cell_step (sheet_cell s sheet u v)) m from next step.ordered passed

module _ (cell : ℕ → ℕ → Cell) (n : ℕ) (m : Mesh) where
  upto_rows : (u : ℕ) (m : Mesh) → Upto m (row_to (cell u) n m)
  upto_rows u m = upto_iterate (λ v. cell_step (cell u v)) (λ v. upto_cell (cell u v)) m 0 n (omega arith)

  -- after a cell there is at most what there is after the sheet
  pub cell_upto : (u v : ℕ) → u < n → v < n
      → Upto (cell_step (cell u v) (row_to (cell u) v (rows_to cell n u m))) (rows_to cell n n m)
  cell_upto u v hu hv =
      upto_trans (upto_iterate (λ v. cell_step (cell u v)) (λ v. upto_cell (cell u v)) (rows_to cell n u m) (suc v) n hv)
      (upto_iterate (λ u. row_to (cell u) n) upto_rows m (suc u) n hu)

-- ---- layers and sides

module _ (s : Star) where
  upto_column : (x y : ℕ) (m : Mesh) → Upto m (regular_column s x y m)
  unfolding regular_column
  upto_column x y m = upto_iterate _ (λ z. upto_cell (regular_cell s x y z)) m 0 (subdivisions s) (omega arith)

  upto_layer : (x : ℕ) (m : Mesh) → Upto m (regular_layer s x m)
  unfolding regular_layer
  upto_layer x m = upto_iterate _ (upto_column x) m 0 (subdivisions s) (omega arith)

  upto_row : (side u : ℕ) (m : Mesh) → Upto m (transition_row s side u m)
  unfolding transition_row
  upto_row side u m = upto_iterate _ (λ v. upto_cell (transition_cell s side u v)) m 0 (subdivisions s) (omega arith)

  upto_side : (side : ℕ) (m : Mesh) → Upto m (transition_side s side m)
  unfolding transition_side
  upto_side side m = go (named s.mask side)
    where
      go : (b : Bool) → Upto m (cond b (iterate (transition_row s side) (subdivisions s) m) m)
      go true = upto_iterate (transition_row s side) (upto_row side) m 0 (subdivisions s) (omega arith)
      go false = upto_same m

  -- ---- a sheet of either kind

  pub sheet_whole : (sheet : SheetIndex) → SheetIn s sheet → (m : Mesh)
      → rows_to (sheet_cell s sheet) (subdivisions s) (subdivisions s) m ≡ whole_sheet s sheet m
  unfolding regular_layer regular_column transition_side transition_row
  sheet_whole (Layer x) is m = refl
  sheet_whole (Side side) is m = rw is.1

  pub sheet_after_lem : (sheet : SheetIndex) → SheetIn s sheet → row_before s sheet (subdivisions s) ≡ sheet_after s sheet
  unfolding regular_to transition_to
  sheet_after_lem (Layer x) is = rw add-one (sheet_whole (Layer x) is (iterate (regular_layer s) x (empty_mesh (subdivisions s))))
  sheet_after_lem (Side side) is = rw add-one (sheet_whole (Side side) is (iterate (transition_side s) side (regular_mesh s)))

  pub after_upto : (sheet : SheetIndex) → SheetIn s sheet → Upto (sheet_after s sheet) (mesh_of s)
  unfolding regular_to transition_to regular_mesh mesh_of
  after_upto (Layer x) is =
      rw add-one
      (upto_trans (upto_iterate (regular_layer s) upto_layer _ (suc x) (subdivisions s) is) (upto_iterate (transition_side s) upto_side _ 0 side_count (omega arith)))
  after_upto (Side side) is = rw add-one (upto_iterate (transition_side s) upto_side _ (suc side) side_count is.0)

  -- ---- regular cells

  pub regular_start : regular_to s 0 0 0 ≡ empty_mesh (subdivisions s)
  unfolding regular_to
  regular_start = refl

  pub regular_end : (x : ℕ) → x ≡ subdivisions s → regular_to s x 0 0 ≡ regular_mesh s
  unfolding regular_to regular_mesh
  regular_end x e = rw e

  -- ---- transition cells

  pub transition_start : transition_to s 0 0 0 ≡ regular_mesh s
  unfolding transition_to
  transition_start = refl

  pub transition_end : (side : ℕ) → side ≡ side_count → transition_to s side 0 0 ≡ mesh_of s
  unfolding transition_to mesh_of
  transition_end side e = rw e

  -- sides that are not named are stepped over
  side_unnamed : (side : ℕ) → named s.mask side ≡ false → (m : Mesh) → transition_side s side m ≡ m
  unfolding transition_side
  side_unnamed side h m = rw h

  pub sides_skip : (m : Mesh) (side next : ℕ) → NextSide s.mask side next → iterate (transition_side s) side m ≡ iterate (transition_side s) next m
  sides_skip m side next step =
      steps_skip (transition_side s) m side next step.from_le (λ i a b. side_unnamed i (step.none_between i a b))

  pub transition_skip : (side next : ℕ) → NextSide s.mask side next → transition_to s side 0 0 ≡ transition_to s next 0 0
  unfolding transition_to
  transition_skip = sides_skip (regular_mesh s)

  -- with no named side all of them are
  pub none_named : s.mask ≡ 0 → (side : ℕ) → side < side_count → named s.mask side ≡ false
  unfolding named
  none_named e side h = rw e (unnamed side h)
    where
      unnamed : (i : ℕ) → i < side_count → named 0 i ≡ false
      unnamed zero h = refl
      unnamed (suc zero) h = refl
      unnamed (suc (suc zero)) h = refl
      unnamed (suc (suc (suc zero))) h = refl
      unnamed (suc (suc (suc (suc zero)))) h = refl
      unnamed (suc (suc (suc (suc (suc zero))))) h = refl
      unnamed (suc (suc (suc (suc (suc (suc i)))))) h = absurd (let x : ⊥ = omega arith in x)

  pub no_sides : s.mask ≡ 0 → (m : Mesh) → iterate (transition_side s) side_count m ≡ m
  no_sides e m = sym (steps_skip (transition_side s) m 0 side_count (omega arith) (λ i a b. side_unnamed i (none_named e i b)))

  -- ---- layers passed over

  -- they make nothing, so that what is made up to one layer is made up to the next that is not passed over
  module _ (summary : List Float) (t : Trusted (subdivisions s) s.centre summary) (from next : ℕ)
      (step : NextLayer (subdivisions s) s.threshold summary from next) where
    passed_layer : (x : ℕ) → from ≤ x → x < next → (m : Mesh) → SameMade (regular_layer s x m) m
    passed_layer x l u = layer_nothing s summary t x (omega (arith, step.within)) (step.all_over x l u)

    pub layers_skip : (m : Mesh) → SameMade (iterate (regular_layer s) from m) (iterate (regular_layer s) next m)
    layers_skip m = made_skip (regular_layer s) m from next step.ordered passed_layer

    pub regular_skip : SameMade (regular_to s from 0 0) (regular_to s next 0 0)
    unfolding regular_to
    regular_skip = layers_skip (empty_mesh (subdivisions s))
