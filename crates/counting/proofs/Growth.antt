-- Laws of the counting pass: what steps taken in order add, whatever was there before them.
use Prim.Native.Nat.{ℕ, ◌+◌, ◌^◌, ◌≤◌, ◌<◌}
use native.Mathlib.Nat.{add-zero}
use native.Mathlib.Numerals.{add-one}
use native.Mathlib.Omega.{arith}
use mathlib.Core.Path.{◌≡◌, sym, ap, ◌∙◌, subst}
use mathlib.Core.List.{List}
use lib.Ieee.{Float}
use lib.ListN.{length}
use Rattle.laws.specs.Steps.{iterate}
use Rattle.model.specs.declared.Counts.{Counts}
use Rattle.model.specs.Limits.{side_count}
use Rattle.model.specs.Star.{Star, subdivisions}
use Rattle.model.specs.Mesh.{Cell, Mesh, empty_mesh, cell_step, regular_layer, regular_mesh, transition_side, mesh_of}
use Rattle.model.specs.Adding.{cell_triangles}
use Rattle.cells.specs.declared.SheetIndex.{SheetIndex}
use Rattle.cells.specs.SheetCells.{sheet_cell}
use Rattle.cells.specs.Puts.{Adds, Few, SameMade}
use Rattle.cases.specs.Sheets.{row_start, sheet_places}
use Rattle.cases.specs.Marks.{NextMarked}
use Rattle.walk.specs.Order.{Held, SheetIn, row_to, rows_to, whole_sheet}
use Rattle.counting.specs.Counting.{plus, Grows, Counted}
use Rattle.walk.specs.Walk.{cell_made, row_skip, sheet_whole}

abbrev none : Counts
none = record { vertices = 0; triangles = 0 }

-- before each sheet that is come to: its two lists have their places, and what so many cells have added is known, whatever the samples are
-- that they do not read
pub record Come (cells : ℕ) (step : List Float → Mesh → Mesh) (cases marks : List ℕ) (counts : Counts) : Type 0 where
  pub cases_long : length cases ≡ sheet_places
  pub marks_long : length marks ≡ sheet_places
  pub few : Few cells counts
  pub grows : (others : List Float) → Grows (step others) counts

-- ---- few

pub few_none : Few 0 none
few_none = record { vertices = omega arith; triangles = omega arith }

pub few_more : {cells more : ℕ} {counts counts' : Counts} → Few cells counts → Few more counts' → Few (cells + more) (plus counts counts')
few_more f g = record { vertices = omega (arith, f.vertices, g.vertices); triangles = omega (arith, f.triangles, g.triangles) }

pub few_of : {cells : ℕ} {counts : Counts} (most : ℕ) → cells ≤ most → Few cells counts → Few most counts
few_of most h f = record { vertices = omega (arith, f.vertices); triangles = omega (arith, f.triangles) }

-- the counts of few cells can be added
pub plus_fits : {cells more : ℕ} {counts counts' : Counts} → Few cells counts → Few more counts' → cells + more ≤ 2 ^ 32
    → (counts.vertices + counts'.vertices < 2 ^ 64) × (counts.triangles + counts'.triangles < 2 ^ 64)
plus_fits f g few = (omega (arith, f.vertices, g.vertices), omega (arith, f.triangles, g.triangles))

-- ---- steps

pub grows_none : Grows (λ m. m) none
grows_none = record { vertices = λ m. sym (add-zero _); triangles = λ m. sym (add-zero _) }

grows_cell : (c : Cell) (counts : Counts) → Adds c counts.vertices counts.triangles → Grows (cell_step c) counts
grows_cell c counts adds =
    record {
      vertices = λ m. cc (cell_made c m, adds.vertices (length m.made) m.store);
      triangles = λ m. cc (cell_triangles c m, adds.triangles);
    }

-- one step, and then another
grows_then : {step step' : Mesh → Mesh} {counts counts' : Counts} → Grows step counts → Grows step' counts'
    → Grows (λ m. step' (step m)) (plus counts counts')
grows_then {step} g h =
    record {
      vertices = λ m. omega (arith, g.vertices m, h.vertices (step m));
      triangles = λ m. omega (arith, g.triangles m, h.triangles (step m));
    }

-- a step that makes the same
pub grows_made : {step step' : Mesh → Mesh} {counts : Counts} → ((m : Mesh) → SameMade (step m) (step' m)) → Grows step counts → Grows step' counts
grows_made same g =
    record {
      vertices = λ m. sym (ap length (same m).made_same) ∙ g.vertices m;
      triangles = λ m. sym (ap length (same m).triangles_same) ∙ g.triangles m;
    }

-- and one that comes to the same mesh
pub grows_as : {step step' : Mesh → Mesh} {counts : Counts} → ((m : Mesh) → step' m ≡ step m) → Grows step counts → Grows step' counts
grows_as same g = record { vertices = λ m. rw same (g.vertices m); triangles = λ m. rw same (g.triangles m) }

-- one step more of many
pub grows_more : (f : ℕ → Mesh → Mesh) (k : ℕ) {counts more : Counts} → Grows (iterate f k) counts → Grows (f k) more
    → Grows (iterate f (k + 1)) (plus counts more)
grows_more f k g h = rw add-one (grows_then g h)

-- ---- a sheet of cells

module _ (s : Star) (sheet : SheetIndex) {n : ℕ} {layer side marks : List ℕ} (held : Held s sheet n layer side marks) (u : ℕ) (u_in : u < n) where
  -- those up to the next one that is marked, and that one
  pub grows_past : (from v : ℕ) (counts more : Counts) → NextMarked n marks (row_start n u) from v → Grows (row_to (sheet_cell s sheet u) from) counts
      → Adds (sheet_cell s sheet u v) more.vertices more.triangles → Grows (row_to (sheet_cell s sheet u) (v + 1)) (plus counts more)
  grows_past from v counts more step g adds =
      grows_more (λ v. cell_step (sheet_cell s sheet u v)) v (grows_made (row_skip s sheet held u from v u_in step) g) (grows_cell _ more adds)

  pub grows_end : (from : ℕ) (counts : Counts) → NextMarked n marks (row_start n u) from n → Grows (row_to (sheet_cell s sheet u) from) counts
      → Grows (row_to (sheet_cell s sheet u) n) counts
  grows_end from counts step g = grows_made (row_skip s sheet held u from n u_in step) g

-- a whole sheet
pub sheet_grows : (s : Star) (n u : ℕ) {counts : Counts} → subdivisions s ≡ n → u ≡ n → (sheet : SheetIndex) → SheetIn s sheet
    → Grows (rows_to (sheet_cell s sheet) n u) counts → Grows (whole_sheet s sheet) counts
sheet_grows s n u {counts} n_is end sheet is g =
    let to_end = subst (λ (k : ℕ). Grows (rows_to (sheet_cell s sheet) n k) counts) end g in
    grows_as (λ m. sym (sheet_whole s sheet is m))
    (subst (λ (k : ℕ). Grows (rows_to (sheet_cell s sheet) k k) counts) (sym n_is) to_end)

pub counted_mesh : (s : Star) (regular transition : Counts) → Grows (iterate (regular_layer s) (subdivisions s)) regular
    → Grows (iterate (transition_side s) side_count) transition → Counted (mesh_of s) (plus regular transition)
unfolding mesh_of regular_mesh empty_mesh
counted_mesh s regular transition g h =
    let start = empty_mesh (subdivisions s) in
    record {
      vertices_are = omega (arith, g.vertices start, h.vertices (iterate (regular_layer s) (subdivisions s) start));
      triangles_are = omega (arith, g.triangles start, h.triangles (iterate (regular_layer s) (subdivisions s) start));
    }
