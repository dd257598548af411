-- A cell by its case: the rows of the tables describe it, and they can be followed.
use Prim.Native.Nat.{ℕ, ◌+◌, ◌*◌, ◌≤◌, ◌<◌}
use mathlib.Core.Path.{◌≡◌}
use mathlib.Core.Bool.{Bool}
use mathlib.Core.List.{List}
use native.Mathlib.Omega.{arith}
use lib.Ieee.{Float}
use lib.ListN.{length, get_or}
use Rattle.tables.specs.Arrays.{regular_codes_long, regular_cell_long, transition_codes_long, transition_cell_long}
use Rattle.tables.specs.Cases.{vertices_of, triangles_of, corner_of}
use Rattle.tables.specs.Cases.{regular_codes, regular_code, regular_vertices, regular_triangles, regular_corner}
use Rattle.tables.specs.Cases.{regular_cell as regularRow, transition_cell as transition_row}
use Rattle.tables.specs.Cases.{transition_codes, transition_code, transition_vertices, transition_triangles, transition_corner}
use Rattle.tables.specs.RulesCorners.{CellRight}
use Rattle.tables.proofs.RulesCorners.{regular_cell_right, regular_class_small, transition_cell_right, transition_class_small}
use Rattle.tables.proofs.RulesSlots.{regular_code_right}
use Rattle.tables.proofs.RulesBorder.{transition_code_right}
use Rattle.model.specs.Star.{Star}
use Rattle.model.specs.Mesh.{Cell, fill_to, regular_cell, transition_cell}
use Rattle.codes.specs.declared.CellIndex.{CellIndex}
use Rattle.codes.specs.declared.CellRows.{CellRows}
use Rattle.codes.specs.Rows.{rows_cell}
use Rattle.cells.specs.declared.SheetIndex.{SheetIndex}
use Rattle.cells.specs.declared.SheetIndex.TheVariants.{Layer, Side}
use Rattle.vertices.specs.Buffers.{lay_edges}
use Rattle.vertices.specs.Puts.{Room}
use Rattle.cells.specs.Puts.{CellPut, Adds}
use Rattle.cells.specs.Rows.{Followed}
use Rattle.codes.specs.Kinds.{Usable, cell_of, Coded}
use Rattle.cells.specs.SheetCells.{cell_at, sheet_cell, case_at, all_of, codes_of, row_of, turned_of}
use Rattle.cells.specs.LentSheets.{RowsOf}

-- ---- the same cell under two names

module _ {c d : Cell} (same : c ≡ d) where
  pub vertex_room : (nv : ℕ) (vertices : List Float) (store : List ℕ) → Room 6 (nv + length (fill_to d nv store d.vertices).made) vertices
      → Room 6 (nv + length (fill_to c nv store c.vertices).made) vertices
  vertex_room nv vertices store room = rw same room

  pub triangle_room : (nt : ℕ) (triangles : List ℕ) → Room 3 (nt + d.triangles) triangles → Room 3 (nt + c.triangles) triangles
  triangle_room nt triangles room = rw same room

  pub put_as : (nv nt : ℕ) (vertices : List Float) (triangles store : List ℕ) (nv' nt' reads : ℕ) (vertices' : List Float) (triangles' store' : List ℕ)
      → CellPut c nv nt vertices triangles store nv' nt' reads vertices' triangles' store'
      → CellPut d nv nt vertices triangles store nv' nt' reads vertices' triangles' store'
  put_as nv nt vertices triangles store nv' nt' reads vertices' triangles' store' put = rw same at put

  pub edges_as : (nv : ℕ) (edges store edges' : List ℕ) → edges' ≡ lay_edges edges nv (fill_to c nv store c.vertices).made
      → edges' ≡ lay_edges edges nv (fill_to d nv store d.vertices).made
  edges_as nv edges store edges' e = rw same at e

  pub adds_as : {dv dt : ℕ} → Adds c dv dt → Adds d dv dt
  adds_as adds = rw same at adds

-- ---- rows of either table

abbrev Right : ℕ → List ℕ → Type 0
Right most row = CellRight most (vertices_of row) (triangles_of row) (corner_of row)

followed : (most : ℕ) (row : List ℕ) → most ≤ 12 → 3 * most < length row → Right most row → Followed row
followed most row few long right =
    record {
      there = omega arith;
      few_vertices = right.vertices_most;
      few_triangles = omega arith;
      corner_in_lem = λ j h. omega (arith, right.corner_below j h);
    }

coded : (at : CellIndex) (codes : List ℕ) (count : ℕ) → length codes ≡ 12 → count ≤ 12
    → ((i : ℕ) → i < count → Usable at (get_or codes i 0)) → Coded at codes count
coded at codes count long few usable = record { there = omega arith; usable = usable }

regular_right : (case : ℕ) → case < 256 → Right 5 (regularRow case)
unfolding regular_vertices regular_triangles regular_corner
regular_right case small = regular_cell_right case small

transition_right : (case : ℕ) → case < 512 → Right 12 (transition_row case)
unfolding transition_vertices transition_triangles transition_corner
transition_right case small = transition_cell_right case small

-- ---- a sheet's cells

-- the row of a case can be followed
pub sheet_followed : (sheet : SheetIndex) (case : ℕ) (row : List ℕ) → case ≤ all_of sheet → row ≡ row_of sheet case → Followed row
sheet_followed (Layer x) case row small row_is =
    let below : case < 256 = omega arith in
    let long = regular_cell_long case (regular_class_small case below) in
    rw row_is (followed 5 (regularRow case) (omega arith) (omega arith) (regular_right case below))
sheet_followed (Side side) case row small row_is =
    let below : case < 512 = omega arith in
    let long = transition_cell_long case (transition_class_small case below) in
    rw row_is (followed 12 (transition_row case) (omega arith) (omega arith) (transition_right case below))

-- and so can its codes
pub sheet_coded : (sheet : SheetIndex) (case : ℕ) (codes row : List ℕ) → case ≤ all_of sheet → codes ≡ codes_of sheet case → row ≡ row_of sheet case
    → (u v : ℕ) (at : CellIndex) → at ≡ cell_at sheet u v → Coded at codes (vertices_of row)
unfolding regular_code regular_vertices transition_code transition_vertices
sheet_coded (Layer x) case codes row small codes_are row_is u v at at-is =
    let below : case < 256 = omega arith in
    rw (at-is, codes_are, row_is)
    (coded (cell_at (Layer x) u v) (regular_codes case) (vertices_of (regularRow case)) (regular_codes_long case below)
    (regular_right case below).vertices_most
    (λ i h. let r = regular_code_right case i below h in record { a_in = r.a_small; b_in = r.b_small; index_in = r.index_small }))
sheet_coded (Side side) case codes row small codes_are row_is u v at at-is =
    let below : case < 512 = omega arith in
    rw (at-is, codes_are, row_is)
    (coded (cell_at (Side side) u v) (transition_codes case) (vertices_of (transition_row case)) (transition_codes_long case below)
    (transition_right case below).vertices_most
    (λ i h. let r = transition_code_right case i below h in record { a_in = r.a_small; b_in = r.b_small; index_in = r.index_small }))

-- the rows describe the cell
pub sheet_is : (sheet : SheetIndex) (case : ℕ) (codes row : List ℕ) (turned : Bool) → codes ≡ codes_of sheet case → row ≡ row_of sheet case
    → turned ≡ turned_of sheet case → (s : Star) (u v : ℕ) → case ≡ case_at s sheet u v
    → (at : CellIndex) → at ≡ cell_at sheet u v → cell_of s at codes row turned ≡ sheet_cell s sheet u v
unfolding regular_cell regular_code regular_vertices regular_triangles regular_corner transition_cell transition_code transition_vertices transition_triangles transition_corner
sheet_is (Layer x) case codes row turned codes_are row_is turned-is s u v e at at-is = rw (at-is, codes_are, row_is, turned-is, e)
sheet_is (Side side) case codes row turned codes_are row_is turned-is s u v e at at-is = rw (at-is, codes_are, row_is, turned-is, e)

-- ---- the rows as one value

module _ (sheet : SheetIndex) (case u v : ℕ) (rows : CellRows) (of : RowsOf sheet case u v rows) where
  pub rows_followed : case ≤ all_of sheet → Followed rows.row.now
  rows_followed small = sheet_followed sheet case _ small of.row_is

  pub rows_coded : case ≤ all_of sheet → Coded rows.at rows.codes.now (vertices_of rows.row.now)
  rows_coded small = sheet_coded sheet case _ _ small of.codes_are of.row_is u v _ of.at_is

  pub rows_are : (s : Star) → case ≡ case_at s sheet u v → rows_cell s rows ≡ sheet_cell s sheet u v
  rows_are s e = sheet_is sheet case _ _ _ of.codes_are of.row_is of.turned_is s u v e _ of.at_is
