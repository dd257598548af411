-- Laws of the writing pass: a cell is written into the buffers, and what stands in them at the end.
use Prim.Native.Nat.{ℕ, ◌+◌, ◌*◌, ◌≤◌, ◌<◌}
use native.Mathlib.Nat.{zero-add}
use native.Mathlib.Numerals.{add-one}
use native.Mathlib.Omega.{arith}
use mathlib.Core.Path.{◌≡◌, refl, sym, ap, ◌∙◌}
use mathlib.Core.List.{List, ◌++◌}
use lib.Ieee.{Float}
use lib.ListN.{length, replicate, length-append}
use lib.Seq.{take_all}
use Rattle.laws.specs.Steps.{listed, each}
use Rattle.model.specs.declared.Buffers.{Buffers}
use Rattle.model.specs.Lists.{SameLists}
use Rattle.model.specs.Star.{Star, subdivisions}
use Rattle.model.specs.Mesh.{Cell, Mesh, fill_to, triangle_of, filled, empty_mesh, regular_to, cell_step, store_length, mesh_of}
use Rattle.model.specs.Adding.{cell_triangles}
use Rattle.model.specs.Extraction.{vertex_floats, triangle_indices}
use Rattle.model.specs.Edges.{edge_number}
use Rattle.grid.specs.Shape.{Shaped}
use Rattle.points.specs.CellPoints.{Centred}
use Rattle.cells.specs.declared.Progress.{Progress}
use Rattle.cells.specs.declared.SheetIndex.{SheetIndex}
use Rattle.cells.specs.declared.SheetIndex.TheVariants.{Layer, Side}
use Rattle.codes.specs.Kinds.{Ready as CellReady}
use Rattle.cells.specs.SheetCells.{cell_at, sheet_cell}
use Rattle.vertices.specs.Buffers.{lay_vertices, lay_triangles, lay_edges}
use Rattle.laws.specs.Lists.{length_listed, each_append}
use Rattle.laws.specs.Laying.{lay_none, lay_append, length_lay, take_lay}
use Rattle.vertices.specs.Fills.{length_fill_store}
use Rattle.cases.specs.Sheets.{row_start, sheet_places}
use Rattle.cases.specs.Marks.{NextMarked}
use Rattle.vertices.specs.Puts.{Room}
use Rattle.cells.specs.Puts.{CellPut, SameMade}
use Rattle.walk.specs.Order.{Held, SheetIn, row_to, row_before, sheet_before}
use Rattle.writing.specs.Writing.{Fits, Holds, ReadTo, SameLengths, KeptLengths, HoldsIn, Exact, Written}
use Rattle.writing.specs.Lengths.{same_then}
use Rattle.walk.specs.Walk.{regular_start, cell_made, Upto, upto_trans, row_skip, cell_upto, sheet_after_lem, after_upto}

-- what was not touched is as long as it was
pub same_self : {vertices : List Float} {triangles store edges : List ℕ} → SameLengths vertices vertices triangles triangles store store edges edges
same_self = record { vertices_same = refl; triangles_same = refl; store_same = refl; edges_same = refl }

-- a mesh of which only the reads differ is held as well
pub holds_same : {m m' : Mesh} {counts : Progress} {vertices : List Float} {triangles store edges : List ℕ} → SameMade m m'
    → Holds m counts vertices triangles store edges → Holds m' counts vertices triangles store edges
holds_same same h =
    record {
      vertex_count_lem = h.vertex_count_lem ∙ ap length same.made_same;
      triangle_count_lem = h.triangle_count_lem ∙ ap length same.triangles_same;
      read_so_far = h.read_so_far;
      vertices_are = h.vertices_are ∙ ap (each vertex_floats) same.made_same;
      triangles_are = h.triangles_are ∙ ap (each triangle_indices) same.triangles_same;
      store_is = h.store_is ∙ same.store_same;
      numbered = record { before = h.numbered.before; edges_are = h.numbered.edges_are ∙ ap (lay_edges h.numbered.before 0) same.made_same };
    }

lists_then : (out out' out'' : Buffers) → SameLists out out' → SameLists out' out'' → SameLists out out''
lists_then out out' out'' h k = (k.0 ∙ h.0, k.1 ∙ h.1, k.2 ∙ h.2, k.3 ∙ h.3)

-- the lists are those that were lent, as long as they were, and hold a mesh
pub record SoFar (m : Mesh) (counts : Progress) (out₀ out : Buffers) : Type 0 where
  pub same : SameLists out₀ out
  pub kept : KeptLengths out₀ out
  pub holds : HoldsIn m counts out

pub so_far_none : {m : Mesh} {counts : Progress} {out : Buffers} → HoldsIn m counts out → SoFar m counts out out
so_far_none holds = record { same = (refl, refl, refl, refl); kept = same_self; holds = holds }

-- and then another
pub so_far_then : {m m' : Mesh} {counts counts' : Progress} {out₀ out out' : Buffers} → SoFar m counts out₀ out
    → SameLists out out' → KeptLengths out out' → HoldsIn m' counts' out' → SoFar m' counts' out₀ out'
so_far_then {out₀ = out₀} {out = out} {out' = out'} before same kept holds =
    record { same = lists_then out₀ out out' before.same same; kept = same_then before.kept kept; holds = holds }

pub so_far_made : {m m' : Mesh} {counts : Progress} {out₀ out : Buffers} → SameMade m m' → SoFar m counts out₀ out → SoFar m' counts out₀ out
so_far_made made before = record { same = before.same; kept = before.kept; holds = holds_same made before.holds }

pub so_far_as : {m m' : Mesh} {counts : Progress} {out₀ out : Buffers} → m ≡ m' → SoFar m counts out₀ out → SoFar m' counts out₀ out
so_far_as e before = rw e at before

-- before each sheet that is come to: its two lists have their places, the buffers hold a mesh, and it is known what was read for so many sheets
pub record Come (m : Mesh) (read sheets : ℕ) (out₀ out : Buffers) (cases marks : List ℕ) (counts : Progress) (reads : ℕ) : Type 0 where
  pub cases_long : length cases ≡ sheet_places
  pub marks_long : length marks ≡ sheet_places
  pub so_far : SoFar m counts out₀ out
  pub read_to : ReadTo read sheets reads

-- ---- a cell written

-- where the store is cleared, the buffers hold the mesh that has no cell
pub holds_none : (s : Star) {vertices : List Float} {triangles store edges : List ℕ} → store ≡ replicate (store_length (subdivisions s)) 0
    → Holds (regular_to s 0 0 0) (record { vertices = 0; triangles = 0; reads = 0 }) vertices triangles store edges
unfolding empty_mesh
holds_none s {vertices} {triangles} {store} {edges} cleared =
    rw (regular_start s)
    (record {
      vertex_count_lem = refl;
      triangle_count_lem = refl;
      read_so_far = refl;
      vertices_are = refl;
      triangles_are = refl;
      store_is = cleared;
      numbered = record { before = edges; edges_are = sym (lay_none 1 edge_number edges 0) };
    })

-- a cell can be written: the buffers hold the mesh before it, and have room for a mesh that has it
pub record Ready (s : Star) (c : Cell) (m : Mesh) (counts : Progress) (vertices : List Float) (triangles store edges : List ℕ) : Type 0 where
  pub holds : Holds m counts vertices triangles store edges
  pub upto : Upto (cell_step c m) (mesh_of s)
  pub fits : Fits s vertices triangles store

module _ {s : Star} {c : Cell} {m : Mesh} {counts : Progress} {vertices : List Float} {triangles store edges : List ℕ}
    (ready : Ready s c m counts vertices triangles store edges) where
  filled_is : fill_to c counts.vertices store c.vertices ≡ filled c m
  filled_is = cc

  -- the room that a cell wants is there
  pub room_vertices : Room 6 (counts.vertices + length (fill_to c counts.vertices store c.vertices).made) vertices
  room_vertices =
      let e : counts.vertices + length (fill_to c counts.vertices store c.vertices).made ≡ length (cell_step c m).made =
      cc (filled_is, cell_made c m) in
      record { room = omega arith; short = omega arith }

  pub room_triangles : Room 3 (counts.triangles + c.triangles) triangles
  room_triangles =
      let e : counts.triangles + c.triangles ≡ length (cell_step c m).triangles = cc (cell_triangles c m) in
      record { room = omega arith; short = omega arith }

  pub holds_more : (counts' : Progress) (vertices' : List Float) (triangles' store' edges' : List ℕ)
      → CellPut c counts.vertices counts.triangles vertices triangles store counts'.vertices counts'.triangles counts'.reads vertices' triangles' store'
      → edges' ≡ lay_edges edges counts.vertices (fill_to c counts.vertices store c.vertices).made
      → Holds (cell_step c m) counts' vertices' triangles' store' edges'
  unfolding cell_step
  holds_more counts' vertices' triangles' store' edges' put listed-too =
      let new = (filled c m).made in
      let sent = listed (triangle_of c (filled c m).index) c.triangles in
      let nv = counts.vertices in
      let nt = counts.triangles in
      let f = filled_is in
      let k : length sent ≡ c.triangles = length_listed (triangle_of c (filled c m).index) c.triangles in
      let ev : counts'.vertices ≡ nv + length new = cc in
      let et : counts'.triangles ≡ nt + length sent = cc in
      let lv : vertices' ≡ lay_vertices vertices nv new = cc in
      let lt : triangles' ≡ lay_triangles triangles nt sent = cc in
      let le : edges' ≡ lay_edges edges (length m.made) new = cc in
      let old = ready.holds.numbered in
      let together : lay_edges (lay_edges old.before 0 m.made) (length m.made) new ≡ lay_edges old.before 0 (m.made ++ new) =
      rw zero-add at (lay_append 1 edge_number (λ t. refl) old.before 0 m.made new) in
      let made : length (fill_to c nv store c.vertices).made ≡ length new = cc in
      let rv : 6 * (nv + length new) ≤ length vertices = omega (arith, room_vertices.room) in
      let rt : 3 * (nt + length sent) ≤ length triangles = omega (arith, room_triangles.room) in
      record {
        vertex_count_lem = cc (length-append m.made new);
        triangle_count_lem = cc (length-append m.triangles sent);
        read_so_far = put.reads_are;
        vertices_are = rw (ev, lv, take_lay 6 vertex_floats (λ t. refl) vertices nv new rv, ready.holds.vertices_are, each_append vertex_floats m.made new);
        triangles_are = rw (et, lt, take_lay 3 triangle_indices (λ t. refl) triangles nt sent rt, ready.holds.triangles_are, each_append triangle_indices m.triangles sent);
        store_is = cc;
        numbered =
            record {
              before = old.before;
              edges_are = le ∙ ap (λ (l : List ℕ). lay_edges l (length m.made) new) old.edges_are ∙ together;
            };
      }

-- a cell that is put leaves the lists as long as they were
pub put_keeps : (c : Cell) (nv nt : ℕ) {nv' nt' reads : ℕ} {vertices vertices' : List Float} {triangles triangles' store store' edges edges' : List ℕ}
    → CellPut c nv nt vertices triangles store nv' nt' reads vertices' triangles' store'
    → edges' ≡ lay_edges edges nv (fill_to c nv store c.vertices).made
    → SameLengths vertices vertices' triangles triangles' store store' edges edges'
put_keeps c nv nt {store = store} put e =
    record {
      vertices_same = ap length put.vertices_are ∙ length_lay 6 vertex_floats _ nv _;
      triangles_same = ap length put.triangles_are ∙ length_lay 3 triangle_indices _ nt _;
      store_same = ap length put.store_is ∙ length_fill_store c nv store c.vertices;
      edges_same = ap length e ∙ length_lay 1 edge_number _ nv _;
    }

-- ---- a sheet of cells

-- each of its cells is one of the block's, and what it reads is there
pub cell_ready : (s : Star) (fractions : List Float) → Shaped s → Centred (subdivisions s) fractions s.centre → (sheet : SheetIndex) → SheetIn s sheet
    → (u v : ℕ) → u < subdivisions s → v < subdivisions s → CellReady s fractions (cell_at sheet u v)
cell_ready s fractions shaped centred (Layer x) is u v hu hv =
    record { centred = centred; placed = record { x_in = is; y_in = hu; z_in = hv }; beside = tt }
cell_ready s fractions shaped centred (Side side) is u v hu hv =
    record {
      centred = centred;
      placed = record { side_in = is.0; u_in = hu; v_in = hv };
      beside = record { few = shaped.few; sides = shaped.sides; side_is = is.0; is_named = is.1; neighbours_are = shaped.neighbours_are };
    }

module _ (s : Star) (sheet : SheetIndex) (u : ℕ) (u_in : u < subdivisions s) where
  abbrev cell : ℕ → Cell
  cell = sheet_cell s sheet u

  -- the mesh before a cell of the row
  abbrev before : ℕ → Mesh
  before v = row_to cell v (row_before s sheet u)

  module _ {layer side marks : List ℕ} (held : Held s sheet (subdivisions s) layer side marks)
      {counts : Progress} {vertices : List Float} {triangles store edges : List ℕ} where
    -- the cells that are not marked make nothing
    pub holds_skip : (from next : ℕ) → NextMarked (subdivisions s) marks (row_start (subdivisions s) u) from next
        → Holds (before from) counts vertices triangles store edges → Holds (before next) counts vertices triangles store edges
    holds_skip from next step = holds_same (row_skip s sheet held u from next u_in step (row_before s sheet u))

  -- a cell can be written, if the mesh fits
  pub ready_at : (v : ℕ) {counts : Progress} {vertices : List Float} {triangles store edges : List ℕ} → v < subdivisions s → SheetIn s sheet
      → Fits s vertices triangles store → Holds (before v) counts vertices triangles store edges → Ready s (cell v) (before v) counts vertices triangles store edges
  ready_at v v_in is fits holds =
      record {
        holds = holds;
        upto = upto_trans (cell_upto (sheet_cell s sheet) (subdivisions s) (sheet_before s sheet) u v u_in v_in) (rw (sheet_after_lem s sheet is) (after_upto s sheet is));
        fits = fits;
      }

-- after its last cell the next row begins
pub row_done : (s : Star) (sheet : SheetIndex) (u : ℕ) → row_to (sheet_cell s sheet u) (subdivisions s) (row_before s sheet u) ≡ row_before s sheet (u + 1)
row_done s sheet u = rw add-one

-- ---- at the end

pub holds_all : (s : Star) (counts : Progress) (vertices : List Float) (triangles store edges : List ℕ)
    → Exact s vertices triangles store → Holds (mesh_of s) counts vertices triangles store edges → Written (mesh_of s) vertices triangles store
holds_all s counts vertices triangles store edges exact h =
    record {
      vertices_are = sym (take_all (6 * counts.vertices) vertices (omega arith)) ∙ h.vertices_are;
      triangles_are = sym (take_all (3 * counts.triangles) triangles (omega arith)) ∙ h.triangles_are;
      store_is = h.store_is;
    }
