-- Document 01, 'Regular cells' and 'Transition cells': the mesh, a step for each cell in document 01's order, from nothing and an
-- index store of zeros. Both kinds of cell take the same step, which counts the samples that it reads (document 02, [7]). Definitions only.
use Rattle.std.specs.Prelude.{ℕ, ◌+◌, ◌-◌, ◌*◌, ◌/◌, Bool, cond, ◌&&◌, ◌||◌, List, [], ◌∷◌, ◌++◌, eqb, ltb, length, get_or, set, replicate}
use Rattle.tables.specs.Codes.{point_a, point_b, step_x, step_y, step_z, is_new, reuse_index}
use Rattle.tables.specs.Cases.{regular_code, regular_vertices, regular_triangles, regular_corner, transition_code, transition_vertices, transition_triangles, transition_corner, transition_turned}
pub use Rattle.tables.specs.Cases.{sent}
use Rattle.tables.specs.Points.{cell_point}
use Rattle.model.specs.declared.Vertex.{Vertex}
use Rattle.model.specs.declared.Triangle.{Triangle}
use Rattle.laws.specs.Steps.{iterate, listed}
use Rattle.model.specs.Limits.{side_count}
use Rattle.model.specs.Samples.{in_block}
use Rattle.model.specs.Sides.{named}
use Rattle.model.specs.Formulas.{vertex_between}
use Rattle.model.specs.Star.{Star, subdivisions}
use Rattle.model.specs.Points.{corner_point, regular_case, regular_point, transition_case, transition_point}

-- ---- the index store

abbrev pub regular_store : ℕ → ℕ
regular_store n = 4 * (n * n * n)

abbrev pub store_length : ℕ → ℕ
store_length n = regular_store n + 60 * (n * n)

unfoldable pub regular_place : ℕ → ℕ → ℕ → ℕ → ℕ → ℕ
regular_place n x y z r = x + n * y + n * n * z + n * n * n * r

unfoldable pub transition_place : ℕ → ℕ → ℕ → ℕ → ℕ → ℕ
transition_place n side u v r = regular_store n + (side + 6 * u + 6 * n * v + 6 * (n * n) * r)

-- ---- a cell

-- a vertex, and beside it the number of its grid edge: 3 times the lower end's place, plus 0, 1, 2 for x, y, z
pub record Made : Type 0 where
  pub vertex : Vertex
  pub edge : ℕ

-- what a vertex code comes to in its cell: the vertex, if it makes one; and the place where that is stored, if it is,
-- or else where an index is taken from
pub record CodeUse : Type 0 where
  pub made : Made
  pub makes : Bool
  pub stores : Bool
  pub place : ℕ

-- a cell: how many vertices and what each one's code comes to; how many triangles and, three to each in the order in which
-- they are sent, their corners as positions among the cell's vertices; and how many samples its case number reads
pub record Cell : Type 0 where
  pub vertices : ℕ
  pub uses : ℕ → CodeUse
  pub triangles : ℕ
  pub corner : ℕ → ℕ
  pub samples : ℕ

-- a cell's vertices so far: those made, the index of each, and the store
pub record Fill : Type 0 where
  pub made : List Made
  pub index : List ℕ
  pub store : List ℕ

abbrev pub made_by : CodeUse → List Made
made_by t = cond t.makes (t.made ∷ []) []

-- the next vertex, where next is the index of the next one made
unfoldable pub fill_step : CodeUse → ℕ → Fill → Fill
fill_step t next f =
    record {
      made = f.made ++ made_by t;
      index = f.index ++ (cond t.makes next (get_or f.store t.place 0) ∷ []);
      store = cond t.stores (set f.store t.place next) f.store;
    }

-- the first k vertices of a cell, where base vertices were made before it
unfoldable pub fill_to : Cell → ℕ → List ℕ → ℕ → Fill
fill_to c base store k =
    iterate (λ i f. fill_step (c.uses i) (base + length f.made) f) k (record { made = []; index = []; store = store })

-- the vertex index that corner j is sent as
abbrev pub corner_index : Cell → List ℕ → ℕ → ℕ
corner_index c index j = get_or index (c.corner j) 0

unfoldable pub triangle_of : Cell → List ℕ → ℕ → Triangle
triangle_of c index t =
    record { a = corner_index c index (3 * t); b = corner_index c index (3 * t + 1); c = corner_index c index (3 * t + 2) }

-- ---- the mesh

-- reads counts the samples that its steps have read
pub record Mesh : Type 0 where
  pub made : List Made
  pub triangles : List Triangle
  pub store : List ℕ
  pub reads : ℕ

unfoldable pub empty_mesh : ℕ → Mesh
empty_mesh n = record { made = []; triangles = []; store = replicate (store_length n) 0; reads = 0 }

abbrev pub filled : Cell → Mesh → Fill
filled c m = fill_to c (length m.made) m.store c.vertices

-- a vertex that is made reads its two samples, and six for the gradient at each of them; a cell's case number reads the samples that it is made of
abbrev pub vertex_reads : ℕ
vertex_reads = 14

abbrev pub regular_reads : ℕ
regular_reads = 8

abbrev pub transition_reads : ℕ
transition_reads = 9

unfoldable pub cell_step : Cell → Mesh → Mesh
cell_step c m =
    record {
      made = m.made ++ (filled c m).made;
      triangles = m.triangles ++ listed (triangle_of c (filled c m).index) c.triangles;
      store = (filled c m).store;
      reads = m.reads + c.samples + vertex_reads * length (filled c m).made;
    }

-- ---- regular cells

-- the grid edge of a code: of the twelve codes, a is always the lower end
unfoldable pub regular_edge : ℕ → ℕ → ℕ → ℕ → ℕ → ℕ
regular_edge n x y z code =
    let low = corner_point x y z (point_a code) in
    3 * in_block n low.x low.y low.z + (point_b code - point_a code) / 2

unfoldable pub regular_vertex : Star → ℕ → ℕ → ℕ → ℕ → Vertex
regular_vertex s x y z code =
    vertex_between s.threshold
    (regular_point s (corner_point x y z (point_a code))) (regular_point s (corner_point x y z (point_b code)))

-- a step asked for leaves the block
unfoldable pub regular_leaves : ℕ → ℕ → ℕ → ℕ → Bool
regular_leaves x y z code = ltb x (step_x code) || (ltb y (step_y code) || ltb z (step_z code))

-- new: make and store; otherwise, if every step asked for stays inside the block, take the stored index of that cell; if one
-- does not, make a new vertex that is not stored
unfoldable pub regular_use : Star → ℕ → ℕ → ℕ → ℕ → CodeUse
regular_use s x y z code =
    let n = subdivisions s in
    let new = eqb (is_new code) 1 in
    record {
      made = record { vertex = regular_vertex s x y z code; edge = regular_edge n x y z code };
      makes = new || regular_leaves x y z code;
      stores = new;
      place = cond new (regular_place n x y z (reuse_index code))
          (regular_place n (x - step_x code) (y - step_y code) (z - step_z code) (reuse_index code));
    }

unfoldable pub regular_cell : Star → ℕ → ℕ → ℕ → Cell
regular_cell s x y z =
    let case = regular_case s x y z in
    record {
      vertices = regular_vertices case;
      uses = λ i. regular_use s x y z (regular_code case i);
      triangles = regular_triangles case;
      corner = regular_corner case;
      samples = regular_reads;
    }

-- x outermost, then y, then z
unfoldable pub regular_column : Star → ℕ → ℕ → Mesh → Mesh
regular_column s x y = iterate (λ z. cell_step (regular_cell s x y z)) (subdivisions s)

unfoldable pub regular_layer : Star → ℕ → Mesh → Mesh
regular_layer s x = iterate (regular_column s x) (subdivisions s)

unfoldable pub regular_mesh : Star → Mesh
regular_mesh s = iterate (regular_layer s) (subdivisions s) (empty_mesh (subdivisions s))

-- the mesh of the cells before the cell (x, y, z)
unfoldable pub regular_to : Star → ℕ → ℕ → ℕ → Mesh
regular_to s x y z =
    iterate (λ z. cell_step (regular_cell s x y z)) z
    (iterate (regular_column s x) y (iterate (regular_layer s) x (empty_mesh (subdivisions s))))

-- ---- transition cells

-- a transition vertex has no grid edge
abbrev pub no_edge : ℕ
no_edge = 4294967295

unfoldable pub transition_vertex : Star → ℕ → ℕ → ℕ → ℕ → Vertex
transition_vertex s side u v code =
    vertex_between s.threshold
    (transition_point s side u v (cell_point (point_a code))) (transition_point s side u v (cell_point (point_b code)))

-- no step back in u or v is asked for, or it leaves the face
unfoldable pub transition_leaves : ℕ → ℕ → ℕ → Bool
transition_leaves u v code =
    (eqb (step_x code) 0 && eqb (step_y code) 0) || (ltb u (step_x code) || ltb v (step_y code))

-- 0x80 new and stored; a step back that stays in the face takes the stored index of that cell; anything else new and not stored
unfoldable pub transition_use : Star → ℕ → ℕ → ℕ → ℕ → CodeUse
transition_use s side u v code =
    let n = subdivisions s in
    let new = eqb (is_new code) 1 in
    record {
      made = record { vertex = transition_vertex s side u v code; edge = no_edge };
      makes = new || transition_leaves u v code;
      stores = new;
      place = cond new (transition_place n side u v (reuse_index code))
          (transition_place n side (u - step_x code) (v - step_y code) (reuse_index code));
    }

-- its corners go out by the winding, which the class's bit 0x80 tells
unfoldable pub transition_cell : Star → ℕ → ℕ → ℕ → Cell
transition_cell s side u v =
    let case = transition_case s side u v in
    record {
      vertices = transition_vertices case;
      uses = λ i. transition_use s side u v (transition_code case i);
      triangles = transition_triangles case;
      corner = λ j. transition_corner case (sent (transition_turned case) j);
      samples = transition_reads;
    }

-- sides in order, then u, then v
unfoldable pub transition_row : Star → ℕ → ℕ → Mesh → Mesh
transition_row s side u = iterate (λ v. cell_step (transition_cell s side u v)) (subdivisions s)

unfoldable pub transition_side : Star → ℕ → Mesh → Mesh
transition_side s side m = cond (named s.mask side) (iterate (transition_row s side) (subdivisions s) m) m

-- after the regular cells, the transition cells
unfoldable pub mesh_of : Star → Mesh
mesh_of s = iterate (transition_side s) side_count (regular_mesh s)

-- the mesh of the cells before the cell (u, v) of a side
unfoldable pub transition_to : Star → ℕ → ℕ → ℕ → Mesh
transition_to s side u v =
    iterate (λ v. cell_step (transition_cell s side u v)) v
    (iterate (transition_row s side) u (iterate (transition_side s) side (regular_mesh s)))
