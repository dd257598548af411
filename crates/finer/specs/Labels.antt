-- The mesh of a block with a label for each vertex of its transition cells: the number of its grid edge if it lies on the coarse face, and a number
-- above all of those, one for each fine edge of each side, if it lies on the fine face. In the definition's mesh such a vertex has no grid edge; all
-- else is the same. Definitions only.
use Rattle.std.specs.Prelude.{ℕ, ◌+◌, ◌-◌, ◌*◌, ◌/◌, ◌≡◌, cond, map, eqb}
use Rattle.laws.specs.Steps.{iterate}
use Rattle.laws.specs.Counting.{one}
use Rattle.tables.specs.Codes.{point_a}
use Rattle.tables.specs.Corners.{axis_of}
use Rattle.tables.specs.Cases.{transition_code}
use Rattle.tables.specs.Points.{point_u, point_v, point_face}
use Rattle.model.specs.declared.Xyz.{Xyz}
use Rattle.model.specs.Limits.{side_count}
use Rattle.model.specs.Sides.{named}
use Rattle.model.specs.Rotations.{xyz, face_point}
use Rattle.model.specs.Star.{Star, subdivisions}
use Rattle.model.specs.Points.{transition_case}
use Rattle.model.specs.Mesh.{Made, CodeUse, Cell, Mesh, cell_step, transition_cell, regular_mesh}
use Rattle.closed.specs.Clauses.{Edge, number, edges_most}

-- ---- the edges of a side: from a point of its face one step along u or v, axis 0 or 1

-- the lower of two numbers, and how far apart they are
abbrev pub lower : ℕ → ℕ → ℕ
lower a b = a - (a - b)

abbrev pub apart : ℕ → ℕ → ℕ
apart a b = (a - b) + (b - a)

-- the grid edge between two points one step apart
unfoldable pub edge_between : Xyz → Xyz → Edge
edge_between a b =
    record {
      low = xyz (lower a.x b.x) (lower a.y b.y) (lower a.z b.z);
      axis = apart a.y b.y + 2 * apart a.z b.z;
    }

-- a coarse edge, from the centre's point (u, v) of the face
abbrev pub coarse_point : ℕ → ℕ → ℕ → ℕ → Xyz
coarse_point n side u v = face_point n side u v

unfoldable pub face_edge : Star → ℕ → ℕ → ℕ → ℕ → Edge
face_edge s side u v axis =
    let n = subdivisions s in
    edge_between (coarse_point n side u v) (coarse_point n side (u + one (eqb axis 0)) (v + one (eqb axis 1)))

-- the number of a fine edge, from the fine point (u2, v2)
unfoldable pub fine_number : Star → ℕ → ℕ → ℕ → ℕ → ℕ
fine_number s side u2 v2 axis =
    let k = 2 * subdivisions s + 1 in
    edges_most s + (((side * k + u2) * k + v2) * 2 + axis)

-- of the edge from the point at (a, b), in fine steps, of the fine face (0) or of the coarse one (1) of the cell (u, v)
unfoldable pub label_at : Star → ℕ → ℕ → ℕ → ℕ → ℕ → ℕ → ℕ → ℕ
label_at s side u v face a b axis =
    cond (eqb face 0) (fine_number s side (2 * u + a) (2 * v + b) axis) (number s (face_edge s side (u + a / 2) (v + b / 2) axis))

-- of a code, or its low byte, in the cell (u, v)
abbrev pub label_of : Star → ℕ → ℕ → ℕ → ℕ → ℕ
label_of s side u v code =
    let a = point_a code in
    label_at s side u v (point_face a) (point_u a) (point_v a) (axis_of code)

-- ---- the mesh with labels

abbrev pub labelled_use : ℕ → CodeUse → CodeUse
labelled_use label t =
    record { made = record { vertex = t.made.vertex; edge = label }; makes = t.makes; stores = t.stores; place = t.place }

abbrev pub labelled : (ℕ → ℕ) → Cell → Cell
labelled label c =
    record {
      vertices = c.vertices;
      uses = λ i. labelled_use (label i) (c.uses i);
      triangles = c.triangles;
      corner = c.corner;
      samples = c.samples;
    }

unfoldable pub side_cell : Star → ℕ → ℕ → ℕ → Cell
side_cell s side u v = labelled (λ i. label_of s side u v (transition_code (transition_case s side u v) i)) (transition_cell s side u v)

-- the model's mesh, where `cell side u v` stands in the place of the transition cell
module _ (s : Star) (cell : ℕ → ℕ → ℕ → Cell) where
  abbrev pub row_with : ℕ → ℕ → Mesh → Mesh
  row_with side u = iterate (λ v. cell_step (cell side u v)) (subdivisions s)

  abbrev pub side_with : ℕ → Mesh → Mesh
  side_with side m = cond (named s.mask side) (iterate (row_with side) (subdivisions s) m) m

  unfoldable pub mesh_with : Mesh
  mesh_with = iterate side_with side_count (regular_mesh s)

abbrev pub labelled_mesh : Star → Mesh
labelled_mesh s = mesh_with s (side_cell s)

-- two meshes that differ in the labels alone
pub record SameBut (m l : Mesh) : Type 0 where
  pub vertices : map (λ (x : Made). x.vertex) m.made ≡ map (λ (x : Made). x.vertex) l.made
  pub triangles : m.triangles ≡ l.triangles
  pub store : m.store ≡ l.store
