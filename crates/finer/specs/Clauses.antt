-- No gap at the finer face (document 02, [14]): what is said of each named side, each a property of a mesh of a block whose vertices have labels.
-- Definitions only.
use Rattle.std.specs.Prelude.{ℕ, zero, suc, ◌+◌, ◌-◌, ◌*◌, ◌/◌, ◌%◌, ◌≤◌, ◌<◌, ◌≡◌, ◌⊎◌, Bool, true, false, cond, List, eqb, length, get_or}
use Rattle.laws.specs.Counting.{one}
use Rattle.model.specs.declared.Vertex.{Vertex}
use Rattle.model.specs.declared.Triangle.{Triangle}
use Rattle.model.specs.Limits.{side_count}
use Rattle.model.specs.Sides.{named}
use Rattle.model.specs.Rotations.{rotation_of}
use Rattle.model.specs.Formulas.{vertex_between}
use Rattle.model.specs.Judging.{faces_agree}
use Rattle.model.specs.Star.{Star, subdivisions}
use Rattle.model.specs.Points.{regular_point, fine_grid_point}
use Rattle.model.specs.Mesh.{Made, Mesh, regular_mesh, transition_to}
use Rattle.closed.specs.Clauses.{Edge, high, number, edges_most, OfBlock, InFace, part, no_vertex, vertex_at, edge_at, Names, triangle_at, runs, OnItsEdge, vertex_on}
use Rattle.closed.specs.Indices.{IsSideCell}
use Rattle.finer.specs.Labels.{face_edge, fine_number}

pub record IsSide (s : Star) (side : ℕ) : Type 0 where
  pub side_in : side < side_count
  pub side_named : named s.mask side ≡ true

-- refusal 8 is not met
abbrev pub Agreed : Star → Type 0
Agreed s = (side u v : ℕ) → IsSide s side → u ≤ subdivisions s → v ≤ subdivisions s → faces_agree s side u v ≡ true

-- both ends of a grid edge lie in the face of a side
abbrev pub InSide : Star → ℕ → Edge → Type 0
InSide s side = InFace (side / 2) (side % 2 * subdivisions s)

-- the edge of a side from the point (u, v) lies in the square of k steps whose lowest corner is (a, b)
pub record InSquare (k a b u v axis : ℕ) : Type 0 where
  pub axis_is : axis < 2
  pub low_u : a ≤ u
  pub low_v : b ≤ v
  pub high_u : u + one (eqb axis 0) ≤ a + k
  pub high_v : v + one (eqb axis 1) ≤ b + k

-- ---- (a) between two coarse grid edges in the face, as many sides of regular and transition triangles run one way as the other

abbrev pub CoarseClosed : Star → Mesh → ℕ → Type 0
CoarseClosed s m side =
    (e f : Edge) → OfBlock s e → OfBlock s f → InSide s side e → InSide s side f
    → runs m (number s e) (number s f) ≡ runs m (number s f) (number s e)

-- ---- (b) and so they do between two of the edges on a border between two transition cells of the side

-- a cell's place across the direction d: along u where d is 0, along v where it is 1
abbrev pub across_of : ℕ → ℕ → ℕ → ℕ
across_of d u v = cond (eqb d 0) u v

-- the three edges on the border between the cell (u, v) and the one before it across d: two fine ones, one after the other, and the coarse one
abbrev pub border_label : Star → ℕ → ℕ → ℕ → ℕ → ℕ → ℕ
border_label s side d u v zero = fine_number s side (2 * u) (2 * v) (1 - d)
border_label s side d u v (suc zero) = fine_number s side (2 * u + d) (2 * v + (1 - d)) (1 - d)
border_label s side d u v (suc (suc i)) = number s (face_edge s side u v (1 - d))

abbrev pub BorderClosed : Star → Mesh → ℕ → Type 0
BorderClosed s m side =
    (d u v i j : ℕ) → d < 2 → i < 3 → j < 3 → IsSideCell s side u v → 0 < across_of d u v
    → let g = border_label s side d u v i in let h = border_label s side d u v j in runs m g h ≡ runs m h g

-- ---- every corner of a transition triangle names a vertex that was already made, on an edge of the triangle's own cell

-- (u, v) is the cell of the side that sends triangle t
pub record SideSends (s : Star) (side u v t : ℕ) : Type 0 where
  pub cell : IsSideCell s side u v
  pub not_before : length (transition_to s side u v).triangles ≤ t
  pub by_then : t < length (transition_to s side u (suc v)).triangles

-- g is the label of a fine edge in the square of k steps whose lowest corner is (a, b), and of a coarse one
pub record FineIn (s : Star) (side k a b g : ℕ) : Type 0 where
  pub u2 : ℕ
  pub v2 : ℕ
  pub axis : ℕ
  pub within : InSquare k a b u2 v2 axis
  pub label_is : g ≡ fine_number s side u2 v2 axis

pub record CoarseIn (s : Star) (side k a b g : ℕ) : Type 0 where
  pub u : ℕ
  pub v : ℕ
  pub axis : ℕ
  pub within : InSquare k a b u v axis
  pub label_is : g ≡ number s (face_edge s side u v axis)

-- of one of the twelve fine and four coarse edges of the cell (u, v)
abbrev pub OfSideCell : Star → ℕ → ℕ → ℕ → ℕ → Type 0
OfSideCell s side u v g = FineIn s side 2 (2 * u) (2 * v) g ⊎ CoarseIn s side 1 u v g

-- vertex i was made once the cell was done, and lies on one of its edges
pub record OwnSideVertex (s : Star) (made : List Made) (side u v i : ℕ) : Type 0 where
  pub by_then : i < length (transition_to s side u (suc v)).made
  pub label : ℕ
  pub own : OfSideCell s side u v label
  pub names : Names made i label

pub record OwnSideTriangle (s : Star) (made : List Made) (t : ℕ) (corners : Triangle) : Type 0 where
  pub side : ℕ
  pub u : ℕ
  pub v : ℕ
  pub sent : SideSends s side u v t
  pub a : OwnSideVertex s made side u v corners.a
  pub b : OwnSideVertex s made side u v corners.b
  pub c : OwnSideVertex s made side u v corners.c

-- the triangles after those of the regular cells
abbrev pub SideCorners : Star → Mesh → Type 0
SideCorners s m = (t : ℕ) → length (regular_mesh s).triangles ≤ t → t < length m.triangles → OwnSideTriangle s m.made t (triangle_at m t)

-- ---- a vertex lies on the edge that its label tells

-- vertex i was made by the cells of the side
pub record MadeBySide (s : Star) (side i : ℕ) : Type 0 where
  pub of_side : IsSide s side
  pub not_before : length (transition_to s side 0 0).made ≤ i
  pub by_then : i < length (transition_to s (suc side) 0 0).made

-- the vertex between the two ends of a fine edge
abbrev pub fine_vertex : Star → ℕ → ℕ → ℕ → ℕ → Vertex
fine_vertex s side u2 v2 axis =
    vertex_between s.threshold (fine_grid_point s side u2 v2) (fine_grid_point s side (u2 + one (eqb axis 0)) (v2 + one (eqb axis 1)))

-- that between the two ends of a grid edge, worked out from the high end
abbrev pub vertex_back : Star → Edge → Vertex
vertex_back s e = vertex_between s.threshold (regular_point s (high e)) (regular_point s e.low)

-- u or v of the side runs down this axis: so it is at LowX and LowY along z, and at HighZ along x
unfoldable pub runs_down : ℕ → ℕ → Bool
runs_down side axis = let r = rotation_of side in eqb (part axis r.u.down + part axis r.v.down) 1

-- a transition vertex on a fine edge of the side
pub record OnFineEdge (s : Star) (side : ℕ) (m : Made) : Type 0 where
  pub u2 : ℕ
  pub v2 : ℕ
  pub axis : ℕ
  pub within : InSquare (2 * subdivisions s) 0 0 u2 v2 axis
  pub label_is : m.edge ≡ fine_number s side u2 v2 axis
  pub vertex_is : m.vertex ≡ fine_vertex s side u2 v2 axis

-- and one on a coarse edge: the six numbers are those between the edge's ends, from the low one or from the high one
pub record OnCoarseEdge (s : Star) (side : ℕ) (m : Made) : Type 0 where
  pub on : Edge
  pub of_block : OfBlock s on
  pub in_side : InSide s side on
  pub label_is : m.edge ≡ number s on
  pub vertex_is : m.vertex ≡ cond (runs_down side on.axis) (vertex_back s on) (vertex_on s on)

abbrev pub OnSide : Star → ℕ → Made → Type 0
OnSide s side m = OnFineEdge s side m ⊎ OnCoarseEdge s side m

-- a regular vertex lies on its grid edge, as before, and one of a side on the edge that its label tells
abbrev pub RegularLying : Star → List Made → Type 0
RegularLying s made = (i : ℕ) → i < length (regular_mesh s).made → OnItsEdge s made i

abbrev pub SideLying : Star → List Made → Type 0
SideLying s made = (side i : ℕ) → MadeBySide s side i → OnSide s side (get_or made i no_vertex)

-- ---- all together

pub record NoGap (s : Star) (m : Mesh) : Type 0 where
  pub coarse : (side : ℕ) → IsSide s side → CoarseClosed s m side
  pub borders : (side : ℕ) → IsSide s side → BorderClosed s m side
  pub corners : SideCorners s m
  pub regular : RegularLying s m.made
  pub lying : SideLying s m.made

-- ---- where two vertices with one label are the same, bit for bit

pub record SameBits (s : Star) (made : List Made) : Type 0 where
  -- any two on one fine edge
  pub fine : (i j : ℕ) → i < length made → j < length made → edges_most s ≤ edge_at made i → edge_at made i ≡ edge_at made j
      → vertex_at made i ≡ vertex_at made j
  -- two of one side
  pub of_side : (side i j : ℕ) → MadeBySide s side i → MadeBySide s side j → edge_at made i ≡ edge_at made j → vertex_at made i ≡ vertex_at made j
  -- a regular one and one of a side, but where the side runs down along their edge
  pub regular : (side i j : ℕ) (e : Edge) → i < length (regular_mesh s).made → MadeBySide s side j → OfBlock s e → edge_at made i ≡ number s e
      → edge_at made j ≡ number s e → runs_down side e.axis ≡ false → vertex_at made i ≡ vertex_at made j
