-- A surface with no hole: the three clauses of demand 3, and that each vertex lies on its grid edge, each a property of a mesh of a block.
-- Definitions only.
use Rattle.std.specs.Prelude.{ℕ, suc, ◌+◌, ◌*◌, ◌≤◌, ◌<◌, ◌≡◌, ◌≢◌, ◌↔◌, ◌⊎◌, cond, ◌&&◌, List, eqb, length, get_or}
use Rattle.std.specs.Float.{nan}
use Rattle.laws.specs.Counting.{one}
use Rattle.model.specs.declared.Xyz.{Xyz}
use Rattle.model.specs.declared.Vertex.{Vertex}
use Rattle.model.specs.declared.Triangle.{Triangle}
use Rattle.laws.specs.Steps.{total}
use Rattle.model.specs.Samples.{in_block, sample_of}
use Rattle.model.specs.Rotations.{xyz}
use Rattle.model.specs.Formulas.{vector, inside_bit, vertex_between}
use Rattle.model.specs.Star.{Star, subdivisions}
use Rattle.model.specs.Points.{regular_point}
use Rattle.model.specs.Mesh.{Made, Mesh, no_edge, regular_to}

-- ---- grid edges

-- from its lower end one step along its axis: 0, 1, 2 for x, y, z
pub record Edge : Type 0 where
  pub low : Xyz
  pub axis : ℕ

abbrev pub edge : ℕ → ℕ → ℕ → ℕ → Edge
edge x y z axis = record { low = xyz x y z; axis = axis }

abbrev pub high : Edge → Xyz
high e = xyz (e.low.x + one (eqb e.axis 0)) (e.low.y + one (eqb e.axis 1)) (e.low.z + one (eqb e.axis 2))

-- its number, as the model's mesh has it
abbrev pub number : Star → Edge → ℕ
number s e = 3 * in_block (subdivisions s) e.low.x e.low.y e.low.z + e.axis

-- above the number of every grid edge of the block
abbrev pub edges_most : Star → ℕ
edges_most s = let m = subdivisions s + 1 in 3 * (m * m * m)

-- an edge of the cube with sides of k steps whose lowest corner is p
pub record Within (p : Xyz) (k : ℕ) (e : Edge) : Type 0 where
  pub axis_is : e.axis < 3
  pub low_x : p.x ≤ e.low.x
  pub low_y : p.y ≤ e.low.y
  pub low_z : p.z ≤ e.low.z
  pub high_x : (high e).x ≤ p.x + k
  pub high_y : (high e).y ≤ p.y + k
  pub high_z : (high e).z ≤ p.z + k

-- a grid edge of the block, and one of the twelve edges of a cell
abbrev pub OfBlock : Star → Edge → Type 0
OfBlock s = Within (xyz 0 0 0) (subdivisions s)

abbrev pub OfCell : ℕ → ℕ → ℕ → Edge → Type 0
OfCell x y z = Within (xyz x y z) 1

-- 1 if the grid point is inside, else 0
abbrev pub inside_at : Star → Xyz → ℕ
inside_at s p = inside_bit s.threshold (sample_of (subdivisions s) s.centre p)

-- one of its two ends is inside and the other outside
abbrev pub Crossed : Star → Edge → Type 0
Crossed s e = inside_at s e.low ≢ inside_at s (high e)

-- ---- what a mesh says of its vertices and triangles

abbrev pub no_vertex : Made
no_vertex =
    record { vertex = record { position = vector nan nan nan; gradient = vector nan nan nan }; edge = no_edge }

-- vertex i, and its grid edge
abbrev pub vertex_at : List Made → ℕ → Vertex
vertex_at made i = (get_or made i no_vertex).vertex

abbrev pub edge_at : List Made → ℕ → ℕ
edge_at made i = (get_or made i no_vertex).edge

-- vertex i was made, and on the grid edge g
pub record Names (made : List Made) (i g : ℕ) : Type 0 where
  pub there : i < length made
  pub held : edge_at made i ≡ g

abbrev pub no_triangle : Triangle
no_triangle = record { a = 0; b = 0; c = 0 }

abbrev pub triangle_at : Mesh → ℕ → Triangle
triangle_at m t = get_or m.triangles t no_triangle

-- the three corners of triangle t name vertices of the mesh
pub record NamesVertices (m : Mesh) (t : ℕ) : Type 0 where
  pub a : (triangle_at m t).a < length m.made
  pub b : (triangle_at m t).b < length m.made
  pub c : (triangle_at m t).c < length m.made

-- 1 if p is g and q is h, else 0
unfoldable pub run : ℕ → ℕ → ℕ → ℕ → ℕ
run g h p q = one (eqb p g && eqb q h)

-- how many of the three sides of a triangle with corners on the grid edges a, b, c run from g to h
abbrev pub around : ℕ → ℕ → ℕ → ℕ → ℕ → ℕ
around g h a b c = run g h a b + run g h b c + run g h c a

-- how many sides of triangle t do
unfoldable pub sides : Mesh → ℕ → ℕ → ℕ → ℕ
sides m g h t =
    around g h (edge_at m.made (triangle_at m t).a) (edge_at m.made (triangle_at m t).b) (edge_at m.made (triangle_at m t).c)

-- how many sides of all triangles do
unfoldable pub runs : Mesh → ℕ → ℕ → ℕ
runs m g h = total (sides m g h) (length m.triangles)

-- ---- 1: a grid edge carries a vertex exactly when one of its ends is inside and the other outside

abbrev pub Carried : Star → Mesh → Type 0
Carried s m = (e : Edge) → OfBlock s e → ((i : ℕ) × Names m.made i (number s e)) ↔ Crossed s e

-- ---- 2: every triangle corner names a vertex that was already made, on an edge of the triangle's own cell

pub record IsCell (s : Star) (x y z : ℕ) : Type 0 where
  pub x_in : x < subdivisions s
  pub y_in : y < subdivisions s
  pub z_in : z < subdivisions s

-- (x, y, z) is the cell that sends triangle t
pub record Sends (s : Star) (x y z t : ℕ) : Type 0 where
  pub cell : IsCell s x y z
  pub not_before : length (regular_to s x y z).triangles ≤ t
  pub by_then : t < length (regular_to s x y (suc z)).triangles

-- vertex i was made once the cell (x, y, z) was done, and lies on one of its twelve edges
pub record OwnVertex (s : Star) (m : Mesh) (x y z i : ℕ) : Type 0 where
  pub made : i < length (regular_to s x y (suc z)).made
  pub on : Edge
  pub own : OfCell x y z on
  pub named : Names m.made i (number s on)

pub record OwnTriangle (s : Star) (m : Mesh) (t : ℕ) : Type 0 where
  pub x : ℕ
  pub y : ℕ
  pub z : ℕ
  pub sent : Sends s x y z t
  pub a : OwnVertex s m x y z (triangle_at m t).a
  pub b : OwnVertex s m x y z (triangle_at m t).b
  pub c : OwnVertex s m x y z (triangle_at m t).c

abbrev pub Corners : Star → Mesh → Type 0
Corners s m = (t : ℕ) → t < length m.triangles → OwnTriangle s m t

-- ---- 3: between two grid edges that do not both lie in one outer face, as many sides run one way as the other

abbrev pub part : ℕ → Xyz → ℕ
part d p = cond (eqb d 0) p.x (cond (eqb d 1) p.y p.z)

-- both ends have v as coordinate d
pub record InFace (d v : ℕ) (e : Edge) : Type 0 where
  pub low_in : part d e.low ≡ v
  pub high_in : part d (high e) ≡ v

abbrev pub InnerPair : Star → Edge → Edge → Type 0
InnerPair s e f = (d v : ℕ) → d < 3 → (v ≡ 0) ⊎ (v ≡ subdivisions s) → InFace d v e → InFace d v f → ⊥

abbrev pub Balanced : Star → Mesh → Type 0
Balanced s m =
    (e f : Edge) → OfBlock s e → OfBlock s f → InnerPair s e f
    → runs m (number s e) (number s f) ≡ runs m (number s f) (number s e)

-- ---- beside the three: a vertex lies on its grid edge

-- the vertex between the two ends of a grid edge
abbrev pub vertex_on : Star → Edge → Vertex
vertex_on s e = vertex_between s.threshold (regular_point s e.low) (regular_point s (high e))

-- the grid edge of vertex i is a crossed one of the block, and its six numbers are those between the edge's two ends
pub record OnItsEdge (s : Star) (made : List Made) (i : ℕ) : Type 0 where
  pub on : Edge
  pub of_block : OfBlock s on
  pub crossed : Crossed s on
  pub named : Names made i (number s on)
  pub vertex_is : vertex_at made i ≡ vertex_on s on

abbrev pub Lying : Star → List Made → Type 0
Lying s made = (i : ℕ) → i < length made → OnItsEdge s made i

-- ---- all together

pub record NoHole (s : Star) (m : Mesh) : Type 0 where
  pub carried : Carried s m
  pub corners : Corners s m
  pub balanced : Balanced s m
  pub lying : Lying s m.made

-- which gives, so that a side between two grid edges is a side between two points: two vertices on one grid edge are the same, bit for bit
abbrev pub OneVertex : Mesh → Type 0
OneVertex m =
    (i j : ℕ) → i < length m.made → j < length m.made → edge_at m.made i ≡ edge_at m.made j → vertex_at m.made i ≡ vertex_at m.made j
