-- Weights between 0 and 1, and vertices between their ends: what is said of a weight, of a coordinate, of each vertex of a block's mesh, and of two that
-- are worked out from the two ends of one edge. Numbers are whole, in units of 2 ^ -149 (Units). Definitions only.
use Rattle.std.specs.Prelude.{ℕ, ◌+◌, ◌-◌, ◌*◌, ◌≤◌, ◌<◌, ◌≡◌, ◌⊎◌, true, false, T, Float, length}
use Rattle.std.specs.Float.{binary32}
use Rattle.std.specs.Float.Ieee.{fits, le, eq}
use Rattle.std.specs.Float.Ieee.Scale.{finite}
use Rattle.tables.specs.Codes.{point_a, point_b}
use Rattle.tables.specs.Cases.{regular_code, transition_code}
use Rattle.tables.specs.Points.{cell_point}
use Rattle.model.specs.declared.GridPoint.{GridPoint}
use Rattle.model.specs.declared.Vector.{Vector}
use Rattle.model.specs.declared.Vertex.{Vertex}
use Rattle.model.specs.Limits.{most_size}
use Rattle.model.specs.Formulas.{whole, inside, weight, vertex_between}
use Rattle.model.specs.Star.{Star}
use Rattle.model.specs.Points.{corner_point, regular_case, regular_point, transition_case, transition_point}
use Rattle.model.specs.Mesh.{Cell, Mesh, fill_to, regular_cell, regular_to, transition_cell, transition_to}
use Rattle.words.specs.Floats.{Fit}
use Rattle.closed.specs.Clauses.{IsCell, vertex_at}
use Rattle.closed.specs.Indices.{IsSideCell}
use Rattle.weights.specs.Units.{per_one, parts, magnitude, negative, gap, apart, Within}

-- ---- a weight

-- one of two samples is inside and the other outside
abbrev pub OneInside : Float → Float → Float → Type 0
OneInside t a b = ((inside t a ≡ false) × (inside t b ≡ true)) ⊎ ((inside t a ≡ true) × (inside t b ≡ false))

-- the exact quotient (t - a) / (b - a), as two whole numbers
unfoldable pub numerator : Float → Float → Float → ℕ
numerator a b t = apart a t

unfoldable pub denominator : Float → Float → Float → ℕ
denominator a b t = apart a b

-- a weight lies within one part in so many of it
abbrev pub weight_parts : ℕ
weight_parts = 4194304

-- w is the weight of the threshold t between the samples a and b
pub record Weight (a b t w : Float) : Type 0 where
  -- finite, at least 0 and at most 1
  pub is_finite : T (finite w)
  pub low : T (le (whole 0) w)
  pub high : T (le w (whole 1))
  -- 0 in value where a is the threshold in value, and 1 where b is
  pub zero_at_a : T (eq a t) → T (eq w (whole 0))
  pub one_at_b : T (eq b t) → T (eq w (whole 1))
  -- the exact quotient is from 0 to 1: b is not a, and t - a and b - a have one sign, or t is a
  pub not_same : 1 ≤ denominator a b t
  pub not_more : numerator a b t ≤ denominator a b t
  pub one_sign : ((gap b a ≡ 0) × (gap t a ≡ 0)) ⊎ ((gap a b ≡ 0) × (gap a t ≡ 0))
  -- w is within one part in weight_parts of it, multiplied out
  pub not_above : magnitude w * denominator a b t * weight_parts ≤ per_one * (numerator a b t * weight_parts + denominator a b t)
  pub not_below : per_one * (numerator a b t * weight_parts) ≤ (magnitude w * weight_parts + per_one) * denominator a b t

-- ---- a coordinate

-- what an end's coordinate is at most
abbrev pub reach : ℕ
reach = 3 * most_size

-- two values of one sign, neither more than twice the other
pub record Close (a b : Float) : Type 0 where
  pub one_sign : negative a ≡ negative b
  pub a_near : magnitude a ≤ 2 * magnitude b
  pub b_near : magnitude b ≤ 2 * magnitude a

-- how far a coordinate may pass its end b, times 16,777,215: b - a is rounded, and then the sum
unfoldable pub past : Float → Float → ℕ
past a b = magnitude b + apart a b

-- r is a vertex's coordinate and a and b are those of its two ends; the exact quotient of its weight is n over d
pub record Coordinate (a b r : Float) (n d : ℕ) : Type 0 where
  -- all three are finite, and the ends are at most 3,145,728 in size
  pub is_finite : T (finite r)
  pub ends_finite : T (finite a) × T (finite b)
  pub ends_small : (magnitude a ≤ reach * per_one) × (magnitude b ≤ reach * per_one)
  -- it lies from a on toward b
  pub from_a_up : T (le a b) → T (le a r)
  pub from_a_down : T (le b a) → T (le r a)
  -- and passes b, if at all, by one part in 16,777,215 of b's size and of the distance of the ends at most
  pub to_b_up : T (le a b) → gap b r * (parts - 1) ≤ past a b
  pub to_b_down : T (le b a) → gap r b * (parts - 1) ≤ past a b
  -- not at all where the ends are close
  pub not_past_up : Close a b → T (le a b) → T (le r b)
  pub not_past_down : Close a b → T (le b a) → T (le b r)
  -- it lies near the exact point, which is n / d of the way from a to b: where the ends are at most c in size, within one part in 2 ^ 24 of seven times
  -- their distance and of c, and a unit; multiplied out
  pub near : (c : ℕ) → magnitude a ≤ c → magnitude b ≤ c
      → Within (apart a r * d * parts) (n * apart a b * parts) (d * (7 * apart a b + c + parts))

-- ---- the vertices of a mesh

-- what an f32 and a slice of f32 hold: values of the format
pub record AreF32 (s : Star) : Type 0 where
  pub threshold : T (fits binary32 s.threshold)
  pub base_x : T (fits binary32 s.block.base.x)
  pub base_y : T (fits binary32 s.block.base.y)
  pub base_z : T (fits binary32 s.block.base.z)
  pub size : T (fits binary32 s.block.size)
  pub centre : Fit s.centre
  pub neighbours : Fit s.neighbours

-- the step of code k of a cell makes vertex i: it comes after all that the cells before made, and after what the cell's codes before this one made
pub record MakesAt (c : Cell) (before : Mesh) (k i : ℕ) : Type 0 where
  pub listed : k < c.vertices
  pub makes : (c.uses k).makes ≡ true
  pub place : i ≡ length before.made + length (fill_to c (length before.made) before.store k).made

-- vertex i is made by code k of the regular cell (x, y, z), whose two points are a and b
pub record ByRegular (s : Star) (i : ℕ) (a b : GridPoint) : Type 0 where
  pub x : ℕ
  pub y : ℕ
  pub z : ℕ
  pub k : ℕ
  pub cell : IsCell s x y z
  pub made : MakesAt (regular_cell s x y z) (regular_to s x y z) k i
  pub a_is : a ≡ regular_point s (corner_point x y z (point_a (regular_code (regular_case s x y z) k)))
  pub b_is : b ≡ regular_point s (corner_point x y z (point_b (regular_code (regular_case s x y z) k)))

-- vertex i is made by code k of the transition cell (u, v) of a named side, whose two points are a and b
pub record BySide (s : Star) (i : ℕ) (a b : GridPoint) : Type 0 where
  pub side : ℕ
  pub u : ℕ
  pub v : ℕ
  pub k : ℕ
  pub cell : IsSideCell s side u v
  pub made : MakesAt (transition_cell s side u v) (transition_to s side u v) k i
  pub a_is : a ≡ transition_point s side u v (cell_point (point_a (transition_code (transition_case s side u v) k)))
  pub b_is : b ≡ transition_point s side u v (cell_point (point_b (transition_code (transition_case s side u v) k)))

-- a coordinate of the vertex v between the points a and b
abbrev pub Between : Float → GridPoint → GridPoint → Vertex → (Vector → Float) → Type 0
Between t a b v on =
    Coordinate (on a.position) (on b.position) (on v.position) (numerator a.sample b.sample t) (denominator a.sample b.sample t)

-- the vertex v between the points a and b: one of their samples is inside and the other outside, its weight is one, and so is each coordinate
pub record Weighed (t : Float) (a b : GridPoint) (v : Vertex) : Type 0 where
  pub one_inside : OneInside t a.sample b.sample
  pub weighed : Weight a.sample b.sample t (weight a.sample b.sample t)
  pub vertex_is : v ≡ vertex_between t a b
  pub x : Between t a b v (λ p. p.x)
  pub y : Between t a b v (λ p. p.y)
  pub z : Between t a b v (λ p. p.z)

-- vertex i of a block's mesh, with the step that makes it
pub record VertexWeighed (s : Star) (i : ℕ) (v : Vertex) : Type 0 where
  pub a : GridPoint
  pub b : GridPoint
  pub made : ByRegular s i a b ⊎ BySide s i a b
  pub is_weighed : Weighed s.threshold a b v

-- every vertex of a mesh
abbrev pub Weights : Star → Mesh → Type 0
Weights s m = (i : ℕ) → i < length m.made → VertexWeighed s i (vertex_at m.made i)

-- ---- a vertex from either end of its edge

-- each of two may be off the exact point
abbrev pub both_off : ℕ
both_off = 2

-- r is worked out from the end a and q from the end b: where the ends are at most c in size, they are apart by at most what both may be off
abbrev pub FromBoth : Float → Float → Float → Float → Type 0
FromBoth a b r q = (c : ℕ) → magnitude a ≤ c → magnitude b ≤ c → apart r q * parts ≤ both_off * (7 * apart a b + c + parts)

-- so are the positions of two vertices between the points a and b, in each coordinate
pub record NearVertices (a b : GridPoint) (v w : Vertex) : Type 0 where
  pub x : FromBoth a.position.x b.position.x v.position.x w.position.x
  pub y : FromBoth a.position.y b.position.y v.position.y w.position.y
  pub z : FromBoth a.position.z b.position.z v.position.z w.position.z
