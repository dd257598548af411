-- A mesh whose vertices are named anew, several by one name where they are one vertex of one grid edge. Definitions only.
use Rattle.std.specs.Prelude.{ℕ, ◌≤◌, ◌<◌, ◌≡◌, length}
use Rattle.model.specs.declared.Triangle.{Triangle}
use Rattle.model.specs.Mesh.{Mesh}
use Rattle.closed.specs.Clauses.{vertex_at, edge_at, triangle_at}

abbrev pub renamed : (ℕ → ℕ) → Triangle → Triangle
renamed name t = record { a = name t.a; b = name t.b; c = name t.c }

-- each vertex of m is named no higher than before, and what its name stands for has its grid edge and its six numbers; each vertex of m' is so
-- named, and the triangles name what they named
pub record Renamed (m m' : Mesh) (name : ℕ → ℕ) : Type 0 where
  pub there : (i : ℕ) → i < length m.made → name i < length m'.made
  pub lower : (i : ℕ) → name i ≤ i
  pub edge_is : (i : ℕ) → i < length m.made → edge_at m'.made (name i) ≡ edge_at m.made i
  pub vertex_is : (i : ℕ) → i < length m.made → vertex_at m'.made (name i) ≡ vertex_at m.made i
  pub of : (j : ℕ) → j < length m'.made → ℕ
  pub of_there : (j : ℕ) (h : j < length m'.made) → of j h < length m.made
  pub of_named : (j : ℕ) (h : j < length m'.made) → name (of j h) ≡ j
  pub as_many : length m'.triangles ≡ length m.triangles
  pub triangles_are : (t : ℕ) → t < length m.triangles → triangle_at m' t ≡ renamed name (triangle_at m t)
