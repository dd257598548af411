-- Vertices, triangles and the numbers of the vertices' grid edges laid into a lent buffer, and a cell's indices in their twelve places. Definitions only.
use Rattle.std.specs.Prelude.{ℕ, ◌-◌, List, ◌++◌, Float, length, replicate}
use Rattle.model.specs.declared.Triangle.{Triangle}
use Rattle.laws.specs.Laying.{lay}
use Rattle.model.specs.Mesh.{Made}
use Rattle.model.specs.Extraction.{vertex_floats, triangle_indices}
use Rattle.model.specs.Edges.{edge_number}

abbrev pub lay_vertices : List Float → ℕ → List Made → List Float
lay_vertices = lay 6 vertex_floats

abbrev pub lay_triangles : List ℕ → ℕ → List Triangle → List ℕ
lay_triangles = lay 3 triangle_indices

-- what has no place in the list is left out
abbrev pub lay_edges : List ℕ → ℕ → List Made → List ℕ
lay_edges = lay 1 edge_number

-- twelve places, the first of them the indices and the others 0
unfoldable pub pad : List ℕ → List ℕ
pad indices = indices ++ replicate (12 - length indices) 0
