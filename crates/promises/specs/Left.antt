-- What calls leave in the buffers lent to them: a buffer whose first places are laid, the mesh that stands in extraction's buffers, and the samples that
-- stand in the reader's. Definitions only.
use Rattle.std.specs.Prelude.{ℕ, ◌+◌, ◌*◌, ◌≡◌, List, Float, length, get_or, take, drop}
use Rattle.std.specs.Float.{nan}
use Rattle.laws.specs.Steps.{listed}
use Rattle.model.specs.declared.Vertex.{Vertex}
use Rattle.model.specs.declared.Triangle.{Triangle}
use Rattle.model.specs.declared.Counts.{Counts}
use Rattle.model.specs.declared.Header.{Header}
use Rattle.model.specs.Answers.{Extraction}
use Rattle.model.specs.Samples.{sample_length}
use Rattle.model.specs.Sides.{neighbours_length}
use Rattle.model.specs.Formulas.{vector}
use Rattle.model.specs.Star.{Star}
use Rattle.model.specs.Mesh.{Mesh, regular_mesh, mesh_of}
use Rattle.model.specs.Extraction.{extract}
use Rattle.closed.specs.Clauses.{edge_at}

-- the first k places of a lent buffer hold just what is written, and all beyond is as it was
pub record Laid {A : Type 0} (k : ℕ) (written before after : List A) : Type 0 where
  pub long : length written ≡ k
  pub first : take k after ≡ written
  pub beyond : drop k after ≡ drop k before
  pub as_long : length after ≡ length before

-- the three buffers that extraction is lent; what it answers, and what it leaves in them
pub record Lent : Type 0 where
  pub store : List ℕ
  pub vertices : List Float
  pub triangles : List ℕ

abbrev pub answered : Star → Lent → Extraction
answered s lent = (extract s lent.store lent.vertices lent.triangles).answer

abbrev pub left : Star → Lent → Lent
left s lent =
    let o = extract s lent.store lent.vertices lent.triangles in
    record { store = o.store; vertices = o.vertices; triangles = o.triangles }

-- how many vertices and triangles the definition's mesh has
abbrev pub counts : Star → Counts
counts s = record { vertices = length (mesh_of s).made; triangles = length (mesh_of s).triangles }

-- number k of the six of vertex i, and corner k of triangle t, as they stand in the buffers
abbrev pub number_in : Lent → ℕ → ℕ → Float
number_in b i k = get_or b.vertices (6 * i + k) nan

abbrev pub corner_in : Lent → ℕ → ℕ → ℕ
corner_in b t k = get_or b.triangles (3 * t + k) 0

abbrev pub vertex_in : Lent → ℕ → Vertex
vertex_in b i =
    record {
      position = vector (number_in b i 0) (number_in b i 1) (number_in b i 2);
      gradient = vector (number_in b i 3) (number_in b i 4) (number_in b i 5);
    }

abbrev pub triangle_in : Lent → ℕ → Triangle
triangle_in b t = record { a = corner_in b t 0; b = corner_in b t 1; c = corner_in b t 2 }

-- the first vertices and triangles in the buffers, so many of each, as a mesh. These buffers do not tell a vertex's grid edge; it is told beside them,
-- by the vertex's index. Its store and its reads play no part in what is said of it
abbrev pub mesh_in : Lent → (ℕ → ℕ) → ℕ → ℕ → Mesh
mesh_in b edge vertices triangles =
    record {
      made = listed (λ i. record { vertex = vertex_in b i; edge = edge i }) vertices;
      triangles = listed (triangle_in b) triangles;
      store = b.store;
      reads = 0;
    }

-- what the regular cells have left in the buffers, each vertex with the edge of the definition's: they come first
abbrev pub regular_part : Star → Lent → Mesh
regular_part s b = mesh_in b (edge_at (mesh_of s).made) (length (regular_mesh s).made) (length (regular_mesh s).triangles)

-- the centre's samples and the neighbours', in a list that was read
abbrev pub centre_of : Header → List Float → List Float
centre_of h read = take (sample_length h.block.subdivisions) read

abbrev pub neighbours_of : Header → List Float → List Float
neighbours_of h read = take (neighbours_length h.block.subdivisions h.mask) (drop (sample_length h.block.subdivisions) read)
