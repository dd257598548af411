-- What the buyer was promised of weights (document 02, [13]), for every block and every lent buffers: of each vertex of an accepted call, by its index,
-- the step that makes it with its two points; that one of their samples is inside and the other outside; that its weight is finite, from 0 to 1, 0 or 1
-- where an end is the threshold, and near the exact quotient of two whole numbers; and that each coordinate of its position lies between those of its two
-- points, up to a rounding at the second, and near the exact point. The words are those of weights' Clauses. Definitions only.
use Rattle.std.specs.Prelude.{ℕ, ◌<◌, ◌≡◌, Ok}
use Rattle.model.specs.declared.Counts.{Counts}
use Rattle.model.specs.Star.{Star}
use Rattle.model.specs.Mesh.{mesh_of}
use Rattle.weights.specs.Clauses.{AreF32, VertexWeighed, Weights}
use Rattle.promises.specs.Left.{Lent, answered, left, vertex_in}

-- of every vertex that stands in the buffers
abbrev pub LeftWeighed : Star → Lent → Counts → Type 0
LeftWeighed s b c = (i : ℕ) → i < c.vertices → VertexWeighed s i (vertex_in b i)

-- of a block whose numbers are values of f32, as any f32 and any slice of f32 hold them
pub record WeightsPromises : Type 0 where
  -- every vertex of the definition's mesh, regular and transition
  pub mesh : (s : Star) (lent : Lent) (c : Counts) → AreF32 s → answered s lent ≡ Ok c → Weights s (mesh_of s)
  -- and every vertex that extraction leaves
  pub buffers : (s : Star) (lent : Lent) (c : Counts) → AreF32 s → answered s lent ≡ Ok c → LeftWeighed s (left s lent) c
