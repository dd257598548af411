-- What the buyer was promised of a face with a finer neighbour (document 02, [14]), for every accepted call: no gap between the regular and the
-- transition triangles there, nor between those of two transition cells of one side. It is said of what stands in the buffers, in the words of finer's
-- Labels and Clauses; how far apart two vertices on one edge may be, in those of weights' Clauses. Definitions only.
use Rattle.std.specs.Prelude.{ℕ, ◌<◌, ◌≡◌, List, length}
use Rattle.model.specs.declared.Counts.{Counts}
use Rattle.model.specs.Star.{Star}
use Rattle.model.specs.Points.{regular_point}
use Rattle.model.specs.Mesh.{Made, Mesh, regular_mesh, mesh_of}
use Rattle.closed.specs.Clauses.{Edge, high, number, OfBlock, vertex_at, edge_at}
use Rattle.finer.specs.Labels.{labelled_mesh}
use Rattle.finer.specs.Clauses.{MadeBySide, NoGap, SameBits}
use Rattle.weights.specs.Clauses.{AreF32, NearVertices}
use Rattle.promises.specs.Left.{Lent, left, mesh_in}

-- what all cells have left in the buffers, each vertex with its label: its grid edge, or the fine edge of its side
abbrev pub labelled_part : Star → Lent → Mesh
labelled_part s b = mesh_in b (edge_at (labelled_mesh s).made) (length (mesh_of s).made) (length (mesh_of s).triangles)

-- a regular vertex and one of a side on one grid edge, whichever way the side runs along it: their positions are near each other
abbrev pub NearBy : Star → List Made → Type 0
NearBy s made =
    (side i j : ℕ) (e : Edge) → i < length (regular_mesh s).made → MadeBySide s side j → OfBlock s e → edge_at made i ≡ number s e
    → edge_at made j ≡ number s e → NearVertices (regular_point s e.low) (regular_point s (high e)) (vertex_at made i) (vertex_at made j)

pub record NoGapIsLeft (s : Star) (lent : Lent) (c : Counts) : Type 0 where
  -- at each named side: between two coarse grid edges in its face as many triangle sides run one way as the other, and so they do between two of the edges
  -- on a border between two of its transition cells; each corner of a transition triangle names a vertex already made on an edge of its own cell; and the
  -- six numbers of each vertex are those between the two ends of the edge that its label tells
  pub no_gap : NoGap s (labelled_part s (left s lent))
  -- where two vertices with one label have the same bits; and where they need not have them, how far apart they may be, of a block whose numbers are
  -- values of f32
  pub same_bits : SameBits s (labelled_part s (left s lent)).made
  pub near_by : AreF32 s → NearBy s (labelled_part s (left s lent)).made
  -- these are all that is left
  pub vertices_are : length (labelled_part s (left s lent)).made ≡ c.vertices
  pub triangles_are : length (labelled_part s (left s lent)).triangles ≡ c.triangles
