-- What was promised of weights holds: an accepted call has passed 1 to 8, and its buffers hold the definition's vertices.
use Rattle.std.specs.Prelude.{◌<◌, ◌≡◌, length, Ok}
use Rattle.std.proofs.Common.{sym, ap, subst, arith}
use Rattle.model.specs.declared.Counts.{Counts}
use Rattle.model.specs.Star.{Star}
use Rattle.model.specs.Mesh.{Made, mesh_of}
use Rattle.weights.specs.Clauses.{AreF32, VertexWeighed, Weights}
use Rattle.weights.proofs.Weights.{weights}
use Rattle.promises.specs.Left.{Lent, answered, left}
use Rattle.promises.specs.Weights.{LeftWeighed, WeightsPromises}
use Rattle.promises.proofs.Surface.{vertex_is}
use Rattle.promises.proofs.Extracted.{passed, faces_passed, equal_mesh, vertices_left, triangles_left}

module _ (s : Star) (lent : Lent) (c : Counts) (fit : AreF32 s) (e : answered s lent ≡ Ok c) where
  of_mesh : Weights s (mesh_of s)
  of_mesh = weights s fit (passed s lent c e) (faces_passed s lent c e)

  of_buffers : LeftWeighed s (left s lent) c
  of_buffers i h =
      let in_mesh : i < length (mesh_of s).made = omega (arith, ap (λ (c : Counts). c.vertices) (equal_mesh s lent c e).counted) in
      let same = vertex_is s (left s lent) lent.vertices lent.triangles (vertices_left s lent c e) (triangles_left s lent c e) i in_mesh in
      subst (VertexWeighed s i) (sym (ap (λ (m : Made). m.vertex) same)) (of_mesh i in_mesh)

pub weights_kept : WeightsPromises
weights_kept = record { mesh = of_mesh; buffers = of_buffers }
