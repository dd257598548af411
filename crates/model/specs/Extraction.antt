-- Document 01, 'Answers by number': extraction and the point read, from their inputs and the lent buffers at entry to the answer
-- and the buffers at exit. Definitions only.
use Rattle.std.specs.Prelude.{ℕ, List, [], ◌∷◌, ℤ, Float, length, Err, Ok}
use Rattle.model.specs.declared.Triangle.{Triangle}
use Rattle.model.specs.declared.Refusal.TheVariants.{PointNeverSampled}
use Rattle.model.specs.Answers.{Reading}
use Rattle.model.specs.Answers.{Verdict}
use Rattle.model.specs.Answers.{PointRead}
use Rattle.model.specs.Answers.{Extraction}
use Rattle.laws.specs.Steps.{each, laid}
use Rattle.model.specs.Samples.{reading_at, one_up}
use Rattle.model.specs.Refusals.{or_else}
use Rattle.model.specs.Judging.{judge_subdivisions, judge_centre, judge_star, judge_faces, judge_store, judge_room}
use Rattle.model.specs.Star.{Star, subdivisions}
use Rattle.model.specs.Mesh.{Made, Mesh, mesh_of}

-- six f32 for a vertex, three u32 for a triangle
abbrev pub vertex_floats : Made → List Float
vertex_floats m =
    m.vertex.position.x ∷ m.vertex.position.y ∷ m.vertex.position.z ∷
    m.vertex.gradient.x ∷ m.vertex.gradient.y ∷ m.vertex.gradient.z ∷ []

abbrev pub triangle_indices : Triangle → List ℕ
triangle_indices t = t.a ∷ t.b ∷ t.c ∷ []

-- what extraction answers, what it leaves in the three buffers, and the sample reads that it reports
pub record Outcome : Type 0 where
  pub answer : Extraction
  pub store : List ℕ
  pub vertices : List Float
  pub triangles : List ℕ
  pub reads : ℕ

-- 1 to 10, in that order
unfoldable pub judge_extraction : Star → ℕ → ℕ → ℕ → Verdict
judge_extraction s heldStore heldVertices heldTriangles =
    or_else (judge_star s)
    (or_else (judge_faces s)
    (or_else (judge_store (subdivisions s) heldStore)
    (judge_room (length (mesh_of s).made) (length (mesh_of s).triangles) heldVertices heldTriangles)))

-- the mesh in the first places of the buffers and the reads of its steps, or every place as it was and no read
unfoldable pub outcome : Mesh → List ℕ → List Float → List ℕ → Verdict → Outcome
outcome m store vertices triangles (Ok _) =
    record {
      answer = Ok (record { vertices = length m.made; triangles = length m.triangles });
      store = laid m.store store;
      vertices = laid (each vertex_floats m.made) vertices;
      triangles = laid (each triangle_indices m.triangles) triangles;
      reads = m.reads;
    }
outcome m store vertices triangles (Err r) =
    record { answer = Err r; store = store; vertices = vertices; triangles = triangles; reads = 0 }

unfoldable pub extract : Star → List ℕ → List Float → List ℕ → Outcome
extract s store vertices triangles =
    outcome (mesh_of s) store vertices triangles
    (judge_extraction s (length store) (length vertices) (length triangles))

-- ---- the point read: 1, 4, 15, the last with how many coordinates are outside

abbrev pub point_answer : Verdict → Reading → PointRead
point_answer (Err r) reading = Err r
point_answer (Ok _) (Ok (v, kind)) = Ok (v, kind)
point_answer (Ok _) (Err count) = Err (PointNeverSampled count)

unfoldable pub read_point : ℕ → List Float → ℤ → ℤ → ℤ → PointRead
read_point n samples x y z =
    point_answer (or_else (judge_subdivisions n) (judge_centre n (length samples)))
    (reading_at n samples (one_up n x) (one_up n y) (one_up n z))
