-- Document 02, [10]: the number of each vertex's grid edge as a further list that extraction writes, in the first places of what is lent;
-- refusal 23 for a list too short, after 9 and before 10. Definitions only.
use Rattle.std.specs.Prelude.{ℕ, List, [], ◌∷◌, leb, Float, length, Err, Ok}
use Rattle.laws.specs.Steps.{each, laid}
use Rattle.model.specs.declared.Refusal.TheVariants.{EdgesTooShort}
use Rattle.model.specs.Answers.{Verdict}
use Rattle.model.specs.Refusals.{unless, or_else}
use Rattle.model.specs.Judging.{judge_star, judge_faces, judge_store, judge_room}
use Rattle.model.specs.Star.{Star, subdivisions}
use Rattle.model.specs.Mesh.{Made, Mesh, mesh_of}
use Rattle.model.specs.Extraction.{Outcome, outcome}

-- 23
abbrev pub judge_edges : ℕ → ℕ → Verdict
judge_edges wanted held = unless (leb wanted held) (EdgesTooShort wanted)

-- one u32 for a vertex
abbrev pub edge_number : Made → List ℕ
edge_number m = m.edge ∷ []

-- what extraction answers and leaves, and the further list
pub record WholeOutcome : Type 0 where
  pub mesh : Outcome
  pub edges : List ℕ

-- 1 to 9, 23, 10, in that order
unfoldable pub judge_whole : Star → ℕ → ℕ → ℕ → ℕ → Verdict
judge_whole s heldStore heldVertices heldTriangles heldEdges =
    or_else (judge_star s)
    (or_else (judge_faces s)
    (or_else (judge_store (subdivisions s) heldStore)
    (or_else (judge_edges (length (mesh_of s).made) heldEdges)
    (judge_room (length (mesh_of s).made) (length (mesh_of s).triangles) heldVertices heldTriangles))))

unfoldable pub edges_left : Mesh → List ℕ → Verdict → List ℕ
edges_left m edges (Ok _) = laid (each edge_number m.made) edges
edges_left m edges (Err r) = edges

unfoldable pub extract_whole : Star → List ℕ → List Float → List ℕ → List ℕ → WholeOutcome
extract_whole s store vertices triangles edges =
    let verdict = judge_whole s (length store) (length vertices) (length triangles) (length edges) in
    record { mesh = outcome (mesh_of s) store vertices triangles verdict; edges = edges_left (mesh_of s) edges verdict }
