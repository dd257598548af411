-- What extraction's functions judge and what they leave, by name.
use Rattle.std.specs.Prelude.{ℕ, ◌≡◌, Bool, cond, List, [], Float, length, Option, Some, None, Result, Ok, Err}
use Rattle.std.proofs.Common.{Bor}
use Rattle.model.specs.Answers.{Verdict}
use Rattle.model.specs.declared.Refusal.{Refusal}
use Rattle.model.specs.declared.Report.{Report}
use Rattle.model.specs.Refusals.{or_else}
use Rattle.model.specs.Star.{Star, subdivisions}
use Rattle.model.specs.Mesh.{mesh_of}
use Rattle.model.specs.Judging.{judge_faces, judge_store, judge_room, judge_star}
use Rattle.model.specs.Extraction.{Outcome}
use Rattle.model.specs.Edges.{judge_edges, edges_left}
use Rattle.layers.specs.Over.{summary_judged}

-- 1 to 8, 14 and 26 of a summary, if it is asked for, and 9, in that order
abbrev pub judged : Bool → Star → List Float → ℕ → Verdict
judged layered s summary heldStore =
    or_else (judge_star s) (or_else (judge_faces s) (or_else (summary_judged layered (subdivisions s) s.centre summary) (judge_store (subdivisions s) heldStore)))

-- 23, where the further list is asked for
abbrev pub edges_judged : Bool → ℕ → ℕ → Verdict
edges_judged numbered wanted held = cond numbered (judge_edges wanted held) (Ok tt)

-- then 10
abbrev pub room_judged : Bool → Star → ℕ → ℕ → ℕ → Verdict
room_judged numbered s heldVertices heldTriangles heldEdges =
    or_else (edges_judged numbered (length (mesh_of s).made) heldEdges)
    (judge_room (length (mesh_of s).made) (length (mesh_of s).triangles) heldVertices heldTriangles)

-- what a verdict leaves in the further list, if it is asked for
abbrev pub numbers_left : Bool → Star → List ℕ → Verdict → List ℕ
numbers_left numbered s edges verdict = cond numbered (edges_left (mesh_of s) edges verdict) edges

-- all of them, in that order
abbrev pub all_judged : Bool → Bool → Star → List Float → ℕ → ℕ → ℕ → ℕ → Verdict
all_judged layered numbered s summary heldStore heldVertices heldTriangles heldEdges =
    or_else (judge_star s)
    (or_else (judge_faces s)
    (or_else (summary_judged layered (subdivisions s) s.centre summary)
    (or_else (judge_store (subdivisions s) heldStore) (room_judged numbered s heldVertices heldTriangles heldEdges))))

-- a refusal reports no reads
abbrev pub refused_report : Refusal → Report
refused_report r = record { answer = Err r; reads = 0 }

abbrev pub reported : Result Report Refusal → Report
reported (Ok report) = report
reported (Err r) = refused_report r

-- what a summary tells, where there is one
abbrev pub told_of : Option (Bor (List Float)) → List Float
told_of (Some summary) = summary.now
told_of None = []

-- an outcome: what is reported, and what the lent buffers hold then
pub record Leaves (o : Outcome) (report : Report) (store : List ℕ) (vertices : List Float) (triangles : List ℕ) : Type 0 where
  pub answer_is : report.answer ≡ o.answer
  pub reads_are : report.reads ≡ o.reads
  pub store_is : store ≡ o.store
  pub vertices_are : vertices ≡ o.vertices
  pub triangles_are : triangles ≡ o.triangles
