-- Document 02, [12]: extraction with a summary by layer, beside the further list of [10]. A layer that the summary lets it pass over takes no step: its cells
-- read nothing and make nothing. 14 and 26 of the summary are judged after 8 and before 9. Definitions only.
use Rattle.std.specs.Prelude.{ℕ, cond, List, Float, length}
use Rattle.laws.specs.Steps.{iterate, total}
use Rattle.model.specs.Answers.{Verdict}
use Rattle.model.specs.Limits.{side_count}
use Rattle.model.specs.Refusals.{or_else}
use Rattle.model.specs.Judging.{judge_star, judge_faces, judge_store, judge_room}
use Rattle.model.specs.Star.{Star, subdivisions}
use Rattle.model.specs.Mesh.{Mesh, empty_mesh, regular_layer, transition_side}
use Rattle.model.specs.Extraction.{outcome}
use Rattle.model.specs.Edges.{judge_edges, WholeOutcome, edges_left}
use Rattle.model.specs.Layers.{passed_over, judge_summary}

-- how many of so many layers are passed over
abbrev pub layers_over : Star → List Float → ℕ → ℕ
layers_over s summary = total (λ x. cond (passed_over s.threshold summary x) 1 0)

-- the step of a layer, unless it is passed over
unfoldable pub layer_step : Star → List Float → ℕ → Mesh → Mesh
layer_step s summary x m = cond (passed_over s.threshold summary x) m (regular_layer s x m)

-- the layers that are not passed over, and then the transition cells
unfoldable pub layered_mesh : Star → List Float → Mesh
layered_mesh s summary = iterate (transition_side s) side_count (iterate (layer_step s summary) (subdivisions s) (empty_mesh (subdivisions s)))

-- 1 to 8, 14, 26, 9, 23, 10, in that order
unfoldable pub judge_layered : Star → List Float → ℕ → ℕ → ℕ → ℕ → Verdict
judge_layered s summary heldStore heldVertices heldTriangles heldEdges =
    let m = layered_mesh s summary in
    or_else (judge_star s)
    (or_else (judge_faces s)
    (or_else (judge_summary (subdivisions s) s.centre summary)
    (or_else (judge_store (subdivisions s) heldStore)
    (or_else (judge_edges (length m.made) heldEdges)
    (judge_room (length m.made) (length m.triangles) heldVertices heldTriangles)))))

unfoldable pub extract_layered : Star → List Float → List ℕ → List Float → List ℕ → List ℕ → WholeOutcome
extract_layered s summary store vertices triangles edges =
    let m = layered_mesh s summary in
    let verdict = judge_layered s summary (length store) (length vertices) (length triangles) (length edges) in
    record { mesh = outcome m store vertices triangles verdict; edges = edges_left m edges verdict }
