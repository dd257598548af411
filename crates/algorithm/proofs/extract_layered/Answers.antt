-- `extract_layered` meets its contract: what the core leaves is what the definition's steps leave, where the layers that are passed over take none.
use Rattle.model.specs.Star.{star}
use Rattle.algorithm.proofs.Answers.{told_layered}
use Rattle.algorithm.proofs.extract_layered.Goals as goal

pub returns : goal.returns
returns c =
    let a = c.args in
    let s = star a.header a.centre.now a.neighbours.now in
    let t = told_layered s a.summary.now a.store.now a.vertices.now a.triangles.now a.edges.now _ _ _ _ _ c.mesh.ensures.leaves c.mesh.ensures.edges in
    rw c.report.ensures (record { answer = t.0; store = t.1.0; vertices = t.1.1.0; triangles = t.1.1.1.0; reads = t.1.1.1.1.0; edges = t.1.1.1.1.1 })
