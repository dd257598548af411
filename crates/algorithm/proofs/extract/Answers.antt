-- `extract` meets its contract: the core with no summary and no further list judges what document 01 says.
use lib.ListN.{length}
use Rattle.model.specs.Star.{star}
use Rattle.model.specs.Extraction.{judge_extraction, extract}
use Rattle.layers.specs.Layered.{spared_none}
use Rattle.algorithm.proofs.Answers.{told, none_told}
use Rattle.algorithm.proofs.extract.Goals as goal

pub returns : goal.returns
unfolding extract judge_extraction
returns c =
    let a = c.args in
    let s = star a.header a.centre.now a.neighbours.now in
    let left = c.mesh.ensures.leaves in
    let t = told (rw (spared_none s, none_told _ s (length a.store.now) (length a.vertices.now) (length a.triangles.now) 0) at left) in
    rw c.report.ensures (record { answer = t.0; store = t.1.0; vertices = t.1.1.0; triangles = t.1.1.1.0; reads = t.1.1.1.1 })
