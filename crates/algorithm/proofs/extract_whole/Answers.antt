-- `extract_whole` meets its contract: the core judges 23 too, and writes the further list.
use mathlib.Core.Bool.{true}
use lib.ListN.{length}
use Rattle.model.specs.Star.{star}
use Rattle.model.specs.Edges.{judge_whole, extract_whole}
use Rattle.layers.specs.Layered.{spared_none}
use Rattle.algorithm.proofs.Answers.{told_whole, none_told}
use Rattle.algorithm.proofs.extract_whole.Goals as goal

pub returns : goal.returns
unfolding extract_whole judge_whole
returns c =
    let a = c.args in
    let s = star a.header a.centre.now a.neighbours.now in
    let none = none_told true s (length a.store.now) (length a.vertices.now) (length a.triangles.now) (length a.edges.now) in
    let t = told_whole (rw (spared_none s, none) at c.mesh.ensures.leaves) (rw none at c.mesh.ensures.edges) in
    rw c.report.ensures (record { answer = t.0; store = t.1.0; vertices = t.1.1.0; triangles = t.1.1.1.0; reads = t.1.1.1.1.0; edges = t.1.1.1.1.1 })
