-- `weld` meets its contract: what is refused leaves all as it was, and what passes is left as the pass over all vertices leaves it. Assumes nothing.
use mathlib.Core.Path.{sym, ◌∙◌}
use native.Mathlib.Omega.{arith}
use lib.Seq.{length-take-le}
use Rattle.laws.specs.Exits.{handed_on}
use Rattle.weld.specs.Definition.{weld_answer, weld}
use Rattle.weld.specs.Welded.{Whole, whole, all_passed}
use Rattle.weld.proofs.weld.Goals as goal
use Rattle.weld.proofs.weld.Goals.{In_ok-judge_weld}

-- all judges have passed
lists : (c : In_ok-judge_weld) → let a = c.args in Whole a.v a.t a.vertices.now a.triangles.now a.edges.now
lists c =
    let a = c.args in
    whole a.v a.t a.vertices.now a.triangles.now a.edges.now (sym c.judge_weld.ensures ∙ c.in_ok-judge_weld.was)

pub returns-in_err-judge_weld : goal.returns-in_err-judge_weld
unfolding weld weld_answer
returns-in_err-judge_weld c = rw (handed_on _ _ c.from_residual.ensures.1, ← c.judge_weld.ensures, c.in_err-judge_weld.was)

pub slice_bounds-pass-end : goal.slice_bounds-pass-end
slice_bounds-pass-end c = (lists (goal.at.slice_bounds-pass-end c).In_ok-judge_weld).indices

pub slice_bounds-pass-end-2 : goal.slice_bounds-pass-end-2
slice_bounds-pass-end-2 c = sym (length-take-le _ _ (lists (goal.at.slice_bounds-pass-end-2 c).In_ok-judge_weld).indices)

pub pass-kept-requires : goal.pass-kept-requires
pass-kept-requires c =
    let a = c.args in
    let all = lists (goal.at.pass-kept-requires c).In_ok-judge_weld in
    record { short = omega arith; in_edges = all.numbers; in_vertices = all.floats }

pub returns : goal.returns
returns c =
    let a = c.args in
    all_passed a.v a.t a.vertices.now a.triangles.now a.edges.now (lists (goal.at.returns c).In_ok-judge_weld) c.pass-kept.result c.pass-kept.new.vertices c.pass-kept.new.triangles c.pass-kept.new.edges c.pass-kept.ensures
