-- `judge_weld` meets its contract: 14 of the vertices, 14 of the triangles, 23 and 17, each where the one before it passes. Assumes nothing.
use Rattle.std.proofs.Common.{sym, ◌∙◌}
use borrow.Author.Tests.{leb-true}
use lib.Seq.{length-take-le}
use Rattle.laws.specs.Exits.{handed_on}
use Rattle.judge.specs.First.{unless_passed}
use Rattle.weld.specs.Definition.{judge_weld}
use Rattle.weld.proofs.judge_weld.Goals as goal

pub returns-in_err-judge_buffer : goal.returns-in_err-judge_buffer
unfolding judge_weld
returns-in_err-judge_buffer c = rw (handed_on _ _ c.from_residual.ensures.1, ← c.judge_buffer.ensures, c.in_err-judge_buffer.was)

pub returns-in_err-judge_buffer-2 : goal.returns-in_err-judge_buffer-2
unfolding judge_weld
returns-in_err-judge_buffer-2 c =
    rw (
      handed_on _ _ c.from_residual-in_err-judge_buffer-2.ensures.1,
      ← c.judge_buffer.ensures,
      c.in_ok-judge_buffer.was,
      ← c.judge_buffer-2.ensures,
      c.in_err-judge_buffer-2.was,
    )

pub returns-in_err-judge_edges : goal.returns-in_err-judge_edges
unfolding judge_weld
returns-in_err-judge_edges c =
    rw (
      handed_on _ _ c.from_residual-in_err-judge_edges.ensures.1,
      ← c.judge_buffer.ensures,
      c.in_ok-judge_buffer.was,
      ← c.judge_buffer-2.ensures,
      c.in_ok-judge_buffer-2.was,
      ← c.judge_edges.ensures,
      c.in_err-judge_edges.was,
    )

pub slice_bounds-judge_named-end : goal.slice_bounds-judge_named-end
slice_bounds-judge_named-end c =
    sym (length-take-le _ _ (leb-true _ _ (unless_passed _ _ (sym c.judge_buffer-2.ensures ∙ c.in_ok-judge_buffer-2.was))))

pub returns : goal.returns
unfolding judge_weld
returns c =
    rw (
      ← c.judge_buffer.ensures,
      c.in_ok-judge_buffer.was,
      ← c.judge_buffer-2.ensures,
      c.in_ok-judge_buffer-2.was,
      ← c.judge_edges.ensures,
      c.in_ok-judge_edges.was,
    )
    c.judge_named.ensures
