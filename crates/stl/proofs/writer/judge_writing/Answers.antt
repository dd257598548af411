-- `judge_writing` meets its contract: 16, then 17, then 14, each where the one before it passes.
use Rattle.std.specs.Prelude.{ℕ, ◌≤◌}
use Rattle.std.proofs.Common.{◌∙◌, ap, arith, leb-true, sym}
use Rattle.laws.specs.Exits.{handed_on}
use Rattle.model.specs.Judging.{judge_buffer}
use Rattle.judge.specs.First.{unless_passed}
use Rattle.model.specs.Corners.{triangle_count}
use Rattle.stl.specs.Definition.{most_triangles, judge_writing}
use Rattle.stl.proofs.writer.judge_writing.Goals as goal
use Rattle.stl.proofs.writer.judge_writing.Goals.{In_ok-judge_named}

-- 16 has passed
few : (c : In_ok-judge_named) → triangle_count c.args.triangles.now ≤ most_triangles
few c = leb-true _ _ (unless_passed _ _ (sym c.unless.ensures ∙ c.in_ok-unless.was))

pub returns-in_err-unless : goal.returns-in_err-unless
unfolding judge_writing
returns-in_err-unless c = rw (handed_on _ _ c.from_residual.ensures.1, ← c.unless.ensures, c.in_err-unless.was)

pub returns-in_err-judge_named : goal.returns-in_err-judge_named
unfolding judge_writing
returns-in_err-judge_named c =
    rw (
      handed_on _ _ c.from_residual-in_err-judge_named.ensures.1,
      ← c.unless.ensures,
      c.in_ok-unless.was,
      ← c.judge_named.ensures,
      c.in_err-judge_named.was,
    )

pub file_length-requires : goal.file_length-requires
file_length-requires c = omega (arith, few c)

pub returns : goal.returns
unfolding judge_writing
returns c =
    rw (← c.unless.ensures, c.in_ok-unless.was, ← c.judge_named.ensures, c.in_ok-judge_named.was)
    (c.judge_buffer.ensures ∙ ap (λ (wanted : ℕ). judge_buffer wanted c.args.room) c.file_length.ensures)
