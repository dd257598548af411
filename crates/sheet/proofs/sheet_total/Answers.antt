-- `sheet_total` meets its contract. The loop's invariant: the lines passed are added up, and what they add is small for each byte passed.
use Rattle.std.specs.Prelude.{Ok}
use Prim.Native.Nat.{◌+◌, ◌≤◌}
use mathlib.Core.Path.{ap}
use native.Mathlib.Omega.{arith}
use borrow.Author.Tests.{le-leb, lt-leb}
use lib.ListN.{length, drop, length-drop}
use Rattle.sheet.specs.Definition.{row_of, most_run, sheet_total}
use Rattle.sheet.specs.Runs.{row_bytes}
use Rattle.sheet.specs.Sizes.{small_more}
use Rattle.sheet.specs.Totals.{total_more, total_end}
use Rattle.sheet.proofs.sheet_total.Goals as goal
use Rattle.sheet.proofs.sheet_total.Goals.{In-loop-at}

-- the row has some of the bytes that are left
left : (c : In-loop-at) → 1 ≤ length (drop c.loop-at.at c.args.run.now)
left c = omega (arith, c.loop-at-test.true, length-drop c.loop-at.at c.args.run.now)

some : (c : In-loop-at) → 1 ≤ (length (row_of (drop c.loop-at.at c.args.run.now)).bytes)
some c = (row_bytes (drop c.loop-at.at c.args.run.now)).0 (left c)

ends-in : (c : In-loop-at) → c.loop-at.at + (length (row_of (drop c.loop-at.at c.args.run.now)).bytes) ≤ length c.args.run.now
ends-in c = omega (arith, c.loop-at-test.true, length-drop c.loop-at.at c.args.run.now, (row_bytes (drop c.loop-at.at c.args.run.now)).1)

pub returns-then-run-gt-MOST_RUN : goal.returns-then-run-gt-MOST_RUN
unfolding sheet_total
returns-then-run-gt-MOST_RUN c =
    let run = c.args.run.now in
    rw (lt-leb (length run) most_run c.if-run-gt-MOST_RUN.true)

pub loop-at-smaller : goal.loop-at-smaller
loop-at-smaller c =
    omega (arith, c.line_at-found.ensures.1.1, some (goal.at.loop-at-smaller c).In-loop-at, c.loop-at-test.true)

pub loop-at-preserved : goal.loop-at-preserved
loop-at-preserved c =
    let so_far = c.loop-at.invariant.1 in (
      omega (arith, c.line_at-found.ensures.1.1, ends-in (goal.at.loop-at-preserved c).In-loop-at),
      (
        rw (c.with_line-sum.ensures, c.line_at-found.ensures.1.1) (small_more c.loop-at.at (length (row_of (drop c.loop-at.at c.args.run.now)).bytes) c.line_at-found.result.line (some (goal.at.loop-at-preserved c).In-loop-at) so_far.0 c.line_at-found.ensures.0),
        rw (c.with_line-sum.ensures, c.line_at-found.ensures.1.1, c.line_at-found.ensures.1.0) (total_more c.args.run.now c.loop-at.at c.loop-at.sum (left (goal.at.loop-at-preserved c).In-loop-at) so_far.1),
      ),
    )

pub returns : goal.returns
unfolding sheet_total
returns c =
    let l = c.loop-at in
    let run = c.args.run.now in
    rw (le-leb (length run) most_run c.if-run-gt-MOST_RUN.false)
    (ap Ok (total_end run l.at l.sum (omega (arith, c.loop-at-test.false, l.invariant.0)) l.invariant.1.1))
