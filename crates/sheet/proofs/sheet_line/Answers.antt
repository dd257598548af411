-- `sheet_line` meets its contract, case by case.
use Rattle.std.specs.Prelude.{Ok, Some}
use borrow.Author.Tests.{le-leb, lt-leb, lt-ltb, le-ltb}
use lib.ListN.{length}
use Rattle.sheet.specs.Definition.{most_run, sheet_line}
use Rattle.sheet.proofs.sheet_line.Goals as goal

pub returns-then-run-gt-MOST_RUN : goal.returns-then-run-gt-MOST_RUN
unfolding sheet_line
returns-then-run-gt-MOST_RUN c =
    let run = c.args.run.now in
    rw (lt-leb (length run) most_run c.if-run-gt-MOST_RUN.true)

pub returns-then-at-run : goal.returns-then-at-run
unfolding sheet_line
returns-then-at-run c =
    let run = c.args.run.now in
    rw (le-leb (length run) most_run c.if-run-gt-MOST_RUN.false, le-ltb c.args.at (length run) c.if-at-run.true)

pub returns : goal.returns
unfolding sheet_line
returns c =
    let run = c.args.run.now in
    rw (le-leb (length run) most_run c.if-run-gt-MOST_RUN.false, lt-ltb c.args.at (length run) c.if-at-run.false)
    (λ i. Ok (Some (record { line = c.line_at.ensures.1.0 i; next = c.line_at.ensures.1.1 i })))
