-- `marks::next_marked` meets its contract: the first place is marked, or none is up to where the words lead.
use native.Mathlib.Omega.{arith}
use Rattle.cases.proofs.Marking.{first_unmarked}
use Rattle.cases.proofs.marks.next_marked.Goals as goal

pub returns-then-marks-start-ne0 : goal.returns-then-marks-start-ne0
returns-then-marks-start-ne0 c = record { ordered = omega arith; within = omega arith; none_marked = λ k l h. absurd (let x : ⊥ = omega arith in x) }

pub returns : goal.returns
returns c =
    record {
      ordered = omega (arith, c.next_by_words.ensures.0);
      within = c.next_by_words.ensures.0.1;
      none_marked = first_unmarked c.args.marks.now c.args.start c.args.from _ c.if-marks-start-ne0.false c.next_by_words.ensures.1;
    }
