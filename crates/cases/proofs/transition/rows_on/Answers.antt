-- `transition::rows_on` meets its contract. The loop's invariant: the rows passed have their numbers and marks.
use Prim.Native.Nat.{ℕ, ◌+◌, ◌≤◌, ◌<◌}
use mathlib.Core.Path.{◌≡◌, ap, ◌∙◌}
use native.Mathlib.Nat.{add-zero}
use native.Mathlib.Omega.{arith}
use Rattle.cases.specs.declared.transition.Lines.{Lines}
use Rattle.cases.specs.Sheets.{row_start, sheet_places}
use Rattle.cases.specs.Marks.{all_transition, mark_of}
use Rattle.cases.specs.Faces.{nine_inside, OnWalk}
use Rattle.cases.proofs.RowPlaces.{row_fits}
use Rattle.cases.specs.Rows.{row_as, one_more_row}
use Rattle.cases.proofs.transition.rows_on.Goals as goal
use Rattle.cases.proofs.transition.rows_on.Goals.{In-loop-u}

-- the row is one of the sheet's
row_is : (c : In-loop-u) → c.args.at + c.loop-u.u < c.args.n
row_is c = omega (arith, c.loop-u-test.true, c.requires.n_le_most_subdivisions.1.0)

row_within : (c : In-loop-u) → row_start c.args.n (c.args.at + c.loop-u.u) + c.args.n ≤ sheet_places
row_within c = omega (arith, row_fits _ _ c.requires.n_le_most_subdivisions.0 (row_is c))

pub loop-u-init : goal.loop-u-init
loop-u-init c = record { numbers = λ case on first. simp add-zero first; marked = λ case on first. simp add-zero first }

pub lines_at-lines-requires : goal.lines_at-lines-requires
lines_at-lines-requires c =
    let leads = c.requires.walked.leads in
    let taken = c.loop-u-test.true in
    (omega (arith, row_is c, c.requires.n_le_most_subdivisions.0), (leads _ (omega (arith, taken)), (leads _ (omega (arith, taken)), leads _ (omega (arith, taken)))))

pub overflow_add-start-in-loop-u : goal.overflow_add-start-in-loop-u
overflow_add-start-in-loop-u c = omega (arith, row_is (goal.at.overflow_add-start-in-loop-u c).In-loop-u, c.requires.n_le_most_subdivisions.0)

pub overflow_mul-start : goal.overflow_mul-start
overflow_mul-start c = omega (arith, row_within (goal.at.overflow_mul-start c).In-loop-u)

pub row_on-requires : goal.row_on-requires
row_on-requires c =
    let within = row_within (goal.at.row_on-requires c).In-loop-u in
    record {
      n_le_most_subdivisions = (c.requires.n_le_most_subdivisions.0, (omega (arith, within), omega (arith, within)));
      by_index = λ v2 h. rw c.lines_at-lines.ensures (c.requires.walked.lined c.loop-u.u v2 c.loop-u-test.true h);
    }

pub loop-u-preserved : goal.loop-u-preserved
loop-u-preserved c =
    let a = c.args in
    let so_far = c.loop-u.invariant in
    let next : a.at + c.loop-u.u + 1 ≡ a.at + (c.loop-u.u + 1) = omega arith in
    let number : (case : ℕ → ℕ → ℕ) → OnWalk case a.threshold a.fine.now a.n a.walk a.rows a.at → (v : ℕ) → v < a.n
    → nine_inside a.threshold a.fine.now c.lines_at-lines.result v ≡ case (a.at + c.loop-u.u) v =
    λ case on v h. ap (λ (l : Lines). nine_inside a.threshold a.fine.now l v) c.lines_at-lines.ensures ∙ on.number c.loop-u.u v c.loop-u-test.true h in
    record {
      numbers = λ case on first.
          rw next at (one_more_row _ _ (a.at + c.loop-u.u) _ _ (row_as (number case on) c.row_on.ensures.cases) (so_far.numbers case on first));
      marked = λ case on first.
          rw next at
          (one_more_row _ _ (a.at + c.loop-u.u) _ _ (row_as (λ v h. ap (mark_of all_transition) (number case on v h)) c.row_on.ensures.marks) (so_far.marked case on first));
    }
