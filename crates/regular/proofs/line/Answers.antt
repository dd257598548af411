-- `line` meets its contract: the places from (y, 0) to (y, n) lie one after another.
use Prim.Native.Nat.{ℕ, ◌+◌, ◌-◌, ◌*◌, ◌≤◌}
use mathlib.Core.Path.{sym, ap, subst}
use native.Mathlib.Omega.{arith}
use lib.ListN.{length, take, drop, length-take, length-drop}
use Rattle.cases.specs.Sheets.{Line}
use Rattle.cases.specs.RowPlaces.{row_before}
use Rattle.cases.specs.Lines.{part_is_line}
use Rattle.regular.proofs.line.Goals as goal
use Rattle.regular.proofs.line.Goals.{Start}

-- the line ends within the plane
ends-in : (e : Start) → (e.args.n + 1) * e.args.y + e.args.n + 1 ≤ (e.args.n + 1) * (e.args.n + 1)
ends-in e = omega (arith, row_before e.args.n e.args.y (e.args.n + 1) e.args.n (omega (arith, e.requires.1.0)) (omega arith))

pub overflow_mul-start : goal.overflow_mul-start
overflow_mul-start c = omega (arith, ends-in c)

pub overflow_add-end : goal.overflow_add-end
overflow_add-end c = omega (arith, ends-in c)

pub overflow_add-end-2 : goal.overflow_add-end-2
overflow_add-end-2 c = omega (arith, ends-in c)

pub offset_bounds-plane-start : goal.offset_bounds-plane-start
offset_bounds-plane-start c = omega (arith, ends-in c)

pub slice_bounds-result-end : goal.slice_bounds-result-end
slice_bounds-result-end c = omega (arith, ends-in c, c.requires.1.1)

pub returns : goal.returns
returns c =
    let a = c.args in
    let start = (a.n + 1) * a.y in
    let fits : start + a.n + 1 ≤ length a.plane.now = omega (arith, ends-in (goal.at.returns c).Start, c.requires.1.1) in record {
      result_len = simp (length-take, length-drop) (omega arith);
      line = λ s x n_is p.
          subst (λ (n : ℕ). Line n s.centre x a.y (take (start + a.n + 1 - start) (drop start a.plane.now))) n_is
          (part_is_line s x a.y start (start + a.n + 1) a.plane.now p (omega (arith, c.requires.1.0)) (ap (λ (n : ℕ). (n + 1) * a.y) (sym n_is)) (omega arith) fits);
    }
