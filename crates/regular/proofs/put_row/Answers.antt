-- `put_row` meets its contract: each place gets the number of its cell.
use Prim.Native.Nat.{ℕ, ◌+◌, ◌-◌, ◌<◌}
use mathlib.Core.Path.{◌≡◌, ◌∙◌}
use native.Mathlib.Omega.{arith}
use borrow.Author.Rules.{rules}
use lib.ListN.{get_or, length, length-take, length-drop}
use Rattle.cases.specs.Sheets.{line_case}
use Rattle.cases.specs.Rows.{part_put}
use Rattle.regular.proofs.put_row.Goals as goal

pub returns : goal.returns
returns c =
    let a = c.args in
    let part = c.renew.new.places in
    let case : ℕ → ℕ = line_case a.row.threshold a.row.a.now a.row.b.now a.row.c.now a.row.d.now in
    let n_is : a.start + a.n - a.start ≡ a.n = omega arith in
    let long : length part ≡ a.n = c.renew.auto.places ∙ simp (length-take, length-drop) (omega arith) in
    let made : (k : ℕ) → k < a.n → get_or part k 0 ≡ case k =
    λ k h. let at = c.renew.ensures.new k (omega (arith, h, long, c.renew.auto.places)) in search rules in
    rw n_is (part_put case a.start a.n a.cases.now part (omega arith) long made)
