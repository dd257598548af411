-- `plane` meets its contract: the places from (x, 0, 0) to (x, n, n) lie one after another.
use Prim.Native.Nat.{ℕ, ◌+◌, ◌-◌, ◌*◌, ◌≤◌}
use mathlib.Core.Path.{sym, ap, ◌∙◌, subst}
use mathlib.Core.List.{List}
use native.Mathlib.Omega.{arith}
use lib.Ieee.{Float}
use lib.ListN.{length, take, drop, length-take, length-drop}
use Rattle.model.specs.Samples.{in_block}
use Rattle.grid.specs.Places.{in_block_lem}
use Rattle.cases.specs.Sheets.{Plane}
use Rattle.cases.specs.Lines.{part_is_plane}
use Rattle.cases.proofs.plane.Goals as goal
use Rattle.cases.proofs.plane.Goals.{After-in_block-start}

-- the last of them is one of the block's
ends-in : (c : After-in_block-start) → let a = c.args in
    c.in_block-start.result + (a.n + 1) * (a.n + 1) ≤ length a.centre.now
ends-in c =
    let a = c.args in
    omega (arith, c.in_block-start.ensures.0, in_block_lem a.n a.x a.n a.n c.requires.1.0 (omega arith) (omega arith), c.requires.1.1)

pub slice_bounds-result-end : goal.slice_bounds-result-end
slice_bounds-result-end c = ends-in c

pub returns : goal.returns
returns c =
    let a = c.args in
    let start = c.in_block-start.result in
    let end = start + (a.n + 1) * (a.n + 1) in record {
      result_len = simp (length-take, length-drop) (omega (arith, ends-in (goal.at.returns c).After-in_block-start));
      plane = λ s n_is centre_is.
          subst (λ (samples : List Float). Plane s a.x (take (end - start) (drop start samples))) centre_is
          (part_is_plane s a.x start end (omega (arith, n_is, c.requires.1.0))
          (c.in_block-start.ensures.0 ∙ ap (λ (n : ℕ). in_block n a.x 0 0) (sym n_is))
          (ap (λ (n : ℕ). start + (n + 1) * (n + 1)) (sym n_is)) (omega (arith, ends-in (goal.at.returns c).After-in_block-start, ap length centre_is)));
    }
