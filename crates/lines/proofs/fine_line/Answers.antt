-- `fine_line` meets its contract: the neighbour's samples begin where they are said to.
use Prim.Native.Nat.{ℕ, ◌+◌, ◌*◌}
use mathlib.Core.Path.{◌≡◌, ap, ◌∙◌}
use native.Mathlib.Omega.{arith}
use Rattle.grid.specs.Counts.{count_small}
use Rattle.lines.specs.Lines.{fine_start, face_line, part_fits}
use Rattle.lines.proofs.fine_line.Goals as goal
use Rattle.lines.proofs.fine_line.Goals.{After-sample_length-2}

start_is : (c : After-sample_length-2) → c.sample_length.result + c.count_below.result * c.sample_length-2.result
    ≡ fine_start c.args.header c.args.side
start_is c = λ i. c.sample_length.ensures i + c.count_below.ensures i * c.sample_length-2.ensures i

pub overflow_mul-start : goal.overflow_mul-start
overflow_mul-start c =
    let h = c.args.header in
    let is = c.requires.0 in
    omega (arith, start_is c, part_fits h c.args.side is, count_small h.block.subdivisions h.mask is.few is.sides)

pub overflow_add-start : goal.overflow_add-start
overflow_add-start c =
    let h = c.args.header in
    let is = c.requires.0 in
    omega (arith, start_is c, part_fits h c.args.side is, count_small h.block.subdivisions h.mask is.few is.sides)

pub returns : goal.returns
returns c =
    let a = c.args in
    let fine = 2 * a.header.block.subdivisions in
    c.face_line.ensures ∙ ap (λ (start : ℕ). face_line start fine a.side fine a.u2) (start_is (goal.at.returns c).After-sample_length-2)
