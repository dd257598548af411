-- `judge::point_read::read_point` meets its contract: 1 and 4 by their verdict, 15 by the reading.
use Rattle.std.proofs.Common.{◌∙◌, sym, arith, length}
use mir.Syntax.{w32}
use mir.Facts.{to_z-of_z}
use Rattle.laws.specs.Exits.{handed_on}
use Rattle.model.specs.Extraction.{read_point}
use Rattle.judge.specs.PointReads.{Read, read_passed}
use Rattle.judge.proofs.point_read.read_point.Goals as goal
use Rattle.judge.proofs.point_read.read_point.Goals.{In_ok-judge_block}

passed : (c : In_ok-judge_block) → Read c.args.n (length c.args.samples.now)
passed c = read_passed _ _ (sym c.judge_block.ensures ∙ c.in_ok-judge_block.was)

pub one_up-requires : goal.one_up-requires
one_up-requires c = omega (arith, passed c)

pub one_up-requires-2 : goal.one_up-requires-2
one_up-requires-2 c = omega (arith, passed (goal.at.one_up-requires-2 c).In_ok-judge_block)

pub one_up-requires-3 : goal.one_up-requires-3
one_up-requires-3 c = omega (arith, passed (goal.at.one_up-requires-3 c).In_ok-judge_block)

pub reading-requires : goal.reading-requires
reading-requires c = omega (arith, passed (goal.at.reading-requires c).In_ok-judge_block)

pub returns-in_err-judge_block : goal.returns-in_err-judge_block
unfolding read_point
returns-in_err-judge_block c = rw (handed_on _ _ c.from_residual.ensures.1, ← c.judge_block.ensures, c.in_err-judge_block.was)

-- a signed argument reaches the callee as its bits, and `to_z-of_z` reads the number back
pub returns : goal.returns
unfolding read_point
returns c =
    let x = rw (to_z-of_z {w = w32} c.ranges.x) at c.one_up.ensures in
    let y = rw (to_z-of_z {w = w32} c.ranges.y) at c.one_up-2.ensures in
    let z = rw (to_z-of_z {w = w32} c.ranges.z) at c.one_up-3.ensures in
    rw (← c.judge_block.ensures, c.in_ok-judge_block.was, ← x, ← y, ← z, ← c.reading.ensures) c.answered.ensures
