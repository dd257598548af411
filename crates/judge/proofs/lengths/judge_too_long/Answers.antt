-- `judge::lengths::judge_too_long` meets its contract: the wanted length is a small number.
use Prim.Native.Nat.{◌*◌, ◌≤◌}
use native.Mathlib.Nat.{le_refl}
use native.Mathlib.Omega.{arith}
use lib.Count.{ones}
use Rattle.grid.specs.Counts.{most_samples}
use Rattle.judge.proofs.Bounds.{parts_small}
use Rattle.judge.proofs.lengths.judge_too_long.Goals as goal

pub overflow_mul-wanted : goal.overflow_mul-wanted
overflow_mul-wanted c =
    let mask = c.args.mask in
    let small : c.count.result * c.sample_length.result ≤ most_samples =
    rw (c.count.ensures, c.sample_length.ensures)
    (parts_small c.args.n mask c.requires.0 c.requires.1 (le_refl (ones mask))) in
    omega arith

pub returns : goal.returns
returns c = cc
