-- `layers::judging::told_at` meets its contract: beyond the last place it is a NaN.
use Rattle.std.proofs.Common.{sym, arith, tests}
use lib.Ieee.{nan, of_bits}
use lib.ListN.{get_or-eq_default}
use Rattle.layers.proofs.judging.told_at.Goals as goal

pub returns-in-None : goal.returns-in-None
unfolding of_bits
returns-in-None c =
    let a = c.args in
    sym (get_or-eq_default a.summary.now nan {n = a.at} (grind (arith, tests, c.in-None.ensures.lookup)))
