-- `transition_back` meets its contract: no step leaves the face, so no difference wraps. Assumes nothing.
use native.Mathlib.Omega.{arith}
use Rattle.codes.specs.Staying.{transition_stays}
use Rattle.codes.proofs.transition_back.Goals as goal

pub overflow_sub-result : goal.overflow_sub-result
overflow_sub-result c =
    omega (arith, (transition_stays c.args.at.u c.args.at.v c.args.code c.requires).0)

pub overflow_sub-result-2 : goal.overflow_sub-result-2
overflow_sub-result-2 c =
    omega (arith, (transition_stays c.args.at.u c.args.at.v c.args.code c.requires).1)

pub returns : goal.returns
returns c = cc
