-- `count_transition_cells` meets its contract: with no named side there is none.
use native.Mathlib.Omega.{arith}
use Rattle.model.specs.Star.{star}
use Rattle.walk.specs.Walk.{no_sides}
use Rattle.counting.proofs.Growth.{few_none, few_of, grows_none, grows_as}
use Rattle.counting.proofs.count_transition_cells.Goals as goal

pub returns-then-header-eq0 : goal.returns-then-header-eq0
returns-then-header-eq0 c =
    let a = c.args in
    record { few = few_of _ (omega arith) few_none; grows = λ centre. grows_as (no_sides (star a.header centre a.neighbours.now) c.if-header-eq0.true) grows_none }
