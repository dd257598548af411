-- `back` meets its contract, for each kind of cell: a code that makes no vertex stays inside. Assumes nothing.
use mathlib.Core.Path.{ap}
use Rattle.codes.specs.declared.CellIndex.TheVariants.{Regular, Transition}
use Rattle.codes.specs.Staying.{regular_kept, transition_kept}
use Rattle.codes.proofs.back.Goals as goal

pub regular_back-requires : goal.regular_back-requires
regular_back-requires c = regular_kept c.args.at c.args.code c.requires _ c.in-Regular.is

pub transition_back-requires : goal.transition_back-requires
transition_back-requires c = transition_kept c.args.at c.args.code c.requires _ c.in-Transition.is

pub returns-in-Regular : goal.returns-in-Regular
returns-in-Regular c = rw c.in-Regular.is (ap Regular c.regular_back.ensures)

pub returns-in-Transition : goal.returns-in-Transition
returns-in-Transition c = rw c.in-Transition.is (ap Transition c.transition_back.ensures)
