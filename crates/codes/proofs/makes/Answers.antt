-- `makes` meets its contract, for each kind of cell. Assumes nothing.
use Rattle.codes.proofs.makes.Goals as goal

pub returns-in-Regular : goal.returns-in-Regular
returns-in-Regular c = rw c.in-Regular.is (cc)

pub returns-in-Transition : goal.returns-in-Transition
returns-in-Transition c = rw c.in-Transition.is (cc)
