-- `transition::weighed_at` meets its contract by what `weighed` ensures of the sample that the steps lead to.
use Rattle.cases.proofs.transition.weighed_at.Goals as goal

pub returns : goal.returns
returns c = (rw (← c.along.ensures) c.weighed.ensures.0, c.weighed.ensures.1)
