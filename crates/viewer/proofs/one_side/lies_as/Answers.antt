-- `one_side::lies_as` meets its contract: the sample that is read is the line's.
use Rattle.viewer.proofs.one_side.lies_as.Goals as goal

pub returns : goal.returns
returns c = rw (c.inside.ensures, c.sample_on.ensures)
