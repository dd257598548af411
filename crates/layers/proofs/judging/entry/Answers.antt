-- `layers::judging::entry` meets its contract: the two places of the layer.
use Rattle.layers.proofs.judging.entry.Goals as goal

pub returns : goal.returns
returns c = λ i. record { least = c.told_at.ensures i; greatest = c.told_at-2.ensures i }
