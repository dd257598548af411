-- `is_number` meets its contract: a NaN's pattern is, without its sign, above that of infinity.
use Rattle.words.specs.Floats.{pattern_number}
use Rattle.words.proofs.floats.is_number.Goals as goal

pub returns : goal.returns
returns c = pattern_number _
