-- `layers::judging::is_marked` meets its contract: a NaN in either.
use mathlib.Core.Path.{ap₂}
use mathlib.Core.Bool.{◌||◌}
use Rattle.layers.proofs.judging.is_marked.Goals as goal

pub returns : goal.returns
returns c = ap₂ ◌||◌ c.is_nan.ensures.value c.is_nan-2.ensures.value
