-- `grid::readings::value_of` meets its contract: a point never sampled reads as a NaN.
use mathlib.Core.Path.{ap, sym}
use lib.Ieee.{of_bits}
use Rattle.model.specs.Samples.{value_of}
use Rattle.grid.proofs.readings.value_of.Goals as goal

pub returns-in-Err : goal.returns-in-Err
unfolding of_bits
returns-in-Err c = ap value_of (sym c.in-Err.is)
