-- `is_usable` meets its contract: without the sign, sizes are ordered as their bit patterns are.
use mathlib.Core.Path.{sym}
use Rattle.record.specs.Patterns.{usable_bits}
use Rattle.record.proofs.judging.is_usable.Goals as goal

pub returns : goal.returns
returns c = sym (usable_bits _ c.ranges.bits.fits)
