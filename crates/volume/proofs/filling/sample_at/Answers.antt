-- `sample_at` meets its contract: a sample that can be used is no NaN, so its word has a float.
use mathlib.Core.Path.{ap}
use lib.Ieee.{binary32, of_bits}
use lib.Ieee.Bits.{nan_bits_is}
use Rattle.judge.specs.Usable.{usable_number}
use Rattle.volume.proofs.filling.sample_at.Goals as goal

pub float_from_bits-result : goal.float_from_bits-result
float_from_bits-result c = rw (nan_bits_is, c.word_at.ensures) (usable_number _ c.requires.good)

pub returns : goal.returns
returns c = ap (of_bits binary32) c.word_at.ensures
