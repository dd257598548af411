-- `float_at` meets its contract: the word is no pattern of a NaN, so it has a float.
use lib.Ieee.Bits.{nan_bits_is}
use Rattle.words.proofs.orders.ByteOrder.float_at.Goals as goal

pub float_from_bits-result : goal.float_from_bits-result
float_from_bits-result g c = rw (nan_bits_is, c.word_at.ensures) c.requires.number
