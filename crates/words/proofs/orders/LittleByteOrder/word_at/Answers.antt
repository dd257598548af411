-- `word_at` meets its contract: its digits are the four bytes, the last the highest.
use Rattle.std.proofs.Common.{arith}
use Rattle.model.specs.Words.{little_at}
use Rattle.words.proofs.orders.LittleByteOrder.word_at.Goals as goal

pub returns : goal.returns
unfolding little_at
returns c = omega (arith, c.from_le_bytes.ensures)
