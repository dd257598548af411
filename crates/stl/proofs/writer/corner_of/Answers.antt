-- `corner_of` meets its contract: the three patterns are those of the position's floats.
use Rattle.stl.proofs.writer.corner_of.Goals as goal

pub returns : goal.returns
returns c =
    λ i. record {
      x = c.bits_of.ensures i;
      y = c.bits_of-2.ensures i;
      z = c.bits_of-3.ensures i;
    }
