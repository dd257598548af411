-- Document 01, 'The block and its samples': a block, the sides at which its neighbours are finer, and all their samples.
-- Definitions only.
use Rattle.std.specs.Prelude.{ℕ, List, Float}
use Rattle.model.specs.declared.Block.{Block}
use Rattle.model.specs.declared.Header.{Header}
use Rattle.model.specs.declared.Lent.{Lent}
use Rattle.model.specs.Sides.{neighbour_of}

pub record Star : Type 0 where
  pub block : Block
  pub mask : ℕ
  pub threshold : Float
  pub centre : List Float
  pub neighbours : List Float

abbrev pub star : Header → List Float → List Float → Star
star h centre neighbours =
    record { block = h.block; mask = h.mask; threshold = h.threshold; centre = centre; neighbours = neighbours }

-- of a block as it is lent
abbrev pub lent_star : Lent → Star
lent_star l = star l.header l.centre.now l.neighbours.now

abbrev pub subdivisions : Star → ℕ
subdivisions s = s.block.subdivisions

abbrev pub neighbour_at : Star → ℕ → List Float
neighbour_at s side = neighbour_of (subdivisions s) s.mask s.neighbours side
