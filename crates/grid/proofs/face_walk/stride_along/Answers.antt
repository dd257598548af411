-- `grid::face_walk::stride_along` meets its contract: a step leads as far as its unit vector's own place.
use Rattle.grid.proofs.face_walk.stride_along.Goals as goal

pub returns : goal.returns
returns c = λ i. record { up = c.in_block.ensures.0 i; down = c.in_block-2.ensures.0 i }
