-- Document 01, 'Regular cells' and 'Transition cells': a coordinate from its fraction of the block, and the position of a grid point before
-- shrinking. Definitions only.
use Rattle.std.specs.Prelude.{ℕ, Float}
use Rattle.model.specs.declared.Xyz.{Xyz}
use Rattle.model.specs.declared.Vector.{Vector}
use Rattle.model.specs.declared.Block.{Block}
use Rattle.model.specs.Formulas.{◌⊕◌, ◌⊗◌, ◌⊘◌, whole, vector, regular_coordinate}

abbrev pub coordinate_at : Float → Float → Float → Float
coordinate_at base size fraction = base ⊕ (size ⊗ fraction)

-- k half steps, each half of an nth
abbrev pub fine_coordinate_at : Float → Float → Float → ℕ → Float
fine_coordinate_at base size nth k = base ⊕ (size ⊗ (((whole 1 ⊘ whole 2) ⊗ whole k) ⊗ nth))

abbrev pub original_position : Block → Xyz → Vector
original_position block p =
    let n = block.subdivisions in
    let size = block.size in
    vector (regular_coordinate block.base.x size n p.x) (regular_coordinate block.base.y size n p.y)
    (regular_coordinate block.base.z size n p.z)
