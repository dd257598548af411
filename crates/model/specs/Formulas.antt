-- Document 01, 'What is bought', 'Regular cells' and 'Transition cells': the f32 formulas, each operation rounded once, in the
-- order written. Definitions only.
use Rattle.std.specs.Prelude.{ℕ, ◌+◌, ◌*◌, Bool, false, cond, ◌&&◌, ◌||◌, not, List, eqb, pos, Float}
use Rattle.std.specs.Float.Ieee as Ieee
use Rattle.std.specs.Float.{binary32}
use Rattle.model.specs.declared.Xyz.{Xyz}
use Rattle.model.specs.declared.Vector.{Vector}
use Rattle.model.specs.declared.Block.{Block}
use Rattle.model.specs.declared.GridPoint.{GridPoint}
use Rattle.model.specs.declared.Vertex.{Vertex}
use Rattle.model.specs.Samples.{value_at}
use Rattle.model.specs.Sides.{named}

infixl 6 ◌⊕◌
infixl 6 ◌⊖◌
infixl 7 ◌⊗◌
infixl 7 ◌⊘◌
abbrev pub ◌⊕◌ : Float → Float → Float
a ⊕ b = Ieee.add binary32 a b

abbrev pub ◌⊖◌ : Float → Float → Float
a ⊖ b = Ieee.sub binary32 a b

abbrev pub ◌⊗◌ : Float → Float → Float
a ⊗ b = Ieee.mul binary32 a b

abbrev pub ◌⊘◌ : Float → Float → Float
a ⊘ b = Ieee.div binary32 a b

-- a whole number as an f32
abbrev pub whole : ℕ → Float
whole k = Ieee.of_int binary32 (pos k)

abbrev pub vector : Float → Float → Float → Vector
vector x y z = record { x = x; y = y; z = z }

-- ---- samples

-- inside when sample >= threshold
abbrev pub inside : Float → Float → Bool
inside threshold sample = Ieee.le threshold sample

abbrev pub inside_bit : Float → Float → ℕ
inside_bit threshold sample = cond (inside threshold sample) 1 0

-- the weight toward b
abbrev pub weight : Float → Float → Float → Float
weight a b threshold = (threshold ⊖ a) ⊘ (b ⊖ a)

abbrev pub between : Float → Float → Float → Float
between w a b = a ⊕ (w ⊗ (b ⊖ a))

abbrev pub between_vectors : Float → Vector → Vector → Vector
between_vectors w a b = vector (between w a.x b.x) (between w a.y b.y) (between w a.z b.z)

-- the vertex between two grid points
abbrev pub vertex_between : Float → GridPoint → GridPoint → Vertex
vertex_between threshold a b =
    let w = weight a.sample b.sample threshold in
    record {
      position = between_vectors w a.position b.position;
      gradient = between_vectors w a.gradient b.gradient;
    }

-- on each axis the sample one step up minus the one a step down; coordinates of a sample are kept one up
unfoldable pub gradient_at : ℕ → List Float → Xyz → Vector
gradient_at n samples p =
    vector
    (value_at n samples (p.x + 2) (p.y + 1) (p.z + 1) ⊖ value_at n samples p.x (p.y + 1) (p.z + 1))
    (value_at n samples (p.x + 1) (p.y + 2) (p.z + 1) ⊖ value_at n samples (p.x + 1) p.y (p.z + 1))
    (value_at n samples (p.x + 1) (p.y + 1) (p.z + 2) ⊖ value_at n samples (p.x + 1) (p.y + 1) p.z)

-- ---- positions

-- base + size * (index/n)
abbrev pub regular_coordinate : Float → Float → ℕ → ℕ → Float
regular_coordinate base size n index = base ⊕ (size ⊗ (whole index ⊘ whole n))

-- 0.15 as the nearest f32
unfoldable pub shrink_factor : Float
shrink_factor = Ieee.round binary32 false 15 100

-- 0.15 * (size * (1/n))
abbrev pub shrink_amount : Float → ℕ → Float
shrink_amount size n = shrink_factor ⊗ (size ⊗ (whole 1 ⊘ whole n))

-- the coordinate touches a block face whose side is not named; low is the axis's Low side, and low + 1 its High side
abbrev pub held_by : ℕ → ℕ → ℕ → ℕ → Bool
held_by n mask low index =
    (eqb index 0 && not (named mask low)) || (eqb index n && not (named mask (low + 1)))

-- the point touches a block face whose side is not named
unfoldable pub held : ℕ → ℕ → Xyz → Bool
held n mask p = held_by n mask 0 p.x || (held_by n mask 2 p.y || held_by n mask 4 p.z)

-- a touched Low side adds the amount, a touched High side subtracts it
abbrev pub moved : ℕ → Float → ℕ → Float → Float
moved n amount index at = cond (eqb index 0) (at ⊕ amount) (cond (eqb index n) (at ⊖ amount) at)

unfoldable pub regular_position : Block → ℕ → Xyz → Vector
regular_position block mask p =
    let n = block.subdivisions in
    let size = block.size in
    let x = regular_coordinate block.base.x size n p.x in
    let y = regular_coordinate block.base.y size n p.y in
    let z = regular_coordinate block.base.z size n p.z in
    let amount = shrink_amount size n in
    cond (held n mask p) (vector x y z)
    (vector (moved n amount p.x x) (moved n amount p.y y) (moved n amount p.z z))

-- ((0.5 * k) * (1/n)) times size plus base
abbrev pub fine_coordinate : Float → Float → ℕ → ℕ → Float
fine_coordinate base size n k = base ⊕ (size ⊗ (((whole 1 ⊘ whole 2) ⊗ whole k) ⊗ (whole 1 ⊘ whole n)))

unfoldable pub fine_position : Block → Xyz → Vector
fine_position block k =
    let n = block.subdivisions in
    let size = block.size in
    vector (fine_coordinate block.base.x size n k.x) (fine_coordinate block.base.y size n k.y)
    (fine_coordinate block.base.z size n k.z)
