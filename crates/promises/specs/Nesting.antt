-- What was promised of places (document 02, [6]), for every block: each is worked out by nesting, one multiply at a time, and no value on the way is above
-- the place itself, so that no width beyond the place's own is needed. It lists the values in the order in which grid's `in_block_lem`, `on_face`,
-- `regular_place` and `transition_place` make them; what these answer is the model's place, as it was. Definitions only.
use Rattle.std.specs.Prelude.{ℕ, ◌+◌, ◌*◌, ◌≤◌, ◌≡◌, List, [], ◌∷◌, ◌++◌}
use Rattle.model.specs.Samples.{sample_length, in_block, on_face}
use Rattle.model.specs.Mesh.{regular_place, transition_place}
use Rattle.grid.specs.Nesting.{nested}
use Rattle.grid.specs.RotationLaws.{OnSide}
use Rattle.grid.specs.Walks.{side_place, walk_of}
use Rattle.grid.specs.OnTheWalk.{StepSizes}

-- ---- nested places

abbrev pub AtMost : ℕ → List ℕ → Type 0
AtMost place [] = Unit {0}
AtMost place (value ∷ rest) = (value ≤ place) × AtMost place rest

-- what nesting makes of the parts a, b and c before it comes to the place
abbrev pub nest_way : ℕ → ℕ → ℕ → ℕ → List ℕ
nest_way m a b c = a * m ∷ (a * m + b) ∷ (a * m + b) * m ∷ []

-- a place that is nested of a, b and c, once these are made: each value on the way is at most the place
pub record Nested (m a b c : ℕ) (parts : List ℕ) (place : ℕ) : Type 0 where
  pub is : nested m a b c ≡ place
  pub way : AtMost place (parts ++ nest_way m a b c)

pub record NestedPlaces : Type 0 where
  -- the in-block point (x, y, z), so also where the line of samples at (x, y) starts
  pub in_block_lem : (n x y z : ℕ) → Nested (n + 1) x y z [] (in_block n x y z)
  -- the point (i, j) of an extension face
  pub on_face_lem : (n face i j : ℕ) → Nested (n + 1) (n + 1 + face) i j ((n + 1 + face) ∷ []) (on_face n face i j)
  -- the index store: a regular cell's place, and a transition cell's
  pub regular : (n x y z r : ℕ) → 1 ≤ n → Nested n (n * r + z) y x (n * r ∷ (n * r + z) ∷ []) (regular_place n x y z r)
  pub transition : (n side u v r : ℕ) → 1 ≤ n
      → Nested n (4 * n + 6 * r) (6 * v) (6 * u + side) (4 * n ∷ 6 * r ∷ (4 * n + 6 * r) ∷ 6 * v ∷ 6 * u ∷ (6 * u + side) ∷ []) (transition_place n side u v r)

-- ---- steps from a place to a place

pub record Steps : Type 0 where
  -- one step along an axis: the lower place and the stride make the upper one
  pub along_x : (n x y z : ℕ) → in_block n x y z + (n + 1) * (n + 1) ≡ in_block n (x + 1) y z
  pub along_y : (n x y z : ℕ) → in_block n x y z + (n + 1) ≡ in_block n x (y + 1) z
  pub along_z : (n x y z : ℕ) → in_block n x y z + 1 ≡ in_block n x y (z + 1)
  -- along a side, from its first place to that of a row and from there to that of a point, the centre's own or the finer neighbour's: each value on the
  -- way is below the length of the block's samples
  pub row : (m side w u v : ℕ) → OnSide side m u v w → StepSizes (sample_length m) (walk_of m side w).first (walk_of m side w).u u
  pub spot : (m side w u v : ℕ) → OnSide side m u v w → StepSizes (sample_length m) (side_place m side w u 0) (walk_of m side w).v v

-- ---- all of it

pub record NestingPromises : Type 0 where
  pub places : NestedPlaces
  pub steps : Steps
