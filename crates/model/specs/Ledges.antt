-- Document 02, [3]: small blocks, and for each whether it was blank by document 01 and whether it is now, worked out by the definitions. One cell and
-- neighbours of two subdivisions; a sample is 0 or 1, and the threshold is 1.
use Rattle.std.specs.Prelude.{ℕ, ◌+◌, ◌*◌, ◌≡◌, refl, false, cond, List, [], ◌∷◌, ◌++◌, pos, Float}
use Rattle.std.specs.Int.Count.{ones, ones_in}
use Rattle.std.specs.Float.Ieee as Ieee
use Rattle.std.specs.Float.{fin}
use Rattle.laws.specs.Steps.{listed}
use Rattle.laws.specs.Tests.{then}
use Rattle.laws.specs.Counting.{has}
use Rattle.model.specs.Samples.{sample_length, place_of, value_at, reading_at, sampled, outside}
use Rattle.model.specs.Sides.{named, neighbour_of}
use Rattle.model.specs.Rotations.{rotations, rotation_of, point_from}
use Rattle.model.specs.Formulas.{vector}
use Rattle.model.specs.Star.{Star, star, subdivisions}
use Rattle.model.specs.Points.{fine_sample}
use Rattle.model.specs.Blank.{centre_as, side_as, sides_as, is_blank, blank_before}

abbrev low : Float
low = fin false 0 (pos 0)

abbrev high : Float
high = fin false 1 (pos 0)

-- the samples of a block of n subdivisions: 1 at these places
abbrev inside_at : ℕ → List ℕ → List Float
inside_at n places = listed (λ k. cond (has k places) high low) (sample_length n)

abbrev one_cell : ℕ → List Float → List Float → Star
one_cell mask centre neighbours =
    star (record { block = record { base = vector low low low; size = high; subdivisions = 1 }; mask = mask; threshold = high }) centre neighbours

abbrev all_inside : ℕ → List Float
all_inside n = listed (λ k. high) (sample_length n)

-- nothing is inside; everything is; one corner of the centre alone is
abbrev pub level : Star
level = one_cell 16 (inside_at 1 []) (inside_at 2 [])

abbrev pub filled : Star
filled = one_cell 16 (all_inside 1) (all_inside 2)

abbrev pub corner : Star
corner = one_cell 0 (inside_at 1 (7 ∷ [])) []

-- a ledge: of the face at LowZ the middle alone is inside, the neighbour's point (1, 1, 2)
abbrev pub ledge : Star
ledge = one_cell 16 (inside_at 1 []) (inside_at 2 (14 ∷ []))

-- a ledge at the last of the six sides; and one at the second of two
abbrev pub last_ledge : Star
last_ledge = one_cell 32 (inside_at 1 []) (inside_at 2 (12 ∷ []))

abbrev pub second_ledge : Star
second_ledge = one_cell 17 (inside_at 1 []) (inside_at 2 [] ++ inside_at 2 (14 ∷ []))

-- the whole neighbour is inside and the centre is not: each is on one side, and they are not on the same. Extraction refuses it, by 8
abbrev pub apart : Star
apart = one_cell 16 (inside_at 1 []) (all_inside 2)

-- inside are a sample of the centre's extension faces, one of the neighbour's, and one of the neighbour's other planes
abbrev pub beyond : Star
beyond = one_cell 16 (inside_at 1 (8 ∷ [])) (inside_at 2 (0 ∷ 27 ∷ []))

-- whether a block was blank, and whether it is; whoever unfolds it can work it out
unfoldable pub was_and_is : Star → List ℕ
unfolding is_blank centre_as sides_as side_as then fine_sample value_at reading_at sampled outside place_of named neighbour_of point_from rotation_of rotations ones ones_in Ieee.le Ieee.lt Ieee.eq
was_and_is s =
    let m = subdivisions s + 1 in
    blank_before (m * m * m) s.threshold s.centre ∷ cond (is_blank s) 1 0 ∷ []

pub level_told : was_and_is level ≡ 1 ∷ 1 ∷ []
unfolding was_and_is
level_told = refl

pub filled_told : was_and_is filled ≡ 1 ∷ 1 ∷ []
unfolding was_and_is
filled_told = refl

pub corner_told : was_and_is corner ≡ 0 ∷ 0 ∷ []
unfolding was_and_is
corner_told = refl

pub ledge_told : was_and_is ledge ≡ 1 ∷ 0 ∷ []
unfolding was_and_is
ledge_told = refl

pub last_ledge_told : was_and_is last_ledge ≡ 1 ∷ 0 ∷ []
unfolding was_and_is
last_ledge_told = refl

pub second_ledge_told : was_and_is second_ledge ≡ 1 ∷ 0 ∷ []
unfolding was_and_is
second_ledge_told = refl

pub apart_told : was_and_is apart ≡ 1 ∷ 0 ∷ []
unfolding was_and_is
apart_told = refl

pub beyond_told : was_and_is beyond ≡ 1 ∷ 1 ∷ []
unfolding was_and_is
beyond_told = refl
