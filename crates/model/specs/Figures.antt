-- Document 01, 'Figures to agree with': those it marks with a star, worked out by the definitions, beside what it states. Of the limit of
-- subdivisions and of a point never sampled stands what document 02, [9] and [4], makes of it: 64 passes, and 65 takes the place of 17.
use Rattle.std.specs.Prelude.{ℕ, ◌+◌, ◌*◌, ◌≡◌, refl, List, [], ◌∷◌, map, ℤ, pos, negsuc, Err, Ok}
use Rattle.tables.specs.Codes.{point_a, point_b, step_x, step_y, step_z, is_new, reuse_index}
use Rattle.model.specs.declared.Xyz.{Xyz}
use Rattle.model.specs.Answers.{Reading}
use Rattle.model.specs.Answers.{Verdict}
use Rattle.model.specs.Samples.{sample_length, place_of, outside, sampled, kind_of, outside_count, reading_at, one_up}
use Rattle.model.specs.Rotations.{rotations, rotation_of, point_from, neighbour_point}
use Rattle.model.specs.Refusals.{numbers_of}
use Rattle.model.specs.Judging.{judge_subdivisions, judge_mask}

pub record Figure : Type 0 where
  pub worked : List ℕ
  pub stated : List ℕ

abbrev pub figure : List ℕ → List ℕ → Figure
figure worked stated = record { worked = worked; stated = stated }

-- the number of a refusal, 0 for none
abbrev pub number_of : Verdict → ℕ
number_of (Ok _) = 0
number_of (Err r) = (numbers_of r).number

-- the place of a point, by its signed coordinates
abbrev pub place_at : ℕ → ℤ → ℤ → ℤ → ℕ
place_at n x y z = place_of n (one_up n x) (one_up n y) (one_up n z)

-- what reading a point of an empty list says: a value is [], and never sampled the count of its coordinates outside
abbrev pub never_at : ℕ → ℤ → ℤ → ℤ → List ℕ
never_at n x y z = counts (reading_at n [] (one_up n x) (one_up n y) (one_up n z))
  where
    counts : Reading → List ℕ
    counts (Ok (v, kind)) = []
    counts (Err count) = count ∷ []

abbrev pub point : Xyz → List ℕ
point p = p.x ∷ p.y ∷ p.z ∷ []

-- the neighbour's point at offset (u, v, 0) of the cell (cellU, cellV)
abbrev pub offset_point : ℕ → ℕ → ℕ → ℕ → ℕ → ℕ → List ℕ
offset_point n side cellU cellV u v = point (neighbour_point n side (2 * cellU + u) (2 * cellV + v))

abbrev pub low_x : ℕ
low_x = 0

abbrev pub figures : List Figure
figures =
    figure (number_of (judge_subdivisions 16) ∷ number_of (judge_subdivisions 64) ∷ []) (0 ∷ 0 ∷ []) ∷
    figure (number_of (judge_subdivisions 65) ∷ number_of (judge_subdivisions 0) ∷ []) (1 ∷ 1 ∷ []) ∷
    figure (number_of (judge_mask 63) ∷ []) (0 ∷ []) ∷
    figure (number_of (judge_mask 64) ∷ []) (2 ∷ []) ∷
    figure (place_at 2 (pos 1) (pos 2) (pos 0) ∷ []) (15 ∷ []) ∷
    figure (place_at 2 (negsuc 0) (pos 1) (pos 2) ∷ []) (32 ∷ []) ∷
    figure (place_at 2 (pos 1) (pos 2) (pos 3) ∷ sample_length 2 ∷ []) (77 ∷ 81 ∷ []) ∷
    figure (never_at 2 (negsuc 0) (negsuc 0) (pos 0)) (2 ∷ []) ∷
    figure (offset_point 4 low_x 1 2 1 0) (8 ∷ 4 ∷ 5 ∷ []) ∷
    figure (offset_point 4 low_x 1 2 0 0) (8 ∷ 4 ∷ 6 ∷ []) ∷
    figure
    (step_x 0x6201 ∷ step_y 0x6201 ∷ step_z 0x6201 ∷ is_new 0x6201 ∷ reuse_index 0x6201 ∷ point_a 0x6201 ∷ point_b 0x6201 ∷ [])
    (0 ∷ 1 ∷ 1 ∷ 0 ∷ 2 ∷ 0 ∷ 1 ∷ []) ∷
    []

pub figures_agree : map (λ (f : Figure). f.worked) figures ≡ map (λ (f : Figure). f.stated) figures
unfolding place_of one_up outside sampled kind_of outside_count reading_at rotations rotation_of point_from
figures_agree = refl
