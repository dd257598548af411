-- Document 02, [3]: when a block is blank. It takes the place of document 01's definition ('Block record'), which is kept below by its name.
-- Definitions only.
use Rattle.std.specs.Prelude.{ℕ, ◌+◌, ◌*◌, Bool, cond, ◌&&◌, ◌||◌, List, eqb, Float, get_or}
use Rattle.std.specs.Bool.{beq}
use Rattle.std.specs.Float.{nan}
use Rattle.laws.specs.Steps.{total}
use Rattle.laws.specs.Tests.{then}
use Rattle.laws.specs.Below.{all_below}
use Rattle.model.specs.Limits.{side_count}
use Rattle.model.specs.Sides.{named}
use Rattle.model.specs.Formulas.{inside, inside_bit}
use Rattle.model.specs.Star.{Star, subdivisions}
use Rattle.model.specs.Points.{fine_sample}

-- on which side of the threshold a sample lies: inside, or not, as b says
abbrev pub lies_as : Bool → Float → Float → Bool
lies_as b threshold sample = beq (inside threshold sample) b

-- the centre's in-block samples, (n+1)^3, the first of its list
unfoldable pub centre_as : Bool → Star → Bool
centre_as b s =
    let m = subdivisions s + 1 in
    all_below (λ k. lies_as b s.threshold (get_or s.centre k nan)) (m * m * m)

-- the fine samples in the w = 0 plane of a side, (2n+1)^2
unfoldable pub side_as : Bool → Star → ℕ → Bool
side_as b s side =
    let fine = 2 * subdivisions s + 1 in
    all_below (λ u2. all_below (λ v2. lies_as b s.threshold (fine_sample s side u2 v2)) fine) fine

-- those of each named side
unfoldable pub sides_as : Bool → Star → Bool
sides_as b s = all_below (λ side. then (named s.mask side) (side_as b s side)) side_count

-- all of them lie on one side, that of the first
unfoldable pub is_blank : Star → Bool
is_blank s =
    let b = inside s.threshold (get_or s.centre 0 nan) in
    centre_as b s && sides_as b s

-- ---- document 01's, before [3]

-- all (n+1)^3 in-block centre samples lie on one side of the threshold: none of them is inside, or each is
abbrev pub blank_before : ℕ → Float → List Float → ℕ
blank_before points threshold samples =
    let insides = total (λ k. inside_bit threshold (get_or samples k nan)) points in
    cond (eqb insides 0 || eqb insides points) 1 0
