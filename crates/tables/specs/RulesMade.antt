-- How many of a case's codes make a vertex at most, by how many of the cell's low sides are the block's: a code makes one where it is new, or
-- where a step back that it asks for leaves the block. One test for each kind of cell.
use Rattle.std.specs.Prelude.{◌≡◌, refl, Bool, ◌&&◌, ◌||◌, [], ◌∷◌, ℕ, zero, suc, ◌+◌, ◌≤◌, ◌<◌, T, eqb, leb, ltb, get_or}
use Rattle.std.proofs.Common.{sym, ◌∙◌, arith, le-ltb, leb→le}
use Rattle.laws.specs.Tests.{both, below, all}
use Rattle.laws.specs.Counting.{how_many}
use Rattle.tables.specs.Codes.{step_x, step_y, step_z, is_new}
use Rattle.tables.specs.RegularRows as regular
use Rattle.tables.specs.TransitionRows as transition
use Rattle.tables.specs.Cases.{regular_class, regular_cell, regular_codes, regular_code, regular_vertices, transition_class, transition_cell, transition_codes, transition_code, transition_vertices}

-- ---- a coordinate counts by whether it is 0: a step is 0 or 1

unfoldable at_low : ℕ → ℕ
at_low zero = 0
at_low (suc k) = 1

-- 1 where the coordinate is 0
unfoldable pub low : ℕ → ℕ
low zero = 1
low (suc k) = 0

low_same : (x : ℕ) → low (at_low x) ≡ low x
unfolding at_low low
low_same zero = refl
low_same (suc k) = refl

at_low_small : (x : ℕ) → at_low x < 2
unfolding at_low
at_low_small zero = omega arith
at_low_small (suc k) = omega arith

-- a step of at most one leaves from 0 alone
leaves_same : (x step : ℕ) → step ≤ 1 → ltb x step ≡ ltb (at_low x) step
unfolding at_low
leaves_same zero step h = refl
leaves_same (suc k) step h = le-ltb (suc k) step (omega arith) ∙ sym (le-ltb 1 step h)

same_count : (P Q : ℕ → Bool) → ((i : ℕ) → P i ≡ Q i) → (n : ℕ) → how_many P n ≡ how_many Q n
same_count P Q e n = λ j. how_many (λ i. e i j) n

-- ---- regular cells

-- new, or a step asked for leaves the block
abbrev pub regular_makes : ℕ → ℕ → ℕ → ℕ → Bool
regular_makes x y z code = eqb (is_new code) 1 || (ltb x (step_x code) || (ltb y (step_y code) || ltb z (step_z code)))

abbrev pub regular_made : ℕ → ℕ → ℕ → ℕ → ℕ
regular_made x y z case = how_many (λ i. regular_makes x y z (regular_code case i)) (regular_vertices case)

-- of a cell with so many of its low sides on the block's low faces
abbrev pub most_regular : ℕ → ℕ
most_regular lows = get_or (3 ∷ 7 ∷ 10 ∷ 12 ∷ []) lows 12

unfoldable regular_test : ℕ → ℕ → ℕ → ℕ → Bool
regular_test x y z case = leb (regular_made x y z case) (most_regular (low x + low y + low z))

regular_made_right : T (below (λ x. below (λ y. below (λ z. below (regular_test x y z) 256) 2) 2) 2)
unfolding low regular.classes regular.cell_rows regular.vertex_rows regular_class regular_cell regular_codes regular_code regular_vertices both regular_test
regular_made_right = tt

pub regular_made_most : (x y z case : ℕ) → case < 256 → regular_made x y z case ≤ most_regular (low x + low y + low z)
unfolding regular_test
regular_made_most x y z case h =
    let by-x = all (λ x. below (λ y. below (λ z. below (regular_test x y z) 256) 2) 2) 2 regular_made_right (at_low x) (at_low_small x) in
    let by-y = all (λ y. below (λ z. below (regular_test (at_low x) y z) 256) 2) 2 by-x (at_low y) (at_low_small y) in
    let by-z = all (λ z. below (regular_test (at_low x) (at_low y) z) 256) 2 by-y (at_low z) (at_low_small z) in
    let few = leb→le _ _ (all (regular_test (at_low x) (at_low y) (at_low z)) 256 by-z case h) in
    rw (
      same_count (λ i. regular_makes x y z (regular_code case i)) (λ i. regular_makes (at_low x) (at_low y) (at_low z) (regular_code case i)) same (regular_vertices case),
      ← low_same x,
      ← low_same y,
      ← low_same z,
    ) few
  where
    same : (i : ℕ) → regular_makes x y z (regular_code case i) ≡ regular_makes (at_low x) (at_low y) (at_low z) (regular_code case i)
    same i =
        let code = regular_code case i in
        λ j.
        eqb (is_new code) 1
        || (leaves_same x (step_x code) (omega arith) j || (leaves_same y (step_y code) (omega arith) j || leaves_same z (step_z code) (omega arith) j))

-- ---- transition cells

-- new, or no step back in u or v is asked for, or it leaves the face
abbrev pub transition_makes : ℕ → ℕ → ℕ → Bool
transition_makes u v code = eqb (is_new code) 1 || ((eqb (step_x code) 0 && eqb (step_y code) 0) || (ltb u (step_x code) || ltb v (step_y code)))

abbrev pub transition_made : ℕ → ℕ → ℕ → ℕ
transition_made u v case = how_many (λ i. transition_makes u v (transition_code case i)) (transition_vertices case)

-- of a cell with so many of its low sides on the face's low borders
abbrev pub most_transition : ℕ → ℕ
most_transition lows = get_or (8 ∷ 10 ∷ 12 ∷ []) lows 12

unfoldable transition_test : ℕ → ℕ → ℕ → Bool
transition_test u v case = leb (transition_made u v case) (most_transition (low u + low v))

transition_made_right : T (below (λ u. below (λ v. below (transition_test u v) 512) 2) 2)
unfolding low transition.classes transition.cell_rows transition.vertex_rows transition_class transition_cell transition_codes transition_code transition_vertices both transition_test
transition_made_right = tt

pub transition_made_most : (u v case : ℕ) → case < 512 → transition_made u v case ≤ most_transition (low u + low v)
unfolding transition_test
transition_made_most u v case h =
    let by_u = all (λ u. below (λ v. below (transition_test u v) 512) 2) 2 transition_made_right (at_low u) (at_low_small u) in
    let by_v = all (λ v. below (transition_test (at_low u) v) 512) 2 by_u (at_low v) (at_low_small v) in
    let few = leb→le _ _ (all (transition_test (at_low u) (at_low v)) 512 by_v case h) in
    rw (
      same_count (λ i. transition_makes u v (transition_code case i)) (λ i. transition_makes (at_low u) (at_low v) (transition_code case i)) same (transition_vertices case),
      ← low_same u,
      ← low_same v,
    ) few
  where
    same : (i : ℕ) → transition_makes u v (transition_code case i) ≡ transition_makes (at_low u) (at_low v) (transition_code case i)
    same i =
        let code = transition_code case i in
        λ j.
        eqb (is_new code) 1
        || ((eqb (step_x code) 0 && eqb (step_y code) 0) || (leaves_same u (step_x code) (omega arith) j || leaves_same v (step_y code) (omega arith) j))
