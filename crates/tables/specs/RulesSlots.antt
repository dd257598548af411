-- What the mesher needs of a used regular code: its points, its edge and where the edge is stored. A code that steps back stands for the same
-- edge as the new code of the cell that it steps to, with the same index; a new code stands for its own. And how many of a case's codes are new.
use Rattle.std.specs.Prelude.{◌≡◌, Bool, [], ◌∷◌, ℕ, ◌+◌, ◌*◌, ◌/◌, ◌%◌, ◌≤◌, ◌<◌, T, eqb, leb, ltb, get_or}
use Rattle.std.proofs.Common.{ap, arith, eqb→eq, leb→le, le→leb, ltb→lt}
use Rattle.tables.specs.Codes.{point_a, point_b, step_x, step_y, step_z, is_new, reuse_index}
use Rattle.tables.specs.Corners.{corner_x, corner_y, corner_z, axis_of, regular_used}
use Rattle.laws.specs.Tests.{both, both_left, both_right, then, then_holds, below, all}
use Rattle.laws.specs.Counting.{one, how_many, has, every, every_item}
use Rattle.tables.specs.RegularRows as regular
use Rattle.tables.specs.Cases.{regular_class, regular_cell, regular_codes, regular_code, regular_vertices}

-- the new code of each reuse index, 1 to 3: its edge is the one that a cell stores at that index
unfoldable pub regular_new_code : ℕ → ℕ
regular_new_code r = get_or (0 ∷ 0x8157 ∷ 0x8267 ∷ 0x8337 ∷ []) r 0

pub record RegularCode (code : ℕ) : Type 0 where
  -- two corners of the cell, b one step along the axis from a
  pub a_small : point_a code < 8
  pub b_small : point_b code < 8
  pub axis_small : axis_of code < 3
  pub b_x : corner_x (point_b code) ≡ corner_x (point_a code) + one (eqb (axis_of code) 0)
  pub b_y : corner_y (point_b code) ≡ corner_y (point_a code) + one (eqb (axis_of code) 1)
  pub b_z : corner_z (point_b code) ≡ corner_z (point_a code) + one (eqb (axis_of code) 2)
  pub index_some : 1 ≤ reuse_index code
  pub index_small : reuse_index code < 4
  -- its edge, seen from the cell that it steps to, is that of the new code with its index
  pub slot_axis : axis_of code ≡ axis_of (regular_new_code (reuse_index code))
  pub slot_x : corner_x (point_a code) + step_x code ≡ corner_x (point_a (regular_new_code (reuse_index code)))
  pub slot_y : corner_y (point_a code) + step_y code ≡ corner_y (point_a (regular_new_code (reuse_index code)))
  pub slot_z : corner_z (point_a code) + step_z code ≡ corner_z (point_a (regular_new_code (reuse_index code)))
  -- it is new or it steps back, and never both
  pub new_or_back : 1 ≤ is_new code + (step_x code + step_y code + step_z code)
  pub not_both : 3 * is_new code + (step_x code + step_y code + step_z code) ≤ 3

unfoldable code_test : ℕ → Bool
code_test code =
    both (ltb (point_a code) 8)
    (both (ltb (point_b code) 8)
    (both (ltb (axis_of code) 3)
    (both (eqb (corner_x (point_b code)) (corner_x (point_a code) + one (eqb (axis_of code) 0)))
    (both (eqb (corner_y (point_b code)) (corner_y (point_a code) + one (eqb (axis_of code) 1)))
    (both (eqb (corner_z (point_b code)) (corner_z (point_a code) + one (eqb (axis_of code) 2)))
    (both (leb 1 (reuse_index code))
    (both (ltb (reuse_index code) 4)
    (both (eqb (axis_of code) (axis_of (regular_new_code (reuse_index code))))
    (both (eqb (corner_x (point_a code) + step_x code) (corner_x (point_a (regular_new_code (reuse_index code)))))
    (both (eqb (corner_y (point_a code) + step_y code) (corner_y (point_a (regular_new_code (reuse_index code)))))
    (both (eqb (corner_z (point_a code) + step_z code) (corner_z (point_a (regular_new_code (reuse_index code)))))
    (both (leb 1 (is_new code + (step_x code + step_y code + step_z code)))
    (leb (3 * is_new code + (step_x code + step_y code + step_z code)) 3)))))))))))))

code_told : (code : ℕ) → T (code_test code) → RegularCode code
unfolding code_test
code_told code t =
    let t₁ = both_right _ _ t in
    let t₂ = both_right _ _ t₁ in
    let t₃ = both_right _ _ t₂ in
    let t₄ = both_right _ _ t₃ in
    let t₅ = both_right _ _ t₄ in
    let t₆ = both_right _ _ t₅ in
    let t₇ = both_right _ _ t₆ in
    let t₈ = both_right _ _ t₇ in
    let t₉ = both_right _ _ t₈ in
    let t₁₀ = both_right _ _ t₉ in
    let t₁₁ = both_right _ _ t₁₀ in
    let t₁₂ = both_right _ _ t₁₁ in
    record {
      a_small = ltb→lt _ _ (both_left _ _ t);
      b_small = ltb→lt _ _ (both_left _ _ t₁);
      axis_small = ltb→lt _ _ (both_left _ _ t₂);
      b_x = eqb→eq _ _ (both_left _ _ t₃);
      b_y = eqb→eq _ _ (both_left _ _ t₄);
      b_z = eqb→eq _ _ (both_left _ _ t₅);
      index_some = leb→le _ _ (both_left _ _ t₆);
      index_small = ltb→lt _ _ (both_left _ _ t₇);
      slot_axis = eqb→eq _ _ (both_left _ _ t₈);
      slot_x = eqb→eq _ _ (both_left _ _ t₉);
      slot_y = eqb→eq _ _ (both_left _ _ t₁₀);
      slot_z = eqb→eq _ _ (both_left _ _ t₁₁);
      new_or_back = leb→le _ _ (both_left _ _ t₁₂);
      not_both = leb→le _ _ (both_right _ _ t₁₂);
    }

regular_codes_right : T (every code_test regular_used)
unfolding regular_used regular_new_code both code_test
regular_codes_right = tt

-- each of the twelve, and so each used code of each case
pub regular_used_right : (code : ℕ) → T (has code regular_used) → RegularCode code
regular_used_right code h = code_told code (every_item code_test regular_used regular_codes_right code h)

-- the new codes are new, each with its index
pub record RegularSlot (r : ℕ) : Type 0 where
  pub new : is_new (regular_new_code r) ≡ 1
  pub index : reuse_index (regular_new_code r) ≡ r

unfoldable slot_test : ℕ → Bool
slot_test r = then (leb 1 r) (both (eqb (is_new (regular_new_code r)) 1) (eqb (reuse_index (regular_new_code r)) r))

slots_right : T (below slot_test 4)
unfolding regular_new_code both then slot_test
slots_right = tt

pub regular_slot : (r : ℕ) → 1 ≤ r → r < 4 → RegularSlot r
unfolding slot_test
regular_slot r some small =
    let t = then_holds (leb 1 r) _ (all slot_test 4 slots_right r small) (le→leb 1 r some) in
    record { new = eqb→eq _ _ (both_left _ _ t); index = eqb→eq _ _ (both_right _ _ t) }

-- the edge of a used code, seen from the cell that it steps to, is the edge of any used code that is new with the same index
pub record SameEdge (code new : ℕ) : Type 0 where
  pub axis : axis_of code ≡ axis_of new
  pub x : corner_x (point_a code) + step_x code ≡ corner_x (point_a new)
  pub y : corner_y (point_a code) + step_y code ≡ corner_y (point_a new)
  pub z : corner_z (point_a code) + step_z code ≡ corner_z (point_a new)

pub back_to_new : (code new : ℕ) → RegularCode code → RegularCode new → is_new new ≡ 1 → reuse_index code ≡ reuse_index new → SameEdge code new
back_to_new code new c n fresh same =
    let slot : regular_new_code (reuse_index code) ≡ regular_new_code (reuse_index new) = ap regular_new_code same in
    record {
      axis = omega (arith, c.slot_axis, n.slot_axis, ap axis_of slot);
      x = omega (arith, c.slot_x, n.slot_x, n.not_both, ap (λ (k : ℕ). corner_x (point_a k)) slot);
      y = omega (arith, c.slot_y, n.slot_y, n.not_both, ap (λ (k : ℕ). corner_y (point_a k)) slot);
      z = omega (arith, c.slot_z, n.slot_z, n.not_both, ap (λ (k : ℕ). corner_z (point_a k)) slot);
    }

-- ---- how many of a case's codes are new

-- one for each crossed edge at corner 7, whose edges no cell before this one has
abbrev pub crossed_at_top : ℕ → ℕ
crossed_at_top case = (case / 128 + case / 8) % 2 + (case / 128 + case / 32) % 2 + (case / 128 + case / 64) % 2

unfoldable new_test : ℕ → Bool
new_test case = eqb (how_many (λ i. eqb (is_new (regular_code case i)) 1) (regular_vertices case)) (crossed_at_top case)

new_right : T (below new_test 256)
unfolding regular.classes regular.cell_rows regular.vertex_rows regular_class regular_cell regular_codes regular_code regular_vertices both new_test
new_right = tt

pub new_codes : (case : ℕ) → case < 256 → how_many (λ i. eqb (is_new (regular_code case i)) 1) (regular_vertices case) ≡ crossed_at_top case
unfolding new_test
new_codes case h = eqb→eq _ _ (all new_test 256 new_right case h)
