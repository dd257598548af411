-- A transition cell's case number says which of its points are inside. And a cell that is cut makes a vertex, or one of its codes steps back to a
-- cell that is cut too: the tables' rules T5 and T6 over a side.
use Rattle.std.specs.Prelude.{◌≡◌, refl, ◌≢◌, Bool, true, false, not, ◌&&◌, [], ◌∷◌, ℕ, zero, suc, ◌+◌, ◌-◌, ◌*◌, ◌/◌, ◌%◌, ◌^◌, ◌≤◌, ◌<◌, T, eqb, ltb, get_or}
use Rattle.std.proofs.Common.{sym, ◌∙◌, not-suc-le-zero, ltb→lt}
use Rattle.std.proofs.Math.Path.{ap, ap₂}
use Rattle.std.proofs.Math.Bool.{cond}
use native.Mathlib.Omega.{arith}
use borrow.Author.Tests.{ltb-false}
use Rattle.std.proofs.Math.Dec.{eqb→eq}
use Rattle.laws.specs.Steps.{total}
use Rattle.laws.specs.Tests.{eq→eqb, neither, both, both_left, both_right, then, then_holds, below, all}
use Rattle.laws.specs.Counting.{has, with_each, each_two}
use Rattle.laws.specs.Ranges.{beq_eq}
use Rattle.tables.specs.Codes.{point_a, point_b, step_x, step_y, is_new, reuse_index, edge_of}
use Rattle.tables.specs.Cases.{transition_code, transition_vertices}
use Rattle.tables.specs.Corners.{bit}
use Rattle.tables.specs.Listed.{crossing, differ}
use Rattle.tables.specs.Points.{contribution_of, fine_of, point_u, point_v, transition_inside}
use Rattle.tables.specs.RulesTransition.{transition_used}
use Rattle.tables.proofs.RulesTransition.{transition_lists}
use Rattle.tables.specs.RulesBorder.{transition_new_code, kept}
use Rattle.tables.proofs.RulesBorder.{transition_used_right}
use Rattle.model.specs.Samples.{sample_of}
use Rattle.model.specs.Rotations.{face_point}
use Rattle.model.specs.Formulas.{inside, inside_bit}
use Rattle.model.specs.Judging.{faces_agree}
use Rattle.model.specs.Star.{Star, subdivisions}
use Rattle.model.specs.Points.{fine_sample, transition_case}
use Rattle.model.specs.Mesh.{transition_leaves, transition_use}
use Rattle.closed.specs.Clauses.{inside_at}
use Rattle.closed.specs.Cells.{bits_small, bits_are, bit_small, byte_points, one_of_edge}
use Rattle.closed.specs.Stored.{back_in}

-- ---- the case number

-- the fine point that adds 2^j, and the j of a point
unfoldable point_of : ℕ → ℕ
point_of j = get_or (0 ∷ 1 ∷ 2 ∷ 5 ∷ 8 ∷ 7 ∷ 6 ∷ 3 ∷ 4 ∷ []) j 0

unfoldable bit_of : ℕ → ℕ
bit_of p = get_or (0 ∷ 1 ∷ 2 ∷ 7 ∷ 8 ∷ 3 ∷ 6 ∷ 5 ∷ 4 ∷ []) (fine_of p) 0

unfoldable point_test : ℕ → Bool
point_test p =
    both (ltb (bit_of p) 9)
    (both (eqb (contribution_of (fine_of p)) (2 ^ bit_of p)) (both (eqb (point_of (bit_of p) % 3) (point_u p)) (eqb (point_of (bit_of p) / 3) (point_v p))))

points_right : T (below point_test 13)
unfolding point_of bit_of point_test fine_of point_u point_v both
points_right = tt

-- a point moved by the steps of its code, from the cell that the code steps to
pub fine_moved : (u a p q : ℕ) → a ≤ u → p + 2 * a ≡ q → 2 * u + p ≡ 2 * (u - a) + q
fine_moved u a p q h e = omega arith

-- ---- the codes

-- the new code of each index that has one is one of the sixteen, and has that index
unfoldable new_test : ℕ → Bool
new_test r = then (eqb (is_new (transition_new_code r)) 1) (both (has (transition_new_code r) transition_used) (eqb (reuse_index (transition_new_code r)) r))

news_right : T (below new_test 10)
unfolding transition_used transition_new_code both then new_test
news_right = tt

new_right : (r : ℕ) → r < 10 → is_new (transition_new_code r) ≡ 1
    → T (has (transition_new_code r) transition_used) × (reuse_index (transition_new_code r) ≡ r)
unfolding new_test
new_right r h e =
    let t = then_holds (eqb (is_new (transition_new_code r)) 1) _ (all new_test 10 news_right r h) (eq→eqb _ _ e) in
    (both_left _ _ t, eqb→eq _ _ (both_right _ _ t))

pub new_index : (r : ℕ) → r < 10 → is_new (transition_new_code r) ≡ 1 → reuse_index (transition_new_code r) ≡ r
new_index r h e = (new_right r h e).1

-- no two of the sixteen have one edge
codes_apart : T (each_two (λ c d. not (eqb (edge_of c) (edge_of d))) transition_used)
unfolding transition_used each_two with_each both
codes_apart = tt

code_of_edge : (c d : ℕ) → T (has c transition_used) → T (has d transition_used) → edge_of c ≡ edge_of d → c ≡ d
code_of_edge = one_of_edge transition_used codes_apart

-- ---- a cell of a side

module _ (s : Star) (side : ℕ) where
  -- 1 if the fine point (u2, v2) of the side is inside, else 0
  abbrev pub fine_inside : ℕ → ℕ → ℕ
  fine_inside u2 v2 = inside_bit s.threshold (fine_sample s side u2 v2)

  pub fine_small : (u2 v2 : ℕ) → fine_inside u2 v2 ≤ 1
  fine_small u2 v2 = bit_small (inside s.threshold (fine_sample s side u2 v2))

  -- where a point of the face agrees with the fine point there, as 8 asks
  pub agreed_inside : (u v : ℕ) → faces_agree s side u v ≡ true → inside_at s (face_point (subdivisions s) side u v) ≡ fine_inside (2 * u) (2 * v)
  unfolding faces_agree
  agreed_inside u v e =
      ap (λ (b : Bool). cond {A = ℕ} b 1 0)
      (beq_eq (inside s.threshold (sample_of (subdivisions s) s.centre (face_point (subdivisions s) side u v)))
      (inside s.threshold (fine_sample s side (2 * u) (2 * v))) e)

  module _ (u v : ℕ) where
    -- whether the fine point k of the cell is inside
    abbrev bit_at : ℕ → ℕ
    bit_at k = fine_inside (2 * u + k % 3) (2 * v + k / 3)

    case_bits : transition_case s side u v ≡ total (λ j. 2 ^ j * bit_at (point_of j)) 9
    unfolding transition_case point_of
    case_bits = omega arith

    pub case_small : transition_case s side u v < 512
    case_small = rw case_bits (bits_small (λ j. bit_at (point_of j)) (λ j. fine_small _ _) 9)

    pub case_inside : (p : ℕ) → p < 13 → transition_inside (transition_case s side u v) p ≡ fine_inside (2 * u + point_u p) (2 * v + point_v p)
    unfolding transition_inside bit point_test
    case_inside p h =
        let t = all point_test 13 points_right p h in
        let t₁ = both_right _ _ t in
        let t₂ = both_right _ _ t₁ in
        let adds : contribution_of (fine_of p) ≡ 2 ^ bit_of p = eqb→eq _ _ (both_left _ _ t₁) in
        rw (adds, case_bits)
        (bits_are (λ j. bit_at (point_of j)) (λ j. fine_small _ _) 9 (bit_of p) (ltb→lt _ _ (both_left _ _ t))
        ∙ ap₂ (λ (a b : ℕ). fine_inside (2 * u + a) (2 * v + b)) (eqb→eq _ _ (both_left _ _ t₂)) (eqb→eq _ _ (both_right _ _ t₂)))

    -- how many codes the cell has, and its code i
    abbrev pub codes : ℕ
    codes = transition_vertices (transition_case s side u v)

    abbrev pub code_at : ℕ → ℕ
    code_at i = transition_code (transition_case s side u v) i

    pub code_used : (i : ℕ) → i < codes → T (has (code_at i) transition_used)
    code_used i h = transition_lists.is_used (transition_case s side u v) i case_small h

    -- one end of a code's edge is inside and the other outside; a coarse point takes the side of the fine point there
    abbrev pub CrossedAt : ℕ → Type 0
    CrossedAt code =
        fine_inside (2 * u + point_u (point_a code)) (2 * v + point_v (point_a code))
        ≢ fine_inside (2 * u + point_u (point_b code)) (2 * v + point_v (point_b code))

    -- each code of a cell stands for a crossed edge
    pub code_crossed : (i : ℕ) → i < codes → CrossedAt (code_at i)
    code_crossed i h e =
        let r = transition_used_right (code_at i) (code_used i h) in
        differ transition_lists (transition_case s side u v) i case_small h
        (case_inside _ r.a_small ∙ e ∙ sym (case_inside _ r.b_small))

    -- each index whose edge is crossed has its new code
    pub crossed_slot : (r : ℕ) → r < 10 → is_new (transition_new_code r) ≡ 1 → CrossedAt (transition_new_code r)
        → (i : ℕ) × (i < codes) × (code_at i ≡ transition_new_code r)
    crossed_slot r small new crossed =
        let code = transition_new_code r in
        let used = (new_right r small new).0 in
        let right = transition_used_right code used in
        let inside_at_lem : ℕ → ℕ = transition_inside (transition_case s side u v) in
        let ends = byte_points code in
        let i = crossing transition_lists (transition_case s side u v) (edge_of code) case_small (transition_lists.is_edge code used)
        (λ e.
        crossed
        (sym (case_inside _ right.a_small) ∙ ap inside_at_lem (sym ends.0) ∙ e ∙ ap inside_at_lem ends.1 ∙ case_inside _ right.b_small)) in
        (i.0, i.1, code_of_edge _ _ (code_used i.0 i.1) used i.2)

  -- the edge of a code that is kept is crossed in the cell that it steps to as well
  pub slot_crossed : (u v code : ℕ) → T (has code transition_used) → kept code ≡ 1 → step_x code ≤ u → step_y code ≤ v → CrossedAt u v code
      → CrossedAt (u - step_x code) (v - step_y code) (transition_new_code (reuse_index code))
  slot_crossed u v code used keep hu hv c =
      let same = ((transition_used_right code used).slot keep).1 in
      rw (
        fine_moved u _ _ _ hu same.a.u,
        fine_moved v _ _ _ hv same.a.v,
        fine_moved u _ _ _ hu same.b.u,
        fine_moved v _ _ _ hv same.b.v,
      ) at c

-- ---- a cell that is cut

some_back : (a b : ℕ) → eqb a 0 && eqb b 0 ≡ false → 0 < a + b
some_back zero zero e =
    let z : ◌≡◌ {A = ℕ} 0 1 = cc in
    omega arith
some_back zero (suc b) e = omega arith
some_back (suc a) b e = omega arith

pub just_one : (a b c : ℕ) → a + b + c ≤ 1 → 0 < b + c → a + b + c ≡ 1
just_one a b c h some = omega arith

nearer : (u v a b k : ℕ) → a ≤ u → b ≤ v → 0 < a + b → u + v < suc k → u - a + (v - b) < k
nearer u v a b k hu hv some h = omega arith

pub record StepsBack (u v code : ℕ) : Type 0 where
  pub u_in : step_x code ≤ u
  pub v_in : step_y code ≤ v
  pub some : 0 < step_x code + step_y code

module _ (s : Star) (side : ℕ) where
  -- a code that does not leave the face steps back, within the face
  pub steps_back : (u v code : ℕ) → transition_leaves u v code ≡ false → StepsBack u v code
  unfolding transition_leaves
  steps_back u v code e =
      let stays = neither _ _ e in
      let within = neither _ _ stays.1 in
      record { u_in = ltb-false _ _ within.0; v_in = ltb-false _ _ within.1; some = some_back _ _ stays.0 }

  -- the edge of such a code is crossed in the cell that it steps to as well
  back_cut : (u v i : ℕ) → i < codes s side u v
      → let code = code_at s side u v i in StepsBack u v code → 0 < codes s side (u - step_x code) (v - step_y code)
  back_cut u v i h b =
      let code = code_at s side u v i in
      let used = code_used s side u v i h in
      let right = transition_used_right code used in
      let keep = just_one _ _ _ right.one_way b.some in
      let listed = crossed_slot s side _ _ (reuse_index code) right.index_small (right.slot keep).0.new
      (slot_crossed s side u v code used keep b.u_in b.v_in (code_crossed s side u v i h)) in
      omega (arith, listed.1)

  makes_none : (u v code : ℕ) → (transition_use s side u v code).makes ≡ false → transition_leaves u v code ≡ false
  unfolding transition_use
  makes_none u v code e = (neither (eqb (is_new code) 1) (transition_leaves u v code) e).1

  -- the cell (u, v) makes a vertex
  abbrev pub Makes : ℕ → ℕ → Type 0
  Makes u v = (i : ℕ) × (i < codes s side u v) × ((transition_use s side u v (code_at s side u v i)).makes ≡ true)

  -- what follows where a cell of the side makes a vertex follows where one is cut: it makes one itself, or else a cell nearer to (0, 0) is cut
  module _ (F : Type 0) (n : ℕ) (made : (u v : ℕ) → u < n → v < n → Makes u v → F) where
    pub cut_made : (k u v : ℕ) → u + v < k → u < n → v < n → 0 < codes s side u v → F
    cut_made zero u v h hu hv cut = absurd (not-suc-le-zero h)
    cut_made (suc k) u v h hu hv cut = go (transition_use s side u v (code_at s side u v 0)).makes refl (cut_made k)
      where
        go : (b : Bool) → (transition_use s side u v (code_at s side u v 0)).makes ≡ b
            → ((u v : ℕ) → u + v < k → u < n → v < n → 0 < codes s side u v → F) → F
        go true e before = made u v hu hv (0, cut, e)
        go false e before =
            let code = code_at s side u v 0 in
            let b = steps_back u v code (makes_none u v code e) in
            before (u - step_x code) (v - step_y code) (nearer u v _ _ k b.u_in b.v_in b.some h)
            (back_in u (step_x code) n hu).0 (back_in v (step_y code) n hv).0 (back_cut u v 0 cut b)
