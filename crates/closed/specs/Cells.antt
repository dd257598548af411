-- A cell's case number says which of its corners are inside, and its codes stand for its crossed edges: the tables' rules T1 and T2 over
-- the grid.
use Rattle.std.specs.Prelude.{◌≡◌, refl, ◌≢◌, Bool, true, false, cond, not, List, [], ◌∷◌, T, eqb}
use Rattle.std.proofs.Common.{sym, ◌∙◌, subst, add-zero, add-suc, pow-suc, mul-le-mul_left, not-suc-le-zero, T_not}
use Rattle.std.proofs.Math.Path.{ap}
use Prim.Native.Nat.{ℕ, zero, suc, ◌+◌, ◌-◌, ◌*◌, ◌/◌, ◌%◌, ◌^◌, ◌≤◌, ◌<◌}
use Rattle.std.proofs.Math.Nat.{two-pow-succ, mul_assoc, one-le-pow, div-eq_of_lt, add-mul-div_left, add-mul-mod_self_left}
use Rattle.std.proofs.Math.Decide.{dec_lt}
use native.Mathlib.Omega.{arith}
use Rattle.std.proofs.Math.Dec.{eqb→eq}
use Rattle.tables.specs.Codes.{point_a, point_b, step_x, step_y, step_z, is_new, reuse_index, edge_of}
use Rattle.tables.specs.Cases.{regular_code, regular_vertices}
use Rattle.tables.specs.Corners.{bit, axis_of, regular_used, regular_edges}
use Rattle.laws.specs.Tests.{eq→eqb, both, both_left, both_right, then, then_holds, below, all₂}
use Rattle.laws.specs.Counting.{pick, one, has, every, every_item, with_each, each_two, two_items}
use Rattle.tables.specs.Listed.{crossing, differ}
use Rattle.tables.proofs.RulesEdges.{regular_lists}
use Rattle.tables.specs.RulesSlots.{RegularCode, regular_new_code, regular_used_right}
use Rattle.tables.proofs.RulesSlots.{regular_code_right}
use Rattle.model.specs.declared.Xyz.{Xyz}
use Rattle.laws.specs.Steps.{total}
use Rattle.model.specs.Samples.{sample_of}
use Rattle.model.specs.Rotations.{xyz}
use Rattle.model.specs.Formulas.{inside}
use Rattle.model.specs.Star.{Star, subdivisions}
use Rattle.model.specs.Points.{corner_point, regular_case}
use Rattle.closed.specs.Clauses.{Edge, high, OfBlock, OfCell, inside_at, Crossed, IsCell}
use Rattle.closed.specs.Places.{same_edge}

-- ---- a number from its bits

twice_power : (k j : ℕ) → 2 ^ (k + suc j) ≡ 2 ^ k * (2 * 2 ^ j)
twice_power k zero = rw (add-suc, add-zero) (pow-suc 2 k)
twice_power k (suc j) =
    rw (add-suc k (suc j), pow-suc 2 (k + suc j), twice_power k j, mul_assoc, mul_assoc) (ap (λ (c : ℕ). 2 ^ k * (2 * c)) (sym (pow-suc 2 j)))

module _ (b : ℕ → ℕ) (small : (k : ℕ) → b k ≤ 1) where
  pub bits_small : (m : ℕ) → total (λ k. 2 ^ k * b k) m < 2 ^ m
  bits_small zero = omega arith
  bits_small (suc m) =
      let h : 2 ^ m * b m ≤ 2 ^ m * 1 = mul-le-mul_left (2 ^ m) (small m) in
      omega (arith, bits_small m, two-pow-succ m)

  pub bits_are : (m k : ℕ) → k < m → bit (total (λ k. 2 ^ k * b k) m) k ≡ b k
  unfolding bit
  bits_are zero k h = absurd (not-suc-le-zero h)
  bits_are (suc m) k h = go (dec_lt k m) (bits_are m k)
    where
      go : Dec (k < m) → (k < m → bit (total (λ k. 2 ^ k * b k) m) k ≡ b k) → (total (λ k. 2 ^ k * b k) m + 2 ^ m * b m) / 2 ^ k % 2 ≡ b k
      go (yes l) before =
          let e : m ≡ k + suc (m - suc k) = omega arith in
          let q : 2 ^ m * b m ≡ 2 ^ k * (2 * (2 ^ (m - suc k) * b m)) =
          ap (λ (c : ℕ). 2 ^ c * b m) e ∙ ap (λ (c : ℕ). c * b m) (twice_power k (m - suc k)) ∙ mul_assoc _ _ _
          ∙ ap (λ (c : ℕ). 2 ^ k * c) (mul_assoc 2 _ _) in
          rw (q, add-mul-div_left _ _ (one-le-pow k 2 (omega arith)), add-mul-mod_self_left) (before l)
      go (no l) before =
          let e : k ≡ m = omega arith in
          rw (e, add-mul-div_left _ _ (one-le-pow m 2 (omega arith)), div-eq_of_lt (bits_small m)) (omega (arith, small m))

-- ---- the corners of a cell

pub bit_small : (b : Bool) → cond {A = ℕ} b 1 0 ≤ 1
bit_small true = omega arith
bit_small false = omega arith

module _ (s : Star) where
  inside_small : (p : Xyz) → inside_at s p ≤ 1
  inside_small p = bit_small (inside s.threshold (sample_of (subdivisions s) s.centre p))

  module _ (x y z : ℕ) where
    pub case_small : regular_case s x y z < 256
    unfolding regular_case
    case_small = bits_small (λ k. inside_at s (corner_point x y z k)) (λ k. inside_small _) 8

    pub case_bit : (k : ℕ) → k < 8 → bit (regular_case s x y z) k ≡ inside_at s (corner_point x y z k)
    unfolding regular_case
    case_bit k h = bits_are (λ k. inside_at s (corner_point x y z k)) (λ k. inside_small _) 8 k h

-- ---- the edge of a code

-- the grid edge that a code, or its low byte, stands for in the cell (x, y, z)
abbrev pub code_edge : ℕ → ℕ → ℕ → ℕ → Edge
code_edge x y z code = record { low = corner_point x y z (point_a code); axis = axis_of code }

-- the grid edge of the new code with index r: that of the vertex which the cell stores there
abbrev pub slot_edge : ℕ → ℕ → ℕ → ℕ → Edge
slot_edge x y z r = code_edge x y z (regular_new_code r)

pub byte_points : (code : ℕ) → (point_a (edge_of code) ≡ point_a code) × (point_b (edge_of code) ≡ point_b code)
byte_points code = (omega arith, omega arith)

pub byte_edge : (x y z code : ℕ) → code_edge x y z (edge_of code) ≡ code_edge x y z code
byte_edge x y z code = let p = byte_points code in rw (p.0, p.1)

pub same_point : {x y z x' y' z' : ℕ} → x ≡ x' → y ≡ y' → z ≡ z' → xyz x y z ≡ xyz x' y' z'
same_point p q r = rw (p, q, r)

up_to_b : (x a b u : ℕ) → b ≡ a + u → x + a + u ≡ x + b
up_to_b x a b u e = omega arith

one_step : (x a b u : ℕ) → b % 2 ≡ a + u → x + a + u ≤ x + 1
one_step x a b u e = omega arith

stepped : (x a p b : ℕ) → p ≤ x → a + p ≡ b → x + a ≡ x - p + b
stepped x a p b h e = omega arith

unstepped : (x a p b : ℕ) → p ≡ 0 → a + p ≡ b → x + a ≡ x + b
unstepped x a p b h e = omega arith

no_steps : (w a b c : ℕ) → 3 * w + (a + b + c) ≤ 3 → w ≡ 1 → (a ≡ 0) × (b ≡ 0) × (c ≡ 0)
no_steps w a b c h e = (omega arith, omega arith, omega arith)

module _ (x y z code : ℕ) (r : RegularCode code) where
  pub high_is : high (code_edge x y z code) ≡ corner_point x y z (point_b code)
  high_is = same_point (up_to_b x _ _ _ r.b_x) (up_to_b y _ _ _ r.b_y) (up_to_b z _ _ _ r.b_z)

  pub code_own : OfCell x y z (code_edge x y z code)
  code_own =
      record {
        axis_is = r.axis_small;
        low_x = omega arith;
        low_y = omega arith;
        low_z = omega arith;
        high_x = one_step x _ (point_b code) _ r.b_x;
        high_y = one_step y _ (point_b code / 2) _ r.b_y;
        high_z = one_step z _ (point_b code / 4) _ r.b_z;
      }

  -- it is the edge that the cell which the code steps to has at the code's index
  pub code_slot : step_x code ≤ x → step_y code ≤ y → step_z code ≤ z
      → code_edge x y z code ≡ slot_edge (x - step_x code) (y - step_y code) (z - step_z code) (reuse_index code)
  code_slot hx hy hz =
      same_edge (stepped x _ _ _ hx r.slot_x) (stepped y _ _ _ hy r.slot_y) (stepped z _ _ _ hz r.slot_z) r.slot_axis

  pub new_slot : is_new code ≡ 1 → code_edge x y z code ≡ slot_edge x y z (reuse_index code)
  new_slot new =
      let n = no_steps (is_new code) _ _ _ r.not_both new in
      same_edge (unstepped x _ _ _ n.0 r.slot_x) (unstepped y _ _ _ n.1 r.slot_y) (unstepped z _ _ _ n.2 r.slot_z) r.slot_axis

  module _ (s : Star) where
    ends : (inside_at s (code_edge x y z code).low ≡ bit (regular_case s x y z) (point_a code))
        × (inside_at s (high (code_edge x y z code)) ≡ bit (regular_case s x y z) (point_b code))
    ends = (sym (case_bit s x y z _ r.a_small), ap (inside_at s) high_is ∙ sym (case_bit s x y z _ r.b_small))

    differing_crossed : bit (regular_case s x y z) (point_a code) ≢ bit (regular_case s x y z) (point_b code) → Crossed s (code_edge x y z code)
    differing_crossed d q = d (sym ends.0 ∙ q ∙ ends.1)

    crossed_differing : Crossed s (code_edge x y z code) → bit (regular_case s x y z) (point_a code) ≢ bit (regular_case s x y z) (point_b code)
    crossed_differing d q = d (ends.0 ∙ q ∙ sym ends.1)

-- ---- the twelve edges, by their low bytes

-- the code with the low byte p
unfoldable code_of : ℕ → List ℕ → ℕ
code_of p [] = 0
code_of p (c ∷ cs) = pick (eqb p (edge_of c)) c (code_of p cs)

unfoldable code_of_test : ℕ → Bool
code_of_test p = both (has (code_of p regular_used) regular_used) (eqb p (edge_of (code_of p regular_used)))

bytes_have_codes : T (every code_of_test regular_edges)
unfolding regular_used regular_edges code_of code_of_test both
bytes_have_codes = tt

module _ (p : ℕ) (t : T (has p regular_edges)) where
  byte_code : (c : ℕ) × T (has c regular_used) × (p ≡ edge_of c)
  unfolding code_of_test
  byte_code =
      let u = every_item code_of_test regular_edges bytes_have_codes p t in
      (code_of p regular_used, both_left _ _ u, eqb→eq _ _ (both_right _ _ u))

  byte_right : RegularCode byte_code.0
  byte_right = regular_used_right byte_code.0 byte_code.1

  byte_same : (x y z : ℕ) → code_edge x y z p ≡ code_edge x y z byte_code.0
  byte_same x y z = ap (code_edge x y z) byte_code.2 ∙ byte_edge x y z byte_code.0

  point_a_lem : point_a p ≡ point_a byte_code.0
  point_a_lem = ap point_a byte_code.2 ∙ (byte_points byte_code.0).0

  point_b_lem : point_b p ≡ point_b byte_code.0
  point_b_lem = ap point_b byte_code.2 ∙ (byte_points byte_code.0).1

  pub byte_own : (x y z : ℕ) → OfCell x y z (code_edge x y z p)
  byte_own x y z = subst (OfCell x y z) (sym (byte_same x y z)) (code_own x y z byte_code.0 byte_right)

  pub byte_high : (x y z : ℕ) → high (code_edge x y z p) ≡ corner_point x y z (point_b p)
  byte_high x y z = ap high (byte_same x y z) ∙ high_is x y z byte_code.0 byte_right ∙ ap (corner_point x y z) (sym point_b_lem)

  byte_differs : (s : Star) (x y z : ℕ) → Crossed s (code_edge x y z p) → bit (regular_case s x y z) (point_a p) ≢ bit (regular_case s x y z) (point_b p)
  byte_differs s x y z crossed =
      rw (point_a_lem, point_b_lem) (crossed_differing x y z byte_code.0 byte_right s (subst (Crossed s) (byte_same x y z) crossed))

-- an edge of a cell is one of the block, if its high end is in the block
pub in_block : (s : Star) {x y z : ℕ} {e : Edge} → OfCell x y z e
    → (high e).x ≤ subdivisions s → (high e).y ≤ subdivisions s → (high e).z ≤ subdivisions s → OfBlock s e
in_block s o hx hy hz =
    record {
      axis_is = o.axis_is;
      low_x = omega arith;
      low_y = omega arith;
      low_z = omega arith;
      high_x = omega arith;
      high_y = omega arith;
      high_z = omega arith;
    }

pub own_of_block : (s : Star) (x y z : ℕ) (e : Edge) → IsCell s x y z → OfCell x y z e → OfBlock s e
own_of_block s x y z e c o =
    in_block s o (omega (arith, o.high_x, c.x_in)) (omega (arith, o.high_y, c.y_in)) (omega (arith, o.high_z, c.z_in))

-- ---- the codes of a case and the crossed edges of its cell

-- of codes no two of which have one edge
pub one_of_edge : (used : List ℕ) → T (each_two (λ c d. not (eqb (edge_of c) (edge_of d))) used)
    → (c d : ℕ) → T (has c used) → T (has d used) → edge_of c ≡ edge_of d → c ≡ d
one_of_edge =
    two_items (λ c d. not (eqb (edge_of c) (edge_of d))) (λ c d. edge_of c ≡ edge_of d → c ≡ d)
    (λ c d t e. absurd (T_not (eqb (edge_of c) (edge_of d)) t (eq→eqb _ _ e)))
    (λ c e. refl)
    (λ c d r e. sym (r (sym e)))

-- no two of the twelve have one edge
codes_apart : T (each_two (λ c d. not (eqb (edge_of c) (edge_of d))) regular_used)
unfolding regular_used each_two with_each both
codes_apart = tt

code_of_edge : (c d : ℕ) → T (has c regular_used) → T (has d regular_used) → edge_of c ≡ edge_of d → c ≡ d
code_of_edge = one_of_edge regular_used codes_apart

-- the new code of each index is one of the twelve
new_used : (r : ℕ) → 1 ≤ r → r < 4 → T (has (regular_new_code r) regular_used)
unfolding regular_used regular_new_code
new_used zero some small = absurd (not-suc-le-zero some)
new_used (suc zero) some small = tt
new_used (suc (suc zero)) some small = tt
new_used (suc (suc (suc zero))) some small = tt
new_used (suc (suc (suc (suc r)))) some small = absurd (omega arith)

-- each edge of a cell is that of one of the twelve: corner c and axis a
unfoldable edge_byte : ℕ → ℕ → ℕ
edge_byte c a = 17 * c + 2 ^ a

unfoldable byte_test : ℕ → ℕ → Bool
byte_test c a =
    then (eqb (bit c a) 0)
    (both (has (edge_byte c a) regular_edges) (both (eqb (point_a (edge_byte c a)) c) (eqb (axis_of (edge_byte c a)) a)))

bytes_right : T (below (λ c. below (byte_test c) 3) 8)
unfolding bit regular_edges edge_byte byte_test both then
bytes_right = tt

abbrev corner : ℕ → ℕ → ℕ → ℕ
corner i j k = i + 2 * j + 4 * k

corner_clear : (i j k a : ℕ) → a < 3 → i + one (eqb a 0) ≤ 1 → j + one (eqb a 1) ≤ 1 → k + one (eqb a 2) ≤ 1 → bit (corner i j k) a ≡ 0
unfolding bit
corner_clear i j k zero h hi hj hk = omega arith
corner_clear i j k (suc zero) h hi hj hk = omega arith
corner_clear i j k (suc (suc zero)) h hi hj hk = omega arith
corner_clear i j k (suc (suc (suc a))) h hi hj hk = absurd (omega arith)

corner_parts : (x y z i j k : ℕ) → i ≤ 1 → j ≤ 1 → k ≤ 1 → corner_point x y z (corner i j k) ≡ xyz (x + i) (y + j) (z + k)
corner_parts x y z i j k hi hj hk = same_point (omega arith) (omega arith) (omega arith)

offset : (x k u : ℕ) → x ≤ k → k + u ≤ x + 1 → (x + (k - x) ≡ k) × (k - x + u ≤ 1) × (k - x ≤ 1)
offset x k u h l = (omega arith, omega arith, omega arith)

corner_small : (i j k : ℕ) → i ≤ 1 → j ≤ 1 → k ≤ 1 → corner i j k < 8
corner_small i j k hi hj hk = omega arith

pub own_byte : (x y z : ℕ) (e : Edge) → OfCell x y z e → (p : ℕ) × T (has p regular_edges) × (code_edge x y z p ≡ e)
unfolding byte_test
own_byte x y z e o =
    let a = e.axis in
    let i = offset x e.low.x (one (eqb a 0)) o.low_x o.high_x in
    let j = offset y e.low.y (one (eqb a 1)) o.low_y o.high_y in
    let k = offset z e.low.z (one (eqb a 2)) o.low_z o.high_z in
    let c = corner (e.low.x - x) (e.low.y - y) (e.low.z - z) in
    let clear : bit c a ≡ 0 = corner_clear _ _ _ a o.axis_is i.1 j.1 k.1 in
    let t = then_holds (eqb (bit c a) 0) _
    (all₂ byte_test 8 3 bytes_right c a (corner_small _ _ _ i.2 j.2 k.2) o.axis_is) (rw clear tt) in
    let low : point_a (edge_byte c a) ≡ c = eqb→eq _ _ (both_left _ _ (both_right _ _ t)) in
    let along : axis_of (edge_byte c a) ≡ a = eqb→eq _ _ (both_right _ _ (both_right _ _ t)) in
    (edge_byte c a, both_left _ _ t, rw (along, low, corner_parts x y z _ _ _ i.2 j.2 k.2) (same_edge i.0 j.0 k.0 refl))

-- how many codes the cell (x, y, z) has, and its code i
abbrev pub codes : Star → ℕ → ℕ → ℕ → ℕ
codes s x y z = regular_vertices (regular_case s x y z)

abbrev pub code_at : Star → ℕ → ℕ → ℕ → ℕ → ℕ
code_at s x y z i = regular_code (regular_case s x y z) i

module _ (s : Star) (x y z : ℕ) where
  pub code_right : (i : ℕ) → i < codes s x y z → RegularCode (code_at s x y z i)
  code_right i h = regular_code_right (regular_case s x y z) i (case_small s x y z) h

  -- each code of a cell stands for a crossed edge
  pub code_crossed : (i : ℕ) → i < codes s x y z → Crossed s (code_edge x y z (code_at s x y z i))
  code_crossed i h =
      differing_crossed x y z _ (code_right i h) s (differ regular_lists (regular_case s x y z) i (case_small s x y z) h)

  -- each crossed edge has its code
  pub crossed_code : (p : ℕ) → T (has p regular_edges) → Crossed s (code_edge x y z p)
      → (i : ℕ) × (i < codes s x y z) × (edge_of (code_at s x y z i) ≡ p)
  crossed_code p t crossed = crossing regular_lists (regular_case s x y z) p (case_small s x y z) t (byte_differs p t s x y z crossed)

  -- each index whose edge is crossed has its new code
  pub crossed_slot : (r : ℕ) → 1 ≤ r → r < 4 → Crossed s (slot_edge x y z r) → (i : ℕ) × (i < codes s x y z) × (code_at s x y z i ≡ regular_new_code r)
  crossed_slot r some small crossed =
      let used = new_used r some small in
      let here = subst (Crossed s) (sym (byte_edge x y z (regular_new_code r))) crossed in
      let i = crossed_code (edge_of (regular_new_code r)) (regular_lists.is_edge _ used) here in
      (i.0, i.1, code_of_edge _ _ (regular_lists.is_used (regular_case s x y z) i.0 (case_small s x y z) i.1) used i.2)
