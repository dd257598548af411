-- How far rounding to f32 moves a fraction, in units: by one part in 2 ^ 24 at most, and by a unit besides where it drops a part of a unit. It keeps the
-- order, and it does not move what has 24 digits or fewer. Assumes nothing.
use Prim.Native.Nat.{ℕ, zero, suc, ◌+◌, ◌-◌, ◌*◌, ◌/◌, ◌%◌, ◌^◌, ◌≤◌, ◌<◌, compare, Ordering}
use Rattle.std.specs.Prelude.{◌≡◌, refl, not, T, eqb}
use Rattle.std.proofs.Common.{sym, ap, ◌∙◌, subst, le_trans, le_of_eq, mul-le-mul_right, mul-one, mul_assoc, mul-pos, mul-div_cancel, mod-lt, div-add-mod', le-div_iff_mul-le, arith, leb→le, eqb→eq, lit<, lit≤, pow-add, pow_pos, shl_lt}
use Rattle.std.proofs.Math.Dec.{is_le, compare_is_eq, nleb→lt, eqb_refl}
use Rattle.std.proofs.Math.Arith.{lt_of_le-ne}
use Rattle.std.specs.Float.{binary32}
use Rattle.std.specs.Float.Ieee.{prec, low, nearest, size}
use Rattle.std.specs.Float.Ieee.Digits.{size_reaches, size-le, back}
use Rattle.std.specs.Float.Ieee.Nearest.{closest, closest_same}
use Rattle.std.specs.Float.Ieee.Scale.{grid, overflow}
use Rattle.weights.specs.Units.{per_one, parts, Within}

-- ---- a fraction rounded to a whole number moves by a half at most

abbrev Compared : Ordering → ℕ → ℕ → Type 0
Compared Ordering.lt a b = a < b
Compared Ordering.eq a b = a ≡ b
Compared Ordering.gt a b = b < a

compared : (a b : ℕ) → Compared (compare a b) a b
compared a b = go (compare a b) (leb→le a b) (nleb→lt a b) (eqb→eq a b) (λ (e : a ≡ b). subst (λ (x : ℕ). T (eqb a x)) e (eqb_refl a))
  where
    go : (o : Ordering) → (T (is_le o) → a ≤ b) → (T (not (is_le o)) → b < a) → (T (compare_is_eq o) → a ≡ b) → (a ≡ b → T (compare_is_eq o)) → Compared o a b
    go Ordering.lt h k e n = lt_of_le-ne (h tt) n
    go Ordering.eq h k e n = e tt
    go Ordering.gt h k e n = k tt

nearest_near : (q b r : ℕ) (o : Ordering) → Compared o (r * 2) b → r < b → Within (nearest q o * b * 2) ((q * b + r) * 2) b
nearest_near q b r Ordering.lt h k = omega arith
nearest_near q b r Ordering.eq h k =
    let odd : q % 2 ≤ 1 = omega arith in
    omega (arith, mul-le-mul_right b odd)
nearest_near q b r Ordering.gt h k = omega arith

closest_near : (a b : ℕ) → 0 < b → Within (closest a b * b * 2) (a * 2) b
closest_near a b some =
    subst (λ (x : ℕ). Within (closest a b * b * 2) (x * 2) b) (div-add-mod' a b)
    (nearest_near (a / b) b (a % b) (compare (a % b * 2) b) (compared (a % b * 2) b) (mod-lt a some))

closest_whole : (a b : ℕ) → 0 < b → closest (a * b) b ≡ a
closest_whole a b some = closest_same (a * b) b a 1 some (omega arith) (mul-one (a * b)) ∙ one_apart (closest_near a 1 (omega arith))
  where
    one_apart : Within (closest a 1 * 1 * 2) (a * 2) 1 → closest a 1 ≡ a
    one_apart h = omega arith

-- ---- a / c rounded, in units

-- the digits that an f32 keeps
abbrev digits : ℕ
digits = prec binary32

unfoldable pub rounded : ℕ → ℕ → ℕ
rounded a c = grid binary32 a c

pub some_units : 0 < per_one
unfolding per_one
some_units = pow_pos (low binary32)

pub large : parts * parts ≤ per_one
unfolding per_one
large = lit≤ tt

-- where k digits are dropped
dropped : (w k : ℕ) → size w - digits ≡ suc k → 2 ^ (digits - 1) * 2 ^ suc k ≤ w
dropped w k e = le_trans (le_of_eq (sym (pow-add 2 (digits - 1) (suc k)))) (size_reaches w (digits - 1 + suc k) (omega arith))

near_part : (n c k : ℕ) → 0 < c → size (n / c) - digits ≡ k → Within (closest n (c * 2 ^ k) * 2 ^ k * c * parts) (n * parts) (n + c * parts)
near_part n c zero some e = omega (arith, closest_near n (c * 1) (omega arith))
near_part n c (suc k) some e =
    let u = 2 ^ suc k in
    let r : 2 ^ (digits - 1) * u * c ≤ n = (le-div_iff_mul-le some).0 (dropped (n / c) k e) in
    omega (arith, closest_near n (c * u) (mul-pos some (pow_pos (suc k))))

-- a quotient moves by one part and a unit at most
pub near_quotient : (a c : ℕ) → 0 < c → Within (rounded a c * c * parts) (a * per_one * parts) (a * per_one + c * parts)
unfolding rounded per_one
near_quotient a c some = near_part (a * 2 ^ low binary32) c (size (a * 2 ^ low binary32 / c) - digits) some refl

-- of a whole number of units only whole units are dropped
whole_is : (n : ℕ) → rounded n per_one ≡ closest n (2 ^ (size n - digits)) * 2 ^ (size n - digits)
unfolding rounded per_one
whole_is n =
    let l = 2 ^ low binary32 in
    let u = 2 ^ (size n - digits) in
    let some : 0 < l = pow_pos (low binary32) in
    ap (λ (z : ℕ). closest (n * l) (l * 2 ^ (size z - digits)) * 2 ^ (size z - digits)) (mul-div_cancel n some)
    ∙ ap (λ (x : ℕ). x * u) (closest_same (n * l) (l * u) n u (mul-pos some (pow_pos (size n - digits))) (pow_pos (size n - digits)) (mul_assoc n l u))

near_whole : (n k : ℕ) → size n - digits ≡ k → Within (closest n (2 ^ k) * 2 ^ k * parts) (n * parts) n
near_whole n zero e = omega (arith, closest_near n 1 (omega arith))
near_whole n (suc k) e = omega (arith, closest_near n (2 ^ suc k) (pow_pos (suc k)), dropped n k e)

-- so it moves by one part at most
pub near_units : (n : ℕ) → Within (rounded n per_one * parts) (n * parts) n
near_units n = rw (whole_is n) (near_whole n (size n - digits) refl)

-- the larger power as a multiple of the smaller
pub over_power : (n j k : ℕ) → j ≤ k → n * 2 ^ k ≡ n * 2 ^ (k - j) * 2 ^ j
over_power n j k h = ap (λ (i : ℕ). n * 2 ^ i) (sym (back k j h)) ∙ ap (λ (p : ℕ). n * p) (pow-add 2 (k - j) j) ∙ sym (mul_assoc n _ _)

-- and what has 24 digits or fewer does not move
pub exactly : (q j : ℕ) → q < parts → rounded (q * 2 ^ j) per_one ≡ q * 2 ^ j
exactly q j few =
    let n = q * 2 ^ j in
    let k = size n - digits in
    let fewer : k ≤ j = less (size n) (size-le n (digits + j) (shl_lt digits j few)) in
    let e = over_power q k j fewer in
    whole_is n ∙ ap (λ (x : ℕ). closest x (2 ^ k) * 2 ^ k) e ∙ ap (λ (x : ℕ). x * 2 ^ k) (closest_whole (q * 2 ^ (j - k)) (2 ^ k) (pow_pos k)) ∙ sym e
  where
    less : (z : ℕ) → z ≤ digits + j → z - digits ≤ j
    less z h = omega arith

-- ---- overflow

-- from so many units on a result is an infinity; no value here has as many as `plenty` times 1
unfoldable pub too_many : ℕ
too_many = overflow binary32

abbrev pub plenty : ℕ
plenty = 2 ^ 64

pub room : plenty * per_one < too_many
unfolding per_one too_many
room = lit< tt
