-- A bit that is set by or is set, and none is lost. Assumes nothing.
use Rattle.std.specs.Prelude.{ℕ, zero, suc, ◌*◌, ◌/◌, ◌%◌, ◌^◌, ◌<◌, max, ◌≡◌}
use Rattle.std.proofs.Math.Nat.{max-eq_left, max-eq_right, max-le}
use Rattle.std.proofs.Common.{mod-lt, div-one, zero-lt-suc, le_of_suc-le-suc, one-add, arith, sym, ap, ap₂, ◌∙◌, lit<, shr-shr, shl_exact}
use Rattle.std.proofs.Math.Arith.{digits_div, digits_mod}
use Rattle.std.specs.Int.Bits.{bit_or, or_step}
use Rattle.std.proofs.lemmas.Nat.{shl-shr}

half_of : (a k : ℕ) → a / 2 ^ suc k ≡ a / 2 / 2 ^ k
half_of a k = ap (λ (x : ℕ). a / 2 ^ x) (sym (one-add k)) ∙ sym (shr-shr a 1 k)

small : (a b : ℕ) → max (a % 2) (b % 2) < 2
small a b = omega (arith, max-le (le_of_suc-le-suc (mod-lt a (zero-lt-suc 1))) (le_of_suc-le-suc (mod-lt b (zero-lt-suc 1))))

or_bit : (k a b : ℕ) → bit_or a b / 2 ^ k % 2 ≡ max (a / 2 ^ k % 2) (b / 2 ^ k % 2)
or_bit zero a b = rw (div-one (bit_or a b), div-one a, div-one b, or_step a b) (digits_mod (bit_or (a / 2) (b / 2)) (small a b))
or_bit (suc k) a b =
    let e : bit_or a b / 2 ≡ bit_or (a / 2) (b / 2) = ap (λ (x : ℕ). x / 2) (or_step a b) ∙ digits_div (bit_or (a / 2) (b / 2)) (small a b) in
    ap (λ (x : ℕ). x % 2) (half_of (bit_or a b) k ∙ ap (λ (x : ℕ). x / 2 ^ k) e) ∙ or_bit k (a / 2) (b / 2)
    ∙ ap₂ (λ (x y : ℕ). max (x % 2) (y % 2)) (sym (half_of a k)) (sym (half_of b k))

-- 1 shifted up by b, as a u64 has it
pub bit_set : (x b : ℕ) → b < 64 → bit_or x (1 * 2 ^ b % 2 ^ 64) / 2 ^ b % 2 ≡ 1
bit_set x b h =
    let one : 1 * 2 ^ b % 2 ^ 64 / 2 ^ b % 2 ≡ 1 =
    ap (λ (v : ℕ). v / 2 ^ b % 2) (shl_exact 1 b 64 (lit< tt) (omega arith)) ∙ ap (λ (v : ℕ). v % 2) (shl-shr 1 b) in
    or_bit b x (1 * 2 ^ b % 2 ^ 64) ∙ ap (λ (v : ℕ). max (x / 2 ^ b % 2) v) one ∙ max-eq_right (le_of_suc-le-suc (mod-lt (x / 2 ^ b) (zero-lt-suc 1)))

pub bit_kept : (x s k : ℕ) → x / 2 ^ k % 2 ≡ 1 → bit_or x s / 2 ^ k % 2 ≡ 1
bit_kept x s k h = or_bit k x s ∙ ap (λ (v : ℕ). max v (s / 2 ^ k % 2)) h ∙ max-eq_left (le_of_suc-le-suc (mod-lt (s / 2 ^ k) (zero-lt-suc 1)))
