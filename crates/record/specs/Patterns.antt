-- The bit patterns of an f32, ordered as the sizes that they stand for: so that a float is judged by its bits, before it is a float.
-- Document 01, refusals 3 and 7: finite and at most 1,048,576 in size; a size from 1/1024 on. Assumes nothing.
use Prim.Native.Nat.{ℕ, zero, suc, ◌+◌, ◌*◌, ◌/◌, ◌%◌, ◌^◌, ◌≤◌, ◌<◌}
use Rattle.std.proofs.Common.{mul-one, mul_assoc, mul_comm, mul_right_comm, mul-pos, mul-le-mul_left, mul-le-mul_right, mul-lt-mul_of_pos_right, lt_of_lt_of_le, le_trans, le_of_eq, le_of_lt, le-add_right, eq-or-lt_of_le, arith, sym, ap, ap₂, ◌∙◌, true≢false, inl, inr, le-leb, leb-true, leb-false, ne_eqb, lt-ltb, le-ltb, eq-eqb, eqb-true, lit<, pow_pos, pow_mono}
use Rattle.std.proofs.Math.Nat.{pow-succ'}
use Rattle.std.specs.Prelude.{◌≡◌, Bool, not, ◌&&◌, ◌||◌, ◌⊎◌, leb, ltb, eqb, Float}
use Rattle.std.proofs.Math.Path.{refl, subst}
use Rattle.std.proofs.Math.Bool.{true, false, and-false, or-true}
use Rattle.std.proofs.lemmas.Bool.{lt-leb, eqb-false}
use Rattle.std.proofs.Math.Dec.{eqb-suc-zero}
use Rattle.std.specs.Float.Ieee as Ieee
use Rattle.std.specs.Float.Ieee.{nan, up, down, of_fields, of_bits}
use Rattle.std.specs.Float.{inf, fin, binary32}
use Rattle.std.specs.Float.Ieee.Fits.{down_pos}
use Rattle.std.specs.Float.Ieee.Positive.{first_pos}
use Rattle.std.specs.Float.Ieee.Exact.{HasValue, odd_sign}
use Rattle.model.specs.Formulas.{whole, ◌⊘◌}
use Rattle.model.specs.Judging.{limit, usable, usable_size}

-- ---- the size that a pattern stands for, in units of the smallest f32

abbrev spelled : ℕ → ℕ → ℕ
spelled zero t = t
spelled (suc x) t = (8388608 + t) * 2 ^ x

fields_value : (s : Bool) (x t : ℕ) → x < 255 → HasValue (of_fields binary32 s x t) s (spelled x t) (2 ^ 149)
unfolding of_fields
fields_value s zero t h = rw mul-one at (odd_sign 24 s t 0 149)
fields_value s (suc x) t h = rw (ne_eqb (suc x) 255 (λ e. omega arith)) (odd_sign 24 s (8388608 + t) x 149)

-- a larger exponent's field, or the same and larger digits
field_lt : (x y t u : ℕ) → t < 8388608 → x < y → spelled x t < spelled y u
field_lt x zero t u h l = absurd (let z : x < 0 = l in omega arith)
field_lt zero (suc y) t u h l =
    lt_of_lt_of_le (let k : t < (8388608 + u) * 1 = omega arith in k) (mul-le-mul_left (8388608 + u) (pow_pos y))
field_lt (suc x) (suc y) t u h l =
    lt_of_lt_of_le (mul-lt-mul_of_pos_right (let k : 8388608 + t < 2 * 8388608 = omega arith in k) (pow_pos x))
    (le_trans (le_of_eq (mul_right_comm 2 8388608 (2 ^ x) ∙ ap (λ (p : ℕ). p * 8388608) (sym (pow-succ' 2 x))))
    (le_trans (mul-le-mul_right 8388608 (pow_mono (let k : suc x ≤ y = omega arith in k)))
    (le_trans (le_of_eq (mul_comm (2 ^ y) 8388608)) (mul-le-mul_right (2 ^ y) (le-add_right 8388608 u)))))

digits_lt : (x t u : ℕ) → t < u → spelled x t < spelled x u
digits_lt zero t u h = h
digits_lt (suc x) t u h = mul-lt-mul_of_pos_right (let k : 8388608 + t < 8388608 + u = omega arith in k) (pow_pos x)

-- the size, from a pattern without its sign
abbrev sized : ℕ → ℕ
sized m = spelled (m / 8388608) (m % 8388608)

sized_lt : (m k : ℕ) → m < k → sized m < sized k
sized_lt m k h = by (eq-or-lt_of_le (let l : m / 8388608 ≤ k / 8388608 = omega arith in l))
  where
    by : (m / 8388608 ≡ k / 8388608) ⊎ (m / 8388608 < k / 8388608) → sized m < sized k
    by (inl e) =
        subst (λ (x : ℕ). spelled x (m % 8388608) < sized k) (sym e)
        (digits_lt (k / 8388608) (m % 8388608) (k % 8388608) (omega arith))
    by (inr l) = field_lt (m / 8388608) (k / 8388608) (m % 8388608) (k % 8388608) (omega arith) l

sized_leb : (m k : ℕ) (b : Bool) → leb m k ≡ b → leb (sized m) (sized k) ≡ b
sized_leb m k true e = le-leb (sized m) (sized k) (up_to (eq-or-lt_of_le (leb-true m k e)))
  where
    up_to : (m ≡ k) ⊎ (m < k) → sized m ≤ sized k
    up_to (inl q) = le_of_eq (ap sized q)
    up_to (inr l) = le_of_lt (sized_lt m k l)
sized_leb m k false e = lt-leb (sized m) (sized k) (sized_lt k m (leb-false m k e))

-- ---- a finite value beside one above zero, each as so many of the same unit

scaled : (a b k : ℕ) → 0 < k → (t : Bool) → leb a b ≡ t → leb (a * k) (b * k) ≡ t
scaled a b k h true e = le-leb (a * k) (b * k) (mul-le-mul_right k (leb-true a b e))
scaled a b k h false e = lt-leb (a * k) (b * k) (mul-lt-mul_of_pos_right (leb-false a b e) h)

same_order : (a b u v l k : ℕ) → 0 < l → 0 < k → a * l ≡ u * k → b * l ≡ v * k → leb a b ≡ leb u v
same_order a b u v l k L K p q = sym (scaled a b l L (leb a b) refl) ∙ ap₂ leb p q ∙ scaled u v k K (leb u v) refl

up_to : (a b : ℕ) (t : Bool) → leb a b ≡ t → ltb a b || (eqb a b && true) ≡ t
up_to a b true e = by (eq-or-lt_of_le (leb-true a b e))
  where
    by : (a ≡ b) ⊎ (a < b) → ltb a b || (eqb a b && true) ≡ true
    by (inl q) = rw (eq-eqb a b q) (or-true (ltb a b))
    by (inr l) = rw (lt-ltb a b l)
up_to a b false e =
    let l : b < a = leb-false a b e in
    rw (le-ltb a b (le_of_lt l), ne_eqb a b (λ q. omega arith))

turned : (a b : ℕ) (t : Bool) → eqb b a ≡ t → eqb a b ≡ t
turned a b true e = eq-eqb a b (sym (eqb-true b a e))
turned a b false e = ne_eqb a b (λ q. eqb-false b a e (sym q))

crossed : (a d l u e : ℕ) → a * l ≡ u * e → a * d * l ≡ u * (e * d)
crossed a d l u e p = mul_right_comm a d l ∙ ap (λ (k : ℕ). k * d) p ∙ mul_assoc u e d

-- x is ±u units and y is v of them, above zero
pub record Beside (x y : Float) (s : Bool) (u v : ℕ) : Type 0 where
  pub no_more : Ieee.le x y ≡ s || leb u v
  pub no_less : Ieee.le (Ieee.neg y) x ≡ not s || leb u v
  pub at_least : Ieee.le y x ≡ not s && leb v u

module _ (l : ℕ) (some : 0 < l) where
  beside : (x y : Float) (s : Bool) (u v : ℕ) → 0 < v → HasValue x s u l → HasValue y false v l → Beside x y s u v
  unfolding Ieee.le Ieee.neg
  beside nan y s u v h p q = absurd p
  beside (inf t) y s u v h p q = absurd p
  beside (fin t m e) nan s u v h p q = absurd q
  beside (fin t m e) (inf r) s u v h p q = absurd q
  beside (fin t m e) (fin true n d) s u v h p q = absurd (true≢false q.0)
  beside (fin t m e) (fin false n d) s u v h p q = subst (λ (r : Bool). Beside (fin t m e) (fin false n d) r u v) p.0 (signed t)
    where
      a : ℕ
      a = m * up e * down d

      b : ℕ
      b = n * up d * down e

      k : ℕ
      k = down e * down d

      a_is : a * l ≡ u * k
      a_is = crossed (m * up e) (down d) l u (down e) p.1

      b_is : b * l ≡ v * k
      b_is = crossed (n * up d) (down e) l v (down d) q.1 ∙ ap (λ (z : ℕ). v * z) (mul_comm (down d) (down e))

      k_some : 0 < k
      k_some = mul-pos (down_pos e) (down_pos d)

      b_some : 0 < b
      b_some = first_pos b l (subst (λ (z : ℕ). 0 < z) (sym b_is) (mul-pos h k_some))

      below : leb a b ≡ leb u v
      below = same_order a b u v l k some k_some a_is b_is

      above : leb b a ≡ leb v u
      above = same_order b a v u l k some k_some b_is a_is

      signed : (r : Bool) → Beside (fin r m e) (fin false n d) r u v
      signed false =
          record {
            no_more = up_to a b (leb u v) below;
            no_less = rw (lt-ltb 0 (b + a) (omega (arith, b_some)));
            at_least = up_to b a (leb v u) above;
          }
      signed true =
          record {
            no_more = rw (lt-ltb 0 (a + b) (omega (arith, b_some)));
            no_less = rw (turned b a (eqb a b) refl) (up_to a b (leb u v) below);
            at_least = rw (ne_eqb b 0 (λ z. omega (arith, b_some))) (and-false (eqb b a));
          }

-- ---- the two tests, by the bits

limit_value : HasValue limit false (sized 0x4980_0000) (2 ^ 149)
unfolding Ieee.of_int
limit_value = (refl, refl)

least_value : HasValue (whole 1 ⊘ whole 1024) false (sized 0x3A80_0000) (2 ^ 149)
unfolding Ieee.div Ieee.of_int
least_value = (refl, refl)

either_sign : (s b : Bool) → (not s || b) && (s || b) ≡ b
either_sign true true = refl
either_sign true false = refl
either_sign false true = refl
either_sign false false = refl

-- an exponent's field of all ones is an infinity's or a NaN's
no_number : (x : Float) (s : Bool) (t : ℕ) → x ≡ of_fields binary32 s 255 t → (usable x ≡ false) × (usable_size x ≡ false)
unfolding of_fields Ieee.le Ieee.neg Ieee.of_int Ieee.div
no_number x true zero e = rw e (refl, refl)
no_number x false zero e = rw e (refl, refl)
no_number x s (suc t) e = rw (e, eqb-suc-zero) (refl, refl)

module _ (w : ℕ) (word : w < 2 ^ 32) where
  abbrev bare : ℕ
  bare = w % 2147483648

  abbrev minus : Bool
  minus = leb 2147483648 w

  by_fields : of_bits binary32 w ≡ of_fields binary32 minus (bare / 8388608) (w % 8388608)
  unfolding of_bits
  by_fields = refl

  value : bare / 8388608 < 255 → HasValue (of_bits binary32 w) minus (sized bare) (2 ^ 149)
  value h =
      rw (by_fields, (let e : bare % 8388608 ≡ w % 8388608 = omega arith in e))
      (fields_value minus (bare / 8388608) (w % 8388608) h)

  no_value : bare / 8388608 ≡ 255 → (usable (of_bits binary32 w) ≡ false) × (usable_size (of_bits binary32 w) ≡ false)
  no_value e =
      no_number (of_bits binary32 w) minus (w % 8388608)
      (by_fields ∙ ap (λ (x : ℕ). of_fields binary32 minus x (w % 8388608)) e)

  -- a finite pattern beside one above zero that is finite too
  module _ (finite : bare / 8388608 < 255) (y : Float) (k : ℕ) (some : 0 < sized k) (is : HasValue y false (sized k) (2 ^ 149)) where
    ordered : Beside (of_bits binary32 w) y minus (sized bare) (sized k)
    ordered = beside (2 ^ 149) (pow_pos 149) (of_bits binary32 w) y minus (sized bare) (sized k) some (value finite) is

    no_more : Ieee.le (of_bits binary32 w) y ≡ minus || leb bare k
    no_more = ordered.no_more ∙ ap (λ (b : Bool). minus || b) (sized_leb bare k (leb bare k) refl)

    no_less : Ieee.le (Ieee.neg y) (of_bits binary32 w) ≡ not minus || leb bare k
    no_less = ordered.no_less ∙ ap (λ (b : Bool). not minus || b) (sized_leb bare k (leb bare k) refl)

    at_least : Ieee.le y (of_bits binary32 w) ≡ not minus && leb k bare
    at_least = ordered.at_least ∙ ap (λ (b : Bool). not minus && b) (sized_leb k bare (leb k bare) refl)

  pub usable_bits : usable (of_bits binary32 w) ≡ leb (w % 2147483648) 0x4980_0000
  usable_bits = by (eq-or-lt_of_le (let l : bare / 8388608 ≤ 255 = omega arith in l))
    where
      by : (bare / 8388608 ≡ 255) ⊎ (bare / 8388608 < 255) → usable (of_bits binary32 w) ≡ leb bare 0x4980_0000
      by (inl e) = (no_value e).0 ∙ sym (lt-leb bare 0x4980_0000 (omega arith))
      by (inr l) =
          rw (no_less l limit 0x4980_0000 (lit< tt) limit_value, no_more l limit 0x4980_0000 (lit< tt) limit_value)
          (either_sign minus (leb bare 0x4980_0000))

  pub usable_size_bits : usable_size (of_bits binary32 w) ≡ leb 0x3A80_0000 w && leb w 0x4980_0000
  usable_size_bits = by (eq-or-lt_of_le (let l : bare / 8388608 ≤ 255 = omega arith in l))
    where
      signed : (t : Bool) → minus ≡ t → (not t && leb 0x3A80_0000 bare) && (t || leb bare 0x4980_0000) ≡ leb 0x3A80_0000 w && leb w 0x4980_0000
      signed true e =
          let h : 2147483648 ≤ w = leb-true 2147483648 w e in
          sym (rw (lt-leb w 0x4980_0000 (omega arith)) (and-false (leb 0x3A80_0000 w)))
      signed false e =
          let h : w < 2147483648 = leb-false 2147483648 w e in
          ap (λ (k : ℕ). leb 0x3A80_0000 k && leb k 0x4980_0000) (let q : bare ≡ w = omega arith in q)

      by : (bare / 8388608 ≡ 255) ⊎ (bare / 8388608 < 255) → usable_size (of_bits binary32 w) ≡ leb 0x3A80_0000 w && leb w 0x4980_0000
      by (inl e) = (no_value e).1 ∙ sym (rw (lt-leb w 0x4980_0000 (omega arith)) (and-false (leb 0x3A80_0000 w)))
      by (inr l) =
          rw (at_least l (whole 1 ⊘ whole 1024) 0x3A80_0000 (lit< tt) least_value, no_more l limit 0x4980_0000 (lit< tt) limit_value)
          (signed minus refl)
