-- Sums, differences, products and quotients of finite f32 values, in units: each is what it is exactly, rounded once. Assumes nothing.
use Rattle.std.specs.Prelude.{ℕ, zero, suc, ◌+◌, ◌-◌, ◌*◌, ◌≤◌, ◌<◌, ◌≡◌, refl, Bool, true, false, not, ◌&&◌, cond, ltb, Float}
use Rattle.std.proofs.Common.{sym, ap, ap₂, ◌∙◌, mul-pos, mul-le-mul_right, mul_comm, mul-lt-mul_of_pos_right, lt_of_mul-lt-mul_right, arith, lt-ltb, le-ltb, ne_eqb}
use Rattle.std.proofs.Math.Nat.{mul-sub, eq_of_mul-eq-mul_right}
use Rattle.std.proofs.Math.Decide.{dec_lt}
use Rattle.std.specs.Float.{nan, inf, fin, binary32}
use Rattle.std.specs.Float.Ieee.{up, down, unlike, round, neg, sum, add, sub, mul, div}
use Rattle.std.specs.Float.Ieee.Fits.{down_pos, neg-fits}
use Rattle.std.specs.Float.Ieee.Scale.{round_same}
use Rattle.model.specs.Formulas.{◌⊕◌, ◌⊖◌, ◌⊗◌, ◌⊘◌}
use Rattle.weights.specs.Units.{per_one, magnitude, negative, above, below, distance, Within, parts}
use Rattle.weights.specs.Rounding.{rounded, some_units, near_units, too_many, plenty, room}
use Rattle.weights.specs.Values.{Number, Known, value, held, shared, known, rounded_mono}

-- ---- a sum before it is rounded goes by the values of its fractions

-- a / c is a' / c', and b / c is b' / c'
module _ (a b c a' b' c' : ℕ) (some : 0 < c) (some' : 0 < c') (p : a * c' ≡ a' * c) (q : b * c' ≡ b' * c) where
  less_same : ltb a b ≡ ltb a' b'
  less_same = go (dec_lt a b)
    where
      go : Dec (a < b) → ltb a b ≡ ltb a' b'
      go (yes l) =
          let l' : a' < b' = lt_of_mul-lt-mul_right c (omega (arith, mul-lt-mul_of_pos_right l some')) in
          lt-ltb a b l ∙ sym (lt-ltb a' b' l')
      go (no l) =
          let l' : ¬ (a' < b') = λ h. l (lt_of_mul-lt-mul_right c' (omega (arith, mul-lt-mul_of_pos_right h some))) in
          le-ltb a b (omega arith) ∙ sym (le-ltb a' b' (omega arith))

  minus_same : (a - b) * c' ≡ (a' - b') * c
  minus_same = rw (mul_comm (a - b) c', mul-sub, mul_comm (a' - b') c, mul-sub) (omega arith)

sum_same : (s t : Bool) (a b c a' b' c' : ℕ) → 0 < c → 0 < c' → a * c' ≡ a' * c → b * c' ≡ b' * c → sum binary32 s a t b c ≡ sum binary32 s a' t b' c'
unfolding sum
sum_same s t a b c a' b' c' some some' p q =
    rw (
      round_same binary32 s (a + b) c (a' + b') c' some some' (omega arith),
      round_same binary32 t (b - a) c (b' - a') c' some some' (minus_same b a c b' a' c' some some' q p),
      less_same a b c a' b' c' some some' p q,
      less_same b a c b' a' c' some some' q p,
      round_same binary32 (s && ltb b' a') (a - b) c (a' - b') c' some some' (minus_same a b c a' b' c' some some' p q),
    )

-- ---- a sum

-- the sign that p - n can have: at 0 either
abbrev pub Signed : Bool → ℕ → ℕ → Type 0
Signed false p n = n ≤ p
Signed true p n = p ≤ n

-- z is p - n, rounded
pub record Rounds (p n : ℕ) (z : Float) : Type 0 where
  pub number : Number z
  pub sign : Signed (negative z) p n
  pub size : magnitude z ≡ rounded (distance p n) per_one
  pub fine : rounded (distance p n) per_one < too_many

abbrev RoundsTo : ℕ → ℕ → Float → Type 0
RoundsTo p n z = (b : Bool) × Signed b p n × (z ≡ round binary32 b (distance p n) per_one)

-- u and v with the signs s and t
sum_signed : (s t : Bool) (u v : ℕ) → RoundsTo (cond s 0 u + cond t 0 v) (cond s u 0 + cond t v 0) (sum binary32 s u t v per_one)
unfolding sum
sum_signed false false u v = (false, omega arith, ap (λ (k : ℕ). round binary32 false k per_one) (omega arith))
sum_signed true true u v = (true, omega arith, ap (λ (k : ℕ). round binary32 true k per_one) (omega arith))
sum_signed false true u v = go (dec_lt u v)
  where
    go : Dec (u < v) → RoundsTo (u + 0) (0 + v) (cond (ltb u v) (round binary32 true (v - u) per_one) (round binary32 false (u - v) per_one))
    go (yes l) = (true, omega arith, rw (lt-ltb u v l) (ap (λ (k : ℕ). round binary32 true k per_one) (omega arith)))
    go (no l) = (false, omega arith, rw (le-ltb u v (omega arith)) (ap (λ (k : ℕ). round binary32 false k per_one) (omega arith)))
sum_signed true false u v = go (dec_lt u v) (dec_lt v u)
  where
    go : Dec (u < v) → Dec (v < u)
        → RoundsTo (0 + v) (u + 0) (cond (ltb u v) (round binary32 false (v - u) per_one) (round binary32 (ltb v u) (u - v) per_one))
    go (yes l) m = (false, omega arith, rw (lt-ltb u v l) (ap (λ (k : ℕ). round binary32 false k per_one) (omega arith)))
    go (no l) (yes m) =
        (true, omega arith, rw (le-ltb u v (omega arith), lt-ltb v u m) (ap (λ (k : ℕ). round binary32 true k per_one) (omega arith)))
    go (no l) (no m) =
        (false, omega arith, rw (le-ltb u v (omega arith), le-ltb v u (omega arith)) (ap (λ (k : ℕ). round binary32 false k per_one) (omega arith)))

sum_units : (x y : Float) → Number x → Number y → x ⊕ y ≡ sum binary32 (negative x) (magnitude x) (negative y) (magnitude y) per_one
unfolding add negative
sum_units nan y f g = absurd f.is_finite
sum_units (inf s) y f g = absurd f.is_finite
sum_units (fin s m e) nan f g = absurd g.is_finite
sum_units (fin s m e) (inf t) f g = absurd g.is_finite
sum_units (fin s m e) (fin t n d) f g =
    let u = magnitude (fin s m e) in
    let v = magnitude (fin t n d) in
    sum_same s t (m * up e * down d) (n * up d * down e) (down e * down d) u v per_one (mul-pos (down_pos e) (down_pos d)) some_units
    (shared (m * up e) u (down e) (down d) per_one (value _ f).1).0 (shared (n * up d) v (down d) (down e) per_one (value _ g).1).1

pub both_parts : (x : Float) → above x + below x ≡ magnitude x
both_parts x = go (negative x)
  where
    go : (b : Bool) → cond b 0 (magnitude x) + cond b (magnitude x) 0 ≡ magnitude x
    go true = omega arith
    go false = omega arith

-- what is rounded is at most doubled
no_overflow : (n : ℕ) → 2 * n ≤ plenty * per_one → rounded n per_one < too_many
no_overflow n h = omega (arith, near_units n, room)

rounds_to : (p n : ℕ) (z : Float) → 2 * (p + n) ≤ plenty * per_one → RoundsTo p n z → Rounds p n z
rounds_to p n z h r =
    let few = no_overflow (distance p n) (omega arith) in
    let k = known r.0 (distance p n) per_one few in
    rw r.2 (record { number = k.number; sign = rw k.sign r.1; size = k.size; fine = few })

pub sum_rounds : (x y : Float) → Number x → Number y → 2 * (magnitude x + magnitude y) ≤ plenty * per_one → Rounds (above x + above y) (below x + below y) (x ⊕ y)
sum_rounds x y f g h =
    rounds_to _ _ _ (omega (arith, both_parts x, both_parts y)) (rw (sum_units x y f g) (sum_signed (negative x) (negative y) (magnitude x) (magnitude y)))

-- ---- a difference

pub turned : (y : Float) → Number y → Known (neg y) (not (negative y)) (magnitude y)
unfolding neg negative magnitude
turned nan g = absurd g.is_finite
turned (inf s) g = absurd g.is_finite
turned (fin s m e) g = record { number = record { is_f32 = neg-fits binary32 (fin s m e) g.is_f32; is_finite = tt }; sign = refl; size = refl }

pub turned_parts : (y : Float) → Number y → (above (neg y) ≡ below y) × (below (neg y) ≡ above y)
turned_parts y g = let k = turned y g in rw (k.sign, k.size) (go (negative y))
  where
    go : (b : Bool) → (cond (not b) 0 (magnitude y) ≡ cond b (magnitude y) 0) × (cond (not b) (magnitude y) 0 ≡ cond b 0 (magnitude y))
    go true = (refl, refl)
    go false = (refl, refl)

pub difference_rounds : (x y : Float) → Number x → Number y → 2 * (magnitude x + magnitude y) ≤ plenty * per_one
    → Rounds (above x + below y) (below x + above y) (x ⊖ y)
unfolding sub
difference_rounds x y f g h =
    let k = turned y g in
    let e = turned_parts y g in
    rw (e.0, e.1) at (sum_rounds x (neg y) f k.number (rw k.size h))

-- ---- what is known of p - n, rounded

module _ {p n : ℕ} {z : Float} (r : Rounds p n z) where
  -- it is moved by one part at most
  pub near : Within ((above z + n) * parts) ((below z + p) * parts) (distance p n)
  near = rw r.size (go (negative z) r.sign (near_units (distance p n)))
    where
      go : (b : Bool) → Signed b p n → let g = rounded (distance p n) per_one in Within (g * parts) (distance p n * parts) (distance p n)
          → Within ((cond b 0 g + n) * parts) ((cond b g 0 + p) * parts) (distance p n)
      go false s h = omega arith
      go true s h = omega arith

  -- it does not change sides
  pub not_below : n ≤ p → below z ≡ 0
  not_below h = rw r.size (go (negative z) r.sign)
    where
      go : (b : Bool) → Signed b p n → cond b (rounded (distance p n) per_one) 0 ≡ 0
      go false s = refl
      go true s = omega (arith, near_units (distance p n))

  pub not_above : p ≤ n → above z ≡ 0
  not_above h = rw r.size (go (negative z) r.sign)
    where
      go : (b : Bool) → Signed b p n → cond b 0 (rounded (distance p n) per_one) ≡ 0
      go true s = refl
      go false s = omega (arith, near_units (distance p n))

-- the order stays
pub mono : {p n p' n' : ℕ} {z z' : Float} → Rounds p n z → Rounds p' n' z' → p + n' ≤ p' + n → above z + below z' ≤ above z' + below z
mono {p} {n} {p'} {n'} {z} {z'} r r' h = rw (r.size, r'.size) (go (negative z) (negative z') r.sign r'.sign)
  where
    up : distance p n ≤ distance p' n' → rounded (distance p n) per_one ≤ rounded (distance p' n') per_one
    up l = rounded_mono _ per_one _ per_one some_units some_units (mul-le-mul_right per_one l) r'.fine

    down : distance p' n' ≤ distance p n → rounded (distance p' n') per_one ≤ rounded (distance p n) per_one
    down l = rounded_mono _ per_one _ per_one some_units some_units (mul-le-mul_right per_one l) r.fine

    go : (b c : Bool) → Signed b p n → Signed c p' n'
        → let g = rounded (distance p n) per_one in let g' = rounded (distance p' n') per_one in cond b 0 g + cond c g' 0 ≤ cond c 0 g' + cond b g 0
    go false false s t = omega (arith, up (omega arith))
    go true true s t = omega (arith, down (omega arith))
    go true false s t = omega arith
    go false true s t = omega (arith, near_units (distance p n), near_units (distance p' n'))

-- and a value is itself, rounded
pub own : (x : Float) → Number x → 2 * magnitude x ≤ plenty * per_one → Rounds (above x) (below x) x
own x f h =
    record { number = f; sign = go (negative x); size = sym (held x f) ∙ ap (λ (k : ℕ). rounded k per_one) (sym all); fine = no_overflow _ (rw all h) }
  where
    go : (b : Bool) → Signed b (cond b 0 (magnitude x)) (cond b (magnitude x) 0)
    go false = omega arith
    go true = omega arith

    all : distance (above x) (below x) ≡ magnitude x
    all = parts_apart (negative x)
      where
        parts_apart : (b : Bool) → distance (cond b 0 (magnitude x)) (cond b (magnitude x) 0) ≡ magnitude x
        parts_apart false = omega arith
        parts_apart true = omega arith

-- ---- a product

product_same : (a b c d u v l : ℕ) → a * l ≡ u * c → b * l ≡ v * d → a * b * (l * l) ≡ u * v * (c * d)
product_same a b c d u v l p q = omega (arith, ap₂ ◌*◌ p q)

product_units : (x y : Float) → Number x → Number y
    → x ⊗ y ≡ round binary32 (unlike (negative x) (negative y)) (magnitude x * magnitude y) (per_one * per_one)
unfolding mul negative
product_units nan y f g = absurd f.is_finite
product_units (inf s) y f g = absurd f.is_finite
product_units (fin s m e) nan f g = absurd g.is_finite
product_units (fin s m e) (inf t) f g = absurd g.is_finite
product_units (fin s m e) (fin t n d) f g =
    round_same binary32 (unlike s t) _ _ _ _ (mul-pos (down_pos e) (down_pos d)) (mul-pos some_units some_units)
    (product_same (m * up e) (n * up d) (down e) (down d) _ _ per_one (value _ f).1 (value _ g).1)

pub product_known : (x y : Float) → Number x → Number y → let g = rounded (magnitude x * magnitude y) (per_one * per_one) in g < too_many
    → Known (x ⊗ y) (unlike (negative x) (negative y)) g
product_known x y f g h = rw (product_units x y f g) (known _ _ _ h)

-- ---- a quotient

quotient_same : (a b c u v l : ℕ) → 0 < c → a * l ≡ u * c → b * l ≡ v * c → a * v ≡ u * b
quotient_same a b c u v l some p q =
    eq_of_mul-eq-mul_right c some (a * v) (u * b) (omega (arith, ap (λ (k : ℕ). k * b) p, ap (λ (k : ℕ). a * k) q))

some_of : (b c l v : ℕ) → 0 < v → 0 < c → b * l ≡ v * c → 0 < b
some_of zero c l v hv hc e = absurd (omega (arith, mul-pos hv hc))
some_of (suc b) c l v hv hc e = omega arith

quotient_units : (x y : Float) → Number x → Number y → 0 < magnitude y
    → x ⊘ y ≡ round binary32 (unlike (negative x) (negative y)) (magnitude x) (magnitude y)
unfolding div negative
quotient_units nan y f g h = absurd f.is_finite
quotient_units (inf s) y f g h = absurd f.is_finite
quotient_units (fin s m e) nan f g h = absurd g.is_finite
quotient_units (fin s m e) (inf t) f g h = absurd g.is_finite
quotient_units (fin s m e) (fin t n d) f g h =
    let c = down e * down d in
    let some : 0 < c = mul-pos (down_pos e) (down_pos d) in
    let a_is = (shared (m * up e) (magnitude (fin s m e)) (down e) (down d) per_one (value _ f).1).0 in
    let b_is = (shared (n * up d) (magnitude (fin t n d)) (down d) (down e) per_one (value _ g).1).1 in
    let b_some : 0 < n * up d * down e = some_of _ c per_one _ h some b_is in
    rw (ne_eqb n 0 (λ z. none n (up d) (down e) z b_some))
    (round_same binary32 (unlike s t) _ _ _ _ b_some h (quotient_same _ _ c _ _ per_one some a_is b_is))
  where
    none : (n a b : ℕ) → n ≡ 0 → 0 < n * a * b → ⊥
    none n a b z h = let z' : 0 < 0 * a * b = rw z at h in omega arith

pub quotient_known : (x y : Float) → Number x → Number y → 0 < magnitude y → rounded (magnitude x) (magnitude y) < too_many
    → Known (x ⊘ y) (unlike (negative x) (negative y)) (rounded (magnitude x) (magnitude y))
quotient_known x y f g some h = rw (quotient_units x y f g some) (known _ _ _ h)
