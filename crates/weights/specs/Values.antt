-- Finite f32 values as whole numbers of units: each is one, their order and equality are those of the numbers, and one that is rounded is known by its
-- size and sign. Assumes nothing.
use Rattle.std.specs.Prelude.{ℕ, zero, suc, ◌+◌, ◌-◌, ◌*◌, ◌%◌, ◌^◌, ◌≤◌, ◌<◌, ◌≡◌, refl, Bool, true, false, not, ◌&&◌, ◌||◌, cond, ℤ, pos, negsuc, T, leb, ltb, eqb, Float}
use Rattle.std.proofs.Common.{sym, ap, ◌∙◌, subst, inl, inr, add_comm, lt_of_not-le, not-le_of_lt, le_of_mul-le-mul_right, mul-le-mul_right, mul-one, mul_assoc, mul-pos, eq-zero-or-pos, arith, leb→le, ltb→lt, nltb→le, eqb→eq, pow-add, pow_pos}
use Rattle.std.proofs.Math.Nat.{mul-sub, div-eq_of_eq-mul_left, eq_of_mul-eq-mul_right}
use Rattle.std.proofs.Math.Decide.{dec_le}
use Rattle.std.proofs.Math.Pow.{pow-lt}
use Rattle.std.specs.Float.{nan, inf, fin, binary32}
use Rattle.std.specs.Float.Ieee.{prec, low, odd, units, round, up, down, fits, le, eq, below as belowOf, level}
use Rattle.std.specs.Float.Ieee.Fits.{down_pos, and_l, and_r, and_i, round_is, round-fits}
use Rattle.std.specs.Float.Ieee.Exact.{HasValue, units_val}
use Rattle.std.specs.Float.Ieee.Order.{round_mono}
use Rattle.std.specs.Float.Ieee.Scale.{finite, overflow, round_under}
use Rattle.laws.specs.Tests.{eq→eqb}
use Rattle.weights.specs.Units.{per_one, parts, magnitude, negative, above, below, distance}
use Rattle.weights.specs.Rounding.{some_units, rounded, over_power, exactly, too_many}

-- a finite value of f32
pub record Number (x : Float) : Type 0 where
  pub is_f32 : T (fits binary32 x)
  pub is_finite : T (finite x)

-- x is u units, with the sign s
abbrev pub Is : Float → Bool → ℕ → Type 0
Is x s u = HasValue x s u per_one

is_known : (x : Float) {s : Bool} {u : ℕ} → Is x s u → (negative x ≡ s) × (magnitude x ≡ u) × T (finite x)
unfolding magnitude negative per_one
is_known nan h = absurd h
is_known (inf t) h = absurd h
is_known (fin t m e) h = (h.0, div-eq_of_eq-mul_left (down_pos e) h.1, tt)

-- ---- every f32 is a whole number of units

-- m * 2 ^ j of them, where m has at most 24 digits
pub record Digits (x : Float) : Type 0 where
  pub m : ℕ
  pub j : ℕ
  pub few : m < parts
  pub is : Is x (negative x) (m * 2 ^ j)

at_most_low : (k : ℕ) → 2 ^ k ≤ 2 ^ low binary32 → k ≤ low binary32
at_most_low k h = elim (eq-zero-or-pos (k - low binary32)) [ inl e ↦ omega arith | inr p ↦ absurd (not-le_of_lt (pow-lt (beyond p)) h) ]
  where
    beyond : 0 < k - low binary32 → low binary32 < k
    beyond p = omega arith

-- what `fits` says of a value that is not zero
few_and_fine : (m : ℕ) (e : ℤ) (s : Bool) → T (fits binary32 (fin s (suc m) e)) → (suc m < parts) × (down e ≤ 2 ^ low binary32)
unfolding fits
few_and_fine m e s h =
    let rest = and_l (eqb (suc m % 2) 1 && ltb (suc m) parts && leb (down e) (2 ^ low binary32)) _ h in (
      ltb→lt _ _ (and_r (eqb (suc m % 2) 1) _ (and_l (eqb (suc m % 2) 1 && ltb (suc m) parts) _ rest)),
      leb→le _ _ (and_r (eqb (suc m % 2) 1 && ltb (suc m) parts) _ rest),
    )

digits_of : (s : Bool) (m : ℕ) (e : ℤ) → T (fits binary32 (fin s m e)) → Digits (fin s m e)
unfolding negative per_one
digits_of s zero e h = record { m = 0; j = 0; few = omega arith; is = (refl, nothing (up e) (down e) _) }
  where
    nothing : (a b l : ℕ) → 0 * a * l ≡ 0 * 2 ^ 0 * b
    nothing a b l = omega arith
digits_of s (suc m) (pos k) h =
    record {
      m = suc m;
      j = k + low binary32;
      few = (few_and_fine m (pos k) s h).0;
      is = (refl, mul_assoc (suc m) (2 ^ k) _ ∙ ap (λ (p : ℕ). suc m * p) (sym (pow-add 2 k (low binary32))) ∙ sym (mul-one _));
    }
digits_of s (suc m) (negsuc k) h =
    let fine = few_and_fine m (negsuc k) s h in
    record {
      m = suc m;
      j = low binary32 - suc k;
      few = fine.0;
      is = (refl, ap (λ (a : ℕ). a * 2 ^ low binary32) (mul-one (suc m)) ∙ over_power (suc m) (suc k) _ (at_most_low (suc k) fine.1));
    }

pub digits : (x : Float) → Number x → Digits x
digits nan h = absurd h.is_finite
digits (inf s) h = absurd h.is_finite
digits (fin s m e) h = digits_of s m e h.is_f32

pub value : (x : Float) → Number x → Is x (negative x) (magnitude x)
value x h = let d = digits x h in rw (is_known x d.is).1 d.is

-- so rounding does not move it
pub held : (x : Float) → Number x → rounded (magnitude x) per_one ≡ magnitude x
held x h = let d = digits x h in rw (is_known x d.is).1 (exactly d.m d.j d.few)

-- nor the distance of two, where neither is more than twice the other
distance_times : (m n c : ℕ) → distance (m * c) (n * c) ≡ distance m n * c
distance_times m n c = omega (arith, mul-sub c m n, mul-sub c n m)

apart_held : (m n j : ℕ) → m < parts → n * 2 ^ j ≤ 2 * (m * 2 ^ j) → rounded (distance (m * 2 ^ j) (n * 2 ^ j)) per_one ≡ distance (m * 2 ^ j) (n * 2 ^ j)
apart_held m n j few h =
    let near : n ≤ 2 * m = le_of_mul-le-mul_right (omega arith) (pow_pos j) in
    rw (distance_times m n (2 ^ j)) (exactly (distance m n) j (omega arith))

one_way_held : (m n j k : ℕ) → j ≤ k → m < parts → n * 2 ^ k ≤ 2 * (m * 2 ^ j)
    → rounded (distance (m * 2 ^ j) (n * 2 ^ k)) per_one ≡ distance (m * 2 ^ j) (n * 2 ^ k)
one_way_held m n j k h few near = rw (over_power n j k h) (apart_held m (n * 2 ^ (k - j)) j few (rw (over_power n j k h) at near))

pub close_held : (x y : Float) → Number x → Number y → magnitude x ≤ 2 * magnitude y → magnitude y ≤ 2 * magnitude x
    → rounded (distance (magnitude x) (magnitude y)) per_one ≡ distance (magnitude x) (magnitude y)
close_held x y f g h k =
    let dx = digits x f in
    let dy = digits y g in
    let ex = (is_known x dx.is).1 in
    let ey = (is_known y dy.is).1 in
    rw (ex, ey) (go dx.m dx.j dy.m dy.j (dec_le dx.j dy.j) dx.few dy.few (rw (ex, ey) at h) (rw (ex, ey) at k))
  where
    go : (m j n k : ℕ) → Dec (j ≤ k) → m < parts → n < parts → m * 2 ^ j ≤ 2 * (n * 2 ^ k) → n * 2 ^ k ≤ 2 * (m * 2 ^ j)
        → rounded (distance (m * 2 ^ j) (n * 2 ^ k)) per_one ≡ distance (m * 2 ^ j) (n * 2 ^ k)
    go m j n k (yes l) fm fn h k' = one_way_held m n j k l fm k'
    go m j n k (no l) fm fn h k' =
        rw (add_comm (m * 2 ^ j - n * 2 ^ k) (n * 2 ^ k - m * 2 ^ j)) (one_way_held n m k j (omega arith) fn h)

-- ---- the order

or_split : (p q : Bool) {P : Type 0} → (T p → P) → (T q → P) → T (p || q) → P
or_split true q f g h = f tt
or_split false q f g h = g h

or_of : (p q : Bool) → (T (not p) → T q) → T (p || q)
or_of true q h = tt
or_of false q h = h tt

-- two numbers with their signs, as `le` and `eq` compare them
module _ (a b : ℕ) where
  abbrev left : Bool → Bool → ℕ
  left s t = cond s 0 a + cond t b 0

  abbrev right : Bool → Bool → ℕ
  right s t = cond t 0 b + cond s a 0

  same : (q : Bool) → T (eqb a b && q) → a ≡ b
  same q h = eqb→eq a b (and_l (eqb a b) q h)

  same_of : (q : Bool) → a ≡ b → T q → T (eqb a b && q)
  same_of q e h = and_i (eqb a b) q (eq→eqb a b e) h

  zeros : T (eqb a b && eqb a 0) → (a ≡ 0) × (b ≡ 0)
  zeros h = let z = eqb→eq a 0 (and_r (eqb a b) _ h) in (z, sym (same _ h) ∙ z)

  zeros_of : a ≡ 0 → b ≡ 0 → T (eqb a b && eqb a 0)
  zeros_of p q = same_of (eqb a 0) (p ∙ sym q) (eq→eqb a 0 p)

  at_most : (s t : Bool) → T (belowOf s a t b || level s a t b) → left s t ≤ right s t
  at_most false false h = or_split (ltb a b) _ (λ k. omega (arith, ltb→lt a b k)) (λ k. omega (arith, same _ k)) h
  at_most false true h = let z = zeros h in omega arith
  at_most true false h = omega arith
  at_most true true h = or_split (ltb b a) _ (λ k. omega (arith, ltb→lt b a k)) (λ k. omega (arith, same _ k)) h

  at_most_of : (s t : Bool) → left s t ≤ right s t → T (belowOf s a t b || level s a t b)
  at_most_of false false h = or_of (ltb a b) _ (λ k. same_of true (omega (arith, nltb→le a b k)) tt)
  at_most_of false true h = zeros_of (omega arith) (omega arith)
  at_most_of true false h = or_of (ltb 0 (a + b)) _ (λ k. let z = nltb→le 0 (a + b) k in zeros_of (omega arith) (omega arith))
  at_most_of true true h = or_of (ltb b a) _ (λ k. same_of true (omega (arith, nltb→le b a k)) tt)

  equal : (s t : Bool) → T (level s a t b) → left s t ≡ right s t
  equal false false h = omega (arith, same _ h)
  equal false true h = let z = zeros h in omega arith
  equal true false h = let z = zeros h in omega arith
  equal true true h = omega (arith, same _ h)

  equal_of : (s t : Bool) → left s t ≡ right s t → T (level s a t b)
  equal_of false false h = same_of true (omega arith) tt
  equal_of false true h = zeros_of (omega arith) (omega arith)
  equal_of true false h = zeros_of (omega arith) (omega arith)
  equal_of true true h = same_of true (omega arith) tt

-- the same numbers by another measure: a / c is u / l, and b / c is v / l
module _ (a b c u v l : ℕ) (p : a * l ≡ u * c) (q : b * l ≡ v * c) where
  scaled : (s t : Bool) → (left a b s t * l ≡ left u v s t * c) × (right a b s t * l ≡ right u v s t * c)
  scaled false false = (omega arith, omega arith)
  scaled false true = (omega arith, omega arith)
  scaled true false = (omega arith, omega arith)
  scaled true true = (omega arith, omega arith)

  scaled_le : 0 < c → (s t : Bool) → left a b s t ≤ right a b s t → left u v s t ≤ right u v s t
  scaled_le some s t h = let e = scaled s t in le_of_mul-le-mul_right (omega (arith, mul-le-mul_right l h)) some

  scaled_eq : 0 < c → (s t : Bool) → left a b s t ≡ right a b s t → left u v s t ≡ right u v s t
  scaled_eq some s t h = let e = scaled s t in eq_of_mul-eq-mul_right c some _ _ (omega (arith, ap (λ (k : ℕ). k * l) h))

-- the order and the equality of two values are those of their units
pub record Ordered (x y : Float) : Type 0 where
  pub le_units : T (le x y) → above x + below y ≤ above y + below x
  pub units_le : above x + below y ≤ above y + below x → T (le x y)
  pub eq_units : T (eq x y) → above x + below y ≡ above y + below x
  pub units_eq : above x + below y ≡ above y + below x → T (eq x y)

-- a value's size over the product of two denominators
pub shared : (a u c d l : ℕ) → a * l ≡ u * c → (a * d * l ≡ u * (c * d)) × (a * d * l ≡ u * (d * c))
shared a u c d l e = (omega (arith, ap (λ (k : ℕ). k * d) e), omega (arith, ap (λ (k : ℕ). k * d) e))

pub order : (x y : Float) → Number x → Number y → Ordered x y
unfolding le eq negative
order nan y f g = absurd f.is_finite
order (inf s) y f g = absurd f.is_finite
order (fin s m e) nan f g = absurd g.is_finite
order (fin s m e) (inf t) f g = absurd g.is_finite
order (fin s m e) (fin t n d) f g =
    let a = m * up e * down d in
    let b = n * up d * down e in
    let c = down e * down d in
    let some : 0 < c = mul-pos (down_pos e) (down_pos d) in
    let u = magnitude (fin s m e) in
    let v = magnitude (fin t n d) in
    let p : a * per_one ≡ u * c = (shared (m * up e) u (down e) (down d) per_one (value _ f).1).0 in
    let q : b * per_one ≡ v * c = (shared (n * up d) v (down d) (down e) per_one (value _ g).1).1 in
    record {
      le_units = λ h. scaled_le a b c u v per_one p q some s t (at_most a b s t h);
      units_le = λ h. at_most_of a b s t (scaled_le u v per_one a b c (sym p) (sym q) some_units s t h);
      eq_units = λ h. scaled_eq a b c u v per_one p q some s t (equal a b s t h);
      units_eq = λ h. equal_of a b s t (scaled_eq u v per_one a b c (sym p) (sym q) some_units s t h);
    }

-- what is not at most another lies above it
pub beyond_units : (x y : Float) → Number x → Number y → le x y ≡ false → above y + below x < above x + below y
beyond_units x y f g e = lt_of_not-le (λ h. subst T e ((order x y f g).units_le h))

-- ---- what is rounded

-- a finite value of f32, its sign and its size
pub record Known (x : Float) (s : Bool) (u : ℕ) : Type 0 where
  pub number : Number x
  pub sign : negative x ≡ s
  pub size : magnitude x ≡ u

pub plus_parts : {x : Float} {u : ℕ} → Known x false u → (above x ≡ u) × (below x ≡ 0)
plus_parts k = (rw (k.sign, k.size), rw k.sign)

units_is : (s : Bool) (q k : ℕ) → q * 2 ^ k < too_many → Is (units binary32 s q k) s (q * 2 ^ k)
unfolding per_one too_many
units_is s q k h = units_val binary32 s q k h

pub known : (s : Bool) (a c : ℕ) → rounded a c < too_many → Known (round binary32 s a c) s (rounded a c)
unfolding rounded
known s a c h =
    let x = round binary32 s a c in
    let is : Is x s (rounded a c) = rw (round_is binary32 s a c) (units_is s _ _ h) in
    let k = is_known x is in
    record { number = record { is_f32 = round-fits binary32 s a c; is_finite = k.2 }; sign = k.0; size = k.1 }

-- what is at most a finite value, and not negative, is finite
units_finite : (q k : ℕ) (y : Float) → T (finite y) → T (le (units binary32 false q k) y) → T (finite (units binary32 false q k))
unfolding units odd le
units_finite q k y f h = go y f (ltb (q * 2 ^ k) (overflow binary32)) q h
  where
    go : (y : Float) → T (finite y) → (b : Bool) (q : ℕ) → T (le (cond b (odd (suc (prec binary32)) false q k (low binary32)) (inf false)) y)
        → T (finite (cond b (odd (suc (prec binary32)) false q k (low binary32)) (inf false)))
    go y f true zero h = tt
    go y f true (suc q) h = tt
    go nan f false q h = absurd f
    go (inf s) f false q h = absurd f
    go (fin s m e) f false q h = absurd h

-- rounding keeps the order
pub rounded_mono : (a b c d : ℕ) → 0 < b → 0 < d → a * d ≤ c * b → rounded c d < too_many → rounded a b ≤ rounded c d
unfolding rounded too_many
rounded_mono a b c d some some' h fine =
    let x = round binary32 false a b in
    let y = round binary32 false c d in
    let l = round_mono binary32 a b c d some some' h in
    let ky = known false c d fine in
    let under : T (finite x) = rw (round_is binary32 false a b) (units_finite _ _ y ky.number.is_finite (rw (round_is binary32 false a b) at l)) in
    let kx = known false a b (round_under binary32 a b under) in
    in_order_lem kx ky ((order x y kx.number ky.number).le_units l)
  where
    in_order_lem : {x y : Float} {u v : ℕ} → Known x false u → Known y false v → above x + below y ≤ above y + below x → u ≤ v
    in_order_lem k j h = let l = rw (k.sign, k.size, j.sign, j.size) at h in omega arith
