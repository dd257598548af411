-- The order of f32 by `<`, in which +0 and -0 are equal in value: of all but a NaN it is a total order up to equality in value. A comparison of two finite
-- numbers is one of fractions with their signs. Assumes nothing.
use Rattle.std.specs.Prelude.{ℕ, zero, suc, ◌+◌, ◌*◌, ◌≤◌, ◌<◌, ◌≡◌, refl, Bool, true, false, not, ◌&&◌, ◌||◌, ltb, eqb, ℤ, pos, negsuc, Float}
use Rattle.std.proofs.Common.{zero-le, zero-mul, mul_right_comm, mul-le-mul_right, le_of_mul-le-mul_right, mul-pos, le_trans, le_of_eq, le_of_lt, zero-lt-suc, eq-or-lt_of_le, arith, sym, ap, ◌∙◌, ⊎_elim, ltb-true, ltb-false, eqb-true, lt-ltb, le-ltb, eq-eqb, pow_pos}
use Rattle.std.proofs.Math.Bool.{and-eq-true_iff, or-true}
use Rattle.std.specs.Float.{nan, inf, fin}
use Rattle.std.specs.Float.Ieee.{up, down, below, level, lt, le, eq, ne, is_nan}

-- ---- two numbers with their signs

-- ±a is at most ±b
abbrev Under : Bool → ℕ → Bool → ℕ → Type 0
Under false a false b = a ≤ b
Under false a true b = (a ≡ 0) × (b ≡ 0)
Under true a false b = Unit {0}
Under true a true b = b ≤ a

module _ (a b : ℕ) where
  -- less or equal, as a test, with the equality either way round
  at_most : a ≤ b → ltb a b || (eqb a b && true) ≡ true
  at_most h = go (ltb a b) refl
    where
      go : (x : Bool) → ltb a b ≡ x → x || (eqb a b && true) ≡ true
      go true e = refl
      go false e =
          let back = ltb-false a b e in
          ap (λ (x : Bool). x && true) (eq-eqb a b (omega arith))

  at_least : b ≤ a → ltb b a || (eqb a b && true) ≡ true
  at_least h = go (ltb b a) refl
    where
      go : (x : Bool) → ltb b a ≡ x → x || (eqb a b && true) ≡ true
      go true e = refl
      go false e =
          let back = ltb-false b a e in
          ap (λ (x : Bool). x && true) (eq-eqb a b (omega arith))

  same : (c : Bool) → eqb a b && c ≡ true → (a ≡ b) × (c ≡ true)
  same c h =
      let parts = (and-eq-true_iff (eqb a b) c).0 h in
      (eqb-true a b parts.0, parts.1)

  nothing : eqb a b && eqb a 0 ≡ true → (a ≡ 0) × (b ≡ 0)
  nothing h =
      let parts = same (eqb a 0) h in
      let none = eqb-true a 0 parts.1 in
      (none, sym parts.0 ∙ none)

  of_test : (s t : Bool) → below s a t b || level s a t b ≡ true → Under s a t b
  of_test false false h = go (ltb a b) refl h
    where
      go : (x : Bool) → ltb a b ≡ x → x || (eqb a b && true) ≡ true → a ≤ b
      go true e h = le_of_lt (ltb-true a b e)
      go false e h = le_of_eq (same true h).0
  of_test false true h = nothing h
  of_test true false h = tt
  of_test true true h = go (ltb b a) refl h
    where
      go : (x : Bool) → ltb b a ≡ x → x || (eqb a b && true) ≡ true → b ≤ a
      go true e h = le_of_lt (ltb-true b a e)
      go false e h = le_of_eq (sym (same true h).0)

  to_test : (s t : Bool) → Under s a t b → below s a t b || level s a t b ≡ true
  to_test false false h = at_most h
  to_test false true h = rw (h.0, h.1)
  to_test true false h =
      let least : 0 ≤ a + b = zero-le in
      ⊎_elim
      (λ e.
      let none : a ≡ 0 = omega arith in
      let none' : b ≡ 0 = omega arith in
      rw (none, none'))
      (λ l. rw (lt-ltb 0 (a + b) l)) (eq-or-lt_of_le least)
  to_test true true h = at_least h

  not_below : (s t : Bool) → below t b s a ≡ false → Under s a t b
  not_below false false h = ltb-false b a h
  not_below false true h =
      let few = ltb-false 0 (b + a) h in
      (omega arith, omega arith)
  not_below true false h = tt
  not_below true true h = ltb-false a b h

  under_not : (s t : Bool) → Under s a t b → below t b s a ≡ false
  under_not false false h = le-ltb b a h
  under_not false true h = rw (h.0, h.1)
  under_not true false h = refl
  under_not true true h = le-ltb a b h

  level_over : (s t : Bool) → level s a t b ≡ true → Under t b s a
  level_over false false h = le_of_eq (sym (same true h).0)
  level_over false true h = tt
  level_over true false h =
      let none = nothing h in
      (none.1, none.0)
  level_over true true h = le_of_eq (same true h).0

  both_under : (s t : Bool) → Under s a t b → Under t b s a → level s a t b ≡ true
  both_under false false h k = rw (eq-eqb a b (omega arith))
  both_under false true h k = rw (h.0, h.1)
  both_under true false h k = rw (k.0, k.1)
  both_under true true h k = rw (eq-eqb a b (omega arith))

level_self : (s : Bool) (a : ℕ) → level s a s a ≡ true
level_self false a = rw (eq-eqb a a refl)
level_self true a = rw (eq-eqb a a refl)

-- ---- three fractions a/p, b/q, c/r with their signs

no_factor : (a q : ℕ) → 0 < q → a * q ≡ 0 → a ≡ 0
no_factor zero q some e = refl
no_factor (suc a) q some e = omega (arith, mul-pos (zero-lt-suc a) some)

times : {a : ℕ} (r : ℕ) → a ≡ 0 → a * r ≡ 0
times r e = rw e (zero-mul r)

module _ (p q r : ℕ) (pp : 0 < p) (qq : 0 < q) (rr : 0 < r) where
  across : (a b c : ℕ) → a * q ≤ b * p → b * r ≤ c * q → a * r ≤ c * p
  across a b c h k =
      le_of_mul-le-mul_right
      (le_trans (le_of_eq (mul_right_comm a r q))
      (le_trans (mul-le-mul_right r h)
      (le_trans (le_of_eq (mul_right_comm b p r)) (le_trans (mul-le-mul_right p k) (le_of_eq (mul_right_comm c q p))))))
      qq

  under_on : (s t u : Bool) (a b c : ℕ) → Under s (a * q) t (b * p) → Under t (b * r) u (c * q) → Under s (a * r) u (c * p)
  under_on false false false a b c h k = across a b c h k
  under_on false false true a b c h k =
      let b0 = no_factor b r rr k.0 in
      let a0 = no_factor a q qq (omega (arith, times p b0)) in
      (times r a0, times p (no_factor c q qq k.1))
  under_on false true false a b c h k = omega (arith, times r (no_factor a q qq h.0))
  under_on false true true a b c h k =
      let b0 = no_factor b p pp h.1 in
      (times r (no_factor a q qq h.0), times p (no_factor c q qq (omega (arith, times r b0))))
  under_on true false false a b c h k = tt
  under_on true false true a b c h k = omega (arith, times p (no_factor c q qq k.1))
  under_on true true false a b c h k = tt
  under_on true true true a b c h k = flip
    where
      flip : c * p ≤ a * r
      flip =
          le_of_mul-le-mul_right
          (le_trans (le_of_eq (mul_right_comm c p q))
          (le_trans (mul-le-mul_right p k)
          (le_trans (le_of_eq (mul_right_comm b r p)) (le_trans (mul-le-mul_right r h) (le_of_eq (mul_right_comm a q r))))))
          qq

-- ---- floats

down_pos : (e : ℤ) → 0 < down e
down_pos (pos k) = zero-lt-suc 0
down_pos (negsuc k) = pow_pos (suc k)

pub le_on : (x y z : Float) → le x y ≡ true → le y z ≡ true → le x z ≡ true
unfolding le
le_on nan y z h k = h
le_on (inf s) nan z h k = cc
le_on (inf s) (inf t) nan h k = k
le_on (inf true) (inf t) (inf true) h k = refl
le_on (inf true) (inf t) (inf false) h k = refl
le_on (inf false) (inf true) (inf u) h k = cc
le_on (inf false) (inf false) (inf u) h k = k
le_on (inf true) (inf t) (fin u c g) h k = refl
le_on (inf false) (inf true) (fin u c g) h k = h
le_on (inf false) (inf false) (fin u c g) h k = k
le_on (inf s) (fin t b d) nan h k = k
le_on (inf true) (fin t b d) (inf true) h k = refl
le_on (inf true) (fin t b d) (inf false) h k = refl
le_on (inf false) (fin t b d) (inf u) h k = cc
le_on (inf s) (fin t b d) (fin u c g) h k = h
le_on (fin s a e) nan z h k = cc
le_on (fin s a e) (inf t) nan h k = k
le_on (fin s a e) (inf true) (inf u) h k = cc
le_on (fin s a e) (inf false) (inf true) h k = k
le_on (fin s a e) (inf false) (inf false) h k = refl
le_on (fin s a e) (inf true) (fin u c g) h k = cc
le_on (fin s a e) (inf false) (fin u c g) h k = cc
le_on (fin s a e) (fin t b d) nan h k = k
le_on (fin s a e) (fin t b d) (inf u) h k = k
le_on (fin s a e) (fin t b d) (fin u c g) h k =
    to_test _ _ s u
    (under_on (down e) (down d) (down g) (down_pos e) (down_pos d) (down_pos g) s t u (a * up e) (b * up d) (c * up g) (of_test _ _ s t h)
    (of_test _ _ t u k))

-- neither is a NaN: one is at most the other, or the other is below it
pub not_lt : (x y : Float) → is_nan x ≡ false → is_nan y ≡ false → lt y x ≡ false → le x y ≡ true
unfolding le lt is_nan
not_lt nan y nx ny h = cc
not_lt (inf s) nan nx ny h = cc
not_lt (inf true) (inf true) nx ny h = refl
not_lt (inf true) (inf false) nx ny h = refl
not_lt (inf false) (inf true) nx ny h = cc
not_lt (inf false) (inf false) nx ny h = refl
not_lt (inf true) (fin t b d) nx ny h = refl
not_lt (inf false) (fin t b d) nx ny h = cc
not_lt (fin s a e) nan nx ny h = cc
not_lt (fin s a e) (inf true) nx ny h = cc
not_lt (fin s a e) (inf false) nx ny h = refl
not_lt (fin s a e) (fin t b d) nx ny h = to_test _ _ s t (not_below (a * up e * down d) (b * up d * down e) s t h)

pub le_not : (x y : Float) → le x y ≡ true → lt y x ≡ false
unfolding le lt
le_not nan y h = cc
le_not (inf s) nan h = cc
le_not (inf true) (inf true) h = refl
le_not (inf true) (inf false) h = refl
le_not (inf false) (inf true) h = cc
le_not (inf false) (inf false) h = refl
le_not (inf true) (fin t b d) h = refl
le_not (inf false) (fin t b d) h = cc
le_not (fin s a e) nan h = cc
le_not (fin s a e) (inf true) h = cc
le_not (fin s a e) (inf false) h = refl
le_not (fin s a e) (fin t b d) h = under_not (a * up e * down d) (b * up d * down e) s t (of_test _ _ s t h)

le_is : (x y : Float) → le x y ≡ lt x y || eq x y
unfolding le
le_is x y = refl

pub lt_le : (x y : Float) → lt x y ≡ true → le x y ≡ true
lt_le x y h = rw (le_is x y, h)

pub eq_le : (x y : Float) → eq x y ≡ true → le x y ≡ true
eq_le x y h = rw (le_is x y, h) (or-true (lt x y))

pub eq_ge : (x y : Float) → eq x y ≡ true → le y x ≡ true
unfolding le eq
eq_ge nan y h = cc
eq_ge (inf s) nan h = cc
eq_ge (inf true) (inf true) h = refl
eq_ge (inf true) (inf false) h = cc
eq_ge (inf false) (inf true) h = cc
eq_ge (inf false) (inf false) h = refl
eq_ge (inf s) (fin t b d) h = cc
eq_ge (fin s a e) nan h = cc
eq_ge (fin s a e) (inf t) h = cc
eq_ge (fin s a e) (fin t b d) h = to_test _ _ t s (level_over (a * up e * down d) (b * up d * down e) s t h)

pub le_both : (x y : Float) → le x y ≡ true → le y x ≡ true → eq x y ≡ true
unfolding le eq
le_both nan y h k = h
le_both (inf s) nan h k = h
le_both (inf true) (inf true) h k = refl
le_both (inf true) (inf false) h k = k
le_both (inf false) (inf true) h k = h
le_both (inf false) (inf false) h k = refl
le_both (inf true) (fin t b d) h k = k
le_both (inf false) (fin t b d) h k = h
le_both (fin s a e) nan h k = h
le_both (fin s a e) (inf true) h k = h
le_both (fin s a e) (inf false) h k = k
le_both (fin s a e) (fin t b d) h k = both_under _ _ s t (of_test (a * up e * down d) (b * up d * down e) s t h) (of_test _ _ t s k)

pub eq_self : (x : Float) → is_nan x ≡ false → eq x x ≡ true
unfolding eq is_nan
eq_self nan n = cc
eq_self (inf true) n = refl
eq_self (inf false) n = refl
eq_self (fin s a e) n = level_self s (a * up e * down e)

-- only a NaN differs from itself
pub ne_self : (x : Float) → ne x x ≡ is_nan x
unfolding ne is_nan
ne_self nan = refl
ne_self (inf true) = refl
ne_self (inf false) = refl
ne_self (fin s a e) = ap not (level_self s (a * up e * down e))
