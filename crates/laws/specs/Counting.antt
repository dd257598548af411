-- Counting: the numbers below a bound that pass a test, the weighed of a weight over a list, and lists that hold the same items in another order.
-- Assumes nothing.
use Rattle.std.specs.Prelude.{◌≡◌, refl, ◌⊎◌, Bool, true, false, cond, ℕ, zero, suc, ◌+◌, ◌≤◌, ◌<◌, eqb}
use Rattle.std.proofs.Common.{sym, ap, inl, inr, ⊎_elim, zero-le, not-suc-le-zero, le_refl, le_of_suc-le-suc, eq-or-lt_of_le, arith, eqb-true}
use Rattle.std.proofs.Math.Path.{subst}
use mathlib.Core.List.{List, [], ◌∷◌, ◌++◌}
use Rattle.std.proofs.Math.Nat.{le_step}
use Rattle.std.proofs.Math.Dec.{T}
use Rattle.laws.specs.Tests.{both, both_left, both_right}

module _ {A : Type 0} where
  abbrev pub pick : Bool → A → A → A
  pick true a b = a
  pick false a b = b

  -- f 0, then f 1, .., then f (n - 1)
  abbrev pub gather : (ℕ → List A) → ℕ → List A
  gather f zero = []
  gather f (suc n) = gather f n ++ f n

-- ---- how many numbers below a bound pass a test

abbrev pub one : Bool → ℕ
one b = cond b 1 0

pub one_true : (b : Bool) → 1 ≤ one b → T b
one_true true h = tt
one_true false h = absurd (not-suc-le-zero h)

pub one_small : (b : Bool) → one b ≤ 1
one_small true = omega arith
one_small false = omega arith

pub one_of : (b : Bool) → T b → one b ≡ 1
one_of true t = refl
one_of false t = absurd t

abbrev pub how_many : (ℕ → Bool) → ℕ → ℕ
how_many P zero = 0
how_many P (suc n) = how_many P n + one (P n)

module _ (P : ℕ → Bool) where
  pub few : (n : ℕ) → how_many P n ≤ n
  few zero = zero-le
  few (suc n) = omega (arith, few n, one_small (P n))

  pub upto : (n k : ℕ) → n ≤ k → how_many P n ≤ how_many P k
  upto n zero l = let e : n ≡ 0 = omega arith in rw e (le_refl _)
  upto n (suc k) l = ⊎_elim (λ e. rw e (le_refl _)) (λ m. omega (arith, upto n k (le_of_suc-le-suc m))) (eq-or-lt_of_le l)

  -- one that passes is counted below a higher bound
  one_more : (n k : ℕ) → k < n → one (P k) ≡ 1 → how_many P k < how_many P n
  one_more zero k l t = absurd (not-suc-le-zero l)
  one_more (suc n) k l t =
      ⊎_elim (λ e. omega (arith, subst (λ (m : ℕ). one (P m) ≡ 1) e t, ap (how_many P) e))
      (λ m. omega (arith, one_more n k m t)) (eq-or-lt_of_le (le_of_suc-le-suc l))

  pub counted : (n k : ℕ) → k < n → P k ≡ true → how_many P k < how_many P n
  counted n k l t = one_more n k l (ap one t)

  pub some : (n i : ℕ) → i < n → T (P i) → 1 ≤ how_many P n
  some n i h t = omega (arith, one_more n i h (one_of (P i) t))

  pub two : (n i j : ℕ) → i < j → j < n → T (P i) → T (P j) → 2 ≤ how_many P n
  two n i j l h ti tj = omega (arith, one_more j i l (one_of (P i) ti), one_more n j h (one_of (P j) tj))

  -- the one that has so many before it
  pub record Which (n j : ℕ) : Type 0 where
    pub one_is : ℕ
    pub below : one_is < n
    pub passes : P one_is ≡ true
    pub before : how_many P one_is ≡ j

  pub which_one : (n j : ℕ) → j < how_many P n → Which n j
  which_one zero j l = absurd (not-suc-le-zero l)
  which_one (suc n) j l = go (P n) refl l (which_one n j)
    where
      earlier : Which n j → Which (suc n) j
      earlier w = record { one_is = w.one_is; below = le_step w.below; passes = w.passes; before = w.before }

      go : (b : Bool) → P n ≡ b → j < how_many P n + one b → (j < how_many P n → Which n j) → Which (suc n) j
      go true e l among =
          let within : j ≤ how_many P n = omega arith in
          ⊎_elim (λ last. record { one_is = n; below = le_refl _; passes = e; before = sym last }) (λ m. earlier (among m)) (eq-or-lt_of_le within)
      go false e l among = earlier (among (omega arith))

  pub which : (n : ℕ) → 1 ≤ how_many P n → (i : ℕ) × (i < n) × T (P i)
  which n h = let w = which_one n 0 h in (w.one_is, w.below, subst T (sym w.passes) tt)

-- ---- items of a list

abbrev pub has : ℕ → List ℕ → Bool
has x [] = false
has x (y ∷ ys) = pick (eqb x y) true (has x ys)

has_cases : (p x : ℕ) (xs : List ℕ) → T (has p (x ∷ xs)) → (p ≡ x) ⊎ T (has p xs)
has_cases p x xs t = go (eqb p x) (eqb-true p x) t
  where
    go : (b : Bool) → (b ≡ true → p ≡ x) → T (pick b true (has p xs)) → (p ≡ x) ⊎ T (has p xs)
    go true e t = inl (e refl)
    go false e t = inr t

-- P at each item
abbrev pub every : (ℕ → Bool) → List ℕ → Bool
every P [] = true
every P (x ∷ xs) = both (P x) (every P xs)

pub every_item : (P : ℕ → Bool) (xs : List ℕ) → T (every P xs) → (x : ℕ) → T (has x xs) → T (P x)
every_item P [] t x h = absurd h
every_item P (y ∷ ys) t x h = go (has_cases x y ys h) (every_item P ys (both_right _ _ t) x)
  where
    go : (x ≡ y) ⊎ T (has x ys) → (T (has x ys) → T (P x)) → T (P x)
    go (inl e) rest = rw e (both_left _ _ t)
    go (inr h) rest = rest h

-- the items that pass a test
unfoldable pub only : (ℕ → Bool) → List ℕ → List ℕ
only P [] = []
only P (x ∷ xs) = pick (P x) (x ∷ only P xs) (only P xs)

-- f at each two items, the one before in the list first
unfoldable pub with_each : (ℕ → ℕ → Bool) → ℕ → List ℕ → Bool
with_each f x [] = true
with_each f x (y ∷ ys) = both (f x y) (with_each f x ys)

unfoldable pub each_two : (ℕ → ℕ → Bool) → List ℕ → Bool
each_two f [] = true
each_two f (x ∷ xs) = both (with_each f x xs) (each_two f xs)

-- a relation that holds where f does, and is reflexive and symmetric, holds of any two items
module _ (f : ℕ → ℕ → Bool) (R : ℕ → ℕ → Type 0) (told : (p q : ℕ) → T (f p q) → R p q)
    (reflexive : (p : ℕ) → R p p) (symmetric : (p q : ℕ) → R p q → R q p) where
  with_item : (x q : ℕ) (ys : List ℕ) → T (with_each f x ys) → T (has q ys) → R x q
  unfolding with_each
  with_item x q [] t h = absurd h
  with_item x q (y ∷ ys) t h = go (has_cases q y ys h) (with_item x q ys (both_right _ _ t))
    where
      go : (q ≡ y) ⊎ T (has q ys) → (T (has q ys) → R x q) → R x q
      go (inl e) rest = subst (R x) (sym e) (told x y (both_left _ _ t))
      go (inr h) rest = rest h

  pub two_items : (xs : List ℕ) → T (each_two f xs) → (p q : ℕ) → T (has p xs) → T (has q xs) → R p q
  unfolding each_two
  two_items [] t p q hp hq = absurd hp
  two_items (x ∷ xs) t p q hp hq = go (has_cases p x xs hp) (has_cases q x xs hq) (two_items xs (both_right _ _ t) p q)
    where
      go : (p ≡ x) ⊎ T (has p xs) → (q ≡ x) ⊎ T (has q xs) → (T (has p xs) → T (has q xs) → R p q) → R p q
      go (inl ep) (inl eq) rest = rw (ep, eq) (reflexive x)
      go (inl ep) (inr hq) rest = rw ep (with_item x q xs (both_left _ _ t) hq)
      go (inr hp) (inl eq) rest = rw eq (symmetric x p (with_item x p xs (both_left _ _ t) hp))
      go (inr hp) (inr hq) rest = rest hp hq

abbrev pub without : ℕ → List ℕ → List ℕ
without x [] = []
without x (y ∷ ys) = pick (eqb x y) ys (y ∷ without x ys)

-- the same items, in any order
abbrev pub matches : List ℕ → List ℕ → Bool
matches [] [] = true
matches [] (y ∷ ys) = false
matches (x ∷ xs) ys = both (has x ys) (matches xs (without x ys))

abbrev pub weighed : (ℕ → ℕ) → List ℕ → ℕ
weighed w [] = 0
weighed w (x ∷ xs) = w x + weighed w xs

-- then any weight has the same weighed over both
module _ (w : ℕ → ℕ) where
  taken_at : (x y : ℕ) (ys : List ℕ) (b : Bool) → (b ≡ true → x ≡ y) → T (pick b true (has x ys))
      → (T (has x ys) → weighed w ys ≡ weighed w (x ∷ without x ys)) → weighed w (y ∷ ys) ≡ weighed w (x ∷ pick b ys (y ∷ without x ys))
  taken_at x y ys true e t i = rw (e refl) refl
  taken_at x y ys false e t i = omega (arith, i t)

  taken : (x : ℕ) (ys : List ℕ) → T (has x ys) → weighed w ys ≡ weighed w (x ∷ without x ys)
  taken x [] t = absurd t
  taken x (y ∷ ys) t = taken_at x y ys (eqb x y) (eqb-true x y) t (taken x ys)

  pub matched : (xs ys : List ℕ) → T (matches xs ys) → weighed w xs ≡ weighed w ys
  matched [] [] t = refl
  matched [] (y ∷ ys) t = absurd t
  matched (x ∷ xs) ys t = omega (arith, matched xs (without x ys) (both_right _ _ t), taken x ys (both_left _ _ t))
