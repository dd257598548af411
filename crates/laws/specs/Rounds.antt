-- Lists laid end to end: more of them, none at all, rounds within rounds laid out in one, how their length grows, and a place of them read back.
-- Assumes nothing.
use Rattle.std.specs.Prelude.{ℕ, zero, suc, ◌+◌, ◌*◌, ◌/◌, ◌%◌, ◌≤◌, ◌<◌, ◌≡◌, refl, Bool, true, false, cond, List, [], ◌∷◌, ◌++◌, map, length, get_or}
use Rattle.std.proofs.Common.{zero-add, add-zero, add-suc, mul-zero, mul-suc, le_refl, not-suc-le-zero, le_of_suc-le-suc, eq-or-lt_of_le, arith, sym, ap, ap₂, ◌∙◌, append_assoc, append-nil, ⊎_elim, length-append, get_or-append-add}
use Rattle.std.proofs.Math.ListN.{get_or-append}
use Rattle.laws.specs.Steps.{each}
use Rattle.laws.specs.Counting.{gather}
use Rattle.laws.specs.Iterated.{upper, lower}
use Rattle.laws.specs.Gathered.{gather_same}

module _ {A : Type 0} where
  -- the first j, and then the next k
  gather_add : (f : ℕ → List A) (j k : ℕ) → gather f (j + k) ≡ gather f j ++ gather (λ i. f (j + i)) k
  gather_add f j zero = rw add-zero (sym (append-nil (gather f j)))
  gather_add f j (suc k) =
      rw add-suc (ap (λ (l : List A). l ++ f (j + k)) (gather_add f j k) ∙ append_assoc (gather f j) (gather (λ i. f (j + i)) k) (f (j + k)))

  pub gather_none : (f : ℕ → List A) (n : ℕ) → ((k : ℕ) → k < n → f k ≡ []) → gather f n ≡ []
  gather_none f zero none = refl
  gather_none f (suc n) none = ap₂ ◌++◌ (gather_none f n (λ k h. none k (omega arith))) (none n (le_refl _))

  -- of those that a test lets through, or none
  pub gather_if : (b : Bool) (f : ℕ → List A) (n : ℕ) → cond b (gather f n) [] ≡ gather (λ k. cond b (f k) []) n
  gather_if true f n = refl
  gather_if false f n = sym (gather_none (λ k. []) n (λ k h. refl))

  pub gather_upto : (f : ℕ → List A) (j n : ℕ) → j ≤ n → length (gather f j) ≤ length (gather f n)
  gather_upto f j zero h = let e : j ≡ 0 = omega arith in rw e (le_refl _)
  gather_upto f j (suc n) h =
      ⊎_elim (λ e. rw e (le_refl _))
      (λ l. omega (arith, gather_upto f j n (le_of_suc-le-suc l), length-append (gather f n) (f n)))
      (eq-or-lt_of_le h)

  -- n rounds of m each
  module _ (m : ℕ) (f : ℕ → ℕ → List A) where
    pub gather_rounds : (n : ℕ) → gather (λ k. gather (f k) m) n ≡ gather (λ k. f (k / m) (k % m)) (m * n)
    gather_rounds zero = rw mul-zero
    gather_rounds (suc n) =
        ap₂ ◌++◌ (gather_rounds n)
        (gather_same (f n) (λ i. f ((m * n + i) / m) ((m * n + i) % m)) m (λ i h. sym (ap₂ f (upper m n i h) (lower m n i h))))
        ∙ sym (gather_add (λ k. f (k / m) (k % m)) (m * n) m)
        ∙ ap (gather (λ k. f (k / m) (k % m))) (sym (mul-suc m n))

-- a place of a list that is worked out place by place
pub get_d_mapped : {A B : Type 0} (f : A → B) (l : List A) (k : ℕ) (a : A) (b : B) → k < length l → get_or (map f l) k b ≡ f (get_or l k a)
get_d_mapped f [] k a b h = absurd (not-suc-le-zero h)
get_d_mapped f (x ∷ l) zero a b h = refl
get_d_mapped f (x ∷ l) (suc k) a b h = get_d_mapped f l k a b (le_of_suc-le-suc h)

module _ {A B : Type 0} (f : A → List B) (w : ℕ) (wide : (a : A) → length (f a) ≡ w) where
  -- place j of what f gives for item k
  pub each_at : (l : List A) (k j : ℕ) (d : A) (e : B) → k < length l → j < w → get_or (each f l) (w * k + j) e ≡ get_or (f (get_or l k d)) j e
  each_at [] k j d e h small = absurd (not-suc-le-zero h)
  each_at (a ∷ l) zero j d e h small =
      rw (mul-zero, zero-add) (get_or-append (f a) (each f l) e j (rw (wide a) small))
  each_at (a ∷ l) (suc k) j d e h small =
      let place : w * suc k + j ≡ length (f a) + (w * k + j) = omega (arith, wide a, mul-suc w k) in
      rw place (get_or-append-add (f a) (each f l) (w * k + j) e) ∙ each_at l k j d e (le_of_suc-le-suc h) small
