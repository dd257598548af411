-- Laws of lists: one given place by place, lists laid end to end, stores one after another, and a buffer whose first places are laid.
-- Assumes nothing.
use Rattle.std.specs.Prelude.{ℕ, zero, suc, ◌+◌, ◌*◌, ◌≤◌, ◌<◌, ◌≡◌, refl, List, [], ◌∷◌, ◌++◌, length, get_or, drop, set, replicate}
use Rattle.std.proofs.Common.{add-zero, add-suc, suc-add, zero-add, not-suc-le-zero, le_of_suc-le-suc, le_refl, eq-or-lt_of_le, add_comm, mul-zero, mul-suc, add-one, arith, sym, ap, ap₂, ◌∙◌, append_assoc, append-nil, ⊎_elim, length-append, length-drop, drop_of_length-le, ext_get_or, get_or-set_other, drop-cons}
use Rattle.std.proofs.Math.ListN.{get_or-append}
use Rattle.std.proofs.lemmas.List.Edits.{sets, sets-eq}
use Rattle.std.proofs.lemmas.List.{get_or_at, set_at}
use Rattle.std.proofs.Math.Seq.{append_snoc}
use Rattle.laws.specs.Steps.{listed, each, laid}

module _ {A : Type 0} where
  -- ---- a list given place by place

  pub length_listed : (f : ℕ → A) (n : ℕ) → length (listed f n) ≡ n
  length_listed f zero = refl
  length_listed f (suc n) = rw (length-append, add-one) (ap suc (length_listed f n))

  pub get_d_listed : (f : ℕ → A) (n k : ℕ) (d : A) → k < n → get_or (listed f n) k d ≡ f k
  get_d_listed f zero k d h = absurd (not-suc-le-zero h)
  get_d_listed f (suc n) k d h =
      ⊎_elim (λ e. get_or_at (listed f n) (f n) [] d k (length_listed f n ∙ sym e) ∙ ap f (sym e))
      (λ l. get_or-append (listed f n) (f n ∷ []) d k (rw (length_listed f n) l) ∙ get_d_listed f n k d l)
      (eq-or-lt_of_le (le_of_suc-le-suc h))

  pub listed_same : (f g : ℕ → A) → ((k : ℕ) → f k ≡ g k) → (k : ℕ) → listed f k ≡ listed g k
  listed_same f g same zero = refl
  listed_same f g same (suc k) = rw (listed_same f g same k, same k)

  pub listed_is : (f : ℕ → A) (l : List A) (d : A) → ((k : ℕ) → k < length l → f k ≡ get_or l k d) → listed f (length l) ≡ l
  listed_is f l d h =
      ext_get_or d (listed f (length l)) l (length_listed f (length l))
      (λ k less. let in-l : k < length l = rw length_listed at less in get_d_listed f (length l) k d in-l ∙ h k in-l)

  -- one more place of a buffer laid
  pub listed_more : (f : ℕ → A) (k : ℕ) (before : List A) → k < length before
      → set (listed f k ++ drop k before) k (f k) ≡ listed f (k + 1) ++ drop (k + 1) before
  listed_more f k before h =
      rw (add-one, drop-cons before k (f k), set_at (listed f k) (get_or before k (f k)) (drop (suc k) before) (f k) k (length_listed f k))
      (sym (append_snoc (listed f k) (f k) (drop (suc k) before)))

  -- ---- stores one after another

  pub sets_append : (l : List A) (i : ℕ) (a b : List A) → sets (sets l i a) (i + length a) b ≡ sets l i (a ++ b)
  sets_append l i [] b = rw add-zero
  sets_append l i (x ∷ a) b = rw (add-suc, ← suc-add) (sets_append (set l i x) (suc i) a b)

  pub sets_beyond : (l : List A) (i j : ℕ) (d : A) (vs : List A) → i + length vs ≤ j → get_or (sets l i vs) j d ≡ get_or l j d
  sets_beyond l i j d [] h = refl
  sets_beyond l i j d (v ∷ vs) h = sets_beyond (set l i v) (suc i) j d vs (omega arith) ∙ get_or-set_other l i j v d (λ e. omega arith)

  -- from the first place on: all beyond stays
  pub sets_first : (l written : List A) → length written ≤ length l → sets l 0 written ≡ laid written l
  sets_first l written h =
      sets-eq written l 0 (rw zero-add h) ∙ ap (λ (k : ℕ). written ++ drop k l) (zero-add (length written))

  pub length_laid : (written before : List A) → length written ≤ length before → length (laid written before) ≡ length before
  length_laid written before h = simp (length-append, length-drop) (omega arith)

  -- every place of a buffer laid
  pub replicate_all : (a : A) (before : List A) (i : ℕ) → i ≡ length before → replicate i a ++ drop i before ≡ replicate (length before) a
  replicate_all a before i e = rw (e, drop_of_length-le before (le_refl _), append-nil)

-- ---- lists laid end to end

module _ {A B : Type 0} where
  pub each_append : (f : A → List B) (a b : List A) → each f (a ++ b) ≡ each f a ++ each f b
  each_append f [] b = refl
  each_append f (x ∷ a) b = rw (append_assoc, each_append f a b)

  pub length_each : (f : A → List B) (w : ℕ) (l : List A) → ((a : A) → length (f a) ≡ w) → length (each f l) ≡ w * length l
  length_each f w [] h = sym (mul-zero w)
  length_each f w (x ∷ l) h =
      length-append (f x) (each f l) ∙ ap₂ ◌+◌ (h x) (length_each f w l h) ∙ add_comm w (w * length l) ∙ sym (mul-suc w (length l))
