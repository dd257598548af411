-- Lists of one width laid end to end: how long they are, what stands in each, one more of them in a lent buffer; and three stretches of a
-- buffer written one after another. Assumes nothing.
use Rattle.std.specs.Prelude.{ℕ, zero, suc, ◌+◌, ◌*◌, ◌<◌, ◌≡◌, refl, List, [], ◌∷◌, ◌++◌, length, get_or, take, drop, set}
use Rattle.std.proofs.Common.{mul-zero, mul-suc, mul-le-mul_left, not-suc-le-zero, le_of_suc-le-suc, eq-or-lt_of_le, le_refl, add-one, arith, sym, ap, ap₂, ◌∙◌, append_assoc, append-nil, ⊎_elim, length-append, get_or-append-add, take-add, drop-drop}
use Rattle.std.proofs.Math.ListN.{get_or-append}
use Rattle.std.proofs.lemmas.List.Edits.{sets}
use Rattle.laws.specs.Steps.{listed}
use Rattle.laws.specs.Counting.{gather}
use Rattle.laws.specs.Lists.{length_listed, sets_append}

module _ {A : Type 0} where
  -- one more place of a stretch
  pub sets_listed : (f : ℕ → A) (l : List A) (i k : ℕ) → set (sets l i (listed f k)) (i + k) (f k) ≡ sets l i (listed f (k + 1))
  sets_listed f l i k =
      ap (λ (n : ℕ). set (sets l i (listed f k)) (i + n) (f k)) (sym (length_listed f k))
      ∙ sets_append l i (listed f k) (f k ∷ []) ∙ rw add-one

  -- three stretches, each where the one before it ends
  pub sets_three : (l : List A) (i j k : ℕ) (a b c : List A) → i + length a ≡ j → j + length b ≡ k
      → sets (sets (sets l i a) j b) k c ≡ sets l i (a ++ b ++ c)
  sets_three l i j k a b c p q =
      let s : sets (sets l i a) j b ≡ sets l i (a ++ b) = ap (λ (n : ℕ). sets (sets l i a) n b) (sym p) ∙ sets_append l i a b in
      let e : k ≡ i + length (a ++ b) = rw length-append (omega arith) in
      ap₂ (λ (m : List A) (n : ℕ). sets m n c) s e ∙ sets_append l i (a ++ b) c

  pub listed_same_below : (f g : ℕ → A) (n : ℕ) → ((k : ℕ) → k < n → f k ≡ g k) → listed f n ≡ listed g n
  listed_same_below f g zero same = refl
  listed_same_below f g (suc n) same =
      ap₂ (λ (l : List A) (a : A). l ++ (a ∷ [])) (listed_same_below f g n (λ k h. same k (omega arith))) (same n (le_refl _))

  pub gather_same : (f g : ℕ → List A) (n : ℕ) → ((k : ℕ) → k < n → f k ≡ g k) → gather f n ≡ gather g n
  gather_same f g zero same = refl
  gather_same f g (suc n) same = ap₂ ◌++◌ (gather_same f g n (λ k h. same k (omega arith))) (same n (le_refl _))

  module _ (f : ℕ → List A) (wide : ℕ) (width : (k : ℕ) → length (f k) ≡ wide) where
    pub length_gather : (n : ℕ) → length (gather f n) ≡ wide * n
    length_gather zero = sym (mul-zero wide)
    length_gather (suc n) = length-append (gather f n) (f n) ∙ ap₂ ◌+◌ (length_gather n) (width n) ∙ sym (mul-suc wide n)

    -- one more of them
    pub sets_gather : (l : List A) (i k : ℕ) → sets (sets l i (gather f k)) (i + wide * k) (f k) ≡ sets l i (gather f (k + 1))
    sets_gather l i k =
        ap (λ (n : ℕ). sets (sets l i (gather f k)) (i + n) (f k)) (sym (length_gather k)) ∙ sets_append l i (gather f k) (f k) ∙ rw add-one

    pub get_d_gather : (n k i : ℕ) (d : A) → k < n → i < wide → get_or (gather f n) (wide * k + i) d ≡ get_or (f k) i d
    get_d_gather zero k i d h l = absurd (not-suc-le-zero h)
    get_d_gather (suc n) k i d h l =
        ⊎_elim
        (λ e.
        ap (λ (j : ℕ). get_or (gather f n ++ f n) (j + i) d) (ap (λ (j : ℕ). wide * j) e ∙ sym (length_gather n))
        ∙ get_or-append-add (gather f n) (f n) i d ∙ ap (λ (j : ℕ). get_or (f j) i d) (sym e))
        (λ m.
        let within : wide * k + i < wide * n = omega (arith, mul-suc wide k, mul-le-mul_left wide m) in
        get_or-append (gather f n) (f n) d (wide * k + i) (rw (length_gather n) within) ∙ get_d_gather n k i d m l)
        (eq-or-lt_of_le (le_of_suc-le-suc h))

    -- those before one, it, and those after it
    pub gather_split : (n k : ℕ) → k < n → (rest : List A) × (gather f n ≡ gather f k ++ (f k ++ rest))
    gather_split zero k h = absurd (not-suc-le-zero h)
    gather_split (suc n) k h =
        ⊎_elim
        (λ e. ([], ap (λ (j : ℕ). gather f j ++ f j) (sym e) ∙ ap (λ (l : List A). gather f k ++ l) (sym (append-nil (f k)))))
        (λ m.
        let before = gather_split n k m in
        (before.0 ++ f n, ap (λ (l : List A). l ++ f n) before.1 ∙ simp append_assoc))
        (eq-or-lt_of_le (le_of_suc-le-suc h))

  -- three pieces, cut one after another
  pub three_pieces : (l : List A) (i a b c : ℕ) → take a (drop i l) ++ take b (drop (i + a) l) ++ take c (drop (i + a + b) l) ≡ take (a + b + c) (drop i l)
  three_pieces l i a b c =
      let further : i + (a + b) ≡ i + a + b = omega arith in
      sym
      (take-add (a + b) c (drop i l)
      ∙ ap₂ ◌++◌ (take-add a b (drop i l) ∙ ap (λ (m : List A). take a (drop i l) ++ take b m) (drop-drop a i l))
      (ap (take c) (drop-drop (a + b) i l ∙ ap (λ (k : ℕ). drop k l) further)))

  -- pieces of one width
  pub gather_pieces : (f : ℕ → List A) (wide : ℕ) (l : List A) (n : ℕ) → ((k : ℕ) → k < n → f k ≡ take wide (drop (wide * k) l)) → gather f n ≡ take (wide * n) l
  gather_pieces f wide l zero piece = rw mul-zero
  gather_pieces f wide l (suc n) piece =
      ap₂ ◌++◌ (gather_pieces f wide l n (λ k h. piece k (omega arith))) (piece n (le_refl _)) ∙ sym (take-add (wide * n) wide l)
      ∙ ap (λ (k : ℕ). take k l) (sym (mul-suc wide n))
