-- A list by its places: one place more of it set, and a lent list whose first places are laid. Assumes nothing.
use Rattle.std.specs.Prelude.{ℕ, ◌+◌, ◌≤◌, ◌<◌, ◌≡◌, List, length, get_or, set}
use Rattle.std.proofs.Math.Decide.{dec_lt}
use Rattle.std.proofs.Common.{arith, sym, ◌∙◌, below_more, ext_get_or, get_or-set_same, get_or-set_other}
use Rattle.laws.specs.Steps.{listed, laid}
use Rattle.laws.specs.Lists.{length_listed, get_d_listed, length_laid}
use Rattle.laws.specs.LaidBuffers.{laid_first, laid_beyond}

module _ {A : Type 0} (d : A) (f : ℕ → A) where
  pub set_more : (l : List A) (k : ℕ) → k < length l → ((i : ℕ) → i < k → get_or l i d ≡ f i) → (x : A) → x ≡ f k → (i : ℕ) → i < k + 1 → get_or (set l k x) i d ≡ f i
  set_more l k room before x is =
      below_more (λ i. get_or (set l k x) i d ≡ f i) k
      (λ i lower. get_or-set_other l k i x d (λ e. omega arith) ∙ before i lower)
      (get_or-set_same l k x d room ∙ is)

  module _ (count : ℕ) (before after : List A) where
    pub laid_by : count ≤ length before → length after ≡ length before → ((p : ℕ) → p < count → get_or after p d ≡ f p)
        → ((p : ℕ) → count ≤ p → get_or after p d ≡ get_or before p d) → after ≡ laid (listed f count) before
    laid_by room long first rest =
        let written = listed f count in
        let count_is : length written ≡ count = length_listed f count in
        let fits : length written ≤ length before = rw count_is room in
        ext_get_or d after (laid written before) (long ∙ sym (length_laid written before fits))
        (λ p h. go p (dec_lt p count))
      where
        go : (p : ℕ) → Dec (p < count) → get_or after p d ≡ get_or (laid (listed f count) before) p d
        go p (yes l) =
            first p l
            ∙ sym (laid_first (listed f count) before p d (rw (length_listed f count) l) ∙ get_d_listed f count p d l)
        go p (no l) = rest p (omega arith) ∙ sym (laid_beyond (listed f count) before p d (rw (length_listed f count) (omega arith)))
