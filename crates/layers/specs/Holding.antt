-- Document 02, [12]: the layers that hold the plane x of a block: those that are made afresh where a sample of it is set, and no others.
use Rattle.std.specs.Prelude.{ℕ, ◌+◌, ◌≤◌, ◌<◌, ◌≡◌, refl, ◌⊎◌, Bool, true, false, cond, ltb}
use Rattle.std.proofs.Common.{arith, inl, inr, ⊎_elim, ltb-true, ltb-false}
use Rattle.layers.specs.Definition.{first_holding, end_holding}

by_less : (a b : ℕ) {P : Type 0} → (a < b → P) → (b ≤ a → P) → P
by_less a b {P} f g = go (ltb a b) refl
  where
    go : (t : Bool) → ltb a b ≡ t → P
    go true e = f (ltb-true a b e)
    go false e = g (ltb-false a b e)

module _ (n x : ℕ) where
  end_by : (P : ℕ → Type 0) → (x < n → P (x + 1)) → (n ≤ x → P n) → P (end_holding n x)
  end_by P f g = go (ltb x n) refl
    where
      go : (t : Bool) → ltb x n ≡ t → P (cond t (x + 1) n)
      go true e = f (ltb-true x n e)
      go false e = g (ltb-false x n e)

  pub end_within : end_holding n x ≤ n
  end_within = end_by (λ k. k ≤ n) (λ l. omega arith) (λ l. omega arith)

  pub holding_ordered : x ≤ n → first_holding x ≤ end_holding n x
  holding_ordered h = end_by (λ k. first_holding x ≤ k) (λ l. omega arith) (λ l. omega arith)

  -- a layer and a plane: it is one of the layer's two, or apart from both
  pub in_or_apart : (layer : ℕ) {P : Type 0} → ((x ≡ layer) ⊎ (x ≡ layer + 1) → P) → ((x < layer) ⊎ (layer + 1 < x) → P) → P
  in_or_apart layer held apart =
      by_less x layer (λ below. apart (inl below))
      (λ above. by_less (layer + 1) x (λ far. apart (inr far)) (λ near. by_less layer x (λ l. held (inr (omega arith))) (λ l. held (inl (omega arith)))))

  module _ (layer : ℕ) where
    pub holds : layer < n → (x ≡ layer) ⊎ (x ≡ layer + 1) → (first_holding x ≤ layer) × (layer < end_holding n x)
    holds h in_plane =
        ⊎_elim (λ e. (omega arith, end_by (λ k. layer < k) (λ l. omega arith) (λ l. omega arith)))
        (λ e. (omega arith, end_by (λ k. layer < k) (λ l. omega arith) (λ l. omega arith))) in_plane

    pub not_held : (x < layer) ⊎ (layer + 1 < x) → (layer < first_holding x) ⊎ (end_holding n x ≤ layer)
    not_held =
        ⊎_elim (λ below. inr (end_by (λ k. k ≤ layer) (λ l. omega arith) (λ l. omega arith))) (λ far. inl (omega arith))
