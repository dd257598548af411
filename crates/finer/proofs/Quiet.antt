-- Two labels between which nothing of a kind runs, either way; and the law of a side for two labels that are quiet on its fine face and on its rim.
use Rattle.std.specs.Prelude.{◌≡◌, refl, ◌⊎◌, List, ℕ, ◌+◌, ◌/◌, ◌%◌, ◌<◌}
use Rattle.std.proofs.Common.{inl, inr, arith}
use Rattle.laws.specs.Steps.{total}
use Rattle.laws.specs.Counting.{weighed}
use Rattle.laws.specs.Sums.{Each, total_none, square, square_none}
use Rattle.model.specs.Star.{Star, subdivisions}
use Rattle.closed.specs.Weighing.{weight_by, weighed_never}
use Rattle.finer.specs.Clauses.{across_of}
use Rattle.finer.specs.SideFlux.{side_runs, border_runs, coarse_runs, fine_runs}
use Rattle.finer.proofs.SideFlux.{side_balanced}

-- of what f counts from one label to the other, nothing runs from g to h, and nothing back
pub record Quiet (f : ℕ → ℕ → ℕ) (g h : ℕ) : Type 0 where
  pub forth : f g h ≡ 0
  pub back : f h g ≡ 0

-- a list of sides, between edges that stand in a symmetric relation
pub quiet_list : (at : ℕ → ℕ) (R : ℕ → ℕ → Type 0) → ((p q : ℕ) → R p q → R q p) → (ks : List ℕ) → Each (λ k. R (k / 256) (k % 256)) ks
    → (g h : ℕ) → ((p q : ℕ) → R p q → at p ≡ g → at q ≡ h → ⊥) → Quiet (λ g h. weighed (weight_by at g h) ks) g h
quiet_list at R symmetric ks e g h never =
    record {
      forth = weighed_never at g h (λ k. R (k / 256) (k % 256)) ks (λ k r x y. never (k / 256) (k % 256) r x y) e;
      back = weighed_never at h g (λ k. R (k / 256) (k % 256)) ks (λ k r x y. never (k % 256) (k / 256) (symmetric _ _ r) y x) e;
    }

quiet_total : (f : ℕ → ℕ → ℕ → ℕ) (n g h : ℕ) → ((k : ℕ) → k < n → Quiet (λ g h. f g h k) g h) → Quiet (λ g h. total (f g h) n) g h
quiet_total f n g h q = record { forth = total_none (f g h) n (λ k l. (q k l).forth); back = total_none (f h g) n (λ k l. (q k l).back) }

pub quiet_square : (f : ℕ → ℕ → ℕ → ℕ → ℕ) (n g h : ℕ) → ((u v : ℕ) → u < n → v < n → Quiet (λ g h. f g h u v) g h)
    → Quiet (λ g h. square (f g h) n) g h
quiet_square f n g h q =
    record { forth = square_none (f g h) n (λ u v hu hv. (q u v hu hv).forth); back = square_none (f h g) n (λ u v hu hv. (q u v hu hv).back) }

module _ (s : Star) (side g h : ℕ) where
  abbrev n : ℕ
  n = subdivisions s

  -- at the border k along the rim that lies at c across the direction d
  abbrev pub QuietRim : Type 0
  QuietRim = (d c k : ℕ) → d < 2 → (c ≡ 0) ⊎ (c ≡ n) → k < n → Quiet (λ g h. border_runs s side g h d (across_of d c k) (across_of d k c)) g h

  abbrev pub QuietFine : Type 0
  QuietFine = (u v : ℕ) → u < n → v < n → Quiet (λ g h. fine_runs s side g h u v) g h

  -- then only what the coarse faces show stands beside the side's own
  pub coarse_left : QuietFine → QuietRim
      → square (side_runs s side g h) n + square (coarse_runs s side h g) n ≡ square (side_runs s side h g) n + square (coarse_runs s side g h) n
  coarse_left fine rims =
      let inside = quiet_square (fine_runs s side) n g h fine in
      let low_u = quiet_total (λ g h k. border_runs s side g h 0 0 k) n g h (λ k l. rims 0 0 k (omega arith) (inl refl) l) in
      let high_u = quiet_total (λ g h k. border_runs s side g h 0 n k) n g h (λ k l. rims 0 n k (omega arith) (inr refl) l) in
      let low_v = quiet_total (λ g h k. border_runs s side g h 1 k 0) n g h (λ k l. rims 1 0 k (omega arith) (inl refl) l) in
      let high_v = quiet_total (λ g h k. border_runs s side g h 1 k n) n g h (λ k l. rims 1 n k (omega arith) (inr refl) l) in
      omega (
        arith,
        side_balanced s side g h,
        inside.forth,
        inside.back,
        low_u.forth,
        low_u.back,
        high_u.forth,
        high_u.back,
        low_v.forth,
        low_v.back,
        high_v.forth,
        high_v.back,
      )
