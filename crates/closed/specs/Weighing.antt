-- Directed sides between the edges of a cell, as numbers, and what they weigh where each edge has a label: 1 if a side runs from the label g to h.
-- Knows nothing of the grid.
use Rattle.std.specs.Prelude.{◌≡◌, refl, Bool, true, false, ◌&&◌, List, map, ℕ, ◌/◌, ◌%◌, ◌<◌, T, eqb}
use Rattle.std.proofs.Common.{◌∙◌, eqb→eq}
use Rattle.std.proofs.Math.Path.{ap₂}
use native.Mathlib.Omega.{arith}
use Rattle.laws.specs.Counting.{one, gather, weighed}
use Rattle.laws.specs.Sums.{Each, each_gather, weighed_map, weighed_same, weighed_none}
use Rattle.tables.specs.Codes.{edge_of}
use Rattle.tables.specs.Sides.{side, back, sides_of}
use Rattle.closed.specs.Clauses.{run}

-- ---- sides as numbers

pub side_from : (p q : ℕ) → q < 256 → side p q / 256 ≡ p
unfolding side
side_from p q h = omega arith

pub side_to : (p q : ℕ) → q < 256 → side p q % 256 ≡ q
unfolding side
side_to p q h = omega arith

from_small : (k : ℕ) → k < 65536 → k / 256 < 256
from_small k h = omega arith

pub side_small : (k : ℕ) → k / 256 < 256 → k < 65536
side_small k h = omega arith

pub byte_small : (code : ℕ) → edge_of code < 256
byte_small code = omega arith

byte_side : (p q : ℕ) → side (edge_of p) (edge_of q) < 65536
unfolding side
byte_side p q = omega arith

-- the sides of triangles whose corners are codes
pub sides_below : (code : ℕ → ℕ) (n : ℕ) → Each (λ k. k < 65536) (gather (sides_of (λ j. edge_of (code j))) n)
unfolding sides_of
sides_below code n = each_gather (λ k. k < 65536) _ n (λ t h. (byte_side _ _, (byte_side _ _, (byte_side _ _, tt))))

-- ---- what runs from g to h

run_turned : (g h p q : ℕ) → run g h p q ≡ run h g q p
unfolding run
run_turned g h p q = go (eqb p g) (eqb q h)
  where
    go : (a b : Bool) → one (a && b) ≡ one (b && a)
    go true true = refl
    go true false = refl
    go false true = refl
    go false false = refl

pub no_run : (g h p q : ℕ) → (p ≡ g → q ≡ h → ⊥) → run g h p q ≡ 0
unfolding run
no_run g h p q f = go (eqb p g) (eqb q h) (eqb→eq p g) (eqb→eq q h)
  where
    go : (a b : Bool) → (T a → p ≡ g) → (T b → q ≡ h) → one (a && b) ≡ 0
    go true true e₁ e₂ = absurd (f (e₁ tt) (e₂ tt))
    go true false e₁ e₂ = refl
    go false b e₁ e₂ = refl

-- ---- what a side weighs, where the edge p has the label `at p`

abbrev pub weight_by : (ℕ → ℕ) → ℕ → ℕ → ℕ → ℕ
weight_by at g h k = run g h (at (k / 256)) (at (k % 256))

module _ (at : ℕ → ℕ) (g h : ℕ) where
  pub side_weight : (p q : ℕ) → q < 256 → weight_by at g h (side p q) ≡ run g h (at p) (at q)
  side_weight p q l = ap₂ (λ (a b : ℕ). run g h (at a) (at b)) (side_from p q l) (side_to p q l)

  -- a side turned round runs from h to g
  pub turned : (k : ℕ) → k < 65536 → weight_by at g h (back k) ≡ weight_by at h g k
  unfolding back
  turned k l = side_weight (k % 256) (k / 256) (from_small k l) ∙ run_turned g h _ _

  pub weighed_back : (ks : List ℕ) → Each (λ k. k < 65536) ks → weighed (weight_by at g h) (map back ks) ≡ weighed (weight_by at h g) ks
  weighed_back ks e = weighed_map (weight_by at g h) back ks ∙ weighed_same _ _ turned ks e

  -- no side of a list runs from g to h
  pub weighed_never : (P : ℕ → Type 0) (ks : List ℕ) → ((k : ℕ) → P k → at (k / 256) ≡ g → at (k % 256) ≡ h → ⊥) → Each P ks
      → weighed (weight_by at g h) ks ≡ 0
  weighed_never P ks none e = weighed_none _ {P = P} (λ k p. no_run g h (at (k / 256)) (at (k % 256)) (none k p)) ks e
