-- Document 02, [4]: the stores of the two points one step along each axis from an in-block point: the block's own, and an extension face exactly
-- where the point is the axis's first or last.
use Rattle.std.specs.Prelude.{ℕ, ◌+◌, ◌-◌, ◌≤◌, ◌<◌, ◌≡◌, refl, Bool, true, false, cond, eqb, ltb}
use Rattle.std.proofs.Common.{ap, ◌∙◌, arith, ltb-true, ltb-false, ne_eqb}
use Rattle.model.specs.declared.Xyz.{Xyz}
use Rattle.model.specs.declared.PlaceKind.{PlaceKind}
use Rattle.model.specs.declared.PlaceKind.TheVariants.{InBlock, Face}
use Rattle.model.specs.Samples.{outside, kind_of}
use Rattle.grid.specs.Places.{Within, outside_by, here_not_outside}
use Rattle.grid.specs.Kinds.{kind_across_x, kind_across_y, kind_across_z, kind_inner}
use Rattle.points.specs.Steps.{up_kind, down_kind}

pub by_less : {A : Type 0} (a b : ℕ) (x p q : A) → (a < b → x ≡ p) → (b ≤ a → x ≡ q) → x ≡ cond (ltb a b) p q
by_less a b x p q f g = go (ltb a b) (λ e. f (ltb-true a b e)) (λ e. g (ltb-false a b e))
  where
    go : (t : Bool) → (t ≡ true → x ≡ p) → (t ≡ false → x ≡ q) → x ≡ cond t p q
    go true f g = f refl
    go false f g = g refl

module _ (n : ℕ) where
  pub below : outside n 0 ≡ 1
  below = outside_by n 0 (λ o. o ≡ 1) (λ e. refl) (λ i. absurd (omega arith)) (λ e. refl) (λ l. absurd (omega arith))

  pub above : outside n (n + 2) ≡ 1
  above = outside_by n (n + 2) (λ o. o ≡ 1) (λ e. refl) (λ i. absurd (omega arith)) (λ e. refl) (λ l. absurd (omega arith))

  upper : (low high : PlaceKind) → cond (eqb (n + 2) 0) low high ≡ high
  upper low high = rw (ne_eqb (n + 2) 0 (λ e. omega arith))

-- the kinds along an axis, by a coordinate kept one up: in the block between the two faces
record Stored (n : ℕ) (kind : ℕ → PlaceKind) (low high : ℕ) : Type 0 where
  between : (k : ℕ) → k ≤ n → kind (k + 1) ≡ InBlock
  first : kind 0 ≡ Face low
  last : kind (n + 2) ≡ Face high

module _ {n : ℕ} {kind : ℕ → PlaceKind} {low high i : ℕ} (s : Stored n kind low high) (h : i ≤ n) where
  up_is : kind (i + 2) ≡ up_kind n i high
  up_is =
      by_less i n _ _ _ (λ l. let e : i + 2 ≡ i + 1 + 1 = omega arith in ap kind e ∙ s.between (i + 1) (omega arith))
      (λ l. let e : i + 2 ≡ n + 2 = omega arith in ap kind e ∙ s.last)

  down_is : kind i ≡ down_kind i low
  down_is =
      by_less 0 i _ _ _ (λ l. let e : i ≡ i - 1 + 1 = omega arith in ap kind e ∙ s.between (i - 1) (omega arith))
      (λ l. let e : i ≡ 0 = omega arith in ap kind e ∙ s.first)

-- the kinds of the six points that a gradient reads
pub record StepKinds (n : ℕ) (p : Xyz) : Type 0 where
  pub x_up : kind_of n (p.x + 2) (p.y + 1) (p.z + 1) ≡ up_kind n p.x 1
  pub x_down : kind_of n p.x (p.y + 1) (p.z + 1) ≡ down_kind p.x 0
  pub y_up : kind_of n (p.x + 1) (p.y + 2) (p.z + 1) ≡ up_kind n p.y 3
  pub y_down : kind_of n (p.x + 1) p.y (p.z + 1) ≡ down_kind p.y 2
  pub z_up : kind_of n (p.x + 1) (p.y + 1) (p.z + 2) ≡ up_kind n p.z 5
  pub z_down : kind_of n (p.x + 1) (p.y + 1) p.z ≡ down_kind p.z 4

module _ (n : ℕ) (p : Xyz) (h : Within n p) where
  at_x : outside n (p.x + 1) ≡ 0
  at_x = here_not_outside n p.x h.x_in

  at_y : outside n (p.y + 1) ≡ 0
  at_y = here_not_outside n p.y h.y_in

  at_z : outside n (p.z + 1) ≡ 0
  at_z = here_not_outside n p.z h.z_in

  stored_x : Stored n (λ k. kind_of n k (p.y + 1) (p.z + 1)) 0 1
  stored_x =
      let y = p.y + 1 in
      let z = p.z + 1 in
      record {
        between = λ k l. kind_inner n (k + 1) y z (here_not_outside n k l) at_y at_z;
        first = kind_across_x n 0 y z (below n);
        last = kind_across_x n (n + 2) y z (above n) ∙ upper n (Face 0) (Face 1);
      }

  stored_y : Stored n (λ k. kind_of n (p.x + 1) k (p.z + 1)) 2 3
  stored_y =
      let x = p.x + 1 in
      let z = p.z + 1 in
      record {
        between = λ k l. kind_inner n x (k + 1) z at_x (here_not_outside n k l) at_z;
        first = kind_across_y n x 0 z at_x (below n);
        last = kind_across_y n x (n + 2) z at_x (above n) ∙ upper n (Face 2) (Face 3);
      }

  stored_z : Stored n (λ k. kind_of n (p.x + 1) (p.y + 1) k) 4 5
  stored_z =
      let x = p.x + 1 in
      let y = p.y + 1 in
      record {
        between = λ k l. kind_inner n x y (k + 1) at_x at_y (here_not_outside n k l);
        first = kind_across_z n x y 0 at_x at_y (below n);
        last = kind_across_z n x y (n + 2) at_x at_y (above n) ∙ upper n (Face 4) (Face 5);
      }

  pub step_kinds : StepKinds n p
  step_kinds =
      record {
        x_up = up_is stored_x h.x_in;
        x_down = down_is stored_x h.x_in;
        y_up = up_is stored_y h.y_in;
        y_down = down_is stored_y h.y_in;
        z_up = up_is stored_z h.z_in;
        z_down = down_is stored_z h.z_in;
      }
