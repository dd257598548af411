-- Document 01, 'The block and its samples': one step along an axis from an in-block point leads to the place one stride from its own, or to
-- one of the axis's extension faces.
use Prim.Native.Nat.{ℕ, ◌+◌, ◌-◌, ◌*◌, ◌≤◌, ◌<◌}
use mathlib.Core.Path.{◌≡◌, ap, ◌∙◌}
use native.Mathlib.Nat.{mul-add}
use native.Mathlib.Omega.{arith}
use borrow.Author.Tests.{ne_eqb}
use Rattle.model.specs.declared.Xyz.{Xyz}
use Rattle.model.specs.Limits.{most_fine, side_count}
use Rattle.model.specs.Samples.{sample_length, in_block, on_face, place_of, outside}
use Rattle.grid.specs.Places.{Within, in_block_lem, place_in, place_in_block, steps_sampled, here_not_outside}
use Rattle.grid.specs.Places.{across_of, place_across_x, place_across_y, place_across_z}
use Rattle.points.specs.Steps.{Reach, up_from, down_from}
use Rattle.points.specs.StepKinds.{by_less, below, above}

-- ---- a line of places along an axis

-- f takes a coordinate kept one up; the point i of the line is at this place, and the ends of the line are low and high
pub record Line (n : ℕ) (f : ℕ → ℕ) (i at stride low high : ℕ) : Type 0 where
  pub strides : (k : ℕ) → k ≤ n → f (k + 1) + stride * i ≡ at + stride * k
  pub starts : f 0 ≡ low
  pub ends : f (n + 2) ≡ high

module _ {n : ℕ} {f : ℕ → ℕ} {i at stride low high : ℕ} (line : Line n f i at stride low high) (h : i ≤ n) where
  after : i < n → f (i + 2) ≡ at + stride
  after l =
      let e : i + 1 + 1 ≡ i + 2 = omega arith in
      omega (arith, line.strides (i + 1) (omega arith), ap f e, mul-add stride i 1)

  before : 0 < i → at ≡ f i + stride
  before l =
      let e : i - 1 + 1 ≡ i = omega arith in
      omega (arith, line.strides (i - 1) (omega arith), ap f e, mul-add stride (i - 1) 1, ap (λ (k : ℕ). stride * k) e)

  pub up_is : f (i + 2) ≡ up_from n i at stride high
  up_is =
      by_less i n (f (i + 2)) (at + stride) high after (λ l. let e : i + 2 ≡ n + 2 = omega arith in ap f e ∙ line.ends)

  pub down_is : f i ≡ down_from i at stride low
  down_is =
      by_less 0 i (f i) (at - stride) low (λ l. omega (arith, before l)) (λ l. let e : i ≡ 0 = omega arith in ap f e ∙ line.starts)

  -- so both steps stay among the samples, if the point stands there and the upper one was sampled
  pub reach : (face a b : ℕ) → n ≤ most_fine → face + 1 < side_count → a ≤ n → b ≤ n → at < sample_length n → f (i + 2) < sample_length n
      → Reach n at stride face i a b
  reach face a b few face-is a_in b_in at_in up =
      record {
        few = few;
        low_is = face-is;
        i_in = a_in;
        j_in = b_in;
        at_in = at_in;
        up_in = λ l. omega (arith, after l, up);
        enough = λ l. omega (arith, before l);
      }

-- ---- the three lines through an in-block point

module _ (n : ℕ) (p : Xyz) (h : Within n p) where
  abbrev m : ℕ
  m = n + 1

  abbrev here : ℕ
  here = in_block n p.x p.y p.z

  one_up : (i j : ℕ) → m * (i + 1 - 1) + (j + 1 - 1) ≡ m * i + j
  one_up i j =
      let e : i + 1 - 1 ≡ i = omega arith in
      omega (arith, ap (λ (k : ℕ). m * k) e)

  across_low : (low i j : ℕ) → across_of n low 0 (i + 1) (j + 1) ≡ on_face n low i j
  across_low low i j = omega (arith, one_up i j)

  across_high : (low i j : ℕ) → across_of n low (n + 2) (i + 1) (j + 1) ≡ on_face n (low + 1) i j
  across_high low i j = rw (ne_eqb (n + 2) 0 (λ e. omega arith)) (omega (arith, one_up i j))

  at_x : outside n (p.x + 1) ≡ 0
  at_x = here_not_outside n p.x h.x_in

  at_y : outside n (p.y + 1) ≡ 0
  at_y = here_not_outside n p.y h.y_in

  pub line_x : Line n (λ k. place_of n k (p.y + 1) (p.z + 1)) p.x here (m * m) (on_face n 0 p.y p.z) (on_face n 1 p.y p.z)
  line_x =
      let y = p.y + 1 in
      let z = p.z + 1 in
      record {
        strides = λ k l. omega (arith, place_in_block n k p.y p.z l h.y_in h.z_in);
        starts = place_across_x n 0 y z (below n) ∙ across_low 0 p.y p.z;
        ends = place_across_x n (n + 2) y z (above n) ∙ across_high 0 p.y p.z;
      }

  pub line_y : Line n (λ k. place_of n (p.x + 1) k (p.z + 1)) p.y here m (on_face n 2 p.x p.z) (on_face n 3 p.x p.z)
  line_y =
      let x = p.x + 1 in
      let z = p.z + 1 in
      record {
        strides = λ k l. omega (arith, place_in_block n p.x k p.z h.x_in l h.z_in);
        starts = place_across_y n x 0 z at_x (below n) ∙ across_low 2 p.x p.z;
        ends = place_across_y n x (n + 2) z at_x (above n) ∙ across_high 2 p.x p.z;
      }

  pub line_z : Line n (λ k. place_of n (p.x + 1) (p.y + 1) k) p.z here 1 (on_face n 4 p.x p.y) (on_face n 5 p.x p.y)
  line_z =
      let x = p.x + 1 in
      let y = p.y + 1 in
      record {
        strides = λ k l. omega (arith, place_in_block n p.x p.y k h.x_in h.y_in l);
        starts = place_across_z n x y 0 at_x at_y (below n) ∙ across_low 4 p.x p.y;
        ends = place_across_z n x y (n + 2) at_x at_y (above n) ∙ across_high 4 p.x p.y;
      }

  -- the point's own place, and the three axes
  module _ (few : n ≤ most_fine) where
    here_in : here < sample_length n
    here_in = omega (arith, in_block_lem n p.x p.y p.z h.x_in h.y_in h.z_in)

    pub reach_x : Reach n here (m * m) 0 p.x p.y p.z
    reach_x =
        reach line_x h.x_in 0 p.y p.z few (omega arith) h.y_in h.z_in here_in
        (place_in n (p.x + 2) (p.y + 1) (p.z + 1) (steps_sampled n p h).x_up)

    pub reach_y : Reach n here m 2 p.y p.x p.z
    reach_y =
        reach line_y h.y_in 2 p.x p.z few (omega arith) h.x_in h.z_in here_in
        (place_in n (p.x + 1) (p.y + 2) (p.z + 1) (steps_sampled n p h).y_up)

    pub reach_z : Reach n here 1 4 p.z p.x p.y
    reach_z =
        reach line_z h.z_in 4 p.x p.y few (omega arith) h.x_in h.y_in here_in
        (place_in n (p.x + 1) (p.y + 1) (p.z + 2) (steps_sampled n p h).z_up)
