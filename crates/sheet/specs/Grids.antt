-- Sums over boxes of points, and over the points of a cube by their places. Knows nothing of meshes.
use Rattle.std.specs.Prelude.{◌≡◌, ℕ, ◌+◌, ◌*◌, ◌≤◌, ◌<◌}
use Rattle.std.proofs.Common.{ap, ◌∙◌, arith}
use Rattle.laws.specs.Steps.{total}
use Rattle.laws.specs.Sums.{total_same, total_most, total_rows}
use Rattle.laws.specs.Squares.{total_two}
use Rattle.model.specs.Samples.{in_block}
use Rattle.sheet.specs.Definition.{box}

-- the points of a cube by their places
pub total_places : (f : ℕ → ℕ) (n : ℕ) → let m = n + 1 in total f (m * m * m) ≡ box (λ x y z. f (in_block n x y z)) m m m
total_places f n =
    let m = n + 1 in
    total_rows f (m * m) m
    ∙ total_same _ _ m
    (λ x hx. total_rows (λ j. f (m * m * x + j)) m m
    ∙ total_same _ _ m (λ y hy. total_same _ _ m (λ z hz. ap f (nearer (m * m * x) (m * y) z))))
  where
    nearer : (a b c : ℕ) → a + (b + c) ≡ a + b + c
    nearer a b c = omega arith

box_two : (f g : ℕ → ℕ → ℕ → ℕ) (a b c : ℕ) → box (λ x y z. f x y z + g x y z) a b c ≡ box f a b c + box g a b c
box_two f g a b c =
    total_same _ _ a
    (λ x hx. total_same _ _ b (λ y hy. total_two (f x y) (g x y) c) ∙ total_two (λ y. total (f x y) c) (λ y. total (g x y) c) b)
    ∙ total_two (λ x. total (λ y. total (f x y) c) b) (λ x. total (λ y. total (g x y) c) b) a

pub box_three : (f g h : ℕ → ℕ → ℕ → ℕ) (a b c : ℕ) → box (λ x y z. f x y z + g x y z + h x y z) a b c ≡ box f a b c + box g a b c + box h a b c
box_three f g h a b c =
    box_two (λ x y z. f x y z + g x y z) h a b c ∙ ap (λ (k : ℕ). k + box h a b c) (box_two f g a b c)

pub box_same : (f g : ℕ → ℕ → ℕ → ℕ) (a b c : ℕ) → ((x y z : ℕ) → x < a → y < b → z < c → f x y z ≡ g x y z) → box f a b c ≡ box g a b c
box_same f g a b c h = total_same _ _ a (λ x hx. total_same _ _ b (λ y hy. total_same _ _ c (λ z hz. h x y z hx hy hz)))

pub box_most : (f : ℕ → ℕ → ℕ → ℕ) (a b c : ℕ) → ((x y z : ℕ) → f x y z ≤ 1) → box f a b c ≤ c * b * a
box_most f a b c h =
    total_most _ a (c * b) (λ x hx. total_most _ b c (λ y hy. omega (arith, total_most (f x y) c 1 (λ z hz. h x y z))))
