-- Sums over a range, over a list and over a cube of cells, and how a sum over cells comes down to its border. Knows nothing of meshes.
use Rattle.std.specs.Prelude.{◌≡◌, refl, Bool, true, false, List, [], ◌∷◌, ◌++◌, map, ℕ, zero, suc, ◌+◌, ◌-◌, ◌*◌, ◌≤◌, ◌<◌, T}
use Rattle.std.proofs.Common.{sym, ap, ap₂, ◌∙◌, add-zero, zero-add, add-suc, mul-zero, mul-suc, le_refl, add-one}
use Rattle.std.proofs.Math.Nat.{le_step}
use native.Mathlib.Omega.{arith}
use Rattle.laws.specs.Counting.{pick, gather, one, how_many, only, weighed}
use Rattle.laws.specs.Steps.{total}

-- ---- over a range

pub total_same : (f g : ℕ → ℕ) (n : ℕ) → ((k : ℕ) → k < n → f k ≡ g k) → total f n ≡ total g n
total_same f g zero h = refl
total_same f g (suc n) h = ap₂ ◌+◌ (total_same f g n (λ k l. h k (le_step l))) (h n (le_refl _))

pub total_none : (f : ℕ → ℕ) (n : ℕ) → ((k : ℕ) → k < n → f k ≡ 0) → total f n ≡ 0
total_none f zero h = refl
total_none f (suc n) h = ap₂ ◌+◌ (total_none f n (λ k l. h k (le_step l))) (h n (le_refl _))

-- the first k, then the next j
pub total_more : (f : ℕ → ℕ) (k j : ℕ) → total f (k + j) ≡ total f k + total (λ i. f (k + i)) j
total_more f k zero = rw (add-zero k) (sym (add-zero _))
total_more f k (suc j) = rw add-suc (omega (arith, total_more f k j))

-- what is passed over adds nothing
pub total_skip : (f : ℕ → ℕ) (from next : ℕ) → from ≤ next → ((k : ℕ) → from ≤ k → k < next → f k ≡ 0) → total f next ≡ total f from
total_skip f from next l none =
    let e : next ≡ from + (next - from) = omega arith in
    let rest = total_none (λ i. f (from + i)) (next - from) (λ k h. none (from + k) (omega arith) (omega arith)) in
    ap (total f) e ∙ omega (arith, total_more f from (next - from), rest)

-- all alike
total_equal : (a n : ℕ) → total (λ k. a) n ≡ a * n
total_equal a zero = sym (mul-zero a)
total_equal a (suc n) = rw mul-suc (omega (arith, total_equal a n))

-- a last one that adds nothing
pub total_last : (f : ℕ → ℕ) (n : ℕ) → f n ≡ 0 → total f (n + 1) ≡ total f n
total_last f n e = rw add-one (omega (arith, e))

pub total_most : (f : ℕ → ℕ) (n most : ℕ) → ((k : ℕ) → k < n → f k ≤ most) → total f n ≤ most * n
total_most f zero most h = omega (arith, mul-zero most)
total_most f (suc n) most h = omega (arith, mul-suc most n, total_most f n most (λ k l. h k (le_step l)), h n (le_refl _))

-- a range in rows of one width
pub total_rows : (f : ℕ → ℕ) (wide k : ℕ) → total f (wide * k) ≡ total (λ i. total (λ j. f (wide * i + j)) wide) k
total_rows f wide zero = rw mul-zero
total_rows f wide (suc k) =
    rw mul-suc (total_more f (wide * k) wide ∙ ap (λ (t : ℕ). t + total (λ j. f (wide * k + j)) wide) (total_rows f wide k))

pub how_many_lem : (P : ℕ → Bool) (n : ℕ) → how_many P n ≡ total (λ k. one (P k)) n
how_many_lem P zero = refl
how_many_lem P (suc n) = ap (λ (k : ℕ). k + one (P n)) (how_many_lem P n)

-- ---- over a list

pub weighed_append : (w : ℕ → ℕ) (xs ys : List ℕ) → weighed w (xs ++ ys) ≡ weighed w xs + weighed w ys
weighed_append w [] ys = sym (zero-add _)
weighed_append w (x ∷ xs) ys = omega (arith, weighed_append w xs ys)

pub weighed_gather : (w : ℕ → ℕ) (f : ℕ → List ℕ) (n : ℕ) → weighed w (gather f n) ≡ total (λ k. weighed w (f k)) n
weighed_gather w f zero = refl
weighed_gather w f (suc n) = omega (arith, weighed_append w (gather f n) (f n), weighed_gather w f n)

pub weighed_map : (w f : ℕ → ℕ) (xs : List ℕ) → weighed w (map f xs) ≡ weighed (λ x. w (f x)) xs
weighed_map w f [] = refl
weighed_map w f (x ∷ xs) = ap (λ (k : ℕ). w (f x) + k) (weighed_map w f xs)

-- P at each item
abbrev pub Each : (ℕ → Type 0) → List ℕ → Type 0
Each P [] = Unit {0}
Each P (x ∷ xs) = P x × Each P xs

each_append : (P : ℕ → Type 0) (xs ys : List ℕ) → Each P xs → Each P ys → Each P (xs ++ ys)
each_append P [] ys p q = q
each_append P (x ∷ xs) ys p q = (p.0, each_append P xs ys p.1 q)

pub each_gather : (P : ℕ → Type 0) (f : ℕ → List ℕ) (n : ℕ) → ((k : ℕ) → k < n → Each P (f k)) → Each P (gather f n)
each_gather P f zero h = tt
each_gather P f (suc n) h = each_append P (gather f n) (f n) (each_gather P f n (λ k l. h k (le_step l))) (h n (le_refl _))

pub each_as : {P Q : ℕ → Type 0} → ((x : ℕ) → P x → Q x) → (xs : List ℕ) → Each P xs → Each Q xs
each_as h [] e = tt
each_as h (x ∷ xs) e = (h x e.0, each_as h xs e.1)

pub each_map : {P : ℕ → Type 0} (Q : ℕ → Type 0) (f : ℕ → ℕ) → ((x : ℕ) → P x → Q (f x)) → (xs : List ℕ) → Each P xs → Each Q (map f xs)
each_map Q f h [] e = tt
each_map Q f h (x ∷ xs) e = (h x e.0, each_map Q f h xs e.1)

-- the items that pass a test have what all have, and pass it
pub each_only : (P : ℕ → Type 0) (test : ℕ → Bool) (xs : List ℕ) → Each P xs → Each (λ x. P x × T (test x)) (only test xs)
unfolding only
each_only P test [] e = tt
each_only P test (x ∷ xs) e = go (test x) (λ t. t) (each_only P test xs e.1)
  where
    go : (b : Bool) → (T b → T (test x)) → Each (λ x. P x × T (test x)) (only test xs)
        → Each (λ x. P x × T (test x)) (pick b (x ∷ only test xs) (only test xs))
    go true passes rest = ((e.0, passes tt), rest)
    go false passes rest = rest

pub weighed_same : (w v : ℕ → ℕ) {P : ℕ → Type 0} → ((x : ℕ) → P x → w x ≡ v x) → (xs : List ℕ) → Each P xs → weighed w xs ≡ weighed v xs
weighed_same w v h [] e = refl
weighed_same w v h (x ∷ xs) e = ap₂ ◌+◌ (h x e.0) (weighed_same w v h xs e.1)

pub weighed_none : (w : ℕ → ℕ) {P : ℕ → Type 0} → ((x : ℕ) → P x → w x ≡ 0) → (xs : List ℕ) → Each P xs → weighed w xs ≡ 0
weighed_none w h [] e = refl
weighed_none w h (x ∷ xs) e = ap₂ ◌+◌ (h x e.0) (weighed_none w h xs e.1)

-- ---- over a square and a cube of cells

abbrev pub square : (ℕ → ℕ → ℕ) → ℕ → ℕ
square f n = total (λ u. total (f u) n) n

abbrev pub cube : (ℕ → ℕ → ℕ → ℕ) → ℕ → ℕ
cube f n = total (λ x. square (f x) n) n

pub square_none : (f : ℕ → ℕ → ℕ) (n : ℕ) → ((u v : ℕ) → u < n → v < n → f u v ≡ 0) → square f n ≡ 0
square_none f n h = total_none _ n (λ u hu. total_none _ n (λ v hv. h u v hu hv))

pub square_equal : (a n : ℕ) → square (λ u v. a) n ≡ a * (n * n)
square_equal a n = (λ i. total (λ u. total_equal a n i) n) ∙ total_equal (a * n) n ∙ omega arith

pub cube_equal : (a n : ℕ) → cube (λ x y z. a) n ≡ a * (n * n * n)
cube_equal a n = (λ i. total (λ x. square_equal a n i) n) ∙ total_equal (a * (n * n)) n ∙ omega arith

-- f and g differ in each cell of a row by what a and b say of its two ends: over the row, by what they say of the row's ends
pub telescope : (f g a b : ℕ → ℕ) (n : ℕ) → ((k : ℕ) → k < n → f k + a (suc k) + b k ≡ g k + b (suc k) + a k)
    → total f n + a n + b 0 ≡ total g n + b n + a 0
telescope f g a b zero h = omega arith
telescope f g a b (suc n) h = omega (arith, telescope f g a b n (λ k l. h k (le_step l)), h n (le_refl _))

-- what a says of the high faces of the cube and b of its low faces, where a d x y z is of the face at (x, y, z) across direction d
abbrev pub border : (a b : ℕ → ℕ → ℕ → ℕ → ℕ) → ℕ → ℕ
border a b n =
    square (a 0 n) n + square (b 0 0) n + (square (λ u. a 1 u n) n + square (λ u. b 1 u 0) n)
    + (square (λ u v. a 2 u v n) n + square (λ u v. b 2 u v 0) n)
