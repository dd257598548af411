-- Document 02, [12]: where a layer's samples stand among the block's, that it has each in-block sample of its two planes, and that a sample set elsewhere
-- leaves a layer made afresh as it was.
use Rattle.std.specs.Prelude.{ℕ, zero, suc, ◌+◌, ◌-◌, ◌*◌, ◌≤◌, ◌<◌, ◌≡◌, refl, ◌⊎◌, Bool, true, false, cond, List, eqb, Float, length, get_or, set}
use Rattle.std.proofs.Common.{mul-le-mul_left, mul-add, mul-pos, le_refl, arith, ap, ap₂, ◌∙◌, inl, inr, ⊎_elim, get_or-set_other}
use Rattle.std.proofs.Math.Nat.{le_step}
use Rattle.std.specs.Float.{nan}
use Rattle.model.specs.declared.Xyz.{Xyz}
use Rattle.model.specs.declared.PlaceKind.{PlaceKind}
use Rattle.model.specs.declared.PlaceKind.TheVariants.{InBlock, Face}
use Rattle.model.specs.Samples.{in_block, on_face, outside, sampled, kind_of, sample_of}
use Rattle.model.specs.Rotations.{xyz}
use Rattle.model.specs.Layers.{layer_count, layer_sample, better, best_of, less, more, extent_of, layer_extent}
use Rattle.grid.specs.Places.{Inner, in_grid, across_of, not_outside_inner, sampled_sum, place_across_x, place_across_y, place_across_z, place_inner, sample_is}
use Rattle.grid.specs.Kinds.{kind_across_x, kind_across_y, kind_across_z, kind_inner}
use Rattle.layers.specs.Held.{Held, AllNumbers}
use Rattle.layers.specs.Best.{Number}
use Rattle.layers.specs.Definition.{place_up}

-- a plane's places
abbrev pub plane : ℕ → ℕ
plane n = (n + 1) * (n + 1)

pub some_samples : (n : ℕ) → 0 < layer_count n
some_samples n =
    let one : 0 < n + 1 = omega arith in
    omega (arith, mul-pos one one)

-- ---- a layer in the list

module _ (n x : ℕ) (h : x < n) where
  layer_in : in_block n x 0 0 + layer_count n ≤ plane n * (n + 1)
  layer_in =
      let planes : plane n * (x + 2) ≤ plane n * (n + 1) = mul-le-mul_left (plane n) (omega arith) in
      omega (arith, mul-add (plane n) x 2)

  module _ (samples : List Float) (held : Held n samples) where
    pub layer_held : in_block n x 0 0 + layer_count n ≤ length samples
    layer_held = omega (arith, layer_in, held.long)

    pub layer_starts : in_block n x 0 0 < length samples
    layer_starts = omega (arith, layer_held, some_samples n)

    pub layer_numbers : AllNumbers samples → (k : ℕ) → k < layer_count n → Number (layer_sample n samples x k)
    layer_numbers numbers k l = numbers (in_block n x 0 0 + k) (omega (arith, layer_held))

-- the point (x + a, y, z) of the plane x or x + 1 is sample so-and-so of the layer x
abbrev pub in_layer : ℕ → ℕ → ℕ → ℕ → ℕ
in_layer n a y z = plane n * a + ((n + 1) * y + z)

module _ (n x a y z : ℕ) (ha : a ≤ 1) (hy : y ≤ n) (hz : z ≤ n) where
  pub in_layer_lem : in_layer n a y z < layer_count n
  in_layer_lem =
      let row : (n + 1) * y + z < plane n = in_grid (omega arith) (omega arith) in
      omega (arith, row, mul-le-mul_left (plane n) ha)

  layer_place : in_block n (x + a) y z ≡ in_block n x 0 0 + in_layer n a y z
  layer_place = omega (arith, mul-add (plane n) x a)

  pub layer_has : x < n → (samples : List Float) → sample_of n samples (xyz (x + a) y z) ≡ layer_sample n samples x (in_layer n a y z)
  layer_has h samples =
      sample_is n samples (xyz (x + a) y z) (record { x_in = omega arith; y_in = hy; z_in = hz })
      ∙ ap (λ (k : ℕ). get_or samples k nan) layer_place

-- ---- a sample set elsewhere

module _ (beats : Float → Float → Bool) (f g : ℕ → Float) (first : f 0 ≡ g 0) where
  best_same : (n : ℕ) → ((k : ℕ) → k < n → f k ≡ g k) → best_of beats f n ≡ best_of beats g n
  best_same zero same = first
  best_same (suc n) same = ap₂ (better beats) (best_same n (λ k l. same k (le_step l))) (same n (le_refl _))

-- a place that is none of the layer's
abbrev pub Elsewhere : ℕ → ℕ → ℕ → Type 0
Elsewhere n x place = (place < in_block n x 0 0) ⊎ (in_block n x 0 0 + layer_count n ≤ place)

module _ (n x place : ℕ) (away : Elsewhere n x place) (samples : List Float) (value : Float) where
  other : (k : ℕ) → k < layer_count n → layer_sample n (set samples place value) x k ≡ layer_sample n samples x k
  other k l =
      get_or-set_other samples place (in_block n x 0 0 + k) value nan
      (λ e. ⊎_elim (λ before. omega arith) (λ after. omega arith) away)

  pub layer_stays : layer_extent n (set samples place value) x ≡ layer_extent n samples x
  unfolding layer_extent extent_of
  layer_stays =
      let f = layer_sample n (set samples place value) x in
      let g = layer_sample n samples x in
      let first : f 0 ≡ g 0 = other 0 (some_samples n) in
      λ i. record { least = best_same less f g first (layer_count n) other i; greatest = best_same more f g first (layer_count n) other i }

-- a point of a plane that is neither of the layer's two
pub other_plane : (n x px y z : ℕ) → y ≤ n → z ≤ n → (px < x) ⊎ (x + 1 < px) → Elsewhere n x (in_block n px y z)
other_plane n x px y z hy hz =
    let row : (n + 1) * y + z < plane n = in_grid (omega arith) (omega arith) in
    ⊎_elim (λ low. inl (omega (arith, row, mul-add (plane n) px 1, mul-le-mul_left (plane n) low)))
    (λ high. inr (omega (arith, row, mul-add (plane n) x 2, mul-le-mul_left (plane n) high)))

-- ---- where a point that was sampled is stored

-- in the block
pub record InPlane (n : ℕ) (p : Xyz) : Type 0 where
  pub x_in : Inner n p.x
  pub y_in : Inner n p.y
  pub z_in : Inner n p.z
  pub place_is : place_up n p ≡ in_block n (p.x - 1) (p.y - 1) (p.z - 1)

-- or beyond all in-block samples
abbrev pub Stored : ℕ → Xyz → PlaceKind → Type 0
Stored n p InBlock = InPlane n p
Stored n p (Face face) = plane n * (n + 1) ≤ place_up n p

pub beyond_layers : (n x place : ℕ) → x < n → plane n * (n + 1) ≤ place → Elsewhere n x place
beyond_layers n x place h far = inr (omega (arith, layer_in n x h))

across_far : (n low c i j : ℕ) → plane n * (n + 1) ≤ across_of n low c i j
across_far n low c i j = go (eqb c 0)
  where
    go : (b : Bool) → plane n * (n + 1) ≤ cond b (on_face n low (i - 1) (j - 1)) (on_face n (low + 1) (i - 1) (j - 1))
    go true = omega arith
    go false = omega arith

module _ (n : ℕ) (p : Xyz) (h : sampled n p.x p.y p.z ≡ true) where
  on_a_face : (b : Bool) (one two low c i j : ℕ) → kind_of n p.x p.y p.z ≡ cond b (Face one) (Face two) → place_up n p ≡ across_of n low c i j
      → Stored n p (kind_of n p.x p.y p.z)
  on_a_face true one two low c i j kind place = rw (kind, place) (across_far n low c i j)
  on_a_face false one two low c i j kind place = rw (kind, place) (across_far n low c i j)

  pub is_stored : Stored n p (kind_of n p.x p.y p.z)
  is_stored =
      let few = sampled_sum n p.x p.y p.z h in
      steps p.x (outside n p.x) refl (omega arith)
      (λ ox. steps p.y (outside n p.y) refl (omega arith)
      (λ oy. steps p.z (outside n p.z) refl (omega arith) (λ oz. within ox oy oz)
      (λ oz. on_a_face (eqb p.z 0) 4 5 4 p.z p.x p.y (kind_across_z n p.x p.y p.z ox oy oz) (place_across_z n p.x p.y p.z ox oy oz)))
      (λ oy. on_a_face (eqb p.y 0) 2 3 2 p.y p.x p.z (kind_across_y n p.x p.y p.z ox oy) (place_across_y n p.x p.y p.z ox oy)))
      (λ ox. on_a_face (eqb p.x 0) 0 1 0 p.x p.y p.z (kind_across_x n p.x p.y p.z ox) (place_across_x n p.x p.y p.z ox))
    where
      within : outside n p.x ≡ 0 → outside n p.y ≡ 0 → outside n p.z ≡ 0 → Stored n p (kind_of n p.x p.y p.z)
      within ox oy oz =
          rw (kind_inner n p.x p.y p.z ox oy oz)
          (record {
            x_in = not_outside_inner n p.x ox;
            y_in = not_outside_inner n p.y oy;
            z_in = not_outside_inner n p.z oz;
            place_is = place_inner n p.x p.y p.z ox oy oz;
          })

      steps : (c o : ℕ) → outside n c ≡ o → o ≤ 1 → (outside n c ≡ 0 → Stored n p (kind_of n p.x p.y p.z))
          → (outside n c ≡ 1 → Stored n p (kind_of n p.x p.y p.z)) → Stored n p (kind_of n p.x p.y p.z)
      steps c zero e l f g = f e
      steps c (suc o) e l f g = g (omega arith)
