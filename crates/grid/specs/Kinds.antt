-- Document 02, [4]: the store that a point's sample stands in, axis by axis, and what reading the point answers.
use Rattle.std.specs.Prelude.{ℕ, ◌+◌, ◌≡◌, true, false, cond, List, eqb, Float, get_or, Err, Ok}
use Rattle.std.proofs.Common.{◌∙◌}
use Rattle.std.specs.Float.{nan}
use Rattle.model.specs.declared.Xyz.{Xyz}
use Rattle.model.specs.declared.PlaceKind.{PlaceKind}
use Rattle.model.specs.declared.PlaceKind.TheVariants.{InBlock, Face}
use Rattle.model.specs.Answers.{Reading}
use Rattle.model.specs.Samples.{in_block, place_of, outside, sampled, kind_of, outside_count, reading_at}
use Rattle.grid.specs.Places.{Within, out_picks, in_leaves, here_not_outside, place_in_block, steps_sampled}

-- what is made of a sample of the block's own store
abbrev pub in_block_reading : List Float → ℕ → Reading
in_block_reading samples at = Ok (get_or samples at nan, InBlock)

module _ (n x y z : ℕ) where
  pub kind_across_x : outside n x ≡ 1 → kind_of n x y z ≡ cond (eqb x 0) (Face 0) (Face 1)
  unfolding kind_of
  kind_across_x ex = out_picks n x _ _ _ ex

  pub kind_across_y : outside n x ≡ 0 → outside n y ≡ 1 → kind_of n x y z ≡ cond (eqb y 0) (Face 2) (Face 3)
  unfolding kind_of
  kind_across_y ex ey = in_leaves n x _ _ _ ex ∙ out_picks n y _ _ _ ey

  pub kind_across_z : outside n x ≡ 0 → outside n y ≡ 0 → outside n z ≡ 1 → kind_of n x y z ≡ cond (eqb z 0) (Face 4) (Face 5)
  unfolding kind_of
  kind_across_z ex ey ez = in_leaves n x _ _ _ ex ∙ in_leaves n y _ _ _ ey ∙ out_picks n z _ _ _ ez

  pub kind_inner : outside n x ≡ 0 → outside n y ≡ 0 → outside n z ≡ 0 → kind_of n x y z ≡ InBlock
  unfolding kind_of
  kind_inner ex ey ez = in_leaves n x _ _ _ ex ∙ in_leaves n y _ _ _ ey ∙ in_leaves n z _ _ _ ez

  module _ (samples : List Float) where
    pub reading_value : sampled n x y z ≡ true → reading_at n samples x y z ≡ Ok ((get_or samples (place_of n x y z) nan), (kind_of n x y z))
    unfolding reading_at
    reading_value h = rw h

    -- where its place and its kind are known
    pub reading_stored : {place : ℕ} {kind : PlaceKind} → sampled n x y z ≡ true → place_of n x y z ≡ place → kind_of n x y z ≡ kind
        → reading_at n samples x y z ≡ Ok (get_or samples place nan, kind)
    reading_stored h place_is kind_is = reading_value h ∙ (λ i. Ok ((get_or samples (place_is i) nan), (kind_is i)))

    pub reading_never : sampled n x y z ≡ false → reading_at n samples x y z ≡ Err (outside_count n x y z)
    unfolding reading_at
    reading_never h = rw h

-- an in-block point reads as what its place holds
pub in_block_reading_lem : (n : ℕ) (samples : List Float) (p : Xyz) → Within n p
    → reading_at n samples (p.x + 1) (p.y + 1) (p.z + 1) ≡ in_block_reading samples (in_block n p.x p.y p.z)
in_block_reading_lem n samples p h =
    reading_stored n (p.x + 1) (p.y + 1) (p.z + 1) samples (steps_sampled n p h).here
    (place_in_block n p.x p.y p.z h.x_in h.y_in h.z_in)
    (kind_inner n (p.x + 1) (p.y + 1) (p.z + 1) (here_not_outside n p.x h.x_in) (here_not_outside n p.y h.y_in)
    (here_not_outside n p.z h.z_in))
