-- What the buyer was promised of cutting blocks from a raw volume (document 02, [8]), for every input: what the call answers and leaves; that a block
-- passes 4 and 7 and holds the volume's nearest samples; that blocks side by side agree; that neighbours cut from a volume of twice the resolution pass 8.
-- It speaks of volume's `cut_block`, to which the `ensures` of the call says that the code is equal, in the words of volume's Definition and Neighbours.
-- Definitions only.
use Rattle.std.specs.Prelude.{ℕ, ◌≡◌, true, List, [], ◌∷◌, Float, length, take, Err, Ok}
use Rattle.model.specs.declared.Refusal.{Refusal}
use Rattle.model.specs.declared.Xyz.{Xyz}
use Rattle.model.specs.Samples.{sample_length, sampled, value_at}
use Rattle.model.specs.Rotations.{xyz}
use Rattle.model.specs.Star.{Star, subdivisions}
use Rattle.model.specs.Judging.{judge_subdivisions, judge_centre, judge_samples, judge_faces, judge_buffer}
use Rattle.volume.specs.Definition.{volume_place, volume_sample, nearest_point, block_in, judge_sizes, judge_volume_length, judge_first, judge_taken, cut_block}
use Rattle.volume.specs.Neighbours.{onward, SideBySide, TwiceAsFine, FineStar}
use Rattle.promises.specs.Left.{Laid}
use Rattle.promises.specs.Orders.{Judge, judge, Judged}

-- ---- every call is answered: 1, 20, 21, 22, 7, 14

module _ (bytes : List ℕ) (sizes : Xyz) (n : ℕ) (first : Xyz) (samples : List Float) where
  abbrev pub cut_judges : List Judge
  cut_judges =
      judge 1 (judge_subdivisions n) ∷
      judge 20 (judge_sizes sizes) ∷
      judge 21 (judge_volume_length (length bytes) sizes) ∷
      judge 22 (judge_first sizes first) ∷
      judge 7 (judge_taken bytes sizes n first) ∷
      judge 14 (judge_buffer (sample_length n) (length samples)) ∷
      []

  -- k samples were cut
  abbrev pub Accepted : ℕ → Type 0
  Accepted k = (cut_block bytes sizes n first samples).answer ≡ Ok k

  -- the block: what was left, cut to the number that was answered
  abbrev pub cut_out : ℕ → List Float
  cut_out k = take k (cut_block bytes sizes n first samples).samples

pub record CuttingIsAnswered : Type 0 where
  -- cutting is refused exactly as the first of 1, 20, 21, 22, 7, 14 says, and otherwise answers the number of samples
  pub cutting : (bytes : List ℕ) (sizes : Xyz) (n : ℕ) (first : Xyz) (samples : List Float)
      → Judged (cut_judges bytes sizes n first samples) (λ r. (cut_block bytes sizes n first samples).answer ≡ Err r)
      (Accepted bytes sizes n first samples (sample_length n))
  -- refused, it leaves the lent samples as they were; accepted, those of the block in the first places
  pub untouched : (bytes : List ℕ) (sizes : Xyz) (n : ℕ) (first : Xyz) (samples : List Float) (r : Refusal)
      → (cut_block bytes sizes n first samples).answer ≡ Err r → (cut_block bytes sizes n first samples).samples ≡ samples
  pub samples : (bytes : List ℕ) (sizes : Xyz) (n : ℕ) (first : Xyz) (samples : List Float) (k : ℕ) → Accepted bytes sizes n first samples k
      → Laid k (block_in bytes sizes n first) samples (cut_block bytes sizes n first samples).samples

-- ---- blocks

pub record CutBlocks : Type 0 where
  -- a block passes 4 and 7 for its n
  pub centre : (bytes : List ℕ) (sizes : Xyz) (n : ℕ) (first : Xyz) (samples : List Float) (k : ℕ) → Accepted bytes sizes n first samples k
      → judge_centre n (length (cut_out bytes sizes n first samples k)) ≡ Ok tt
  pub usable : (bytes : List ℕ) (sizes : Xyz) (n : ℕ) (first : Xyz) (samples : List Float) (k : ℕ) → Accepted bytes sizes n first samples k
      → judge_samples (cut_out bytes sizes n first samples k) ≡ Ok tt
  -- the sample of each of its points, coordinates kept one up, is the volume's at the nearest point
  pub nearest : (bytes : List ℕ) (sizes : Xyz) (n : ℕ) (first : Xyz) (samples : List Float) (k : ℕ) → Accepted bytes sizes n first samples k
      → (x y z : ℕ) → sampled n x y z ≡ true
      → value_at n (cut_out bytes sizes n first samples k) x y z ≡ volume_sample bytes (volume_place sizes (nearest_point sizes first (xyz x y z)))
  -- two blocks cut side by side, along x, y or z, agree on their common face, and on the layers and the gradients beside it
  pub side_by_side : (bytes : List ℕ) (sizes : Xyz) (n : ℕ) (first : Xyz) (axis : ℕ) (samples others : List Float) (k l : ℕ)
      → Accepted bytes sizes n first samples k → Accepted bytes sizes n (onward axis n first) others l
      → SideBySide n axis (cut_out bytes sizes n first samples k) (cut_out bytes sizes n (onward axis n first) others l)
  -- a block that was cut, with neighbours from a volume of twice the resolution whose even points are the coarse volume's, passes 8; where the block goes
  -- on beyond the coarse volume's end, the fine volume ends at the same point
  pub finer : (bytes fineBytes : List ℕ) (sizes fineSizes first : Xyz) (samples : List Float) (k : ℕ) (s : Star)
      → Accepted bytes sizes (subdivisions s) first samples k → TwiceAsFine bytes sizes fineBytes fineSizes
      → FineStar bytes sizes fineBytes fineSizes first s → judge_faces s ≡ Ok tt

-- ---- all of it

pub record VolumePromises : Type 0 where
  pub answered_always : CuttingIsAnswered
  pub blocks : CutBlocks
