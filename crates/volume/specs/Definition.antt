-- Document 02, [8]: cutting a block from a raw volume: one flat list of f32, little-endian, x fastest, its three sizes told beside it. What the block
-- takes from it, what cutting refuses and when, and what it leaves. A coordinate that may be -1 is kept one up, as in the model's Samples. Definitions only.
use Rattle.std.specs.Prelude.{ℕ, zero, suc, ◌+◌, ◌-◌, ◌*◌, ◌/◌, ◌%◌, Bool, cond, ◌&&◌, List, eqb, leb, ltb, Float, length, Err, Ok}
use Rattle.laws.specs.Steps.{listed, laid}
use Rattle.model.specs.declared.Xyz.{Xyz}
use Rattle.model.specs.declared.Refusal.TheVariants.{BadSample, VolumeSize, VolumeLength, FirstPoint}
use Rattle.model.specs.Answers.{Verdict}
use Rattle.model.specs.Samples.{sample_length}
use Rattle.model.specs.Rotations.{xyz}
use Rattle.model.specs.Words.{little_float_at}
use Rattle.model.specs.Refusals as Refusals
use Rattle.model.specs.Refusals.{unless, or_else}
use Rattle.model.specs.Judging.{usable, judge_subdivisions, judge_buffer}
use Rattle.volume.specs.Answers.{BlockCut}

-- ---- the volume

-- a size is at most this
abbrev pub most_across : ℕ
most_across = 1024

abbrev pub volume_count : Xyz → ℕ
volume_count sizes = sizes.x * sizes.y * sizes.z

-- the place of a volume's point, x fastest
abbrev pub volume_place : Xyz → Xyz → ℕ
volume_place sizes p = p.x + sizes.x * (p.y + sizes.y * p.z)

abbrev pub volume_sample : List ℕ → ℕ → Float
volume_sample bytes place = little_float_at bytes (4 * place)

-- ---- what a block takes

-- the point (i, j) of an extension face, its coordinates kept one up: x=-1, x=n+1, y=-1, y=n+1, z=-1, z=n+1 are the faces 0 to 5
abbrev pub point_beside : ℕ → ℕ → ℕ → ℕ → Xyz
point_beside n zero i j = xyz 0 (i + 1) (j + 1)
point_beside n (suc zero) i j = xyz (n + 2) (i + 1) (j + 1)
point_beside n (suc (suc zero)) i j = xyz (i + 1) 0 (j + 1)
point_beside n (suc (suc (suc zero))) i j = xyz (i + 1) (n + 2) (j + 1)
point_beside n (suc (suc (suc (suc zero)))) i j = xyz (i + 1) (j + 1) 0
point_beside n (suc (suc (suc (suc (suc face))))) i j = xyz (i + 1) (j + 1) (n + 2)

-- the centre's places are squares of m * m, with m = n + 1: one for each x from 0 to n, then one for each extension face
unfoldable pub point_on : ℕ → ℕ → ℕ → ℕ → Xyz
point_on n square i j = cond (leb square n) (xyz (square + 1) (i + 1) (j + 1)) (point_beside n (square - (n + 1)) i j)

-- the point of a place of the centre
abbrev pub point_of : ℕ → ℕ → Xyz
point_of n place =
    let m = n + 1 in
    point_on n (place / m / m) (place / m % m) (place % m)

-- a coordinate, kept one up: one beyond the volume takes the nearest, at -1 since 0 - 1 is 0
abbrev pub nearest : ℕ → ℕ → ℕ
nearest size c = cond (leb c size) (c - 1) (size - 1)

-- the volume's point for a point of the block whose (0, 0, 0) is the volume's point `first`
abbrev pub nearest_point : Xyz → Xyz → Xyz → Xyz
nearest_point sizes first p =
    xyz (nearest sizes.x (first.x + p.x)) (nearest sizes.y (first.y + p.y)) (nearest sizes.z (first.z + p.z))

-- the volume's place that is taken for a place of the centre
unfoldable pub taken_place : Xyz → ℕ → Xyz → ℕ → ℕ
taken_place sizes n first place = volume_place sizes (nearest_point sizes first (point_of n place))

abbrev pub taken_sample : List ℕ → Xyz → ℕ → Xyz → ℕ → Float
taken_sample bytes sizes n first place = volume_sample bytes (taken_place sizes n first place)

-- the block's samples, one for every place of the centre
unfoldable pub block_in : List ℕ → Xyz → ℕ → Xyz → List Float
block_in bytes sizes n first = listed (taken_sample bytes sizes n first) (sample_length n)

-- ---- refusals

-- 20: a size of 0 or above 1,024
abbrev pub size_fits : ℕ → Bool
size_fits size = leb 1 size && leb size most_across

abbrev pub judge_sizes : Xyz → Verdict
judge_sizes sizes = unless (size_fits sizes.x && size_fits sizes.y && size_fits sizes.z) VolumeSize

-- 21: a byte length that is not four times the product
abbrev pub judge_volume_length : ℕ → Xyz → Verdict
judge_volume_length held sizes = unless (eqb held (4 * volume_count sizes)) VolumeLength

-- 22: the first point is not in the volume
abbrev pub in_volume : Xyz → Xyz → Bool
in_volume sizes p = ltb p.x sizes.x && ltb p.y sizes.y && ltb p.z sizes.z

abbrev pub judge_first : Xyz → Xyz → Verdict
judge_first sizes first = unless (in_volume sizes first) FirstPoint

-- 7, with the volume's place: the first bad sample taken, in the order of the centre's places
abbrev pub taken_usable : List ℕ → Xyz → ℕ → Xyz → ℕ → Verdict
taken_usable bytes sizes n first place =
    unless (usable (taken_sample bytes sizes n first place)) (BadSample (taken_place sizes n first place))

unfoldable pub judge_taken : List ℕ → Xyz → ℕ → Xyz → Verdict
judge_taken bytes sizes n first = Refusals.first (taken_usable bytes sizes n first) (sample_length n)

-- 1, 20, 21, 22
unfoldable pub judge_volume : ℕ → Xyz → ℕ → Xyz → Verdict
judge_volume held sizes n first =
    or_else (judge_subdivisions n) (or_else (judge_sizes sizes) (or_else (judge_volume_length held sizes) (judge_first sizes first)))

-- 1, 20, 21, 22, 7, 14
unfoldable pub judge_cut : List ℕ → Xyz → ℕ → Xyz → ℕ → Verdict
judge_cut bytes sizes n first room =
    or_else (judge_volume (length bytes) sizes n first) (or_else (judge_taken bytes sizes n first) (judge_buffer (sample_length n) room))

-- ---- cutting

pub record CutOutcome : Type 0 where
  pub answer : BlockCut
  pub samples : List Float

abbrev pub cut_answer : List ℕ → Xyz → ℕ → Xyz → List Float → Verdict → CutOutcome
cut_answer bytes sizes n first samples (Ok _) =
    record { answer = Ok (sample_length n); samples = laid (block_in bytes sizes n first) samples }
cut_answer bytes sizes n first samples (Err r) = record { answer = Err r; samples = samples }

unfoldable pub cut_block : List ℕ → Xyz → ℕ → Xyz → List Float → CutOutcome
cut_block bytes sizes n first samples = cut_answer bytes sizes n first samples (judge_cut bytes sizes n first (length samples))
