-- Document 02, [8]: the words in which the laws of cut blocks are said: two blocks side by side along an axis, a volume of twice the resolution, and a
-- block's finer neighbours cut from one. Definitions only.
use Rattle.std.specs.Prelude.{ℕ, zero, suc, ◌+◌, ◌-◌, ◌*◌, ◌≤◌, ◌<◌, ◌≡◌, true, List, ◌⊎◌, Float}
use Rattle.model.specs.declared.Xyz.{Xyz}
use Rattle.model.specs.Limits.{side_count}
use Rattle.model.specs.Samples.{value_at, sample_of}
use Rattle.model.specs.Sides.{named}
use Rattle.model.specs.Rotations.{xyz}
use Rattle.model.specs.Formulas.{gradient_at}
use Rattle.model.specs.Star.{Star, subdivisions, neighbour_at}
use Rattle.volume.specs.Definition.{volume_place, volume_sample, block_in}

-- ---- side by side

-- the point at c along an axis, 0 for x, 1 for y and 2 for z, and at u and v along the other two
abbrev pub across : ℕ → ℕ → ℕ → ℕ → Xyz
across zero c u v = xyz c u v
across (suc zero) c u v = xyz u c v
across (suc (suc axis)) c u v = xyz u v c

-- the point n further along an axis: the first point of the next block
abbrev pub onward : ℕ → ℕ → Xyz → Xyz
onward zero n p = xyz (p.x + n) p.y p.z
onward (suc zero) n p = xyz p.x (p.y + n) p.z
onward (suc (suc axis)) n p = xyz p.x p.y (p.z + n)

-- the sample there, the coordinates kept one up
abbrev pub value_across : ℕ → List Float → ℕ → ℕ → ℕ → ℕ → Float
value_across n samples axis c u v =
    let p = across axis c u v in
    value_at n samples p.x p.y p.z

-- the samples of two blocks, the second the next one along an axis
pub record SideBySide (n axis : ℕ) (one next : List Float) : Type 0 where
  -- they agree on their common face
  pub common : (u v : ℕ) → u ≤ n → v ≤ n → sample_of n one (across axis n u v) ≡ sample_of n next (across axis 0 u v)
  -- the extension face of each is the other's layer next to the common face
  pub high : (u v : ℕ) → u ≤ n → v ≤ n → value_across n one axis (n + 2) (u + 1) (v + 1) ≡ sample_of n next (across axis 1 u v)
  pub low : (u v : ℕ) → u ≤ n → v ≤ n → value_across n next axis 0 (u + 1) (v + 1) ≡ sample_of n one (across axis (n - 1) u v)
  -- so both work out the same gradient on the common face
  pub gradient : (u v : ℕ) → u ≤ n → v ≤ n → gradient_at n one (across axis n u v) ≡ gradient_at n next (across axis 0 u v)

-- ---- a volume of twice the resolution

abbrev pub doubled : Xyz → Xyz
doubled p = xyz (2 * p.x) (2 * p.y) (2 * p.z)

-- the sample of each point of the coarse volume stands at twice its coordinates in the fine one, which so has 2s - 1 samples or more along an axis of s
pub record TwiceAsFine (bytes : List ℕ) (sizes : Xyz) (fineBytes : List ℕ) (fineSizes : Xyz) : Type 0 where
  pub x : 2 * sizes.x ≤ fineSizes.x + 1
  pub y : 2 * sizes.y ≤ fineSizes.y + 1
  pub z : 2 * sizes.z ≤ fineSizes.z + 1
  pub even : (p : Xyz) → p.x < sizes.x → p.y < sizes.y → p.z < sizes.z
      → volume_sample fineBytes (volume_place fineSizes (doubled p)) ≡ volume_sample bytes (volume_place sizes p)

-- ---- finer neighbours

-- where the block beyond a side begins, in the coarse volume: LowX, HighX, LowY, HighY, LowZ, HighZ
abbrev pub beyond : ℕ → Xyz → ℕ → Xyz
beyond n p zero = xyz (p.x - n) p.y p.z
beyond n p (suc zero) = xyz (p.x + n) p.y p.z
beyond n p (suc (suc zero)) = xyz p.x (p.y - n) p.z
beyond n p (suc (suc (suc zero))) = xyz p.x (p.y + n) p.z
beyond n p (suc (suc (suc (suc zero)))) = xyz p.x p.y (p.z - n)
beyond n p (suc (suc (suc (suc (suc side))))) = xyz p.x p.y (p.z + n)

-- the block beyond a Low side begins in the volume
abbrev pub Begins : ℕ → Xyz → ℕ → Type 0
Begins n p zero = n ≤ p.x
Begins n p (suc zero) = Unit {0}
Begins n p (suc (suc zero)) = n ≤ p.y
Begins n p (suc (suc (suc zero))) = Unit {0}
Begins n p (suc (suc (suc (suc zero)))) = n ≤ p.z
Begins n p (suc (suc (suc (suc (suc side))))) = Unit {0}

-- along an axis of s samples the block ends within the coarse volume, or both volumes end at the same point: the fine one has 2s - 1 samples there
abbrev pub Ends : ℕ → ℕ → ℕ → ℕ → Type 0
Ends n first size fineSize = (first + n < size) ⊎ (fineSize + 1 ≡ 2 * size)

-- a block cut from the coarse volume, and at each named side a neighbour cut from the fine one, of twice the subdivisions
pub record FineStar (bytes : List ℕ) (sizes : Xyz) (fineBytes : List ℕ) (fineSizes : Xyz) (first : Xyz) (s : Star) : Type 0 where
  pub centre : s.centre ≡ block_in bytes sizes (subdivisions s) first
  pub ends_x : Ends (subdivisions s) first.x sizes.x fineSizes.x
  pub ends_y : Ends (subdivisions s) first.y sizes.y fineSizes.y
  pub ends_z : Ends (subdivisions s) first.z sizes.z fineSizes.z
  pub begins : (side : ℕ) → side < side_count → named s.mask side ≡ true → Begins (subdivisions s) first side
  pub neighbours : (side : ℕ) → side < side_count → named s.mask side ≡ true
      → neighbour_at s side ≡ block_in fineBytes fineSizes (2 * subdivisions s) (doubled (beyond (subdivisions s) first side))
