-- Document 01, 'The block and its samples': the places of the two points one step along an axis from an in-block point, and what they read as.
-- In the block they are one stride from its place; beyond it they are on the axis's two extension faces, low and low + 1. Definitions only.
use Rattle.std.specs.Prelude.{ℕ, ◌+◌, ◌-◌, ◌≤◌, ◌<◌, cond, List, ltb, Float, get_or, Ok}
use Rattle.std.specs.Float.{nan}
use Rattle.model.specs.declared.Xyz.{Xyz}
use Rattle.model.specs.declared.PlaceKind.{PlaceKind}
use Rattle.model.specs.declared.PlaceKind.TheVariants.{InBlock, Face}
use Rattle.model.specs.Answers.{Reading}
use Rattle.model.specs.Limits.{most_fine, side_count}
use Rattle.model.specs.Samples.{sample_length, on_face, value_of}
use Rattle.model.specs.Formulas.{◌⊖◌}

abbrev pub up_from : ℕ → ℕ → ℕ → ℕ → ℕ → ℕ
up_from n c at stride high = cond (ltb c n) (at + stride) high

abbrev pub down_from : ℕ → ℕ → ℕ → ℕ → ℕ
down_from c at stride low = cond (ltb 0 c) (at - stride) low

-- a point's place, the stride of an axis and its lower face, the point's coordinate on that axis and its two others: both steps stay among the samples
pub record Reach (n at stride low c i j : ℕ) : Type 0 where
  pub few : n ≤ most_fine
  pub low_is : low + 1 < side_count
  pub i_in : i ≤ n
  pub j_in : j ≤ n
  pub at_in : at < sample_length n
  pub up_in : c < n → at + stride < sample_length n
  pub enough : 0 < c → stride ≤ at

-- the stores that they stand in
abbrev pub up_kind : ℕ → ℕ → ℕ → PlaceKind
up_kind n c high = cond (ltb c n) InBlock (Face high)

abbrev pub down_kind : ℕ → ℕ → PlaceKind
down_kind c low = cond (ltb 0 c) InBlock (Face low)

-- what they read as
abbrev pub up_reading : List Float → ℕ → ℕ → ℕ → ℕ → ℕ → ℕ → ℕ → Reading
up_reading samples n at stride low c i j = Ok ((get_or samples (up_from n c at stride (on_face n (low + 1) i j)) nan), (up_kind n c (low + 1)))

abbrev pub down_reading : List Float → ℕ → ℕ → ℕ → ℕ → ℕ → ℕ → ℕ → Reading
down_reading samples n at stride low c i j = Ok ((get_or samples (down_from c at stride (on_face n low i j)) nan), (down_kind c low))

-- the sample one step up minus the one a step down
abbrev pub difference_at : List Float → ℕ → ℕ → ℕ → ℕ → ℕ → ℕ → ℕ → Float
difference_at samples n at stride low c i j =
    value_of (up_reading samples n at stride low c i j) ⊖ value_of (down_reading samples n at stride low c i j)

-- ---- a point that no block face touches

pub record Inside (n : ℕ) (p : Xyz) : Type 0 where
  pub x_low : 0 < p.x
  pub x_high : p.x < n
  pub y_low : 0 < p.y
  pub y_high : p.y < n
  pub z_low : 0 < p.z
  pub z_high : p.z < n

-- both steps are one stride from its place
abbrev pub difference_inside : List Float → ℕ → ℕ → Float
difference_inside samples at stride = get_or samples (at + stride) nan ⊖ get_or samples (at - stride) nan
