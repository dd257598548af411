-- Finite f32 values as whole numbers of units, a unit being the smallest value above zero, 2 ^ -149: how far a value lies above zero or below it, and
-- how far two values lie apart. Every f32 is a whole number of units, so that each of these is exact. Definitions only.
use Rattle.std.specs.Prelude.{ℕ, ◌+◌, ◌-◌, ◌*◌, ◌/◌, ◌^◌, ◌≤◌, Bool, false, cond, Float}
use Rattle.std.specs.Float.{nan, inf, fin, binary32}
use Rattle.std.specs.Float.Ieee.{prec, low, up, down}

-- so many units make 1
unfoldable pub per_one : ℕ
per_one = 2 ^ low binary32

-- a rounding moves what it rounds by at most one part in so many: an f32 keeps 24 digits
abbrev pub parts : ℕ
parts = 2 ^ prec binary32

-- the size of a finite value, m * 2 ^ e in units, and its sign
unfoldable pub magnitude : Float → ℕ
magnitude nan = 0
magnitude (inf s) = 0
magnitude (fin s m e) = m * up e * 2 ^ low binary32 / down e

unfoldable pub negative : Float → Bool
negative nan = false
negative (inf s) = s
negative (fin s m e) = s

-- how far a value lies above zero, and how far below: one of the two is 0
abbrev pub above : Float → ℕ
above x = cond (negative x) 0 (magnitude x)

abbrev pub below : Float → ℕ
below x = cond (negative x) (magnitude x) 0

-- y - x, for x ≤ y, and else 0
abbrev pub gap : Float → Float → ℕ
gap x y = above y + below x - (below y + above x)

-- the distance of two numbers, and of two values
abbrev pub distance : ℕ → ℕ → ℕ
distance m n = m - n + (n - m)

abbrev pub apart : Float → Float → ℕ
apart x y = distance (above y + below x) (below y + above x)

-- x and y differ by z at most
abbrev pub Within : ℕ → ℕ → ℕ → Type 0
Within x y z = (x ≤ y + z) × (y ≤ x + z)
