-- A point's value and the store that it stands in, by its signed coordinates. Definitions only.
use Rattle.std.specs.Prelude.{ℕ, List, ℤ, Float}
use Rattle.model.specs.declared.PlaceKind.{PlaceKind}
use Rattle.model.specs.Samples.{kind_of, value_at, one_up}

abbrev pub point_value : ℕ → List Float → ℤ → ℤ → ℤ → Float
point_value n samples x y z = value_at n samples (one_up n x) (one_up n y) (one_up n z)

abbrev pub point_kind : ℕ → ℤ → ℤ → ℤ → PlaceKind
point_kind n x y z = kind_of n (one_up n x) (one_up n y) (one_up n z)
