-- The literals of the code, which are bit patterns, as the model writes the same numbers.
use mathlib.Core.Path.{◌≡◌, refl}
use lib.Ieee.{binary32, of_bits, of_int, div, round}
use Rattle.model.specs.Formulas.{◌⊘◌, whole, shrink_factor}

pub half : of_bits binary32 0x3f00_0000 ≡ whole 1 ⊘ whole 2
unfolding of_bits of_int div
half = refl

pub factor : of_bits binary32 0x3e19_999a ≡ shrink_factor
unfolding of_bits round shrink_factor
factor = refl

pub zero : of_bits binary32 0 ≡ whole 0
unfolding of_bits of_int
zero = refl
