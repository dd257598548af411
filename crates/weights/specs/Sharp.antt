-- Computed cases: half of the weight's bound is too small; a coordinate can pass its end where one end is three times the other; and with no limit on the
-- samples a weight can be no number.
use Rattle.std.specs.Prelude.{◌+◌, ◌-◌, ◌*◌, ◌≡◌, refl, true, false, leb, pos, negsuc, Float}
use Rattle.std.specs.Float.{nan, fin}
use Rattle.std.specs.Float.Ieee.{lt, le, neg, add, sub, mul, div, sum, round, of_int}
use Rattle.model.specs.Formulas.{whole, inside, weight, between}
use Rattle.weights.specs.Units.{per_one, parts, magnitude, negative, gap, apart}
use Rattle.weights.specs.Clauses.{weight_parts}

-- the samples -2^-24 and 1 + 2^-23, with the threshold 1 between them
abbrev a : Float
a = fin true 1 (negsuc 23)

abbrev b : Float
b = fin false 8388609 (negsuc 22)

abbrev t : Float
t = fin false 1 (pos 0)

pub between_them : (inside t a ≡ false) × (inside t b ≡ true)
unfolding le
between_them = (refl, refl)

pub half_too_small :
    leb (per_one * (apart a t * (2 * weight_parts))) ((magnitude (weight a b t) * (2 * weight_parts) + per_one) * apart a b) ≡ false
unfolding sub div sum round magnitude negative per_one
half_too_small = refl

-- the coordinates 1 + 3 * 2^-23 and 3 + 3 * 2^-22, with the weight 1: b - a is rounded up, and so is a + (b - a)
abbrev p : Float
p = fin false 8388611 (negsuc 22)

abbrev q : Float
q = fin false 12582915 (negsuc 21)

pub passes_its_end : lt q (between (whole 1) p q) ≡ true
unfolding lt add sub mul sum round of_int
passes_its_end = refl

-- and by more than the rounding of b - a alone
pub passes_by_both : leb (gap q (between (whole 1) p q) * (parts - 1)) (apart p q) ≡ false
unfolding add sub mul sum round of_int magnitude negative
passes_by_both = refl

-- the largest f32 and its negative
abbrev most : Float
most = fin false 16777215 (pos 104)

pub no_limit_no_number : weight (neg most) most most ≡ nan
unfolding neg sub div sum round
no_limit_no_number = refl
