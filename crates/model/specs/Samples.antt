-- Document 01, 'The block and its samples', and document 02, [4]: where a grid point's sample stands, and what reading it answers.
-- A coordinate is kept one up, so that -1 is 0 and 0..n is 1..n+1. Definitions only.
use Rattle.std.specs.Prelude.{ℕ, zero, suc, ◌+◌, ◌-◌, ◌*◌, Bool, cond, List, eqb, leb, ℤ, pos, negsuc, Float, get_or, Err, Ok}
use Rattle.std.specs.Float.{nan}
use Rattle.model.specs.declared.Xyz.{Xyz}
use Rattle.model.specs.declared.PlaceKind.{PlaceKind}
use Rattle.model.specs.declared.PlaceKind.TheVariants.{InBlock, Face}
use Rattle.model.specs.Answers.{Reading}

-- a block's samples: m^3 in the block and six faces of m^2, with m = n + 1
abbrev pub sample_length : ℕ → ℕ
sample_length n = (n + 1) * (n + 1) * (n + 1) + 6 * ((n + 1) * (n + 1))

-- the in-block point (x, y, z)
abbrev pub in_block : ℕ → ℕ → ℕ → ℕ → ℕ
in_block n x y z = (n + 1) * (n + 1) * x + (n + 1) * y + z

-- the point (i, j) of an extension face: x=-1, x=n+1, y=-1, y=n+1, z=-1, z=n+1 are the faces 0 to 5
abbrev pub on_face : ℕ → ℕ → ℕ → ℕ → ℕ
on_face n face i j = (n + 1) * (n + 1) * (n + 1) + (n + 1) * (n + 1) * face + ((n + 1) * i + j)

-- the place of a point's sample, its coordinates kept one up
unfoldable pub place_of : ℕ → ℕ → ℕ → ℕ → ℕ
place_of n x y z =
    cond (eqb x 0) (on_face n 0 (y - 1) (z - 1))
    (cond (eqb x (n + 2)) (on_face n 1 (y - 1) (z - 1))
    (cond (eqb y 0) (on_face n 2 (x - 1) (z - 1))
    (cond (eqb y (n + 2)) (on_face n 3 (x - 1) (z - 1))
    (cond (eqb z 0) (on_face n 4 (x - 1) (y - 1))
    (cond (eqb z (n + 2)) (on_face n 5 (x - 1) (y - 1)) (in_block n (x - 1) (y - 1) (z - 1)))))))

-- how far a coordinate, kept one up, is outside 0..n: not, by one step, or by more
unfoldable pub outside : ℕ → ℕ → ℕ
outside n c = cond (eqb c 0) 1 (cond (leb c (n + 1)) 0 (cond (eqb c (n + 2)) 1 2))

-- at most one coordinate is outside 0..n, by one step
unfoldable pub sampled : ℕ → ℕ → ℕ → ℕ → Bool
sampled n x y z = leb (outside n x + outside n y + outside n z) 1

-- across an axis a point is on the low face where its coordinate is -1, and on the high one where it is n+1
abbrev pub kind_across : ℕ → ℕ → ℕ → ℕ → PlaceKind → PlaceKind
kind_across n low high c others = cond (eqb c 0) (Face low) (cond (eqb c (n + 2)) (Face high) others)

-- the store that a point's sample stands in
unfoldable pub kind_of : ℕ → ℕ → ℕ → ℕ → PlaceKind
kind_of n x y z = kind_across n 0 1 x (kind_across n 2 3 y (kind_across n 4 5 z InBlock))

-- a coordinate outside 0..n counts as one, however far it is outside
abbrev pub is_outside : ℕ → ℕ → ℕ
is_outside n c = cond (eqb (outside n c) 0) 0 1

unfoldable pub outside_count : ℕ → ℕ → ℕ → ℕ → ℕ
outside_count n x y z = is_outside n x + is_outside n y + is_outside n z

-- a sample's value together with its place kind, or how many coordinates of a point never sampled are outside
unfoldable pub reading_at : ℕ → List Float → ℕ → ℕ → ℕ → Reading
reading_at n samples x y z =
    cond (sampled n x y z) (Ok ((get_or samples (place_of n x y z) nan), (kind_of n x y z))) (Err (outside_count n x y z))

-- the value that a reading carries: a NaN for a point never sampled, which has none
abbrev pub value_of : Reading → Float
value_of (Ok (v, kind)) = v
value_of (Err count) = nan

-- the sample of a point, its coordinates kept one up: all that extraction reads is read so
unfoldable pub value_at : ℕ → List Float → ℕ → ℕ → ℕ → Float
value_at n samples x y z = value_of (reading_at n samples x y z)

-- the sample of an in-block point
abbrev pub sample_of : ℕ → List Float → Xyz → Float
sample_of n samples p = value_at n samples (p.x + 1) (p.y + 1) (p.z + 1)

-- a signed coordinate, kept one up; all below -1 is one that is farther outside
unfoldable pub one_up : ℕ → ℤ → ℕ
one_up n (pos c) = c + 1
one_up n (negsuc zero) = 0
one_up n (negsuc (suc c)) = n + 3
