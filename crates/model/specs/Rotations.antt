-- Document 01, 'Transition cells': the six rotations, the face's grid point, the fine position's k and the neighbour's point.
-- A unit vector is what it adds on each axis and what it takes away. Definitions, and that U x V = W for each side.
use Rattle.std.specs.Prelude.{ℕ, ◌+◌, ◌-◌, ◌*◌, ◌≡◌, refl, List, [], ◌∷◌, map, ℤ, ◌-ℤ◌, ◌*ℤ◌, get_or}
use Rattle.std.proofs.Math.IntN.{sub_ℕ}
use Rattle.model.specs.declared.Xyz.{Xyz}
use Rattle.model.specs.declared.Direction.{Direction}
use Rattle.model.specs.declared.Rotation.{Rotation}

abbrev pub xyz : ℕ → ℕ → ℕ → Xyz
xyz x y z = record { x = x; y = y; z = z }

abbrev pub plus : Xyz → Direction
plus axis = record { up = axis; down = xyz 0 0 0 }

abbrev pub minus : Xyz → Direction
minus axis = record { up = xyz 0 0 0; down = axis }

abbrev pub X : Xyz
X = xyz 1 0 0

abbrev pub Y : Xyz
Y = xyz 0 1 0

abbrev pub Z : Xyz
Z = xyz 0 0 1

abbrev pub rotation : Xyz → Direction → Direction → Direction → Rotation
rotation origin u v w = record { origin = origin; u = u; v = v; w = w }

-- LowX, HighX, LowY, HighY, LowZ, HighZ: origin, U, V, W
unfoldable pub rotations : List Rotation
rotations =
    rotation (xyz 0 0 1) (minus Z) (plus Y) (plus X) ∷
    rotation (xyz 1 0 0) (plus Z) (plus Y) (minus X) ∷
    rotation (xyz 0 0 1) (plus X) (minus Z) (plus Y) ∷
    rotation (xyz 0 1 0) (plus X) (plus Z) (minus Y) ∷
    rotation (xyz 0 0 0) (plus X) (plus Y) (plus Z) ∷
    rotation (xyz 1 0 1) (minus X) (plus Y) (minus Z) ∷ []

unfoldable pub rotation_of : ℕ → Rotation
rotation_of side = get_or rotations side (rotation (xyz 0 0 0) (plus X) (plus Y) (plus Z))

-- on one axis: m * origin + u * U + v * V + w * W
abbrev pub coordinate : (Xyz → ℕ) → Rotation → ℕ → ℕ → ℕ → ℕ → ℕ
coordinate on r m u v w =
    m * on r.origin + u * on r.u.up + v * on r.v.up + w * on r.w.up
    - (u * on r.u.down + v * on r.v.down + w * on r.w.down)

unfoldable pub point_from : Rotation → ℕ → ℕ → ℕ → ℕ → Xyz
point_from r m u v w =
    xyz (coordinate (λ p. p.x) r m u v w) (coordinate (λ p. p.y) r m u v w) (coordinate (λ p. p.z) r m u v w)

-- the centre's grid point (u, v) of a face: n*origin + u*U + v*V
abbrev pub face_point : ℕ → ℕ → ℕ → ℕ → Xyz
face_point n side u v = point_from (rotation_of side) n u v 0

-- k of the fine position: 2n*origin + U2*U + V2*V, since every point of a cell has w = 0
abbrev pub fine_point : ℕ → ℕ → ℕ → ℕ → Xyz
fine_point n side u2 v2 = point_from (rotation_of side) (2 * n) u2 v2 0

-- the neighbour's point, 2n*(origin + W) + U2*U + V2*V: the fine point moved by 2n along W
abbrev pub neighbour_point : ℕ → ℕ → ℕ → ℕ → Xyz
neighbour_point n side u2 v2 = point_from (rotation_of side) (2 * n) u2 v2 (2 * n)

-- ---- U x V = W

abbrev pub part : (Xyz → ℕ) → Direction → ℤ
part on d = sub_ℕ (on d.up) (on d.down)

-- a unit vector's three parts, and those of the cross product of two
abbrev pub parts : Direction → List ℤ
parts d = part (λ p. p.x) d ∷ part (λ p. p.y) d ∷ part (λ p. p.z) d ∷ []

abbrev pub minor : (Xyz → ℕ) → (Xyz → ℕ) → Direction → Direction → ℤ
minor i j a b = (part i a *ℤ part j b) -ℤ (part j a *ℤ part i b)

abbrev pub cross : Direction → Direction → List ℤ
cross a b = minor (λ p. p.y) (λ p. p.z) a b ∷ minor (λ p. p.z) (λ p. p.x) a b ∷ minor (λ p. p.x) (λ p. p.y) a b ∷ []

pub right_handed : map (λ (r : Rotation). cross r.u r.v) rotations ≡ map (λ (r : Rotation). parts r.w) rotations
unfolding rotations
right_handed = refl
