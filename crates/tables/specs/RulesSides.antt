-- The words that T4 is stated in. The rules themselves stand in proofs/RulesSides.
use Rattle.std.specs.Prelude.{◌≡◌, ℕ, ◌+◌, ◌^◌, ◌<◌, T}
use Rattle.tables.specs.Corners.{bit}
use Rattle.tables.specs.Sides.{common_face, near_corner}

-- ---- two neighbours: each case's face, against what a face with the same four bits shows

-- the far face of one case and the near face of the other have the same corners inside
abbrev pub Agree : ℕ → ℕ → ℕ → Type 0
Agree d case next = (j : ℕ) → j < 4 → bit case (near_corner d j + 2 ^ d) ≡ bit next (near_corner d j)

-- ---- within a cell

-- no face has both edges
abbrev pub Apart : ℕ → ℕ → Type 0
Apart p q = (d : ℕ) → d < 3 → T (common_face d p q) → ⊥
