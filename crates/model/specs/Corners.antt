-- Document 02, [1] and [10]: the triangles of a mesh as a list of three indices each, and when refusal 17 is met, which writing STL and the
-- weld judge. Definitions only.
use Rattle.std.specs.Prelude.{ℕ, ◌+◌, ◌*◌, ◌/◌, Bool, ◌&&◌, List, ltb, length, get_or}
use Rattle.model.specs.declared.Refusal.TheVariants.{NoVertex}
use Rattle.model.specs.Answers.{Verdict}
use Rattle.model.specs.Refusals.{unless, first}

-- a last part triangle is not read
abbrev pub triangle_count : List ℕ → ℕ
triangle_count triangles = length triangles / 3

-- the vertex that corner 0, 1 or 2 of a triangle names
abbrev pub corner_of : List ℕ → ℕ → ℕ → ℕ
corner_of triangles t corner = get_or triangles (3 * t + corner) 0

-- 17: the first triangle one of whose corners is not below the count of vertices
abbrev pub named : ℕ → List ℕ → ℕ → Bool
named held triangles t =
    ltb (corner_of triangles t 0) held && ltb (corner_of triangles t 1) held && ltb (corner_of triangles t 2) held

unfoldable pub judge_named : ℕ → List ℕ → Verdict
judge_named held triangles = first (λ t. unless (named held triangles t) (NoVertex t)) (triangle_count triangles)
