-- The thirteen points of a transition cell and the nine case contributions, as document 01 lists them ('Transition cells').
use Rattle.std.specs.Prelude.{List, [], ◌∷◌, ℕ, ◌*◌, ◌/◌, ◌%◌, get_or}
use Rattle.tables.specs.declared.aux_tables.CellPoint.{CellPoint}
use Rattle.tables.specs.declared.aux_tables.CellPoint.TheVariants.{Fine, Coarse}

abbrev pub fine : ℕ → ℕ → CellPoint
fine u v = Fine (record { u = u; v = v })

abbrev pub coarse : ℕ → ℕ → CellPoint
coarse u v = Coarse (record { u = u; v = v })

-- 0 to 8 on the fine face, u fastest; 9 to 12 on the coarse face, u fastest
abbrev pub cell_points : List CellPoint
cell_points =
    fine 0 0 ∷ fine 1 0 ∷ fine 2 0 ∷
    fine 0 1 ∷ fine 1 1 ∷ fine 2 1 ∷
    fine 0 2 ∷ fine 1 2 ∷ fine 2 2 ∷
    coarse 0 0 ∷ coarse 1 0 ∷
    coarse 0 1 ∷ coarse 1 1 ∷
    []

abbrev pub cell_point : ℕ → CellPoint
cell_point i = get_or cell_points i (fine 0 0)

abbrev pub contributions : List ℕ
contributions = 0x01 ∷ 0x02 ∷ 0x04 ∷ 0x80 ∷ 0x100 ∷ 0x08 ∷ 0x40 ∷ 0x20 ∷ 0x10 ∷ []

-- what the fine point i, if it is inside, adds to the case number
abbrev pub contribution_of : ℕ → ℕ
contribution_of i = get_or contributions i 0

-- a point's place along u and v, in fine steps, and its face: 0 the fine one, 1 the coarse one
abbrev pub along_u : CellPoint → ℕ
along_u (Fine offset) = offset.u
along_u (Coarse corner) = 2 * corner.u

abbrev pub along_v : CellPoint → ℕ
along_v (Fine offset) = offset.v
along_v (Coarse corner) = 2 * corner.v

abbrev pub face_of : CellPoint → ℕ
face_of (Fine offset) = 0
face_of (Coarse corner) = 1

unfoldable pub point_u : ℕ → ℕ
point_u i = along_u (cell_point i)

unfoldable pub point_v : ℕ → ℕ
point_v i = along_v (cell_point i)

unfoldable pub point_face : ℕ → ℕ
point_face i = face_of (cell_point i)

-- 'points 9..12 taking the sides of 0,2,6,8'
unfoldable pub fine_of : ℕ → ℕ
fine_of i = get_or (0 ∷ 1 ∷ 2 ∷ 3 ∷ 4 ∷ 5 ∷ 6 ∷ 7 ∷ 8 ∷ 0 ∷ 2 ∷ 6 ∷ 8 ∷ []) i 0

-- 1 if the point i is inside in a transition case, else 0
unfoldable pub transition_inside : ℕ → ℕ → ℕ
transition_inside case i = case / contribution_of (fine_of i) % 2
