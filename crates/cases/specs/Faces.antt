-- The three lines of fine samples that a row of transition cells lies on, each at a fixed step along v, and the rows of a walk. Definitions only.
use Rattle.std.specs.Prelude.{ℕ, ◌+◌, ◌*◌, ◌≤◌, ◌<◌, ◌≡◌, List, Float, get_or}
use Rattle.std.specs.Float.{nan}
use Rattle.model.specs.Formulas.{inside_bit}
use Rattle.grid.specs.declared.face_walk.Stride.{Stride}
use Rattle.grid.specs.declared.face_walk.FaceWalk.{FaceWalk}
use Rattle.grid.specs.Walks.{along_by, Leads}
use Rattle.cases.specs.declared.transition.Lines.{Lines}

-- the place after v2 steps from the first is one of so many
pub record Spot (held first : ℕ) (step : Stride) (v2 : ℕ) : Type 0 where
  pub leads : Leads first step v2
  pub there : along_by first step v2 < held

-- so it is on each of the three lines
pub record Lined (held : ℕ) (l : Lines) (v2 : ℕ) : Type 0 where
  pub on_a : Spot held l.a l.step v2
  pub on_b : Spot held l.b l.step v2
  pub on_c : Spot held l.c l.step v2

-- what a point adds if it is inside
abbrev pub weighed_at : Float → List Float → ℕ → Stride → ℕ → ℕ → ℕ
weighed_at t fine first step v2 w = w * inside_bit t (get_or fine (along_by first step v2) nan)

-- the three points at one v2
abbrev pub three_inside : Float → List Float → Lines → ℕ → ℕ → ℕ → ℕ → ℕ
three_inside t fine l v2 wa wb wc =
    weighed_at t fine l.a l.step v2 wa + weighed_at t fine l.b l.step v2 wb + weighed_at t fine l.c l.step v2 wc

-- the nine points of the cell at v
abbrev pub nine_inside : Float → List Float → Lines → ℕ → ℕ
nine_inside t fine l v =
    three_inside t fine l (2 * v) 0x01 0x02 0x04 + three_inside t fine l (2 * v + 1) 0x80 0x100 0x08
    + three_inside t fine l (2 * v + 2) 0x40 0x20 0x10

-- ---- rows of cells, by a walk over the face

-- the lines that row u lies on
abbrev pub lines_at : FaceWalk → ℕ → Lines
lines_at walk u =
    record {
      a = along_by walk.first walk.u (2 * u);
      b = along_by walk.first walk.u (2 * u + 1);
      c = along_by walk.first walk.u (2 * u + 2);
      step = walk.v;
    }

-- the places on those of the first rows are among so many
pub record Walked (held n : ℕ) (walk : FaceWalk) (rows : ℕ) : Type 0 where
  pub leads : (u2 : ℕ) → u2 ≤ 2 * rows → Leads walk.first walk.u u2
  pub lined : (u v2 : ℕ) → u < rows → v2 ≤ 2 * n → Lined held (lines_at walk u) v2

-- the numbers of the cells in the first rows are those of a sheet's rows from one on
pub record OnWalk (case : ℕ → ℕ → ℕ) (t : Float) (fine : List Float) (n : ℕ) (walk : FaceWalk) (rows at : ℕ) : Type 0 where
  pub number : (u v : ℕ) → u < rows → v < n → nine_inside t fine (lines_at walk u) v ≡ case (at + u) v
