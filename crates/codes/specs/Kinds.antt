-- Both kinds of cell by one name each: what a code comes to, whether it makes a vertex, the cell that it steps back to, and the
-- places of the index store. Definitions only.
use Rattle.std.specs.Prelude.{ℕ, ◌-◌, ◌≤◌, ◌<◌, Bool, ◌||◌, List, eqb, Float, length, get_or}
use Rattle.tables.specs.Codes.{point_a, point_b, step_x, step_y, step_z, is_new, reuse_index}
use Rattle.tables.specs.Cases.{vertices_of, triangles_of, corner_of}
use Rattle.model.specs.declared.Xyz.{Xyz}
use Rattle.model.specs.declared.FacePoint.{FacePoint}
use Rattle.model.specs.Limits.{side_count}
use Rattle.model.specs.Star.{Star, subdivisions}
use Rattle.model.specs.Mesh.{CodeUse, Cell, regular_place, transition_place, regular_leaves, transition_leaves, regular_use, transition_use, sent, regular_reads, transition_reads}
use Rattle.grid.specs.SideLaws.{NeighbourThere}
use Rattle.points.specs.CellPoints.{Centred}
use Rattle.codes.specs.declared.CellIndex.{CellIndex}
use Rattle.codes.specs.declared.CellIndex.TheVariants.{Regular, Transition}

abbrev pub use_at : Star → CellIndex → ℕ → CodeUse
use_at s (Regular at) code = regular_use s at.x at.y at.z code
use_at s (Transition at) code = transition_use s at.side at.u at.v code

abbrev pub makes_at : CellIndex → ℕ → Bool
makes_at (Regular at) code = eqb (is_new code) 1 || regular_leaves at.x at.y at.z code
makes_at (Transition at) code = eqb (is_new code) 1 || transition_leaves at.u at.v code

-- the cell that a code steps back to
abbrev pub regular_back : Xyz → ℕ → Xyz
regular_back at code = record { x = at.x - step_x code; y = at.y - step_y code; z = at.z - step_z code }

abbrev pub transition_back : FacePoint → ℕ → FacePoint
transition_back at code = record { side = at.side; u = at.u - step_x code; v = at.v - step_y code }

abbrev pub back_from : CellIndex → ℕ → CellIndex
back_from (Regular at) code = Regular (regular_back at code)
back_from (Transition at) code = Transition (transition_back at code)

abbrev pub place_at : ℕ → CellIndex → ℕ → ℕ
place_at n (Regular at) r = regular_place n at.x at.y at.z r
place_at n (Transition at) r = transition_place n at.side at.u at.v r

-- ---- what the functions ask of a cell and of a code

pub record InBlock (n x y z : ℕ) : Type 0 where
  pub x_in : x < n
  pub y_in : y < n
  pub z_in : z < n

pub record OnSide (n side u v : ℕ) : Type 0 where
  pub side_in : side < side_count
  pub u_in : u < n
  pub v_in : v < n

abbrev pub Placed : ℕ → CellIndex → Type 0
Placed n (Regular at) = InBlock n at.x at.y at.z
Placed n (Transition at) = OnSide n at.side at.u at.v

-- the neighbour that a transition cell reads is there
abbrev pub Beside : Star → CellIndex → Type 0
Beside s (Regular at) = Unit
Beside s (Transition at) = NeighbourThere (subdivisions s) s.mask s.neighbours at.side

pub record Ready (s : Star) (fractions : List Float) (at : CellIndex) : Type 0 where
  pub centred : Centred (subdivisions s) fractions s.centre
  pub placed : Placed (subdivisions s) at
  pub beside : Beside s at

-- how many indices a cell can store, and how many points it has
abbrev pub slots : CellIndex → ℕ
slots (Regular at) = 4
slots (Transition at) = 10

abbrev pub points : CellIndex → ℕ
points (Regular at) = 8
points (Transition at) = 13

-- how many samples its case number reads
abbrev case_points : CellIndex → ℕ
case_points (Regular at) = regular_reads
case_points (Transition at) = transition_reads

pub record Usable (at : CellIndex) (code : ℕ) : Type 0 where
  pub a_in : point_a code < points at
  pub b_in : point_b code < points at
  pub index_in : reuse_index code < slots at

-- ---- a cell by its rows

abbrev pub cell_of : Star → CellIndex → List ℕ → List ℕ → Bool → Cell
cell_of s at codes row turned =
    record {
      vertices = vertices_of row;
      uses = λ i. use_at s at (get_or codes i 0);
      triangles = triangles_of row;
      corner = λ j. corner_of row (sent turned j);
      samples = case_points at;
    }

-- the codes of a row that are used can be followed
pub record Coded (at : CellIndex) (codes : List ℕ) (count : ℕ) : Type 0 where
  pub there : count ≤ length codes
  pub usable : (i : ℕ) → i < count → Usable at (get_or codes i 0)

-- a row of cell data with few vertices, and a code for each that can be followed
abbrev pub RowCoded : CellIndex → List ℕ → List ℕ → Type 0
RowCoded at codes row = (0 < length row) × ((vertices_of row ≤ 12) × Coded at codes (vertices_of row))
