-- Document 01, 'Regular cells' and 'Transition cells': what is asked where a point of a cell is made, that a block whose shape was judged
-- and the table of the thirteen points meet it, and a fine point's gradient by itself.
use Rattle.std.specs.Prelude.{ℕ, zero, suc, ◌*◌, ◌/◌, ◌%◌, ◌≤◌, ◌<◌, ◌≡◌, cond, ◌&&◌, List, [], ◌∷◌, eqb, Float, length, get_or}
use Rattle.std.proofs.Common.{lit≤}
use Rattle.tables.specs.Points.{cell_points, cell_point, fine}
use Rattle.tables.specs.declared.aux_tables.CellPoint.{CellPoint}
use Rattle.tables.specs.declared.aux_tables.CellPoint.TheVariants.{Fine, Coarse}
use Rattle.model.specs.Limits.{side_count}
use Rattle.model.specs.declared.FacePoint.{FacePoint}
use Rattle.model.specs.declared.Vector.{Vector}
use Rattle.model.specs.Samples.{sample_length}
use Rattle.model.specs.Sides.{neighbour_length}
use Rattle.model.specs.Rotations.{face_point, neighbour_point}
use Rattle.model.specs.Formulas.{gradient_at}
use Rattle.model.specs.Star.{Star, subdivisions}
use Rattle.grid.specs.Shape.{Shaped}
use Rattle.points.specs.Fractions.{Fractions}

-- the centre's samples are all there, and so are its fractions
pub record Centred (n : ℕ) (fractions centre : List Float) : Type 0 where
  pub parts : Fractions n fractions
  pub centre_is : length centre ≡ sample_length n

-- a transition cell of a side, and the samples of the neighbour there
pub record Bordered (n : ℕ) (fine : List Float) (cell : FacePoint) : Type 0 where
  pub side_is : cell.side < side_count
  pub u_in : cell.u < n
  pub v_in : cell.v < n
  pub fine_is : length fine ≡ neighbour_length n

pub centred : (s : Star) (fractions : List Float) → Shaped s → Fractions (subdivisions s) fractions → Centred (subdivisions s) fractions s.centre
centred s fractions h parts = record { parts = parts; centre_is = h.centre_is }

-- the point lies in its cell: two fine steps, or one of the block's own, at most
abbrev pub InCell : CellPoint → Type 0
InCell (Fine offset) = (offset.u ≤ 2) × (offset.v ≤ 2)
InCell (Coarse corner) = (corner.u ≤ 1) × (corner.v ≤ 1)

abbrev AllInCell : List CellPoint → Type 0
AllInCell [] = Unit
AllInCell (p ∷ ps) = InCell p × AllInCell ps

entry : (ps : List CellPoint) (d : CellPoint) → AllInCell ps → InCell d → (i : ℕ) → InCell (get_or ps i d)
entry [] d h hd i = hd
entry (p ∷ ps) d h hd zero = h.0
entry (p ∷ ps) d h hd (suc i) = entry ps d h.1 hd i

pub cell_point_in : (i : ℕ) → InCell (cell_point i)
cell_point_in i = entry cell_points (fine 0 0) (search lit≤) (search lit≤) i

-- both offsets even: the centre's regular gradient; others: the neighbour's
abbrev pub fine_gradient : ℕ → List Float → List Float → ℕ → ℕ → ℕ → Vector
fine_gradient n centre neighbour side u2 v2 =
    cond (eqb (u2 % 2) 0 && eqb (v2 % 2) 0) (gradient_at n centre (face_point n side (u2 / 2) (v2 / 2)))
    (gradient_at (2 * n) neighbour (neighbour_point n side u2 v2))
