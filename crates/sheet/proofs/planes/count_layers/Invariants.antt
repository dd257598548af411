-- `planes::count_layers` meets its contract. The loop's invariant: the upper plane is at x, and what the planes up to it and the layers below it have is
-- added up.
use Prim.Native.Nat.{ℕ, ◌+◌}
use mathlib.Core.Path.{◌≡◌}
use mathlib.Core.List.{List}
use lib.Ieee.{Float}
use lib.ListN.{length}
use Rattle.model.specs.Record.{star_of}
use Rattle.cases.specs.Sheets.{sheet_places, Plane}
use Rattle.sheet.specs.declared.Figures.{Figures}
use Rattle.sheet.specs.Planes.{plane_places, planes_to}
use Rattle.sheet.specs.Sizes.{Small}
use Rattle.sheet.proofs.planes.count_layers.Given as goal

pub record SoFar (src : List ℕ) (cases marks : List ℕ) (low high : List Float) (figures : Figures) (x : ℕ) : Type 0 where
  pub cases_long : length cases ≡ sheet_places
  pub marks_long : length marks ≡ sheet_places
  pub low-long : length low ≡ plane_places
  pub high-long : length high ≡ plane_places
  pub plane : Plane (star_of src) x high
  pub small : Small (x + 1) figures
  pub added : figures ≡ planes_to (star_of src) x

abbrev pub invariant-loop-x : goal.invariant-loop-x
invariant-loop-x l = SoFar l.src.bytes.now l.cases l.marks l.low l.high l.figures l.x
