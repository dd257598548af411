-- `layer_cases` meets its contract: the two planes are the block's, whatever its neighbours.
use Prim.Native.Nat.{◌+◌}
use mathlib.Core.Path.{refl}
use mathlib.Core.List.{List}
use native.Mathlib.Omega.{arith}
use lib.Ieee.{Float}
use Rattle.model.specs.Star.{Star, star}
use Rattle.cases.specs.Sheets.{Measured, Plane}
use Rattle.regular.proofs.layer_cases.Goals as goal
use Rattle.regular.proofs.layer_cases.Goals.{After-plane-high}

-- the block, whatever its neighbours
module _ (c : After-plane-high) (ns : List Float) where
  abbrev s : Star
  s = star c.args.header c.args.centre.now ns

  low : Plane s c.args.x c.plane-low.result.now
  low = c.plane-low.ensures.plane s refl refl

  high : Plane s (c.args.x + 1) c.plane-high.result.now
  high = c.plane-high.ensures.plane s refl refl

pub cases_between-requires : goal.cases_between-requires
cases_between-requires c =
    let p = c.requires in
    record {
      n_le_most_subdivisions = (p.subdivisions_le_most_subdivisions.0, p.x_lt_subdivisions.1);
      n_in_bounds = (omega (arith, c.plane-low.ensures.result_len), omega (arith, c.plane-high.ensures.result_len));
    }

pub returns : goal.returns
returns c =
    let at = (goal.at.returns c).After-plane-high in
    let same : (ns : List Float) → Measured (s at ns) c.args.header.block.subdivisions c.args.header.threshold =
    λ ns. record { subdivisions_are = refl; threshold_is = refl } in
    record {
      cases = λ ns. c.cases_between.ensures.cases (s at ns) c.args.x (same ns) (low at ns) (high at ns);
      marks = λ ns. c.cases_between.ensures.marks (s at ns) c.args.x (same ns) (low at ns) (high at ns);
      reads = c.cases_between.ensures.reads;
    }
