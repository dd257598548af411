-- `layer_cases` meets its contract: the numbers are made of pairs, and the marks are those of the numbers.
use Prim.Native.Nat.{◌+◌}
use mathlib.Core.List.{List, []}
use borrow.Author.Rules.{rules}
use lib.Ieee.{Float}
use Rattle.model.specs.Star.{star}
use Rattle.model.specs.Points.{regular_case}
use Rattle.cases.specs.Sheets.{Sheet}
use Rattle.cases.specs.Marks.{all_regular}
use Rattle.cases.specs.PairLaws.{pairs_upper}
use Rattle.pairs.proofs.Pairing.{point_small, pairs_small, pairs_sheet}
use Rattle.cases.specs.Rows.{marked_sheet}
use Rattle.pairs.proofs.layer_cases.Goals as goal

pub pair_cases-requires : goal.pair_cases-requires
pair_cases-requires c =
    let a = c.args in
    let s = star a.header a.centre.now [] in
    let pairs = c.pair_layer.ensures _ c.requires.upper in
    record { n_le_most_subdivisions = search rules; small = pairs_small pairs (point_small s a.x) (point_small s (a.x + 1)) }

pub returns : goal.returns
returns c =
    let a = c.args in
    let n = a.header.block.subdivisions in
    let pairs = c.pair_layer.ensures _ c.requires.upper in
    let sheet : (ns : List Float) → Sheet (regular_case (star a.header a.centre.now ns) a.x) n n _ =
    λ ns. pairs_sheet (star a.header a.centre.now ns) a.x pairs _ _ c.pair_cases.ensures in record { pairs = pairs_upper pairs (point_small (star a.header a.centre.now []) a.x); cases = sheet; marks = λ ns. marked_sheet all_regular _ n _ _ _ (sheet ns) c.mark_layer.ensures }
