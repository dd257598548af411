-- `face_line` meets its contract: the walk's first place leads to that of the line's first point.
use Prim.Native.Nat.{◌+◌}
use mathlib.Core.Path.{◌≡◌, ◌∙◌}
use Rattle.grid.specs.Walks.{along_by, side_place, row_leads, row_is}
use Rattle.lines.proofs.face_line.Goals as goal

pub along-first-requires : goal.along-first-requires
along-first-requires c =
    rw c.face_walk-walk.ensures (row_leads c.args.m c.args.side c.args.w c.args.u 0 c.requires.1)

pub returns : goal.returns
returns c =
    let a = c.args in
    let walk_is = c.face_walk-walk.ensures in
    let first_is : c.along-first.result ≡ side_place a.m a.side a.w a.u 0 =
    c.along-first.ensures ∙ (λ i. along_by (walk_is i).first (walk_is i).u a.u) ∙ row_is a.m a.side a.w a.u 0 c.requires.1 in
    λ i. record { start = a.start; first = first_is i; step = (walk_is i).v; points = a.m + 1 }
