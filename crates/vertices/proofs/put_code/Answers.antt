-- `put_code` meets its contract: a cell that touches no block face is a regular one. Assumes nothing.
use mathlib.Core.Path.{◌≡◌, sym, ◌∙◌}
use Rattle.points.specs.Grids.{subdivisions_of, star_of}
use Rattle.codes.specs.declared.CellIndex.TheVariants.{Regular}
use Rattle.vertices.specs.Inner.{Inner}
use Rattle.vertices.proofs.Inners.{inner_found, regular_usable, regular_put, inner_count}
use Rattle.vertices.proofs.put_code.Goals as goal
use Rattle.vertices.proofs.put_code.Goals.{In-Some}

-- they are its own, and touch no block face
found : (c : In-Some) → let a = c.args in (a.at ≡ Regular c.in-Some.cell) × Inner (subdivisions_of a.grid.now) c.in-Some.cell
found c = inner_found _ c.args.at _ (sym c.in-Some.is ∙ c.requires.inner)

pub put_inner-requires : goal.put_inner-requires
put_inner-requires c =
    let a = c.args in
    let inner = found (goal.at.put_inner-requires c).In-Some in
    let made = inner_count inner.1 (star_of a.grid.now) a.at a.code inner.0 in
    record { inner = (inner.1, regular_usable inner.0 c.requires.usable); store_len = c.requires.store_len; room = rw made at c.requires.room }

pub returns-in-Some : goal.returns-in-Some
returns-in-Some c =
    let a = c.args in
    regular_put (found (goal.at.returns-in-Some c).In-Some).0 (star_of a.grid.now) a.code (c.put_inner.ensures a.grid.now.lent.neighbours.now)
