-- `inner_cell` meets its contract, for each kind of cell. Assumes nothing.
use native.Mathlib.Omega.{arith}
use Rattle.vertices.specs.Uses.{regular_in}
use Rattle.vertices.proofs.inner_cell.Goals as goal

pub is_between-requires : goal.is_between-requires
is_between-requires c =
    omega (arith, (regular_in c.in-Regular.is c.requires.1).x_in, c.requires.0)

pub is_between-requires-in-Regular : goal.is_between-requires-in-Regular
is_between-requires-in-Regular c =
    omega (arith, (regular_in c.in-Regular.is c.requires.1).y_in, c.requires.0)

pub is_between-requires-in-Regular-2 : goal.is_between-requires-in-Regular-2
is_between-requires-in-Regular-2 c =
    omega (arith, (regular_in c.in-Regular.is c.requires.1).z_in, c.requires.0)

pub returns-then-is_between : goal.returns-then-is_between
returns-then-is_between c =
    let inner = rw (c.is_between.ensures, c.is_between-in-Regular.ensures, c.is_between-in-Regular-2.ensures) at c.if-is_between.true in
    rw (c.in-Regular.is, inner)

pub returns-else-is_between : goal.returns-else-is_between
returns-else-is_between c =
    let outer = rw (c.is_between.ensures, c.is_between-in-Regular.ensures, c.is_between-in-Regular-2.ensures) at c.if-is_between.false in
    rw (c.in-Regular.is, outer)
