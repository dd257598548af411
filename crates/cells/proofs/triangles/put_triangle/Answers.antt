-- `triangles::put_triangle` meets its contract: three stores are the items laid. Assumes nothing.
use native.Mathlib.Numerals.{towards_suc}
use native.Mathlib.Omega.{arith}
use lib.ListN.{length-set}
use Rattle.laws.specs.Laying.{lay}
use Rattle.cells.proofs.triangles.put_triangle.Goals as goal

pub bounds-triangles-i-2 : goal.bounds-triangles-i-2
bounds-triangles-i-2 c = simp length-set (omega arith)

pub bounds-triangles-i-3 : goal.bounds-triangles-i-3
bounds-triangles-i-3 c = simp length-set (omega arith)

pub returns : goal.returns
unfolding lay
returns c = simp towards_suc
