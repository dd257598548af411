-- `put_vertex` meets its contract: six stores are the items laid, whatever the edge. Assumes nothing.
use native.Mathlib.Numerals.{towards_suc}
use native.Mathlib.Omega.{arith}
use lib.ListN.{length-set}
use Rattle.laws.specs.Laying.{lay}
use Rattle.vertices.proofs.put_vertex.Goals as goal

pub bounds-vertices-i-2 : goal.bounds-vertices-i-2
bounds-vertices-i-2 c = simp length-set (omega arith)

pub bounds-vertices-i-3 : goal.bounds-vertices-i-3
bounds-vertices-i-3 c = simp length-set (omega arith)

pub bounds-vertices-i-4 : goal.bounds-vertices-i-4
bounds-vertices-i-4 c = simp length-set (omega arith)

pub bounds-vertices-i-5 : goal.bounds-vertices-i-5
bounds-vertices-i-5 c = simp length-set (omega arith)

pub bounds-vertices-i-6 : goal.bounds-vertices-i-6
bounds-vertices-i-6 c = simp length-set (omega arith)

pub returns : goal.returns
unfolding lay
returns c = λ edge. simp towards_suc
