-- `put_change` meets its contract: four stores, one after another.
use native.Mathlib.Numerals.{add-one, add-two, add-three}
use native.Mathlib.Omega.{arith}
use lib.ListN.{length-set}
use Rattle.repair.proofs.listing.put_change.Goals as goal

pub bounds-changes-from-2 : goal.bounds-changes-from-2
bounds-changes-from-2 c = simp length-set (omega arith)

pub bounds-changes-from-3 : goal.bounds-changes-from-3
bounds-changes-from-3 c = simp length-set (omega arith)

pub bounds-changes-from-4 : goal.bounds-changes-from-4
bounds-changes-from-4 c = simp length-set (omega arith)

pub returns : goal.returns
returns c = rw (add-one, add-two, add-three)
