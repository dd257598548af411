-- `sixteens::put_sixteen` meets its contract. The loop's invariant: the places passed hold their numbers.
use lib.ListN.{get_or}
use Rattle.cases.specs.Sheets.{RowPut}
use Rattle.cases.proofs.sixteens.put_sixteen.Given as goal

abbrev pub invariant-loop-k : goal.invariant-loop-k
invariant-loop-k l = RowPut (λ j. get_or l.numbers j 0) l.start l.k l.initial.places l.places
