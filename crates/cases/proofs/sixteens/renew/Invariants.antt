-- `sixteens::renew` meets its contract. The loop's invariant: the places passed have their new numbers.
use Rattle.cases.specs.Sheets.{Renewed}
use Rattle.cases.proofs.sixteens.renew.Given as goal

abbrev pub invariant-loop-k : goal.invariant-loop-k
invariant-loop-k g l = Renewed (goal.F-post g l.number) l.k l.fn.places l.places
