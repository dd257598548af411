-- `corners::corner` meets its contract: the tests are the definition's. Assumes nothing.
use Rattle.std.proofs.Common.{◌≡◌, refl, ◌≤◌, ◌<◌, Bool, true, false, ltb, ⊎_elim, rules}
use borrow.Author.Tests.{lt-ltb, le-ltb, tests}
use Rattle.std.proofs.lemmas.Map.Keys.{le_from_is_le, ge_from_not_lt}
use Rattle.weld.specs.Leaves.{corner_by}
use Rattle.weld.proofs.corners.corner.Goals as goal

pub returns-then-contains : goal.returns-then-contains
returns-then-contains c =
    let within = c.if-contains.ensures.cases in
    let below : c.args.c < c.args.end = search (rules, tests) in
    rw (le-ltb _ _ (le_from_is_le _ _ within.0), lt-ltb _ _ below)

pub returns-else-contains : goal.returns-else-contains
returns-else-contains c =
    let a = c.args in
    ⊎_elim (λ below. let l : a.c < a.start = search (rules, tests) in rw (lt-ltb a.c a.start l)) (λ above. go (ge_from_not_lt _ _ above) (ltb a.c a.start) refl) c.if-contains.ensures.cases
  where
    go : c.args.end ≤ c.args.c → (b : Bool) → ltb c.args.c c.args.start ≡ b → c.args.c ≡ corner_by c.args.table.now c.args.start c.args.end c.args.c
    go l true e = rw e
    go l false e = rw (e, le-ltb _ _ l)
