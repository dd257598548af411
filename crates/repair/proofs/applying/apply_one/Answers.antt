-- `apply_one` meets its contract: list 0 is the centre, any other the neighbours.
use Prim.Native.Nat.{ℕ, ◌<◌}
use mathlib.Core.Path.{subst}
use mathlib.Core.List.{List}
use lib.ListN.{length}
use Rattle.repair.specs.Definition.{delivery}
use Rattle.repair.specs.Spots.{in_centre, put_centre, in_neighbours, put_neighbours}
use Rattle.repair.proofs.applying.apply_one.Goals as goal

pub bounds-centre-place : goal.bounds-centre-place
bounds-centre-place c = subst (λ (l : List ℕ). c.args.change.place < length l) (in_centre c.args.change.list (delivery c.args.centre.now c.args.neighbours.now) c.if-change-eq-CENTRE.true) c.requires

pub bounds-neighbours-place : goal.bounds-neighbours-place
bounds-neighbours-place c = subst (λ (l : List ℕ). c.args.change.place < length l) (in_neighbours c.args.change.list (delivery c.args.centre.now c.args.neighbours.now) c.if-change-eq-CENTRE.false) c.requires

pub returns-then-change-eq-CENTRE : goal.returns-then-change-eq-CENTRE
returns-then-change-eq-CENTRE c = let change = c.args.change in
    put_centre change.list (delivery c.args.centre.now c.args.neighbours.now) change.place change.new c.if-change-eq-CENTRE.true

pub returns-else-change-eq-CENTRE : goal.returns-else-change-eq-CENTRE
returns-else-change-eq-CENTRE c = let change = c.args.change in
    put_neighbours change.list change.place change.new (delivery c.args.centre.now c.args.neighbours.now) c.if-change-eq-CENTRE.false
