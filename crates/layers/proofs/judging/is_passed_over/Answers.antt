-- `layers::judging::is_passed_over` meets its contract: a marked layer is not, and any other by its two numbers.
use mathlib.Core.Path.{◌≡◌, sym, ap, ◌∙◌}
use mathlib.Core.Bool.{Bool, not, ◌&&◌, ◌||◌}
use lib.Ieee.{lt}
use Rattle.model.specs.declared.Extent.{Extent}
use Rattle.model.specs.Layers.{entry_of, marked, one_sided}
use Rattle.layers.specs.Over.{mark_told}
use Rattle.layers.proofs.judging.is_passed_over.Goals as goal
use Rattle.layers.proofs.judging.is_passed_over.Goals.{After-is_marked}

abbrev over : (c : After-is_marked) → Bool → Bool
over c b = not b && one_sided c.args.threshold (entry_of c.args.summary.now c.args.x)

is-told : (c : After-is_marked) → (b : Bool) → c.is_marked.result ≡ b → marked (entry_of c.args.summary.now c.args.x) ≡ b
is-told c b = mark_told c.entry-told.ensures c.is_marked.ensures

pub returns-then-is_marked : goal.returns-then-is_marked
returns-then-is_marked c = sym (ap (over (goal.at.returns-then-is_marked c).After-is_marked) (is-told (goal.at.returns-then-is_marked c).After-is_marked _ c.if-is_marked.true))

pub returns : goal.returns
returns c =
    let threshold = c.args.threshold in
    ap (λ (b : Bool). b || lt c.entry-told.result.greatest threshold) c.inside.ensures
    ∙ ap (λ (e : Extent). one_sided threshold e) c.entry-told.ensures ∙ sym (ap (over (goal.at.returns c).After-is_marked) (is-told (goal.at.returns c).After-is_marked _ c.if-is_marked.false))
