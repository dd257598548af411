-- `layers::setting::judge_change` meets its contract: 15, then 7 of the new value, then 14.
use native.Mathlib.Omega.{arith}
use mathlib.Core.Path.{◌≡◌, sym, ◌∙◌}
use mathlib.Core.Bool.{true, false}
use Rattle.model.specs.Samples.{sampled}
use Rattle.model.specs.Judging.{usable}
use Rattle.layers.specs.Definition.{judge_change}
use Rattle.layers.proofs.setting.judge_change.Goals as goal
use Rattle.layers.proofs.setting.judge_change.Goals.{Else-not-is_sampled}

-- the point was sampled
was_sampled : (c : Else-not-is_sampled) → let a = c.args in sampled a.n a.p.x a.p.y a.p.z ≡ true
was_sampled c = sym c.is_sampled.ensures ∙ c.if-not-is_sampled.false

pub returns-then-not-is_sampled : goal.returns-then-not-is_sampled
unfolding judge_change
returns-then-not-is_sampled c =
    let p = c.args.p in
    let never : sampled c.args.n p.x p.y p.z ≡ false =
    sym c.is_sampled.ensures ∙ c.if-not-is_sampled.true in
    rw (never, ← c.outside_count.ensures)

pub place-requires : goal.place-requires
place-requires c = (omega arith, was_sampled (goal.at.place-requires c).Else-not-is_sampled)

pub returns-then-not-is_usable : goal.returns-then-not-is_usable
unfolding judge_change
returns-then-not-is_usable c =
    let a = c.args in
    let bad : usable a.value ≡ false = sym c.is_usable.ensures ∙ c.if-not-is_usable.true in
    rw (was_sampled (goal.at.returns-then-not-is_usable c).Else-not-is_sampled, bad, ← c.place.ensures.0)

pub returns : goal.returns
unfolding judge_change
returns c =
    let a = c.args in
    let good : usable a.value ≡ true = sym c.is_usable.ensures ∙ c.if-not-is_usable.false in
    rw (was_sampled (goal.at.returns c).Else-not-is_sampled, good, ← c.summary_length.ensures) c.judge_buffer.ensures
