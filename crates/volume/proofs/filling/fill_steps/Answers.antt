-- `fill_steps` meets its contract. The invariant: the slots passed have what they add.
use Rattle.std.proofs.Common.{ℕ, refl, ◌+◌, ◌*◌, ◌≤◌, ◌≡◌, ◌∙◌, ap, arith, drop, length-append, length-take-le}
use Rattle.std.proofs.Math.ListN.{get_or-append}
use native.Mathlib.Nat.{mul-le-mul}
use lib.ListN.{length-set}
use Rattle.volume.specs.Definition.{most_across, nearest}
use Rattle.volume.specs.Lists.{set_more}
use Rattle.volume.specs.Slots.{slot_up}
use Rattle.volume.proofs.filling.fill_steps.Goals as goal

abbrev stepAt : ℕ → ℕ → ℕ → ℕ → ℕ → ℕ
stepAt n size first step slot = step * nearest size (first + slot_up n slot)

pub loop-k-init : goal.loop-k-init
loop-k-init c = (refl, λ i l. omega arith)

pub overflow_mul-added : goal.overflow_mul-added
overflow_mul-added c =
    let pre = c.requires in
    let near : c.nearest.result ≤ most_across = omega (arith, pre, c.nearest.ensures.1) in
    omega (arith, mul-le-mul pre.1.1.0 near)

pub loop-k-preserved : goal.loop-k-preserved
loop-k-preserved c =
    let turn = c.loop-k in
    let args = c.args in
    let step = args.step in
    let is : step * c.nearest.result ≡ stepAt args.n args.size args.first step turn.k =
    ap (λ (x : ℕ). step * x) (c.nearest.ensures.0 ∙ ap (λ (up : ℕ). nearest args.size (args.first + up)) c.slot_up.ensures.0) in (
      length-set turn.added-items turn.k (step * c.nearest.result) ∙ turn.invariant.0,
      set_more 0 (stepAt args.n args.size args.first step) turn.added-items turn.k (omega (arith, c.loop-k-test.true, turn.invariant.0)) turn.invariant.1 (step * c.nearest.result) is,
    )

pub returns : goal.returns
returns c =
    let turn = c.loop-k in
    let args = c.args in
    let rest = drop (args.n + 3) args.steps.now in
    let wide = length-take-le (args.n + 3) args.steps.now c.requires.1.1.1 in
    record {
      long = omega (arith, length-append turn.added-items rest, turn.invariant.0, wide);
      at = λ slot l.
          get_or-append turn.added-items rest 0 slot (omega (arith, turn.invariant.0, wide))
          ∙ turn.invariant.1 slot (omega (arith, c.loop-k-test.false, turn.invariant.0, wide));
    }
