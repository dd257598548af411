-- `Cutout::judge_volume` meets its contract: each judge in turn refuses, and that is the first refusal of the chain, or passes and the chain goes on.
use native.Mathlib.Omega.{arith}
use mathlib.Core.Path.{sym, ap, ◌∙◌}
use mathlib.Core.Bool.{Bool}
use Rattle.laws.specs.Exits.{handed_on}
use Rattle.model.specs.declared.Refusal.TheVariants.{FirstPoint}
use Rattle.model.specs.Refusals.{unless, or_else}
use Rattle.volume.specs.Definition.{judge_volume_length, judge_volume}
use Rattle.volume.specs.Known.{Few, sizes_fit}
use Rattle.volume.proofs.places.Cutout.judge_volume.Goals as goal
use Rattle.volume.proofs.places.Cutout.judge_volume.Goals.{In_ok-judge_sizes}

few : (c : In_ok-judge_sizes) → Few c.args.self.sizes
few c = sizes_fit c.args.self.sizes (sym c.judge_sizes.ensures ∙ c.in_ok-judge_sizes.was)

pub returns-in_err-judge_subdivisions : goal.returns-in_err-judge_subdivisions
unfolding judge_volume
returns-in_err-judge_subdivisions c =
    rw (handed_on _ _ c.from_residual.ensures.1, ← c.judge_subdivisions.ensures, c.in_err-judge_subdivisions.was)

pub returns-in_err-judge_sizes : goal.returns-in_err-judge_sizes
unfolding judge_volume
returns-in_err-judge_sizes c =
    rw (
      handed_on _ _ c.from_residual-in_err-judge_sizes.ensures.1,
      ← c.judge_subdivisions.ensures,
      c.in_ok-judge_subdivisions.was,
      ← c.judge_sizes.ensures,
      c.in_err-judge_sizes.was,
    )

pub overflow_mul-whole : goal.overflow_mul-whole
overflow_mul-whole c = omega (arith, few (goal.at.overflow_mul-whole c).In_ok-judge_sizes)

pub overflow_mul-whole-2 : goal.overflow_mul-whole-2
overflow_mul-whole-2 c = omega (arith, few (goal.at.overflow_mul-whole-2 c).In_ok-judge_sizes)

pub overflow_mul-whole-3 : goal.overflow_mul-whole-3
overflow_mul-whole-3 c = omega (arith, few (goal.at.overflow_mul-whole-3 c).In_ok-judge_sizes)

pub returns : goal.returns
unfolding judge_volume
returns c =
    let args = c.args in
    rw (← c.judge_subdivisions.ensures, c.in_ok-judge_subdivisions.was, ← c.judge_sizes.ensures, c.in_ok-judge_sizes.was)
    (c.judge_bounds.ensures
    ∙ ap (λ (inside : Bool). or_else (judge_volume_length args.held args.self.sizes) (unless inside FirstPoint)) c.is_in_volume.ensures)
