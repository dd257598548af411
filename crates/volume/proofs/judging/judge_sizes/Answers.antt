-- `judge_sizes` meets its contract.
use mathlib.Core.Path.{◌∙◌}
use mathlib.Core.Bool.{◌&&◌}
use Rattle.model.specs.declared.Refusal.TheVariants.{VolumeSize}
use Rattle.model.specs.Refusals.{unless}
use Rattle.volume.proofs.judging.judge_sizes.Goals as goal

pub returns : goal.returns
returns c =
    c.unless.ensures ∙ (λ i. unless (c.size_fits.ensures i && c.size_fits-2.ensures i && c.size_fits-3.ensures i) VolumeSize)
