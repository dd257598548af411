-- `Cutout::judge` meets its contract: each judge in turn refuses, and that is the first refusal of the chain, or passes and the chain goes on.
use Prim.Native.Nat.{ℕ}
use native.Mathlib.Omega.{arith}
use mathlib.Core.Path.{sym, ap, ◌∙◌}
use lib.ListN.{length}
use Rattle.laws.specs.Exits.{handed_on}
use Rattle.model.specs.Judging.{judge_buffer}
use Rattle.volume.specs.Definition.{judge_cut}
use Rattle.volume.specs.Known.{Known, known}
use Rattle.volume.proofs.places.Cutout.judge.Goals as goal
use Rattle.volume.proofs.places.Cutout.judge.Goals.{In_ok-judge_volume}

is_known : (c : In_ok-judge_volume) → Known (length c.args.bytes.now) c.args.self.sizes c.args.self.n c.args.self.first
is_known c = known (length c.args.bytes.now) c.args.self.sizes c.args.self.n c.args.self.first (sym c.judge_volume.ensures ∙ c.in_ok-judge_volume.was)

pub returns-in_err-judge_volume : goal.returns-in_err-judge_volume
unfolding judge_cut
returns-in_err-judge_volume c = rw (handed_on _ _ c.from_residual.ensures.1, ← c.judge_volume.ensures, c.in_err-judge_volume.was)

pub judge_taken-requires : goal.judge_taken-requires
judge_taken-requires c = is_known (goal.at.judge_taken-requires c).In_ok-judge_volume

pub returns-in_err-judge_taken : goal.returns-in_err-judge_taken
unfolding judge_cut
returns-in_err-judge_taken c =
    rw (
      handed_on _ _ c.from_residual-in_err-judge_taken.ensures.1,
      ← c.judge_volume.ensures,
      c.in_ok-judge_volume.was,
      ← c.judge_taken.ensures,
      c.in_err-judge_taken.was,
    )

pub sample_length-requires : goal.sample_length-requires
sample_length-requires c = omega (arith, (is_known (goal.at.sample_length-requires c).In_ok-judge_volume).cut.few)

pub returns : goal.returns
unfolding judge_cut
returns c =
    rw (← c.judge_volume.ensures, c.in_ok-judge_volume.was, ← c.judge_taken.ensures, c.in_ok-judge_taken.was)
    (c.judge_buffer.ensures ∙ ap (λ (k : ℕ). judge_buffer k c.args.room) c.sample_length.ensures)
