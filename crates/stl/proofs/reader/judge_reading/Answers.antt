-- `judge_reading` meets its contract: the file is refused, or it passes and 14 goes by its count.
use Rattle.std.specs.Prelude.{ℕ, ◌*◌, ◌≡◌, Ok}
use Rattle.std.proofs.Common.{◌∙◌, ap, sym}
use Rattle.laws.specs.Exits.{handed_on}
use Rattle.model.specs.Judging.{judge_buffer}
use Rattle.stl.specs.Definition.{float_count, judge_file, judge_reading}
use Rattle.stl.specs.Passing.{whole}
use Rattle.stl.proofs.reader.judge_reading.Goals as goal
use Rattle.stl.proofs.reader.judge_reading.Goals.{In_ok-judge_file}

passed : (c : In_ok-judge_file) → judge_file c.args.bytes.now ≡ Ok tt
passed c = sym c.judge_file.ensures ∙ c.in_ok-judge_file.was

pub returns-in_err-judge_file : goal.returns-in_err-judge_file
unfolding judge_reading
returns-in_err-judge_file c = rw (handed_on _ _ c.from_residual.ensures.1, ← c.judge_file.ensures, c.in_err-judge_file.was)

pub count_in-requires : goal.count_in-requires
count_in-requires c = (whole c.args.bytes.now (passed c)).long

pub returns : goal.returns
unfolding judge_reading
returns c =
    rw (passed (goal.at.returns c).In_ok-judge_file) (c.judge_buffer.ensures ∙ ap (λ (count : ℕ). judge_buffer (float_count * count) c.args.room) c.count_in.ensures.0)
