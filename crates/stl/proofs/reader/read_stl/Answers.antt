-- `read_stl` meets its contract: a refusal leaves the positions; otherwise they are filled and the count is answered.
use Rattle.std.specs.Prelude.{Ok}
use native.Mathlib.Omega.{arith}
use mathlib.Core.Path.{◌≡◌, sym, ap, ◌∙◌}
use lib.ListN.{length}
use Rattle.laws.specs.Exits.{handed_on}
use Rattle.stl.specs.Definition.{file_length, judge_reading, read_answer, read_stl}
use Rattle.stl.specs.Passing.{Readable, readable}
use Rattle.stl.proofs.reader.read_stl.Goals as goal
use Rattle.stl.proofs.reader.read_stl.Goals.{In_ok-judge_reading}

passed : (c : In_ok-judge_reading) → judge_reading c.args.bytes.now (length c.args.positions.now) ≡ Ok tt
passed c = sym c.judge_reading.ensures ∙ c.in_ok-judge_reading.was

is-readable : (c : In_ok-judge_reading) → Readable c.args.bytes.now (length c.args.positions.now)
is-readable c = readable c.args.bytes.now (length c.args.positions.now) (passed c)

pub returns-in_err-judge_reading : goal.returns-in_err-judge_reading
unfolding read_stl
returns-in_err-judge_reading c =
    let refused = sym c.judge_reading.ensures ∙ c.in_err-judge_reading.was in
    rw (handed_on _ _ c.from_residual.ensures.1) (sym (ap (read_answer c.args.bytes.now c.args.positions.now) refused))

pub count_in-count-requires : goal.count_in-count-requires
count_in-count-requires c = (is-readable c).file.long

pub fill_positions-requires : goal.fill_positions-requires
fill_positions-requires c =
    let r = is-readable (goal.at.fill_positions-requires c).In_ok-judge_reading in
    let count = c.count_in-count.ensures.0 in
    (count, (r.file.counted ∙ ap file_length (sym count), omega (arith, r.fits, count)))

pub returns : goal.returns
unfolding read_stl
returns c =
    (λ i. record { answer = Ok (c.count_in-count.ensures.0 i); positions = c.fill_positions.ensures i })
    ∙ sym (ap (read_answer c.args.bytes.now c.args.positions.now) (passed (goal.at.returns c).In_ok-judge_reading))
