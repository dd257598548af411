-- `reading` meets its contract: a point that was sampled is read at its place, with its kind; farther out none is read.
use Rattle.std.specs.Prelude.{ℕ, ◌≤◌, ◌≡◌, true, Err, Ok, get_or}
use Rattle.std.proofs.Common.{◌∙◌, ap, arith, sym}
use Rattle.std.specs.Float.{nan}
use Rattle.model.specs.Limits.{most_subdivisions}
use Rattle.model.specs.Samples.{sampled}
use Rattle.model.specs.Record.{samples_of}
use Rattle.grid.specs.Kinds.{reading_value, reading_never}
use Rattle.record.specs.Accepted.{accepted}
use Rattle.viewer.proofs.reading.Goals as goal
use Rattle.viewer.proofs.reading.Goals.{Start, Then-is_sampled}

few : (c : Start) → c.args.src.now.header.block.subdivisions ≤ most_subdivisions
few c = rw c.args.src.now.told (accepted _ c.args.src.now.passed).few

was_sampled : (c : Then-is_sampled) → let a = c.args in
    sampled a.src.now.header.block.subdivisions a.x a.y a.z ≡ true
was_sampled c = sym c.is_sampled.ensures ∙ c.if-is_sampled.true

pub is_sampled-requires : goal.is_sampled-requires
is_sampled-requires c = omega (arith, few (goal.at.is_sampled-requires c).Start)

pub place-requires : goal.place-requires
place-requires c = (omega (arith, few (goal.at.place-requires c).Start), was_sampled c)

pub kind-requires : goal.kind-requires
kind-requires c = omega (arith, few (goal.at.kind-requires c).Start)

pub outside_count-requires : goal.outside_count-requires
outside_count-requires c = omega (arith, few (goal.at.outside_count-requires c).Start)

pub returns-then-is_sampled : goal.returns-then-is_sampled
returns-then-is_sampled c =
    let a = c.args in
    let samples = samples_of a.src.now.bytes.now in
    let value = c.sample.ensures ∙ ap (λ (k : ℕ). get_or samples k nan) c.place.ensures.0 in
    (λ i. Ok (value i, c.kind.ensures i))
    ∙ sym (reading_value _ a.x a.y a.z samples (was_sampled (goal.at.returns-then-is_sampled c).Then-is_sampled))

pub returns-else-is_sampled : goal.returns-else-is_sampled
returns-else-is_sampled c =
    let a = c.args in
    ap Err c.outside_count.ensures
    ∙ sym (reading_never _ a.x a.y a.z (samples_of a.src.now.bytes.now) (sym c.is_sampled.ensures ∙ c.if-is_sampled.false))
