-- `put_line` meets its contract. The invariant: the columns passed are put.
use Rattle.std.proofs.Common.{ℕ, ◌<◌, ◌≤◌, ◌≡◌, ◌∙◌, List, arith, length-take-le, take}
use Rattle.std.proofs.lemmas.List.{get_or-take}
use lib.ListN.{length, get_or}
use Rattle.volume.specs.Putting.{line_more}
use Rattle.volume.proofs.filling.put_line.Goals as goal

-- a place of the part is that of the list
in_part : (count j : ℕ) (along : List ℕ) → count ≤ length along → j < length (take count along) → (j < count) × (get_or (take count along) j 0 ≡ get_or along j 0)
in_part count j along room l =
    let here : j < count = omega (arith, length-take-le count along room) in
    (here, get_or-take count along j 0 here)

pub overflow_add-fixed : goal.overflow_add-fixed
overflow_add-fixed c =
    let pre = c.requires in
    let here = in_part c.args.count c.loop-j.j c.args.along.now pre.long_along c.loop-j-test.true in
    omega (arith, here.1, (pre.readable c.loop-j.j 0 here.0 pre.some).inside)

pub put_column-requires : goal.put_column-requires
put_column-requires c =
    let pre = c.requires in
    let turn = c.loop-j in
    let here = in_part c.args.count turn.j c.args.along.now pre.long_along c.loop-j-test.true in
    record {
      long = pre.long;
      some = omega (arith, here.0, pre.narrow);
      room = λ k l. omega (arith, pre.room turn.j k here.0 l, turn.invariant.0);
      readable = λ k l. rw here.1 (pre.readable turn.j k here.0 l);
    }

pub loop-j-preserved : goal.loop-j-preserved
loop-j-preserved c =
    let pre = c.requires in
    let turn = c.loop-j in
    let args = c.args in
    let after = c.put_column.new.samples in
    let here = in_part args.count turn.j args.along.now pre.long_along c.loop-j-test.true in (
      c.put_column.auto.samples ∙ turn.invariant.0,
      line_more args.bytes.now args.xs.now args.fixed args.along.now args.first.at args.first.wide args.first.rows args.samples.now turn.j
          turn.samples after (omega (arith, here.0, pre.narrow)) (rw here.1 at c.put_column.ensures) turn.invariant.1,
    )

pub returns : goal.returns
returns c =
    let turn = c.loop-j in
    let all : turn.j ≡ c.args.count = omega (arith, c.loop-j-test.false, length-take-le c.args.count c.args.along.now c.requires.long_along) in
    rw all at turn.invariant.1
