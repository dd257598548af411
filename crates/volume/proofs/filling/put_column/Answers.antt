-- `put_column` meets its contract. The invariant: the rows passed are put.
use Prim.Native.Nat.{◌+◌, ◌*◌, ◌<◌}
use native.Mathlib.Omega.{arith}
use mathlib.Core.Path.{◌≡◌, refl, ◌∙◌}
use lib.ListN.{length, length-set}
use Rattle.volume.specs.Putting.{no_column, column_more}
use Rattle.volume.proofs.filling.put_column.Goals as goal
use Rattle.volume.proofs.filling.put_column.Goals.{In-loop-k}

-- there is room for the sample of this turn
room : (c : In-loop-k) → let args = c.args in
    args.column.at + args.column.wide * c.loop-k.k < length args.samples.now
room c = c.requires.room c.loop-k.k (omega arith)

pub loop-k-init : goal.loop-k-init
loop-k-init c =
    let args = c.args in
    (omega arith, refl, no_column args.bytes.now args.xs.now args.row args.column.at args.column.wide args.samples.now)

pub offset_bounds-xs-k : goal.offset_bounds-xs-k
offset_bounds-xs-k c = omega arith

pub bounds-xs-k : goal.bounds-xs-k
bounds-xs-k c = omega (arith, c.requires.long)

pub overflow_add-row : goal.overflow_add-row
overflow_add-row c =
    omega (arith, (c.requires.readable c.loop-k.k (omega arith)).inside)

pub sample_at-requires : goal.sample_at-requires
sample_at-requires c =
    c.requires.readable c.loop-k.k (omega arith)

pub overflow_mul-samples : goal.overflow_mul-samples
overflow_mul-samples c = omega (arith, room (goal.at.overflow_mul-samples c).In-loop-k)

pub overflow_add-samples : goal.overflow_add-samples
overflow_add-samples c = omega (arith, room (goal.at.overflow_add-samples c).In-loop-k)

pub offset_bounds-samples-column : goal.offset_bounds-samples-column
offset_bounds-samples-column c = omega (arith, room (goal.at.offset_bounds-samples-column c).In-loop-k)

pub bounds-samples-column : goal.bounds-samples-column
bounds-samples-column c = omega (arith, room (goal.at.bounds-samples-column c).In-loop-k)

pub overflow_step-k : goal.overflow_step-k
overflow_step-k c = omega arith

pub loop-k-smaller : goal.loop-k-smaller
loop-k-smaller c = omega arith

pub loop-k-preserved : goal.loop-k-preserved
loop-k-preserved c =
    let turn = c.loop-k in
    let args = c.args in
    let x = c.sample_at.result in (
      omega arith,
      length-set turn.samples (args.column.at + args.column.wide * turn.k) x ∙ turn.invariant.1,
      column_more args.bytes.now args.xs.now args.row args.column.at args.column.wide args.samples.now turn.k turn.samples x c.requires.some
          (omega (arith, room (goal.at.loop-k-preserved c).In-loop-k)) c.sample_at.ensures turn.invariant.2,
    )

pub shape_of-samples : goal.shape_of-samples
shape_of-samples c = c.loop-k.invariant.1

pub returns : goal.returns
returns c =
    let turn = c.loop-k in
    let all : turn.k ≡ c.args.column.rows = omega arith in
    rw all at turn.invariant.2
