-- `judge::lengths::judge_missing` meets its contract. The invariant: the search has come to a named side, and every part below it is there.
use Rattle.std.specs.Prelude.{Err, Ok}
use Prim.Native.Nat.{◌+◌, ◌*◌, ◌≤◌, ◌<◌}
use mathlib.Core.Path.{◌≡◌, sym}
use borrow.Author.Tests.{le-leb, lt-leb}
use native.Mathlib.Omega.{arith}
use lib.Count.{ones}
use Rattle.model.specs.declared.Refusal.TheVariants.{MissingNeighbour}
use Rattle.model.specs.Sides.{named_below, neighbour_length}
use Rattle.model.specs.Judging.{judge_missing}
use Rattle.grid.specs.Counts.{most_samples}
use Rattle.grid.specs.SideLaws.{named_below_lem}
use Rattle.judge.specs.NamedSides.{set_out, given, gone_past, ended, refused_at}
use Rattle.judge.specs.Lengths.{part_there}
use Rattle.judge.proofs.Bounds.{parts_small, named_few}
use Rattle.judge.proofs.lengths.judge_missing.Goals as goal
use Rattle.judge.proofs.lengths.judge_missing.Goals.{After-count_below}

-- a named side is one of those that the mask names
counted : (c : After-count_below) → c.count_below.result + 1 ≤ ones c.args.mask
counted c =
    let side = c.in-Some.ensures.steps.0.1 in
    let come = given c.args.mask (part_there c.args.n c.args.mask c.args.held) c.loop-side.invariant c.in-Some.ensures.steps in
    let below = named_below_lem c.args.mask c.in-Some.side c.requires.1 side (come.is_named side) in
    omega arith

pub loop-side-init : goal.loop-side-init
loop-side-init c = set_out _ _ (cc) (cc)

pub overflow_add-end : goal.overflow_add-end
overflow_add-end c =
    omega (arith, counted c, named_few c.args.n c.args.mask c.requires.0 c.requires.1)

pub overflow_mul-end : goal.overflow_mul-end
overflow_mul-end c =
    let small : (c.count_below.result + 1) * c.sample_length-length.result ≤ most_samples =
    rw c.sample_length-length.ensures (parts_small c.args.n c.args.mask c.requires.0 c.requires.1 (counted c)) in
    omega arith

pub returns-then-held-end : goal.returns-then-held-end
unfolding judge_missing
returns-then-held-end c =
    let args = c.args in
    let side = c.in-Some.side in
    let steps = c.in-Some.ensures.steps in
    let there = part_there args.n args.mask args.held in
    let short : args.held < (named_below args.mask side + 1) * neighbour_length args.n =
    rw (c.count_below.ensures, c.sample_length-length.ensures) at c.if-held-end.true in
    let missing : there side ≡ Err (MissingNeighbour side) =
    rw (lt-leb ((named_below args.mask side + 1) * neighbour_length args.n) args.held short) in
    sym (refused_at args.mask there (given args.mask there c.loop-side.invariant steps) steps.0.1 missing)

pub loop-side-preserved : goal.loop-side-preserved
loop-side-preserved c =
    let args = c.args in
    let side = c.in-Some.side in
    let enough : (named_below args.mask side + 1) * neighbour_length args.n ≤ args.held =
    rw (c.count_below.ensures, c.sample_length-length.ensures) at c.if-held-end.false in
    let there : part_there args.n args.mask args.held side ≡ Ok tt =
    rw (le-leb ((named_below args.mask side + 1) * neighbour_length args.n) args.held enough) in
    gone_past args.mask (part_there args.n args.mask args.held) c.loop-side.invariant c.in-Some.ensures.steps there

pub returns : goal.returns
unfolding judge_missing
returns c =
    let args = c.args in
    sym (ended args.mask (part_there args.n args.mask args.held) c.loop-side.invariant c.in-None.ensures.steps)
