-- The place stays within the list.
use Rattle.std.proofs.Common.{length, ◌≤◌, ◌≡◌}
use Rattle.replay.proofs.calls.fill.Given as goal

abbrev pub invariant-loop-run : goal.invariant-loop-run
invariant-loop-run l =
    (goal.iterator-loop-run).can_next l.run-iterator × (goal.iterator-loop-run).is_finite l.run-iterator
    × (l.at ≤ length l.samples) × (length l.samples ≡ length l.initial.samples)
