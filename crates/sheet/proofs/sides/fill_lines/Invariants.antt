-- `sides::fill_lines` meets its contract. The loop's invariant: the lines passed stand one after another.
use Rattle.std.specs.Prelude.{ℕ, ◌≡◌, ◌+◌, ◌*◌, List, Float}
use Rattle.std.proofs.lemmas.List.Edits.{sets}
use Rattle.laws.specs.Counting.{gather}
use Rattle.record.specs.declared.passed.Record.{Record}
use Rattle.lines.specs.Lines.{fine_line}
use Rattle.sheet.specs.Fine.{line_samples}
use Rattle.sheet.proofs.sides.fill_lines.Given as goal

abbrev pub line : Record → ℕ → ℕ → ℕ → List Float
line src side u i = line_samples src.bytes.now (fine_line src.header side (2 * u + i))

abbrev pub invariant-loop-i : goal.invariant-loop-i
invariant-loop-i l = l.samples ≡ sets l.initial.samples 0 (gather (line l.src l.side l.u) l.i)
