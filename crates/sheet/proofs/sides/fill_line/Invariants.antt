-- `sides::fill_line` meets its contract. The loop's invariant: the line's samples passed stand in the first places, and all beyond is as it was.
use Rattle.std.specs.Prelude.{ℕ, ◌≡◌, List, ◌++◌, Float, drop, get_or}
use Rattle.std.specs.Float.{nan}
use Rattle.laws.specs.Steps.{listed}
use Rattle.model.specs.Record.{samples_of}
use Rattle.lines.specs.declared.Line.{Line}
use Rattle.lines.specs.Lines.{place_on}
use Rattle.sheet.proofs.sides.fill_line.Given as goal

abbrev pub at : List ℕ → Line → ℕ → Float
at bytes line k = get_or (samples_of bytes) (place_on line k) nan

abbrev pub invariant-loop-k : goal.invariant-loop-k
invariant-loop-k l = l.samples ≡ listed (at l.src.bytes.now l.line) l.k ++ drop l.k l.initial.samples
