-- `one_side::line_lies` meets its contract. The loop's invariant: every sample passed lies as wanted.
use Rattle.std.specs.Prelude.{ℕ, ◌≡◌, Bool, Float, List, true, get_or}
use Rattle.std.specs.Float.{nan}
use Rattle.laws.specs.Below.{all_below}
use Rattle.model.specs.Record.{samples_of}
use Rattle.model.specs.Blank.{lies_as}
use Rattle.lines.specs.declared.Line.{Line}
use Rattle.lines.specs.Lines.{place_on}
use Rattle.viewer.proofs.one_side.line_lies.Given as goal

-- whether the k-th sample lies as wanted
abbrev test : List ℕ → Float → Bool → Line → ℕ → Bool
test bytes threshold wanted line k = lies_as wanted threshold (get_or (samples_of bytes) (place_on line k) nan)

abbrev pub invariant-loop-k : goal.invariant-loop-k
invariant-loop-k l = all_below (test l.src.bytes.now l.src.header.threshold l.wanted l.line) l.k ≡ true
