-- `one_side::side_lies` meets its contract. The loop's invariant: every line passed lies as wanted.
use Rattle.std.specs.Prelude.{ℕ, ◌≡◌, Bool, true, List}
use Rattle.laws.specs.Below.{all_below}
use Rattle.model.specs.declared.Header.{Header}
use Rattle.model.specs.Record.{samples_of}
use Rattle.lines.specs.Lines.{fine_line}
use Rattle.viewer.specs.Lines.{line_as}
use Rattle.viewer.proofs.one_side.side_lies.Given as goal

-- whether a line of the side lies as wanted
abbrev test : List ℕ → Header → Bool → ℕ → ℕ → Bool
test src header wanted side u2 = line_as wanted header.threshold (samples_of src) (fine_line header side u2)

abbrev pub invariant-loop-u2 : goal.invariant-loop-u2
invariant-loop-u2 l = all_below (test l.src.bytes.now l.src.header l.wanted l.side) l.u2 ≡ true
