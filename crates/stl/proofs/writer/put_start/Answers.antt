-- `put_start` meets its contract: the count's bytes stand right after the header's.
use Prim.Native.Nat.{ℕ}
use mathlib.Core.Path.{ap, ◌∙◌}
use mathlib.Core.List.{List}
use lib.Seq.{sets}
use Rattle.model.specs.Words.{little_bytes}
use Rattle.stl.specs.Definition.{header_length}
use Rattle.stl.specs.Parts.{start_put}
use Rattle.stl.proofs.writer.put_start.Goals as goal

pub returns : goal.returns
returns c =
    let args = c.args in
    c.put_word.ensures
    ∙ ap (λ (l : List ℕ). sets l header_length (little_bytes args.count)) c.put_zeros.ensures ∙ start_put args.bytes.now args.count
