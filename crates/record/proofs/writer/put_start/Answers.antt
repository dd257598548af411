-- `put_start` meets its contract: the length field's four bytes, then three bytes more.
use Prim.Native.Nat.{ℕ}
use mathlib.Core.Path.{ap, ◌∙◌}
use mathlib.Core.List.{List, [], ◌∷◌}
use native.Mathlib.Omega.{arith}
use lib.ListN.{length-set}
use lib.Seq.{sets}
use Rattle.model.specs.Words.{word_bytes}
use Rattle.model.specs.Record.{version_at}
use Rattle.laws.specs.Lists.{sets_append}
use Rattle.record.specs.Bytes.{length_field}
use Rattle.record.proofs.writer.put_start.Goals as goal

pub bounds-bytes-5 : goal.bounds-bytes-5
bounds-bytes-5 c = simp length-set (omega arith)

pub bounds-bytes-6 : goal.bounds-bytes-6
bounds-bytes-6 c = simp length-set (omega arith)

pub returns : goal.returns
unfolding word_bytes
returns c =
    let args = c.args in
    let h = args.header in
    let rest : List ℕ = 1 ∷ h.block.subdivisions ∷ h.mask ∷ [] in
    ap (λ (l : List ℕ). sets l version_at rest) c.put_word.ensures
    ∙ sets_append args.bytes.now 0 (word_bytes (length_field args.count)) rest
