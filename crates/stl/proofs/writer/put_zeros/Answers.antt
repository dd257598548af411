-- `put_zeros` meets its contract: what is filled are as many zeros.
use Rattle.std.specs.Prelude.{ℕ, ◌+◌, ◌-◌, ◌≡◌, drop, length, replicate, take}
use Rattle.std.proofs.Common.{◌∙◌, ap, arith, length-drop, length-take-le, sym}
use Rattle.std.proofs.lemmas.List.Edits.{sets}
use Rattle.words.specs.Puts.{put_sets}
use Rattle.stl.specs.Definition.{zeros}
use Rattle.stl.specs.Parts.{length_zeros}
use Rattle.stl.proofs.writer.put_zeros.Goals as goal

pub returns : goal.returns
unfolding zeros
returns c =
    let at = c.args.at in
    let count = c.args.count in
    let bytes = c.args.bytes.now in
    let width : at + count - at ≡ count = omega arith in
    let held : length (take (at + count - at) (drop at bytes)) ≡ count =
    length-take-le (at + count - at) (drop at bytes) (rw length-drop (omega arith)) ∙ width in
    let filled : c.fill.new.self ≡ zeros count =
    c.fill.ensures.after (λ y same. same) ∙ ap (λ (k : ℕ). replicate k 0) held in
    put_sets bytes c.fill.new.self at _ (width ∙ sym (length_zeros count) ∙ ap length (sym filled)) (omega arith)
    ∙ ap (sets bytes at) filled
