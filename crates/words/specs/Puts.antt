-- A part of a list written over: the same as its places set one after another.
use Rattle.std.specs.Prelude.{ℕ, ◌+◌, ◌≤◌, ◌≡◌, List, ◌++◌, length, drop, take}
use Rattle.std.proofs.Common.{sym, ap, ◌∙◌, append_assoc, drop-drop}
use Rattle.std.proofs.lemmas.List.Edits.{sets, sets-eq}
use borrow.Rule.Slice.PartMut.{put_mid}

pub put_sets : {A : Type 0} (l vs : List A) (at k : ℕ) → k ≡ length vs → at + k ≤ length l → put_mid at k l vs ≡ sets l at vs
put_sets l vs at k e h =
    ap (λ (rest : List _). take at l ++ (vs ++ rest)) (drop-drop k at l)
    ∙ sym (append_assoc (take at l) vs (drop (at + k) l))
    ∙ ap (λ (n : ℕ). (take at l ++ vs) ++ drop (at + n) l) e
    ∙ sym (sets-eq vs l at (rw e at h))
