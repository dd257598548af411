-- The words that T5 is stated in. The rules themselves stand in proofs/RulesTransition.
use Rattle.std.specs.Prelude.{List, [], ◌∷◌, ℕ}

-- the codes that are used: eight on the border of the fine face, low sides first; four on that of the coarse face; four inside the fine face
unfoldable pub transition_used : List ℕ
transition_used =
    0x2301 ∷ 0x2412 ∷ 0x1503 ∷ 0x1636 ∷ 0x8367 ∷ 0x8478 ∷ 0x8525 ∷ 0x8658 ∷
    0x289A ∷ 0x199B ∷ 0x88BC ∷ 0x89AC ∷
    0x4514 ∷ 0x4334 ∷ 0x4445 ∷ 0x4647 ∷
    []

-- their edges
unfoldable pub transition_edges : List ℕ
transition_edges =
    0x01 ∷ 0x12 ∷ 0x03 ∷ 0x36 ∷ 0x67 ∷ 0x78 ∷ 0x25 ∷ 0x58 ∷
    0x9A ∷ 0x9B ∷ 0xBC ∷ 0xAC ∷
    0x14 ∷ 0x34 ∷ 0x45 ∷ 0x47 ∷
    []
