-- T4: for two neighbouring cells the directed triangle sides over their common face cancel, and sides not on a face cancel within the cell.
use Rattle.std.specs.Prelude.{◌≡◌, refl, Bool, List, [], ◌∷◌, ℕ, ◌+◌, ◌<◌, T, eqb, get_or}
use Rattle.std.proofs.Common.{ap, sym, arith, eqb→eq}
use Rattle.tables.specs.Corners.{bit, regular_edges}
use Rattle.laws.specs.Tests.{both, both_left, both_right, either, either_left, either_none, then, then_holds, below, all, all₂}
use Rattle.laws.specs.Counting.{has, every, every_item, only, matches, matched, with_each, each_two, two_items, weighed}
use Rattle.tables.specs.RegularRows as regular
use Rattle.tables.specs.Cases.{regular_class, regular_codes, regular_cell}
use Rattle.tables.specs.Sides.{side, back, sides_of, row_sides, regular_sides, runs, far_ends, near_edge, common_face, near_side, far_edge, far_side, near_corner, near_bits, far_bits, spread, shown, nears, fars, inflow, outflow}
use Rattle.tables.specs.RulesSides.{Agree, Apart}

-- ---- for a block: whatever a side weighs, a case's sides with those that its faces show weigh as much as the same sides turned round

flows_match : T (below (λ case. matches (inflow case) (outflow case)) 256)
unfolding regular.classes regular.cell_rows regular.vertex_rows regular_class regular_codes regular_cell side back sides_of row_sides regular_sides bit regular_edges far_ends near_edge near_side only far_side near_corner near_bits far_bits spread shown nears fars inflow outflow both
flows_match = tt

pub balanced : (weight : ℕ → ℕ) (case : ℕ) → case < 256 → weighed weight (inflow case) ≡ weighed weight (outflow case)
balanced weight case h =
    matched weight (inflow case) (outflow case) (all (λ case. matches (inflow case) (outflow case)) 256 flows_match case h)

-- ---- two neighbours: each case's face, against what a face with the same four bits shows

-- the four edges of a near face
unfoldable face_edges : ℕ → List ℕ
face_edges d =
    get_or ((0x02 ∷ 0x04 ∷ 0x26 ∷ 0x46 ∷ []) ∷ (0x01 ∷ 0x04 ∷ 0x15 ∷ 0x45 ∷ []) ∷ (0x01 ∷ 0x02 ∷ 0x13 ∷ 0x23 ∷ []) ∷ []) d []

near_edges_four : T (below (λ d. every (λ e. then (near_edge d e) (has e (face_edges d))) regular_edges) 3)
unfolding regular_edges bit far_ends near_edge face_edges both then
near_edges_four = tt

near_face_edge : (d e : ℕ) → d < 3 → T (near_edge d e) → T (has e (face_edges d))
unfolding near_edge
near_face_edge d e hd t =
    then_holds (near_edge d e) _
    (every_item (λ e. then (near_edge d e) (has e (face_edges d))) regular_edges
    (all (λ d. every (λ e. then (near_edge d e) (has e (face_edges d))) regular_edges) 3 near_edges_four d hd) e (both_right _ _ t))
    t

-- of the sides between two edges: those on the near face are, up to sides that cancel, what the face shows; those on the far face are that
-- turned round
record FaceRight (d : ℕ) (sides near far : List ℕ) (p q : ℕ) : Type 0 where
  on_near : runs sides p q + runs near q p ≡ runs sides q p + runs near p q
  on_far : runs sides (far_edge d p) (far_edge d q) + runs far p q ≡ runs sides (far_edge d q) (far_edge d p) + runs far q p

unfoldable face_test : ℕ → List ℕ → List ℕ → List ℕ → ℕ → ℕ → Bool
face_test d sides near far p q =
    both (eqb (runs sides p q + runs near q p) (runs sides q p + runs near p q))
    (eqb (runs sides (far_edge d p) (far_edge d q) + runs far p q) (runs sides (far_edge d q) (far_edge d p) + runs far q p))

face_told : (d : ℕ) (sides near far : List ℕ) (p q : ℕ) → T (face_test d sides near far p q) → FaceRight d sides near far p q
unfolding face_test
face_told d sides near far p q t = record { on_near = eqb→eq _ _ (both_left _ _ t); on_far = eqb→eq _ _ (both_right _ _ t) }

unfoldable faces_test : ℕ → ℕ → Bool
faces_test case d = each_two (face_test d (regular_sides case) (nears d case) (shown d (far_bits d case))) (face_edges d)

faces_right : T (below (λ case. below (faces_test case) 3) 256)
unfolding regular.classes regular.cell_rows regular.vertex_rows regular_class regular_codes regular_cell side sides_of row_sides regular_sides runs bit regular_edges far_ends near_edge near_side only far_edge near_corner near_bits far_bits spread shown nears face_edges face_test faces_test with_each each_two both
faces_right = tt

face_right : (d case p q : ℕ) → d < 3 → case < 256 → T (near_edge d p) → T (near_edge d q)
    → FaceRight d (regular_sides case) (nears d case) (shown d (far_bits d case)) p q
unfolding faces_test
face_right d case p q hd hc np nq =
    let sides = regular_sides case in
    let near = nears d case in
    let far = shown d (far_bits d case) in
    two_items (face_test d sides near far) (FaceRight d sides near far) (face_told d sides near far)
    (λ p. record { on_near = refl; on_far = refl })
    (λ p q r. record { on_near = sym r.on_near; on_far = sym r.on_far })
    (face_edges d) (all₂ faces_test 256 3 faces_right case d hc hd) p q (near_face_edge d p hd np) (near_face_edge d q hd nq)

same_bits : (d case next : ℕ) → Agree d case next → far_bits d case ≡ near_bits d next
unfolding near_bits far_bits
same_bits d case next agree =
    omega (arith, agree 0 (omega arith), agree 1 (omega arith), agree 2 (omega arith), agree 3 (omega arith))

-- the next cell in direction d agrees with this one on the common face: for any two edges of that face, as many sides of the two cells run one way
-- as the other
pub neighbours_cancel : (d case next p q : ℕ) → d < 3 → case < 256 → next < 256 → Agree d case next → T (near_edge d p) → T (near_edge d q)
    → runs (regular_sides case) (far_edge d p) (far_edge d q) + runs (regular_sides next) p q
    ≡ runs (regular_sides case) (far_edge d q) (far_edge d p) + runs (regular_sides next) q p
unfolding nears
neighbours_cancel d case next p q hd hc hn agree np nq =
    let face = ap (shown d) (same_bits d case next agree) in
    omega (
      arith,
      (face_right d case p q hd hc np nq).on_far,
      (face_right d next p q hd hn np nq).on_near,
      ap (λ (l : List ℕ). runs l p q) face,
      ap (λ (l : List ℕ). runs l q p) face,
    )

-- ---- within a cell

unfoldable inner_test : List ℕ → ℕ → ℕ → Bool
inner_test sides p q =
    either (eqb (runs sides p q) (runs sides q p)) (either (common_face 0 p q) (either (common_face 1 p q) (common_face 2 p q)))

inners_right : T (below (λ case. each_two (inner_test (regular_sides case)) regular_edges) 256)
unfolding regular.classes regular.cell_rows regular.vertex_rows regular_class regular_codes regular_cell side sides_of row_sides regular_sides runs bit regular_edges far_ends common_face inner_test with_each each_two both either
inners_right = tt

inner_told : (sides : List ℕ) (p q : ℕ) → T (inner_test sides p q) → Apart p q → runs sides p q ≡ runs sides q p
unfolding inner_test
inner_told sides p q t apart =
    eqb→eq _ _
    (either_left _ _ t
    (either_none _ _ (apart 0 (omega arith)) (either_none _ _ (apart 1 (omega arith)) (apart 2 (omega arith)))))

apart_turned : (p q : ℕ) → Apart p q → Apart q p
unfolding common_face
apart_turned p q apart d hd t =
    let e : far_ends d q + far_ends d p ≡ far_ends d p + far_ends d q = omega arith in
    apart d hd (rw e at t)

-- for two edges that lie on no common face, as many sides run one way as the other
pub inner_cancel : (case p q : ℕ) → case < 256 → T (has p regular_edges) → T (has q regular_edges) → Apart p q
    → runs (regular_sides case) p q ≡ runs (regular_sides case) q p
inner_cancel case p q hc hp hq =
    let sides = regular_sides case in
    two_items (inner_test sides) (λ p q. Apart p q → runs sides p q ≡ runs sides q p) (inner_told sides)
    (λ p apart. refl)
    (λ p q r apart. sym (r (apart_turned q p apart)))
    regular_edges (all (λ case. each_two (inner_test (regular_sides case)) regular_edges) 256 inners_right case hc) p q hp hq
