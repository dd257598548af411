-- The theorem: no gap at the finer face.
use Rattle.std.proofs.Math.Path.{◌≡◌, refl, ap, subst}
use Rattle.std.proofs.Common.{sym, ◌∙◌, ⊎_elim}
use Rattle.std.specs.Prelude.{Bool, cond, eqb}
use Rattle.std.proofs.Math.Bool.{true, false}
use Prim.Native.Nat.{ℕ, zero, suc, ◌+◌, ◌-◌, ◌*◌, ◌/◌, ◌%◌, ◌≤◌, ◌<◌}
use Rattle.std.proofs.Math.Decide.{ℕ_discrete}
use native.Mathlib.Omega.{arith}
use Rattle.std.proofs.Math.Dec.{T}
use Rattle.laws.specs.Steps.{total}
use Rattle.laws.specs.Tests.{both_left, both_right}
use Rattle.laws.specs.Counting.{pick}
use Rattle.laws.specs.Sums.{total_same, square, square_none, border}
use Rattle.laws.specs.Squares.{total_two, total_reverse, square_swap, square_same}
use Rattle.tables.specs.Sides.{near_edge, near_side, shown}
use Rattle.tables.specs.FinerSides.{low_edge}
use Rattle.model.specs.declared.Xyz.{Xyz}
use Rattle.model.specs.Limits.{side_count}
use Rattle.model.specs.Sides.{named}
use Rattle.model.specs.Star.{Star, subdivisions}
use Rattle.closed.specs.Clauses.{Edge, number, edges_most, OfBlock, OfCell, InFace, part, runs}
use Rattle.closed.specs.Places.{number_one}
use Rattle.closed.specs.Cells.{code_edge, byte_own}
use Rattle.closed.specs.Weighing.{weighed_never}
use Rattle.closed.specs.Flux.{shown_near, weight, face_bits, face_runs}
use Rattle.closed.specs.Outer.{face_of_block, near_in_face}
use Rattle.closed.proofs.NoHole.{balanced_with_border}
use Rattle.finer.specs.Labels.{label_of, labelled_mesh}
use Rattle.finer.specs.Clauses.{IsSide, Agreed, InSide, CoarseClosed, NoGap}
use Rattle.finer.specs.SideLabels.{IsFine, fine_or_coarse, fine_label, edge_right}
use Rattle.finer.proofs.SideWhole.{labelled_sound, regular_lying}
use Rattle.finer.proofs.Faces.{face_at, is_face, part_is, half_small, number_below}
use Rattle.finer.specs.SideFlux.{side_runs, coarse_runs}
use Rattle.finer.proofs.SideCounted.{named_runs, labelled_counted}
use Rattle.finer.proofs.Apart.{fine_above, low_own, one_coarse}
use Rattle.finer.proofs.Quiet.{coarse_left}
use Rattle.finer.specs.Planes.{one_edge}
use Rattle.finer.proofs.Borders.{border_quiet, fine_quiet, border_closed}
use Rattle.finer.proofs.CoarseFaces.{shown_at, coarse_shows}

-- ---- between two coarse labels, a side comes down to its coarse faces

module _ (s : Star) (side g h : ℕ) (lg : g < edges_most s) (lh : h < edges_most s) (differ : g ≡ h → ⊥) where
  -- a fine edge has no such label
  fine_not : (u v e k : ℕ) → IsFine e → k < edges_most s → label_of s side u v e ≡ k → ⊥
  fine_not u v e k f l same =
      let up : edges_most s ≤ label_of s side u v e = rw (fine_label s side u v e f) (fine_above s side _ _ _) in
      omega arith

  -- and of two edges on a border, one is fine or they are the same
  border_not : (d u v p q : ℕ) → d < 2 → T (low_edge d p) → T (low_edge d q) → label_of s side u v p ≡ g → label_of s side u v q ≡ h → ⊥
  border_not d u v p q hd tp tq x y =
      ⊎_elim (λ f. fine_not u v p g f lg x)
      (λ c.
      ⊎_elim (λ f. fine_not u v q h f lh y)
      (λ c'. differ (sym x ∙ ap (label_of s side u v) (one_coarse d p q hd tp tq c c') ∙ y))
      (fine_or_coarse q (edge_right q (low_own d q tq)).face_in))
      (fine_or_coarse p (edge_right p (low_own d p tp)).face_in)

  coarse_law : let n = subdivisions s in
      square (side_runs s side g h) n + square (coarse_runs s side h g) n ≡ square (side_runs s side h g) n + square (coarse_runs s side g h) n
  coarse_law =
      coarse_left s side g h
      (λ u v hu hv. fine_quiet s side u v g h (λ p q o x y. fine_not u v p g o.fine.0 lg x))
      (λ d c k hd at hk. border_quiet s side _ _ g h d (λ p q t x y. border_not d _ _ p q hd t.0 t.1 x y))

-- ---- what the six outer faces show, by side

module _ (s : Star) where
  abbrev n : ℕ
  n = subdivisions s

  shows : ℕ → ℕ → ℕ → ℕ
  shows g h side = square (shown_at s g h side) n

  border_shows : (g h : ℕ) → border (face_runs s g h) (face_runs s h g) n ≡ total (shows g h) side_count
  unfolding face_at shown_at shows
  border_shows g h =
      omega (
        arith,
        square_swap (λ u v. face_runs s h g 0 0 v (n - suc u)) n,
        total_same (λ y. total (λ z. face_runs s h g 0 0 y (n - suc z)) n) (λ y. total (face_runs s h g 0 0 y) n) n (λ y l. total_reverse (face_runs s h g 0 0 y) n),
        square_swap (λ u v. face_runs s g h 0 n v u) n,
        total_same (λ x. total (λ z. face_runs s h g 1 x 0 (n - suc z)) n) (λ x. total (face_runs s h g 1 x 0) n) n (λ x l. total_reverse (face_runs s h g 1 x 0) n),
        total_reverse (λ x. total (λ y. face_runs s g h 2 x y n) n) n,
      )

  side_shows : (side g h : ℕ) → IsSide s side → Agreed s → square (coarse_runs s side g h) n ≡ shows g h side
  unfolding shows
  side_shows side g h a agreed =
      square_same (coarse_runs s side g h) (shown_at s g h side) n
      (λ u v hu hv. coarse_shows s side g h u v (record { side_in = a.side_in; side_named = a.side_named; u_in = hu; v_in = hv }) agreed)

-- ---- an outer face that has not both edges

-- the faces of two sides across one direction are apart
sides_apart : (n k l : ℕ) → 0 < n → k / 2 ≡ l / 2 → k % 2 * n ≡ l % 2 * n → k ≡ l
sides_apart n k l h e f = go (k % 2) (l % 2) refl refl f
  where
    go : (a b : ℕ) → a ≡ k % 2 → b ≡ l % 2 → a * n ≡ b * n → k ≡ l
    go zero zero p q r = omega arith
    go zero (suc zero) p q r = absurd (omega arith)
    go (suc zero) zero p q r = absurd (omega arith)
    go (suc zero) (suc zero) p q r = omega arith
    go zero (suc (suc b)) p q r = absurd (omega arith)
    go (suc zero) (suc (suc b)) p q r = absurd (omega arith)
    go (suc (suc a)) b p q r = absurd (omega arith)

-- a grid edge of the block in a side's face
record OnFace (s : Star) (side : ℕ) (e : Edge) : Type 0 where
  of_block : OfBlock s e
  in_side : InSide s side e

module _ (s : Star) (side : ℕ) (hs : side < side_count) (k u v : ℕ) (hk : k < side_count) (hu : u < subdivisions s) (hv : v < subdivisions s)
    (other : k ≡ side → ⊥) where
  abbrev at : Xyz
  at = face_at (subdivisions s) k u v

  edge_on : ℕ → Edge
  edge_on p = code_edge at.x at.y at.z p

  -- an edge that the face of another side shows
  record Shown (e : Edge) : Type 0 where
    of_cell : OfCell at.x at.y at.z e
    in_face : InFace (k / 2) (k % 2 * subdivisions s) e

  is_shown : (p : ℕ) (e : Edge) → OfBlock s e → T (near_edge (k / 2) p) → number s (edge_on p) ≡ number s e → Shown e
  unfolding near_edge edge_on
  is_shown p e he t same =
      let own = byte_own p (both_right _ _ t) at.x at.y at.z in
      let i = near_in_face (k / 2) at.x at.y at.z p (half_small k hk) t in
      let at-k = part_is (subdivisions s) k u v hk in
      let e-is = number_one s (edge_on p) e (face_of_block s (k / 2) _ _ _ _ (half_small k hk) (is_face s k u v hk hu hv) own i) he same in
      subst Shown e-is (record { of_cell = own; in_face = record { low_in = i.low_in ∙ at-k; high_in = i.high_in ∙ at-k } })

  never_both : (e f : Edge) → OnFace s side e → OnFace s side f → (e ≡ f → ⊥) → Shown e → Shown f → ⊥
  never_both e f oe of differ se sf = go (ℕ_discrete (k / 2) (side / 2))
    where
      go : Dec (k / 2 ≡ side / 2) → ⊥
      go (yes same) =
          other
          (sides_apart (subdivisions s) k side (omega arith) same
          (sym se.in_face.low_in ∙ ap (λ (d : ℕ). part d e.low) same ∙ oe.in_side.low_in))
      go (no apart) =
          differ
          (one_edge at.x at.y at.z (k / 2) (side / 2) _ _ (half_small k hk) (half_small side hs) apart e f se.of_cell sf.of_cell
          se.in_face sf.in_face oe.in_side of.in_side)

  face_none : (e f : Edge) → OnFace s side e → OnFace s side f → (e ≡ f → ⊥)
      → face_runs s (number s e) (number s f) (k / 2) at.x at.y at.z ≡ 0
  unfolding face_runs weight near_side edge_on
  face_none e f oe of differ =
      weighed_never (λ p. number s (edge_on p)) (number s e) (number s f) (λ j. (j < 65536) × T (near_side (k / 2) j))
      (shown (k / 2) (face_bits s (k / 2) at.x at.y at.z))
      (λ j t x y.
      never_both e f oe of differ (is_shown (j / 256) e oe.of_block (both_left _ _ t.1) x) (is_shown (j % 256) f of.of_block (both_right _ _ t.1) y))
      (shown_near (k / 2) _)

  at_none : (e f : Edge) → OnFace s side e → OnFace s side f → (e ≡ f → ⊥) → shown_at s (number s e) (number s f) k u v ≡ 0
  unfolding shown_at
  at_none e f oe of differ = go (eqb (k % 2) 0)
    where
      go : (b : Bool)
          → pick b (face_runs s (number s f) (number s e) (k / 2) at.x at.y at.z) (face_runs s (number s e) (number s f) (k / 2) at.x at.y at.z)
          ≡ 0
      go true = face_none f e of oe (λ q. differ (sym q))
      go false = face_none e f oe of differ

-- ---- (a)

module _ (s : Star) (agreed : Agreed s) (side : ℕ) (a : IsSide s side) where
  shows_none : (k : ℕ) → k < side_count → (k ≡ side → ⊥) → (e f : Edge) → OnFace s side e → OnFace s side f → (e ≡ f → ⊥)
      → shows s (number s e) (number s f) k ≡ 0
  unfolding shows
  shows_none k hk other e f oe of differ = square_none _ (subdivisions s) (λ u v hu hv. at_none s side a.side_in k u v hk hu hv other e f oe of differ)

  module _ (e f : Edge) (oe : OnFace s side e) (of : OnFace s side f) (differ : e ≡ f → ⊥) where
    abbrev g : ℕ
    g = number s e

    abbrev h : ℕ
    h = number s f

    turned : f ≡ e → ⊥
    turned q = differ (sym q)

    numbers_differ : g ≡ h → ⊥
    numbers_differ q = differ (number_one s e f oe.of_block of.of_block q)

    -- each side: its own triangles, with what the outer face there shows
    one_side : (k : ℕ) → k < side_count → named_runs s g h k + shows s h g k ≡ named_runs s h g k + shows s g h k
    unfolding named_runs
    one_side k hk = go (named s.mask k) refl
      where
        apart : named s.mask k ≡ false → k ≡ side → ⊥
        apart q same =
            let z : ◌≡◌ {A = ℕ} 0 1 = cc (q, ap (named s.mask) same, a.side_named) in
            omega arith

        go : (b : Bool) → named s.mask k ≡ b
            → cond b (square (side_runs s k g h) (subdivisions s)) 0 + shows s h g k ≡ cond b (square (side_runs s k h g) (subdivisions s)) 0 + shows s g h k
        go true q =
            let named_too : IsSide s k = record { side_in = hk; side_named = q } in
            omega (
              arith,
              coarse_law s k g h (number_below s e oe.of_block) (number_below s f of.of_block) numbers_differ,
              side_shows s k g h named_too agreed,
              side_shows s k h g named_too agreed,
            )
        go false q = omega (arith, shows_none k hk (apart q) e f oe of differ, shows_none k hk (apart q) f e of oe turned)

    apart_closed : runs (labelled_mesh s) g h ≡ runs (labelled_mesh s) h g
    apart_closed =
        omega (
          arith,
          labelled_counted s g h,
          labelled_counted s h g,
          balanced_with_border s g h,
          border_shows s g h,
          border_shows s h g,
          total_same (λ k. named_runs s g h k + shows s h g k) (λ k. named_runs s h g k + shows s g h k) side_count one_side,
          total_two (named_runs s g h) (shows s h g) side_count,
          total_two (named_runs s h g) (shows s g h) side_count,
        )

  coarse_closed : CoarseClosed s (labelled_mesh s) side
  coarse_closed e f he hf ie if = go (ℕ_discrete (number s e) (number s f))
    where
      go : Dec (number s e ≡ number s f) → runs (labelled_mesh s) (number s e) (number s f) ≡ runs (labelled_mesh s) (number s f) (number s e)
      go (yes q) = rw q refl
      go (no q) = apart_closed e f (record { of_block = he; in_side = ie }) (record { of_block = hf; in_side = if }) (λ same. q (ap (number s) same))

-- ---- the theorem

pub no_gap : (s : Star) → Agreed s → NoGap s (labelled_mesh s)
no_gap s agreed =
    let sound = labelled_sound s in
    record {
      coarse = coarse_closed s agreed;
      borders = λ side a. border_closed s side;
      corners = sound.corners;
      regular = regular_lying s;
      lying = λ side i made. sound.lying side i made.of_side.side_in made;
    }
