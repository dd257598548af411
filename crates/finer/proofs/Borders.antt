-- Between two edges on a border of two transition cells of a side, as many sides run one way as the other.
use Rattle.std.specs.Prelude.{◌≡◌, refl, Bool, true, false, not, ℕ, zero, suc, ◌+◌, ◌-◌, ◌*◌, ◌/◌, ◌%◌, ◌≤◌, ◌<◌, eqb, get_or}
use Rattle.std.proofs.Common.{sym, ap₂, ◌∙◌, subst, ⊎_elim, add-zero, zero-mul, one-mul, arith, eqb→eq}
use Rattle.std.proofs.Math.Path.{ap}
use Rattle.std.proofs.Math.Bool.{cond}
use Rattle.std.proofs.Math.Decide.{ℕ_discrete}
use Rattle.std.proofs.Math.Dec.{T}
use Rattle.std.proofs.Math.ListN.{length}
use Rattle.laws.specs.Tests.{eq→eqb, both, both_left, both_right, both_of, either, then, then_holds, below, all₂}
use Rattle.laws.specs.Counting.{has, every, only}
use Rattle.laws.specs.Sums.{Each, each_as, each_gather, each_only, total_same, total_none, square}
use Rattle.tables.specs.Codes.{point_a, edge_of}
use Rattle.tables.specs.Corners.{axis_of}
use Rattle.tables.specs.Cases.{transition_code, transition_corner, transition_triangles, transition_turned, sent}
use Rattle.tables.specs.Points.{point_u, point_v, point_face}
use Rattle.tables.specs.RulesTransition.{transition_edges}
use Rattle.tables.proofs.RulesTransition.{transition_lists}
use Rattle.tables.specs.Sides.{side, sides_of}
use Rattle.tables.specs.FinerSides.{transition_sides, transition_sides_lem, across, low_edge, low_side, shown_low, coarse_edge, coarse_side, shown_coarse, common_border, on_fine, fine_side}
use Rattle.model.specs.Limits.{side_count}
use Rattle.model.specs.Sides.{named}
use Rattle.model.specs.Star.{Star, subdivisions}
use Rattle.model.specs.Points.{transition_case}
use Rattle.model.specs.Mesh.{regular_mesh}
use Rattle.closed.specs.Clauses.{edges_most, around, sides, runs, edge_at, IsCell, OwnVertex}
use Rattle.closed.specs.Cells.{own_of_block}
use Rattle.closed.proofs.Whole.{whole}
use Rattle.closed.specs.SideCells.{case_small}
use Rattle.closed.specs.Weighing.{side_from, side_to, byte_small, no_run}
use Rattle.closed.specs.Indices.{IsSideCell}
use Rattle.finer.specs.Labels.{label_at, label_of, labelled_mesh}
use Rattle.finer.specs.Clauses.{across_of, border_label, BorderClosed}
use Rattle.finer.specs.SideLabels.{IsFine, fine_or_coarse, is_fine, is_coarse, fine_label, edge_right, edges_told}
use Rattle.finer.proofs.SideWhole.{corner_in_lem}
use Rattle.finer.proofs.Faces.{number_below}
use Rattle.finer.specs.SideFlux.{side_runs, border_runs, border_bits, coarse_runs, coarse_bits, fine_runs}
use Rattle.finer.proofs.SideFlux.{shown_low_lem, shown_coarse_lem}
use Rattle.finer.proofs.SideCounted.{named_runs, labelled_counted}
use Rattle.finer.proofs.Apart.{fine_above, Placed, cell_placed, low_own, rim_placed, SamePlace, same_place, low_right, one_coarse, across_on, across_rim}
use Rattle.finer.proofs.Quiet.{Quiet, quiet_list, quiet_square, QuietRim, coarse_left}

-- ---- the edges of lists of sides

-- both ends have P
abbrev pub Two : (ℕ → Type 0) → ℕ → ℕ → Type 0
Two P p q = P p × P q

two_turned : (P : ℕ → Type 0) (p q : ℕ) → Two P p q → Two P q p
two_turned P p q t = (t.1, t.0)

abbrev Own : ℕ → Type 0
Own e = T (has e transition_edges)

two_codes : (c d : ℕ) → Own (edge_of c) → Own (edge_of d) → let k = side (edge_of c) (edge_of d) in Two Own (k / 256) (k % 256)
two_codes c d hc hd =
    (rw (side_from (edge_of c) (edge_of d) (byte_small d)) hc, rw (side_to (edge_of c) (edge_of d) (byte_small d)) hd)

-- each side of a cell's triangles runs between two of the sixteen
sides_own : (s : Star) (side u v : ℕ) → Each (λ k. Two Own (k / 256) (k % 256)) (transition_sides (transition_case s side u v))
unfolding sides_of
sides_own s side u v =
    let case = transition_case s side u v in
    let at : ℕ → ℕ = λ j. transition_code case (transition_corner case (sent (transition_turned case) j)) in
    let own : (j : ℕ) → j < 3 * transition_triangles case → Own (edge_of (at j)) =
    λ j h. transition_lists.is_edge _ (transition_lists.is_used case _ (case_small s side u v) (corner_in_lem s side u v j h)) in
    rw (transition_sides_lem case)
    (each_gather (λ k. Two Own (k / 256) (k % 256)) _ (transition_triangles case)
    (λ t h.
    let a = own (3 * t) (omega arith) in
    let b = own (3 * t + 1) (omega arith) in
    let c = own (3 * t + 2) (omega arith) in
    (two_codes (at (3 * t)) (at (3 * t + 1)) a b, (two_codes (at (3 * t + 1)) (at (3 * t + 2)) b c, (two_codes (at (3 * t + 2)) (at (3 * t)) c a, tt)))))

-- two edges on the fine face that no border has both
pub record OnFine (p q : ℕ) : Type 0 where
  pub own : Two Own p q
  pub fine : Two IsFine p q
  pub no_border : (d : ℕ) → d < 2 → T (common_border d p q) → ⊥

neither : (b c : Bool) → T (not (either b c)) → (T b → ⊥) × (T c → ⊥)
unfolding either
neither true c t = absurd t
neither false true t = absurd t
neither false false t = (λ f. f, λ f. f)

on_fine_lem : (p q : ℕ) → Two Own p q → T (on_fine p q) → OnFine p q
unfolding on_fine
on_fine_lem p q own t =
    let fine = both_left _ _ t in
    let none = neither _ _ (both_right _ _ t) in
    record { own = own; fine = (is_fine p (both_left _ _ fine), is_fine q (both_right _ _ fine)); no_border = by_direction none }
  where
    by_direction : (T (common_border 0 p q) → ⊥) × (T (common_border 1 p q) → ⊥) → (d : ℕ) → d < 2 → T (common_border d p q) → ⊥
    by_direction none zero h = none.0
    by_direction none (suc zero) h = none.1
    by_direction none (suc (suc d)) h = absurd (omega arith)

border_turned : (d p q : ℕ) → T (common_border d p q) → T (common_border d q p)
unfolding common_border
border_turned d p q t =
    let e : across d p + across d q ≡ across d q + across d p = omega arith in
    rw e at t

fine_turned : (p q : ℕ) → OnFine p q → OnFine q p
fine_turned p q o =
    record { own = two_turned Own p q o.own; fine = two_turned IsFine p q o.fine; no_border = λ d h t. o.no_border d h (border_turned d q p t) }

-- ---- quiet labels: what the lists of sides would have to have at their ends

module _ (s : Star) (side u v g h : ℕ) where
  abbrev Never : (ℕ → ℕ → Type 0) → Type 0
  Never R = (p q : ℕ) → R p q → label_of s side u v p ≡ g → label_of s side u v q ≡ h → ⊥

  pub cell_quiet : Never (Two Own) → Quiet (λ g h. side_runs s side g h u v) g h
  unfolding side_runs
  cell_quiet never = quiet_list (label_of s side u v) (Two Own) (two_turned Own) (transition_sides (transition_case s side u v)) (sides_own s side u v) g h never

  pub border_quiet : (d : ℕ) → Never (Two (λ e. T (low_edge d e))) → Quiet (λ g h. border_runs s side g h d u v) g h
  unfolding border_runs low_side
  border_quiet d never =
      let ks = shown_low d (border_bits s side d u v) in
      quiet_list (label_of s side u v) (Two (λ e. T (low_edge d e))) (two_turned (λ e. T (low_edge d e))) ks
      (each_as (λ k p. (both_left _ _ p.1, both_right _ _ p.1)) ks (shown_low_lem d _)) g h never

  pub coarse_quiet : Never (Two (λ e. T (coarse_edge e))) → Quiet (λ g h. coarse_runs s side g h u v) g h
  unfolding coarse_runs coarse_side
  coarse_quiet never =
      let ks = shown_coarse (coarse_bits s side u v) in
      quiet_list (label_of s side u v) (Two (λ e. T (coarse_edge e))) (two_turned (λ e. T (coarse_edge e))) ks
      (each_as (λ k p. (both_left _ _ p.1, both_right _ _ p.1)) ks (shown_coarse_lem _)) g h never

  pub fine_quiet : Never OnFine → Quiet (λ g h. fine_runs s side g h u v) g h
  unfolding fine_runs fine_side
  fine_quiet never =
      let all = transition_sides (transition_case s side u v) in
      let ks = only fine_side all in
      quiet_list (label_of s side u v) OnFine fine_turned ks
      (each_as (λ k p. on_fine_lem _ _ p.0 p.1) ks (each_only (λ k. Two Own (k / 256) (k % 256)) fine_side all (sides_own s side u v))) g h never

-- ---- a label above those of all grid edges is none of the regular cells'

module _ (s : Star) (g : ℕ) (high : edges_most s ≤ g) where
  regular_not : {x y z i : ℕ} → IsCell s x y z → OwnVertex s (regular_mesh s) x y z i → edge_at (regular_mesh s).made i ≡ g → ⊥
  regular_not {x} {y} {z} c o e =
      omega (arith, number_below s o.on (own_of_block s x y z o.on c o.own), sym o.named.held ∙ e)

  three_quiet : (h a b c : ℕ) → (a ≡ g → ⊥) → (b ≡ g → ⊥) → (c ≡ g → ⊥) → Quiet (λ g h. around g h a b c) g h
  three_quiet h a b c na nb nc =
      record {
        forth = omega (arith, no_run g h a b (λ p q. na p), no_run g h b c (λ p q. nb p), no_run g h c a (λ p q. nc p));
        back = omega (arith, no_run h g a b (λ p q. nb q), no_run h g b c (λ p q. nc q), no_run h g c a (λ p q. na q));
      }

  regular_quiet : (h : ℕ) → Quiet (runs (regular_mesh s)) g h
  unfolding runs sides
  regular_quiet h =
      let m = regular_mesh s in
      let at : (t : ℕ) → t < length m.triangles → Quiet (λ g h. sides m g h t) g h =
      λ t l.
      let o = (whole s).corners t l in
      three_quiet h _ _ _ (regular_not o.sent.cell o.a) (regular_not o.sent.cell o.b) (regular_not o.sent.cell o.c) in
      record { forth = total_none (sides m g h) _ (λ t l. (at t l).forth); back = total_none (sides m h g) _ (λ t l. (at t l).back) }

-- ---- two fine edges of a cell on one line that is a border of cells lie on one border of the cell

unfoldable pair_test : ℕ → ℕ → ℕ → Bool
pair_test d p q =
    then (both (both (eqb (point_face (point_a p)) 0) (eqb (point_face (point_a q)) 0))
    (both (both (eqb (axis_of p) (1 - d)) (eqb (axis_of q) (1 - d)))
    (both (eqb (across_of d (point_u (point_a p)) (point_v (point_a p))) (across_of d (point_u (point_a q)) (point_v (point_a q))))
    (eqb (across_of d (point_u (point_a p)) (point_v (point_a p)) % 2) 0))))
    (common_border d p q)

pairs_right : T (below (λ d. every (λ p. every (pair_test d p) transition_edges) transition_edges) 2)
unfolding transition_edges point_u point_v point_face across common_border pair_test both either then
pairs_right = tt

even_one : (a c p q : ℕ) → 2 * a + p ≡ 2 * c → 2 * a + q ≡ 2 * c → (p ≡ q) × (p % 2 ≡ 0)
even_one a c p q e f = (omega arith, omega arith)

common_border_lem : (d a b c p q : ℕ) → d < 2 → Two Own p q → Two IsFine p q → axis_of p ≡ 1 - d → axis_of q ≡ 1 - d
    → across_of d (2 * a + point_u (point_a p)) (2 * b + point_v (point_a p)) ≡ 2 * c → across_of d (2 * a + point_u (point_a q)) (2 * b + point_v (point_a q)) ≡ 2 * c
    → T (common_border d p q)
unfolding pair_test
common_border_lem d a b c p q hd own fine ap-is aq-is on-p on-q =
    let e = even_one (across_of d a b) c _ _ (sym (across_on d a b _ _) ∙ on-p) (sym (across_on d a b _ _) ∙ on-q) in
    then_holds _ _
    (edges_told d hd pair_test pairs_right p q own.0 own.1)
    (both_of _ _ (both_of _ _ (eq→eqb _ _ fine.0) (eq→eqb _ _ fine.1))
    (both_of _ _ (both_of _ _ (eq→eqb _ _ ap-is) (eq→eqb _ _ aq-is)) (both_of _ _ (eq→eqb _ _ e.0) (eq→eqb _ _ e.1))))

-- ---- the border

module _ (s : Star) (side d u v : ℕ) (hd : d < 2) (cell : IsSideCell s side u v) (inner : 0 < across_of d u v)
    (p q : ℕ) (hp : T (low_edge d p)) (hq : T (low_edge d q)) (fine : IsFine p) where
  abbrev n : ℕ
  n = subdivisions s

  abbrev g : ℕ
  g = label_of s side u v p

  abbrev h : ℕ
  h = label_of s side u v q

  hs : side < side_count
  hs = cell.side_in

  here : (e : ℕ) → T (low_edge d e) → Placed s side u v e
  here e t = cell_placed s side u v hs cell.u_in cell.v_in e (low_own d e t)

  -- where an edge of this or another side has the label of a fine one on the border
  found : (e : ℕ) → T (low_edge d e) → IsFine e → (side' a b f : ℕ) → Placed s side' a b f → label_of s side' a b f ≡ label_of s side u v e
      → SamePlace side u v e side' a b f
  found e t fe side' a b f placed x = same_place s side u v e side' a b f (here e t) placed fe (sym x)

  -- it lies on the line of the border
  on_line : (e : ℕ) → T (low_edge d e) → (a b f : ℕ) → SamePlace side u v e side a b f
      → (axis_of f ≡ 1 - d) × (across_of d (2 * a + point_u (point_a f)) (2 * b + point_v (point_a f)) ≡ 2 * across_of d u v)
  on_line e t a b f o =
      let r = low_right d e hd t in (
        sym o.same.axis_is ∙ r.along,
        sym (ap₂ (across_of d) o.same.u_is o.same.v_is) ∙ across_on d u v _ _ ∙ omega (arith, r.on),
      )

  -- no cell of another side has it, no coarse edge, and no border that lies elsewhere
  other_quiet : (side' a b : ℕ) → side' < side_count → a < n → b < n → (side ≡ side' → ⊥) → Quiet (λ g h. side_runs s side' g h a b) g h
  other_quiet side' a b hs' ha hb other =
      cell_quiet s side' a b g h (λ e f own x y. other (found p hp fine side' a b e (cell_placed s side' a b hs' ha hb e own.0) x).same.side_is)

  coarse_none : (a b : ℕ) → a < n → b < n → Quiet (λ g h. coarse_runs s side g h a b) g h
  coarse_none a b ha hb =
      coarse_quiet s side a b g h
      (λ e f t x y.
      let c = is_coarse e t.0 in
      omega (arith, c.1, (found p hp fine side a b e (cell_placed s side a b hs ha hb e c.0) x).fine))

  border_none : (d' a b : ℕ) → d' < 2 → ((e : ℕ) → T (low_edge d' e) → Placed s side a b e) → (across_of d u v ≡ across_of d' a b → ⊥)
      → Quiet (λ g h. border_runs s side g h d' a b) g h
  border_none d' a b hd' placed off =
      border_quiet s side a b g h d'
      (λ e f t x y.
      let r = low_right d' e hd' t.0 in
      let l = on_line p hp a b e (found p hp fine side a b e (placed e t.0) x) in
      let same : d ≡ d' = omega (arith, l.0, r.along) in
      let here = ap (λ (k : ℕ). across_of k (2 * a + point_u (point_a e)) (2 * b + point_v (point_a e))) same in
      off (omega (arith, l.1, across_on d' a b (point_u (point_a e)) (point_v (point_a e)), r.on)))

  -- the fine face has no side between the two
  fine_none : (a b : ℕ) → a < n → b < n → Quiet (λ g h. fine_runs s side g h a b) g h
  fine_none a b ha hb =
      fine_quiet s side a b g h
      (λ e f o x y.
      let placed : (k : ℕ) → Own k → Placed s side a b k = cell_placed s side a b hs ha hb in
      let pe = on_line p hp a b e (found p hp fine side a b e (placed e o.own.0) x) in
      let fq = (same_place s side a b f side u v q (placed f o.own.1) (here q hq) o.fine.1 y).fine in
      let qf = on_line q hq a b f (found q hq fq side a b f (placed f o.own.1) y) in
      o.no_border d hd (common_border_lem d a b (across_of d u v) e f hd o.own o.fine pe.0 qf.0 pe.1 qf.1))

  -- the rim lies elsewhere
  inner_high : across_of d u v < n
  inner_high = go (eqb d 0)
    where
      go : (b : Bool) → cond b u v < n
      go true = cell.u_in
      go false = cell.v_in

  rim_quiet : QuietRim s side g h
  rim_quiet d' c k hd' at hk =
      border_none d' (across_of d' c k) (across_of d' k c) hd' (λ e. rim_placed s side d' c k e hs hd' (omega (arith, cell.u_in)) at hk)
      (λ e.
      let same : across_of d u v ≡ c = e ∙ across_rim d' c k in
      ⊎_elim (λ z. omega arith) (λ z. omega (arith, inner_high)) at)

  side_closed : square (side_runs s side g h) n ≡ square (side_runs s side h g) n
  side_closed =
      let coarse = quiet_square (coarse_runs s side) n g h coarse_none in
      omega (arith, coarse_left s side g h fine_none rim_quiet, coarse.forth, coarse.back)

  other_closed : (side' : ℕ) → side' < side_count → Dec (side ≡ side') → square (side_runs s side' g h) n ≡ square (side_runs s side' h g) n
  other_closed side' hs' (yes e) = subst (λ (k : ℕ). square (side_runs s k g h) n ≡ square (side_runs s k h g) n) e side_closed
  other_closed side' hs' (no e) =
      let quiet = quiet_square (side_runs s side') n g h (λ a b ha hb. other_quiet side' a b hs' ha hb e) in
      quiet.forth ∙ sym quiet.back

  named_closed : (side' : ℕ) → side' < side_count → named_runs s g h side' ≡ named_runs s h g side'
  unfolding named_runs
  named_closed side' hs' = ap (λ (k : ℕ). cond (named s.mask side') k 0) (other_closed side' hs' (ℕ_discrete side side'))

  fine_closed : runs (labelled_mesh s) g h ≡ runs (labelled_mesh s) h g
  fine_closed =
      let high : edges_most s ≤ g = rw (fine_label s side u v p fine) (fine_above s side _ _ _) in
      let regular = regular_quiet s g high h in
      omega (
        arith,
        labelled_counted s g h,
        labelled_counted s h g,
        regular.forth,
        regular.back,
        total_same (named_runs s g h) (named_runs s h g) side_count named_closed,
      )

-- ---- the three edges of a border by their places

low_byte : ℕ → ℕ → ℕ
low_byte d i = get_or (only (low_edge d) transition_edges) i 0

record ByteRight (d i : ℕ) : Type 0 where
  low : T (low_edge d (low_byte d i))
  face : point_face (point_a (low_byte d i)) ≡ i / 2
  u_is : point_u (point_a (low_byte d i)) ≡ i % 2 * d
  v_is : point_v (point_a (low_byte d i)) ≡ i % 2 * (1 - d)

unfoldable byte_test : ℕ → ℕ → Bool
unfolding low_byte
byte_test d i =
    both (both (low_edge d (low_byte d i)) (eqb (point_face (point_a (low_byte d i))) (i / 2)))
    (both (eqb (point_u (point_a (low_byte d i))) (i % 2 * d)) (eqb (point_v (point_a (low_byte d i))) (i % 2 * (1 - d))))

bytes_right : T (below (λ d. below (byte_test d) 3) 2)
unfolding transition_edges point_u point_v point_face across low_edge only both byte_test
bytes_right = tt

byte_right : (d i : ℕ) → d < 2 → i < 3 → ByteRight d i
unfolding byte_test
byte_right d i hd hi =
    let t = all₂ byte_test 2 3 bytes_right d i hd hi in
    let first = both_left _ _ t in
    let place = both_right _ _ t in
    record {
      low = both_left _ _ first;
      face = eqb→eq _ _ (both_right _ _ first);
      u_is = eqb→eq _ _ (both_left _ _ place);
      v_is = eqb→eq _ _ (both_right _ _ place);
    }

by_places : (s : Star) (side d u v i : ℕ) → i < 3 → label_at s side u v (i / 2) (i % 2 * d) (i % 2 * (1 - d)) (1 - d) ≡ border_label s side d u v i
unfolding label_at
by_places s side d u v zero h = simp (zero-mul, add-zero)
by_places s side d u v (suc zero) h = simp one-mul
by_places s side d u v (suc (suc zero)) h = simp (zero-mul, add-zero)
by_places s side d u v (suc (suc (suc i))) h = absurd (omega arith)

border_label_lem : (s : Star) (side d u v i : ℕ) → d < 2 → i < 3 → label_of s side u v (low_byte d i) ≡ border_label s side d u v i
border_label_lem s side d u v i hd hi =
    let r = byte_right d i hd hi in
    rw (r.face, r.u_is, r.v_is, (low_right d (low_byte d i) hd r.low).along) (by_places s side d u v i hi)

-- (b)
pub border_closed : (s : Star) (side : ℕ) → BorderClosed s (labelled_mesh s) side
border_closed s side d u v i j hd hi hj cell inner =
    let p = byte_right d i hd hi in
    let q = byte_right d j hd hj in
    let closed : runs (labelled_mesh s) (label_of s side u v (low_byte d i)) (label_of s side u v (low_byte d j))
    ≡ runs (labelled_mesh s) (label_of s side u v (low_byte d j)) (label_of s side u v (low_byte d i)) =
    ⊎_elim
    (λ f. fine_closed s side d u v hd cell inner (low_byte d i) (low_byte d j) p.low q.low f)
    (λ c.
    ⊎_elim
    (λ f. sym (fine_closed s side d u v hd cell inner (low_byte d j) (low_byte d i) q.low p.low f))
    (λ c'. rw (one_coarse d _ _ hd p.low q.low c c') refl)
    (fine_or_coarse (low_byte d j) (edge_right _ (low_own d _ q.low)).face_in))
    (fine_or_coarse (low_byte d i) (edge_right _ (low_own d _ p.low)).face_in) in
    rw (border_label_lem s side d u v i hd hi, border_label_lem s side d u v j hd hj) at closed
