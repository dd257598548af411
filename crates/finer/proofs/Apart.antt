-- Labels apart: a coarse label is below every fine one, and a fine one tells its side, its place and its axis.
use Rattle.std.specs.Prelude.{◌≡◌, refl, ◌⊎◌, Bool, true, false, cond, ℕ, zero, suc, ◌+◌, ◌-◌, ◌*◌, ◌≤◌, ◌<◌, T, eqb}
use Rattle.std.proofs.Common.{sym, ◌∙◌, subst, subst₂, inl, inr, ⊎_elim, add-zero, arith, eqb→eq}
use Rattle.laws.specs.Tests.{both, both_left, both_right, both_of, then, then_holds, below}
use Rattle.laws.specs.Counting.{has, every}
use Rattle.tables.specs.Codes.{point_a}
use Rattle.tables.specs.Corners.{axis_of}
use Rattle.tables.specs.Points.{point_u, point_v, point_face}
use Rattle.tables.specs.RulesTransition.{transition_edges}
use Rattle.tables.specs.FinerSides.{fine_edge, across, low_edge, high_edge, coarse_edge}
use Rattle.model.specs.Limits.{side_count}
use Rattle.model.specs.Star.{Star, subdivisions}
use Rattle.closed.specs.Clauses.{edges_most}
use Rattle.closed.specs.Places.{pair_one}
use Rattle.finer.specs.Labels.{fine_number, label_of}
use Rattle.finer.specs.Clauses.{across_of}
use Rattle.finer.specs.SideLabels.{edge_right, edge_told, edges_told, IsFine, IsCoarse, fine_or_coarse, fine_label, coarse_label, fine_on}
use Rattle.finer.proofs.Faces.{edge_on, edge_is, of_block, number_below}
use Rattle.finer.specs.SideFlux.{onward}
use Rattle.finer.proofs.SideFlux.{moved, label_moved}

-- ---- numbers of fine edges

pub fine_above : (s : Star) (side u2 v2 axis : ℕ) → edges_most s ≤ fine_number s side u2 v2 axis
unfolding fine_number
fine_above s side u2 v2 axis = omega arith

pub record SameFine (side u2 v2 axis side' u2' v2' axis' : ℕ) : Type 0 where
  pub side_is : side ≡ side'
  pub u_is : u2 ≡ u2'
  pub v_is : v2 ≡ v2'
  pub axis_is : axis ≡ axis'

cancelled : (m a b x y : ℕ) → m + (a * 2 + x) ≡ m + (b * 2 + y) → a * 2 + x ≡ b * 2 + y
cancelled m a b x y e = omega arith

pub fine_one : (s : Star) (side side' u2 u2' v2 v2' axis axis' : ℕ) → u2 ≤ 2 * subdivisions s → u2' ≤ 2 * subdivisions s
    → v2 ≤ 2 * subdivisions s → v2' ≤ 2 * subdivisions s → axis < 2 → axis' < 2
    → fine_number s side u2 v2 axis ≡ fine_number s side' u2' v2' axis' → SameFine side u2 v2 axis side' u2' v2' axis'
unfolding fine_number
fine_one s side side' u2 u2' v2 v2' axis axis' hu hu' hv hv' ha ha' e =
    let k = 2 * subdivisions s + 1 in
    let p = pair_one 2 _ axis _ axis' ha ha' (cancelled (edges_most s) _ _ _ _ e) in
    let q = pair_one k _ v2 _ v2' (omega arith) (omega arith) p.0 in
    let r = pair_one k side u2 side' u2' (omega arith) (omega arith) q.0 in
    record { side_is = r.0; u_is = r.1; v_is = q.1; axis_is = p.1 }

-- ---- an edge of a cell, or of the border beyond it

-- an edge, by its low byte, of the square at (u, v) whose label is that of an edge of the side
pub record Placed (s : Star) (side u v e : ℕ) : Type 0 where
  pub face_in : point_face (point_a e) ≤ 1
  pub axis_in : axis_of e < 2
  pub u_in : 2 * u + point_u (point_a e) ≤ 2 * subdivisions s
  pub v_in : 2 * v + point_v (point_a e) ≤ 2 * subdivisions s
  pub coarse : IsCoarse e → label_of s side u v e < edges_most s

fine_in : (n u a b st k : ℕ) → u < n → b ≡ a + k * st → b ≤ 2 → 2 * u + a ≤ 2 * n
fine_in n u a b st k h e l = omega arith

is_coarse_edge : (e : ℕ) → T (has e transition_edges) → IsCoarse e → T (coarse_edge e)
unfolding fine_edge coarse_edge
is_coarse_edge e h c = both_of _ _ (rw c tt) h

module _ (s : Star) (side u v : ℕ) (hs : side < side_count) (hu : u < subdivisions s) (hv : v < subdivisions s) where
  pub cell_placed : (e : ℕ) → T (has e transition_edges) → Placed s side u v e
  cell_placed e h =
      let r = edge_right e h in
      record {
        face_in = r.face_in;
        axis_in = r.axis_in;
        u_in = fine_in _ u _ _ _ _ hu r.b_u r.u_in;
        v_in = fine_in _ v _ _ _ _ hv r.b_v r.v_in;
        coarse = λ c.
            let t = is_coarse_edge e h c in
            rw (coarse_label s side u v e c, edge_is s side u v hs hu hv e t) (number_below s (edge_on s side u v hs hu hv e t) (of_block s side u v hs hu hv e t));
      }

unfoldable high_test : ℕ → ℕ → Bool
high_test d e = then (low_edge d e) (has (high_edge d e) transition_edges)

highs_right : T (below (λ d. every (high_test d) transition_edges) 2)
unfolding transition_edges point_u point_v point_face fine_edge across low_edge high_edge both then high_test
highs_right = tt

pub low_own : (d e : ℕ) → T (low_edge d e) → T (has e transition_edges)
unfolding low_edge
low_own d e t = both_right _ _ t

high_own : (d e : ℕ) → d < 2 → T (low_edge d e) → T (has (high_edge d e) transition_edges)
unfolding high_test
high_own d e hd t = then_holds (low_edge d e) _ (edge_told d hd high_test highs_right e (low_own d e t)) t

-- an edge of the low border of the next cell, which is on the high border of this one
pub next_placed : (s : Star) (side d u v e : ℕ) → side < side_count → d < 2 → u < subdivisions s → v < subdivisions s → T (low_edge d e)
    → Placed s side (u + onward 0 d) (v + onward 1 d) e
next_placed s side d u v e hs hd hu hv t =
    let r = edge_right e (low_own d e t) in
    let m = moved d e hd t in
    let p = cell_placed s side u v hs hu hv (high_edge d e) (high_own d e hd t) in
    record {
      face_in = r.face_in;
      axis_in = r.axis_in;
      u_in = rw (fine_on u _ _ _ m.a_u) at p.u_in;
      v_in = rw (fine_on v _ _ _ m.a_v) at p.v_in;
      coarse = λ c. rw (label_moved s side d u v e m) at (p.coarse (m.face ∙ c));
    }

-- an edge of the border k along the rim that lies at c across the direction d
pub rim_placed : (s : Star) (side d c k e : ℕ) → side < side_count → d < 2 → 0 < subdivisions s → (c ≡ 0) ⊎ (c ≡ subdivisions s) → k < subdivisions s
    → T (low_edge d e) → Placed s side (across_of d c k) (across_of d k c) e
rim_placed s side zero c k e hs hd some (inl z) hk t = subst (λ (c : ℕ). Placed s side c k e) (sym z) (cell_placed s side 0 k hs some hk e (low_own 0 e t))
rim_placed s side (suc zero) c k e hs hd some (inl z) hk t = subst (λ (c : ℕ). Placed s side k c e) (sym z) (cell_placed s side k 0 hs hk some e (low_own 1 e t))
rim_placed s side zero c k e hs hd some (inr z) hk t =
    let there : subdivisions s - 1 + 1 ≡ c = omega arith in
    subst₂ (λ (a b : ℕ). Placed s side a b e) there (add-zero k) (next_placed s side 0 (subdivisions s - 1) k e hs hd (omega arith) hk t)
rim_placed s side (suc zero) c k e hs hd some (inr z) hk t =
    let there : subdivisions s - 1 + 1 ≡ c = omega arith in
    subst₂ (λ (a b : ℕ). Placed s side a b e) (add-zero k) there (next_placed s side 1 k (subdivisions s - 1) e hs hd hk (omega arith) t)
rim_placed s side (suc (suc d)) c k e hs hd some at hk t = absurd (omega arith)

-- ---- two edges with one label, of which one is fine

pub record SamePlace (side u v e side' u' v' e' : ℕ) : Type 0 where
  pub fine : IsFine e'
  pub same : SameFine side (2 * u + point_u (point_a e)) (2 * v + point_v (point_a e)) (axis_of e)
      side' (2 * u' + point_u (point_a e')) (2 * v' + point_v (point_a e')) (axis_of e')

pub same_place : (s : Star) (side u v e side' u' v' e' : ℕ) → Placed s side u v e → Placed s side' u' v' e' → IsFine e
    → label_of s side u v e ≡ label_of s side' u' v' e' → SamePlace side u v e side' u' v' e'
same_place s side u v e side' u' v' e' p p' f q =
    let mine = fine_label s side u v e f in
    ⊎_elim
    (λ f'.
    record {
      fine = f';
      same = fine_one s side side' _ _ _ _ _ _ p.u_in p'.u_in p.v_in p'.v_in p.axis_in p'.axis_in
          (sym mine ∙ q ∙ fine_label s side' u' v' e' f');
    })
    (λ c. absurd (omega (arith, p'.coarse c, fine_above s side (2 * u + point_u (point_a e)) (2 * v + point_v (point_a e)) (axis_of e))))
    (fine_or_coarse e' p'.face_in)

-- ---- lines

-- an edge of a low border runs along it
pub record LowRight (d e : ℕ) : Type 0 where
  pub along : axis_of e ≡ 1 - d
  pub on : across_of d (point_u (point_a e)) (point_v (point_a e)) ≡ 0

unfoldable low_test : ℕ → ℕ → Bool
low_test d e = then (low_edge d e) (both (eqb (axis_of e) (1 - d)) (eqb (across_of d (point_u (point_a e)) (point_v (point_a e))) 0))

lows_right : T (below (λ d. every (low_test d) transition_edges) 2)
unfolding transition_edges point_u point_v across low_edge both then low_test
lows_right = tt

pub low_right : (d e : ℕ) → d < 2 → T (low_edge d e) → LowRight d e
unfolding low_test
low_right d e hd t =
    let t₀ = then_holds (low_edge d e) _ (edge_told d hd low_test lows_right e (low_own d e t)) t in
    record { along = eqb→eq _ _ (both_left _ _ t₀); on = eqb→eq _ _ (both_right _ _ t₀) }

-- of two edges of a low border, one is fine or they are the same
unfoldable pair_test : ℕ → ℕ → ℕ → Bool
pair_test d p q = then (both (both (low_edge d p) (low_edge d q)) (both (coarse_edge p) (coarse_edge q))) (eqb p q)

pairs_right : T (below (λ d. every (λ p. every (pair_test d p) transition_edges) transition_edges) 2)
unfolding transition_edges point_u point_v point_face fine_edge across low_edge coarse_edge both then pair_test
pairs_right = tt

pub one_coarse : (d p q : ℕ) → d < 2 → T (low_edge d p) → T (low_edge d q) → IsCoarse p → IsCoarse q → p ≡ q
unfolding pair_test
one_coarse d p q hd tp tq cp cq =
    eqb→eq _ _
    (then_holds _ _ (edges_told d hd pair_test pairs_right p q (low_own d p tp) (low_own d q tq))
    (both_of _ _ (both_of _ _ tp tq) (both_of _ _ (is_coarse_edge p (low_own d p tp) cp) (is_coarse_edge q (low_own d q tq) cq))))

pub across_on : (d u v a b : ℕ) → across_of d (2 * u + a) (2 * v + b) ≡ 2 * across_of d u v + across_of d a b
across_on d u v a b = go (eqb d 0)
  where
    go : (c : Bool) → cond c (2 * u + a) (2 * v + b) ≡ 2 * cond c u v + cond c a b
    go true = refl
    go false = refl

pub across_rim : (d c k : ℕ) → across_of d (across_of d c k) (across_of d k c) ≡ c
across_rim d c k = go (eqb d 0)
  where
    go : (b : Bool) → cond b (cond b c k) (cond b k c) ≡ c
    go true = refl
    go false = refl
