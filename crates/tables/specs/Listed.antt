-- What it is for a table's cases to list just their crossing edges, each once: the words of T1, T2, T5 and T6, for both tables. `inside p` is 1
-- if the cell's point p is inside and 0 if not.
use Rattle.std.specs.Prelude.{◌≡◌, refl, ◌≢◌, Bool, not, List, ℕ, ◌≤◌, ◌<◌, T}
use Rattle.std.proofs.Math.Decide.{dec_lt}
use Rattle.std.proofs.Common.{arith, T_not}
use Rattle.std.proofs.Math.Dec.{eqb, eqb→eq, not_T}
use Rattle.std.proofs.Math.ListN.{get_or}
use Rattle.tables.specs.Codes.{point_a, point_b, edge_of}
use Rattle.laws.specs.Tests.{eq→eqb, both, both_left, both_right, below, all}
use Rattle.laws.specs.Counting.{one, one_true, one_of, one_small, how_many, some, which, two, has, every, every_item}

-- the two ends of an edge lie on different sides of the surface
abbrev pub crosses : (ℕ → ℕ) → ℕ → Bool
crosses inside edge = not (eqb (inside (point_a edge)) (inside (point_b edge)))

-- how many of the first n codes stand for the edge
abbrev pub times_listed : (ℕ → ℕ) → ℕ → ℕ → ℕ
times_listed code n edge = how_many (λ i. eqb (edge_of (code i)) edge) n

edge_points : (code : ℕ) → (point_a (edge_of code) ≡ point_a code) × (point_b (edge_of code) ≡ point_b code)
edge_points code = (omega arith, omega arith)

-- of an edge that is listed once if it crosses, and not at all else
module _ (inside code : ℕ → ℕ) (n edge : ℕ) (exactly : times_listed code n edge ≡ one (crosses inside edge)) where
  crossing_has_position : inside (point_a edge) ≢ inside (point_b edge) → (i : ℕ) × (i < n) × (edge_of (code i) ≡ edge)
  crossing_has_position d =
      let crossed = one_of (crosses inside edge) (not_T (eqb (inside (point_a edge)) (inside (point_b edge))) (λ e. d (eqb→eq _ _ e))) in
      let w = which (λ i. eqb (edge_of (code i)) edge) n (omega arith) in
      (w.0, w.1, eqb→eq _ _ w.2)

  listed_crosses : (i : ℕ) → i < n → edge_of (code i) ≡ edge → inside (point_a (code i)) ≢ inside (point_b (code i))
  listed_crosses i h e q =
      let listed = some (λ i. eqb (edge_of (code i)) edge) n i h (eq→eqb _ _ e) in
      let crossed = one_true (crosses inside edge) (omega arith) in
      let p = edge_points (code i) in
      let q' : inside (point_a edge) ≡ inside (point_b edge) = rw (← e, p.0, p.1) q in
      T_not (eqb (inside (point_a edge)) (inside (point_b edge))) crossed (eq→eqb _ _ q')

  listed_once : (i j : ℕ) → i < n → j < n → edge_of (code i) ≡ edge → edge_of (code j) ≡ edge → i ≡ j
  listed_once i j hi hj ei ej = go (dec_lt i j) (dec_lt j i)
    where
      two_listed : (i j : ℕ) → i < j → j < n → edge_of (code i) ≡ edge → edge_of (code j) ≡ edge → 2 ≤ times_listed code n edge
      two_listed i j l h ei ej = two (λ i. eqb (edge_of (code i)) edge) n i j l h (eq→eqb _ _ ei) (eq→eqb _ _ ej)

      go : Dec (i < j) → Dec (j < i) → i ≡ j
      go (yes l) m = absurd (omega (arith, one_small (crosses inside edge), two_listed i j l hj ei ej))
      go (no l) (yes m) = absurd (omega (arith, one_small (crosses inside edge), two_listed j i m hi ej ei))
      go (no l) (no m) = omega arith

-- ---- a table: how many cases, the codes and the edges that there are, which points of a case are inside, a case's codes and how many

pub record Listing (cases : ℕ) (used edges : List ℕ) (inside code : ℕ → ℕ → ℕ) (count : ℕ → ℕ) : Type 0 where
  pub is_used : (case i : ℕ) → case < cases → i < count case → T (has (code case i) used)
  pub is_edge : (c : ℕ) → T (has c used) → T (has (edge_of c) edges)
  -- once if the edge crosses, and not at all else
  pub exactly : (case e : ℕ) → case < cases → T (has e edges) → times_listed (code case) (count case) e ≡ one (crosses (inside case) e)

module _ {cases : ℕ} {used edges : List ℕ} {inside code : ℕ → ℕ → ℕ} {count : ℕ → ℕ} (l : Listing cases used edges inside code count) where
  -- a test that every used code passes, each code of each case passes
  pub each_code : (P : ℕ → Bool) → T (every P used) → (case i : ℕ) → case < cases → i < count case → T (P (code case i))
  each_code P t case i hc hi = every_item P used t (code case i) (l.is_used case i hc hi)

  -- a crossing edge has a position
  pub crossing : (case e : ℕ) → case < cases → T (has e edges) → inside case (point_a e) ≢ inside case (point_b e)
      → (i : ℕ) × (i < count case) × (edge_of (code case i) ≡ e)
  crossing case e hc he = crossing_has_position (inside case) (code case) (count case) e (l.exactly case e hc he)

  -- the two ends of a listed code differ
  pub differ : (case i : ℕ) → case < cases → i < count case → inside case (point_a (code case i)) ≢ inside case (point_b (code case i))
  differ case i hc hi =
      let e = edge_of (code case i) in
      listed_crosses (inside case) (code case) (count case) e (l.exactly case e hc (l.is_edge _ (l.is_used case i hc hi))) i hi refl

  -- no edge is listed at two positions
  pub once : (case i j : ℕ) → case < cases → i < count case → j < count case → edge_of (code case i) ≡ edge_of (code case j) → i ≡ j
  once case i j hc hi hj same =
      let e = edge_of (code case j) in
      listed_once (inside case) (code case) (count case) e (l.exactly case e hc (l.is_edge _ (l.is_used case j hc hj))) i j hi hj same refl

-- ---- the test of a table's row

unfoldable pub row_test : List ℕ → List ℕ → (ℕ → ℕ) → List ℕ → ℕ → Bool
row_test used edges inside codes n =
    both (below (λ i. has (get_or codes i 0) used) n)
    (every (λ e. eqb (times_listed (λ i. get_or codes i 0) n e) (one (crosses inside e))) edges)

module _ (used edges : List ℕ) (inside : ℕ → ℕ) (codes : List ℕ) (n : ℕ) (t : T (row_test used edges inside codes n)) where
  pub row_used : (i : ℕ) → i < n → T (has (get_or codes i 0) used)
  unfolding row_test
  row_used i h = all (λ i. has (get_or codes i 0) used) n (both_left _ _ t) i h

  pub row_exactly : (e : ℕ) → T (has e edges) → times_listed (λ i. get_or codes i 0) n e ≡ one (crosses inside e)
  unfolding row_test
  row_exactly e h =
      eqb→eq _ _ (every_item (λ e. eqb (times_listed (λ i. get_or codes i 0) n e) (one (crosses inside e))) edges (both_right _ _ t) e h)
