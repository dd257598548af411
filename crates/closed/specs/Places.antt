-- Numbers that hold several coordinates: two grid edges with one number are one, two cells with one store place are one, and the order of
-- the cells.
use Rattle.std.specs.Prelude.{◌≡◌, ℕ, suc, ◌+◌, ◌*◌, ◌≤◌, ◌<◌}
use Rattle.std.proofs.Common.{sym, ap, ◌∙◌, add-zero, add-mul, mul_assoc, mul_comm, mul-add, mul-le-mul_left, mul-le-mul_right, arith}
use Rattle.std.proofs.Math.Decide.{dec_lt}
use Rattle.model.specs.Star.{Star, subdivisions}
use Rattle.model.specs.Mesh.{store_length, regular_place}
use Rattle.closed.specs.Clauses.{Edge, edge, number, OfBlock, IsCell}

-- ---- two coordinates in one number

pair_most : (n u v u' v' : ℕ) → v < n → u * n + v ≡ u' * n + v' → u' ≤ u
pair_most n u v u' v' h e = go (dec_lt u u')
  where
    go : Dec (u < u') → u' ≤ u
    go (yes l) = absurd (let f : (u + 1) * n ≤ u' * n = mul-le-mul_right n (omega arith) in omega (arith, add-mul u 1 n))
    go (no l) = omega arith

pub pair_one : (n u v u' v' : ℕ) → v < n → v' < n → u * n + v ≡ u' * n + v' → (u ≡ u') × (v ≡ v')
pair_one n u v u' v' h h' e =
    let r : u ≡ u' = omega (arith, pair_most n u v u' v' h e, pair_most n u' v' u v h' (sym e)) in
    (r, omega (arith, ap (λ (k : ℕ). k * n) r))

pub pair_less : (n u v u' v' : ℕ) → 0 < n → u' ≤ u → v' ≤ v → u' + v' < u + v → u' * n + v' < u * n + v
pair_less n u v u' v' hn hu hv h = go (dec_lt u' u)
  where
    go : Dec (u' < u) → u' * n + v' < u * n + v
    go (yes l) =
        let f : (u' + 1) * n ≤ u * n = mul-le-mul_right n (omega arith) in
        omega (arith, add-mul u' 1 n)
    go (no l) =
        let e : u' ≡ u = omega arith in
        omega (arith, ap (λ (k : ℕ). k * n) e)

pub pair_in : (m n u v : ℕ) → u < m → v < n → u * n + v < m * n
pair_in m n u v hu hv =
    let f : (u + 1) * n ≤ m * n = mul-le-mul_right n (omega arith) in
    omega (arith, add-mul u 1 n)

-- ---- grid edges

pub number_pairs : (s : Star) (e : Edge)
    → number s e ≡ ((e.low.x * (subdivisions s + 1) + e.low.y) * (subdivisions s + 1) + e.low.z) * 3 + e.axis
number_pairs s e =
    let m = subdivisions s + 1 in
    omega (
      arith,
      add-mul (e.low.x * m) e.low.y m,
      mul_assoc e.low.x m m,
      mul_comm e.low.x (m * m),
      mul_comm e.low.y m,
    )

pub same_edge : {x y z a x' y' z' a' : ℕ} → x ≡ x' → y ≡ y' → z ≡ z' → a ≡ a' → edge x y z a ≡ edge x' y' z' a'
same_edge p q r t = rw (p, q, r, t)

-- one of the three axes, from a grid point of the block on; y and z decide
pub record Begins (s : Star) (e : Edge) : Type 0 where
  pub axis_is : e.axis < 3
  pub y_in : e.low.y ≤ subdivisions s
  pub z_in : e.low.z ≤ subdivisions s

pub begun_one : (s : Star) (e f : Edge) → Begins s e → Begins s f → number s e ≡ number s f → e ≡ f
begun_one s e f be bf q =
    let m = subdivisions s + 1 in
    let p = pair_one 3 _ e.axis _ f.axis be.axis_is bf.axis_is (sym (number_pairs s e) ∙ q ∙ number_pairs s f) in
    let l = pair_one m _ e.low.z _ f.low.z (omega (arith, be.z_in)) (omega (arith, bf.z_in)) p.0 in
    let k = pair_one m _ e.low.y _ f.low.y (omega (arith, be.y_in)) (omega (arith, bf.y_in)) l.0 in
    same_edge k.0 k.1 l.1 p.1

pub begins : {s : Star} {e : Edge} → OfBlock s e → Begins s e
begins h = record { axis_is = h.axis_is; y_in = omega (arith, h.high_y); z_in = omega (arith, h.high_z) }

pub number_one : (s : Star) (e f : Edge) → OfBlock s e → OfBlock s f → number s e ≡ number s f → e ≡ f
number_one s e f he hf = begun_one s e f (begins he) (begins hf)

-- ---- the order of the cells

abbrev pub rank : Star → ℕ → ℕ → ℕ → ℕ
rank s x y z = (x * subdivisions s + y) * subdivisions s + z

pub rank_in : (s : Star) (x y z : ℕ) → IsCell s x y z → rank s x y z < rank s (subdivisions s) 0 0
rank_in s x y z c =
    let n = subdivisions s in
    simp add-zero (pair_in (n * n) n (x * n + y) z (pair_in n n x y c.x_in c.y_in) c.z_in)

pub rank_less : (s : Star) (x y z x' y' z' : ℕ) → 0 < subdivisions s → x' ≤ x → y' ≤ y → z' ≤ z → x' + y' + z' < x + y + z
    → rank s x' y' z' < rank s x y z
rank_less s x y z x' y' z' some hx hy hz h = go (dec_lt (x' + y') (x + y))
  where
    n : ℕ
    n = subdivisions s

    go : Dec (x' + y' < x + y) → rank s x' y' z' < rank s x y z
    go (yes l) =
        let p = pair_less n x y x' y' some hx hy l in
        pair_less n (x * n + y) z (x' * n + y') z' some (omega arith) hz (omega arith)
    go (no l) =
        let ex : x' ≡ x = omega arith in
        let ey : y' ≡ y = omega arith in
        rw (ex, ey) (omega arith)

-- the cells before (x, y, z), and that cell
pub cells_up_to : (s : Star) (x y z : ℕ) (P : ℕ → ℕ → ℕ → Type 0) → IsCell s x y z
    → ((u v w : ℕ) → IsCell s u v w → rank s u v w < rank s x y z → P u v w) → P x y z
    → (u v w : ℕ) → IsCell s u v w → rank s u v w < rank s x y (suc z) → P u v w
cells_up_to s x y z P c before here u v w d h = go (dec_lt (rank s u v w) (rank s x y z))
  where
    n : ℕ
    n = subdivisions s

    go : Dec (rank s u v w < rank s x y z) → P u v w
    go (yes l) = before u v w d l
    go (no l) =
        let p = pair_one n (u * n + v) w (x * n + y) z d.z_in c.z_in (omega arith) in
        let q = pair_one n u v x y d.y_in c.y_in p.0 in
        rw (q.0, q.1, p.1) here

-- ---- the store's places

abbrev pub place : Star → ℕ → ℕ → ℕ → ℕ → ℕ
place s = regular_place (subdivisions s)

place_pairs : (n x y z r : ℕ) → regular_place n x y z r ≡ ((r * n + z) * n + y) * n + x
unfolding regular_place
place_pairs n x y z r =
    omega (
      arith,
      add-mul ((r * n + z) * n) y n,
      ap (λ (k : ℕ). k * n) (add-mul (r * n) z n),
      add-mul (r * n * n) (z * n) n,
      mul_assoc (r * n) n n,
      mul_assoc r n (n * n),
      mul_assoc z n n,
      mul_comm r (n * (n * n)),
      mul_assoc n n n,
      mul_comm z (n * n),
      mul_comm y n,
    )

-- one place is of one cell, with one index
pub place_one : (s : Star) (x y z r x' y' z' r' : ℕ) → IsCell s x y z → IsCell s x' y' z' → place s x' y' z' r' ≡ place s x y z r
    → (rank s x' y' z' ≡ rank s x y z) × (r' ≡ r)
place_one s x y z r x' y' z' r' c c' e =
    let n = subdivisions s in
    let p = pair_one n _ x' _ x c'.x_in c.x_in (sym (place_pairs n x' y' z' r') ∙ e ∙ place_pairs n x y z r) in
    let q = pair_one n _ y' _ y c'.y_in c.y_in p.0 in
    let t = pair_one n r' z' r z c'.z_in c.z_in q.0 in
    (rw (p.1, q.1, t.1), t.0)

pub place_in : (s : Star) (x y z r : ℕ) → IsCell s x y z → r < 4 → place s x y z r < store_length (subdivisions s)
unfolding regular_place
place_in s x y z r c h =
    let n = subdivisions s in
    let a : n * (y + 1) ≤ n * n = mul-le-mul_left n (omega (arith, c.y_in)) in
    let b : n * n * (z + 1) ≤ n * n * n = mul-le-mul_left (n * n) (omega (arith, c.z_in)) in
    let d : n * n * n * r ≤ n * n * n * 3 = mul-le-mul_left (n * n * n) (omega arith) in
    omega (arith, mul-add n y 1, mul-add (n * n) z 1, c.x_in)
