-- The theorem: the mesh of the regular cells has no hole, for every block.
use Rattle.std.specs.Prelude.{◌≡◌, Bool, ℕ, zero, suc, ◌+◌, ◌-◌, ◌≤◌, ◌<◌, eqb}
use Rattle.std.proofs.Common.{sym, ap, ◌∙◌, subst, arith}
use Rattle.laws.specs.Counting.{one, one_small}
use Rattle.laws.specs.Sums.{border}
use Rattle.model.specs.Star.{Star, subdivisions}
use Rattle.model.specs.Mesh.{regular_mesh}
use Rattle.closed.specs.Clauses.{Edge, number, OfBlock, OfCell, Crossed, runs, IsCell, Carried, Corners, Balanced, vertex_on, NoHole, OneVertex}
use Rattle.closed.specs.Places.{number_one, rank_in}
use Rattle.closed.specs.Cells.{code_edge, byte_edge, own_byte, crossed_code}
use Rattle.closed.specs.CellStep.{names_as}
use Rattle.closed.proofs.Whole.{whole}
use Rattle.closed.specs.Flux.{face_runs, block_balanced}
use Rattle.closed.proofs.Counted.{block_counted}
use Rattle.closed.specs.Outer.{border_none}

-- ---- 1

some_cell : (s : Star) (e : Edge) → OfBlock s e → 0 < subdivisions s
some_cell s e h = go e.axis h.axis_is h.high_x h.high_y h.high_z
  where
    go : (a : ℕ) → a < 3 → e.low.x + one (eqb a 0) ≤ 0 + subdivisions s → e.low.y + one (eqb a 1) ≤ 0 + subdivisions s
        → e.low.z + one (eqb a 2) ≤ 0 + subdivisions s → 0 < subdivisions s
    go zero small hx hy hz = omega arith
    go (suc zero) small hx hy hz = omega arith
    go (suc (suc zero)) small hx hy hz = omega arith
    go (suc (suc (suc a))) small hx hy hz = absurd (omega arith)

-- a cell that has the point k, along one axis: k, or n - 1 where k is n
cell_at : ℕ → ℕ → ℕ
cell_at n k = k - (k - (n - 1))

cell_at_lem : (n k : ℕ) (b : Bool) → 0 < n → k + one b ≤ 0 + n → (cell_at n k < n) × (cell_at n k ≤ k) × (k + one b ≤ cell_at n k + 1)
unfolding cell_at
cell_at_lem n k b some h = (omega arith, omega arith, omega (arith, one_small b))

-- an edge of the block is one of a cell
owner : (s : Star) (e : Edge) → OfBlock s e → (x y z : ℕ) × IsCell s x y z × OfCell x y z e
owner s e h =
    let n = subdivisions s in
    let some = some_cell s e h in
    let x = cell_at_lem n e.low.x (eqb e.axis 0) some h.high_x in
    let y = cell_at_lem n e.low.y (eqb e.axis 1) some h.high_y in
    let z = cell_at_lem n e.low.z (eqb e.axis 2) some h.high_z in (
      _,
      _,
      _,
      record { x_in = x.0; y_in = y.0; z_in = z.0 },
      record {
        axis_is = h.axis_is;
        low_x = x.1;
        low_y = y.1;
        low_z = z.1;
        high_x = x.2;
        high_y = y.2;
        high_z = z.2;
      },
    )

pub carried : (s : Star) → Carried s (regular_mesh s)
carried s e h = (
  λ c.
      let o = (whole s).lying c.0 c.1.there in
      subst (Crossed s) (number_one s o.on e o.of_block h (sym o.named.held ∙ c.1.held)) o.crossed,
  λ crossed.
      let o = owner s e h in
      let p = own_byte o.0 o.1 o.2 e o.4 in
      let i = crossed_code s o.0 o.1 o.2 p.0 p.1 (subst (Crossed s) (sym p.2) crossed) in
      let c = (whole s).carried o.0 o.1 o.2 o.3 (rank_in s _ _ _ o.3) i.0 i.1 in
      let edge_is = sym (byte_edge o.0 o.1 o.2 _) ∙ ap (code_edge o.0 o.1 o.2) i.2 ∙ p.2 in
      (c.0, names_as (ap (number s) edge_is) c.1),
)

-- ---- the law of the block, for any two grid edges: what its outer faces show stands on both sides

pub balanced_with_border : (s : Star) (g h : ℕ)
    → runs (regular_mesh s) g h + border (face_runs s g h) (face_runs s h g) (subdivisions s)
    ≡ runs (regular_mesh s) h g + border (face_runs s h g) (face_runs s g h) (subdivisions s)
balanced_with_border s g h = omega (arith, block_counted s g h, block_counted s h g, block_balanced s g h)

-- ---- 2

pub corners : (s : Star) → Corners s (regular_mesh s)
corners s = (whole s).corners

-- ---- 3

pub balanced : (s : Star) → Balanced s (regular_mesh s)
balanced s e f he hf inner =
    omega (
      arith,
      balanced_with_border s (number s e) (number s f),
      border_none s e f he hf inner,
      border_none s f e hf he (λ d v h o i j. inner d v h o j i),
    )

-- ---- all

pub one_vertex : (s : Star) → OneVertex (regular_mesh s)
one_vertex s i j hi hj e =
    let o = (whole s).lying i hi in
    let q = (whole s).lying j hj in
    let same = number_one s o.on q.on o.of_block q.of_block (sym o.named.held ∙ e ∙ q.named.held) in
    o.vertex_is ∙ ap (vertex_on s) same ∙ sym q.vertex_is

pub no_hole : (s : Star) → NoHole s (regular_mesh s)
no_hole s = record { carried = carried s; corners = corners s; balanced = balanced s; lying = (whole s).lying }
