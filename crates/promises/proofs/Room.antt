-- Room that is enough for the mesh of any block: what a cell makes at most, by where it lies, is a rule of the tables, and here it is added over the
-- cells.
use Rattle.std.specs.Prelude.{ℕ, zero, suc, ◌+◌, ◌-◌, ◌*◌, ◌≤◌, ◌≡◌, Bool, true, false, cond, T, eqb}
use Rattle.std.proofs.Common.{mul-add, mul-one, mul-suc, mul-zero, sym, ◌∙◌, eqb→eq}
use native.Mathlib.Omega.{arith}
use Rattle.std.proofs.Math.Path.{refl, ap}
use Rattle.std.specs.Int.Count.{ones, ones_in}
use Rattle.std.proofs.Math.ListN.{length}
use Rattle.laws.specs.Steps.{total}
use Rattle.laws.specs.Sums.{how_many_lem, square, cube, square_equal, cube_equal}
use Rattle.laws.specs.Tests.{both, below, all}
use Rattle.laws.specs.Counting.{how_many}
use Rattle.tables.proofs.RulesCorners.{regular_cell_right, transition_cell_right}
use Rattle.tables.specs.RulesMade.{low, most_regular, most_transition, regular_made_most, transition_made_most}
use Rattle.model.specs.Limits.{most_mask, side_count}
use Rattle.model.specs.Sides.{named}
use Rattle.model.specs.Star.{Star, subdivisions}
use Rattle.model.specs.Points.{regular_case, transition_case}
use Rattle.model.specs.Mesh.{Cell, Mesh, empty_mesh, cell_step, regular_leaves, regular_use, regular_cell, transition_leaves, transition_use, transition_cell, mesh_of}
use Rattle.model.specs.Adding.{cell_triangles, mesh_adds}
use Rattle.cases.specs.Numbers.{transition_case_small}
use Rattle.cells.specs.Fills.{cell_made}
use Rattle.closed.specs.Cells.{case_small}
use Rattle.promises.specs.Enough.{Enough}

-- a sum of which the first part is at a low side, and the others are not
total_low : (f : ℕ → ℕ) (k : ℕ) → total (λ i. f (low i)) (suc k) ≡ f 1 + f 0 * k
unfolding low
total_low f zero = rw mul-zero (omega arith)
total_low f (suc k) = rw (total_low f k, mul-suc) (omega arith)

-- ---- a cell

cell_vertices : (c : Cell) (m : Mesh) → length (cell_step c m).made ≡ length m.made + how_many (λ i. (c.uses i).makes) c.vertices
cell_vertices c m = cell_made c m ∙ ap (λ (k : ℕ). length m.made + k) (sym (how_many_lem (λ i. (c.uses i).makes) c.vertices))

-- ---- the sides that a mask names

abbrev each_named : ℕ → ℕ → ℕ → ℕ
each_named mask most side = cond (named mask side) most 0

pub named_most : (mask most k : ℕ) → total (each_named mask most) k ≡ most * total (each_named mask 1) k
named_most mask most zero = sym (mul-zero most)
named_most mask most (suc k) = rw (named_most mask most k, mul-add, go (named mask k))
  where
    go : (b : Bool) → most * cond b 1 0 ≡ cond b most 0
    go true = mul-one most
    go false = mul-zero most

all_named_lem : T (below (λ mask. eqb (total (each_named mask 1) side_count) (ones mask)) (most_mask + 1))
unfolding both named ones ones_in
all_named_lem = tt

pub sides_named : (mask : ℕ) → mask ≤ most_mask → total (each_named mask 1) side_count ≡ ones mask
sides_named mask h = eqb→eq _ _ (all (λ mask. eqb (total (each_named mask 1) side_count) (ones mask)) (most_mask + 1) all_named_lem mask (omega arith))

-- ---- the mesh, by what a cell adds at most where it lies

module _ (measure : Mesh → ℕ) (regularMost : ℕ → ℕ → ℕ → ℕ) (transitionMost : ℕ → ℕ → ℕ) (s : Star)
    (regular : (x y z : ℕ) (m : Mesh) → measure (cell_step (regular_cell s x y z) m) ≤ measure m + regularMost x y z)
    (transition : (side u v : ℕ) (m : Mesh) → measure (cell_step (transition_cell s side u v) m) ≤ measure m + transitionMost u v) where
  abbrev of_side : ℕ
  of_side = square transitionMost (subdivisions s)

  mesh_most : measure (empty_mesh (subdivisions s)) ≡ 0 → s.mask ≤ most_mask
      → measure (mesh_of s) ≤ cube regularMost (subdivisions s) + ones s.mask * of_side
  mesh_most none h =
      omega (
        arith,
        mesh_adds (λ k m. measure m ≤ k) s regularMost (λ side. transitionMost) (λ x y z k m most. omega (arith, regular x y z m, most))
            (λ side u v k m most. omega (arith, transition side u v m, most)) (omega (arith, none)),
        named_most s.mask of_side side_count,
        ap (λ (k : ℕ). of_side * k) (sides_named s.mask h),
      )

-- ---- how many that is

-- a vertex for each code that makes one
abbrev corner_most : ℕ → ℕ → ℕ → ℕ
corner_most x y z = most_regular (low x + low y + low z)

abbrev border_most : ℕ → ℕ → ℕ
border_most u v = most_transition (low u + low v)

module _ (k : ℕ) where
  column_vertices : (x y : ℕ) → total (corner_most x y) (suc k) ≡ most_regular (low x + low y + 1) + most_regular (low x + low y + 0) * k
  column_vertices x y = total_low (λ l. most_regular (low x + low y + l)) k

  layer_vertices : (x : ℕ) → square (corner_most x) (suc k)
      ≡ (most_regular (low x + 1 + 1) + most_regular (low x + 1 + 0) * k) + (most_regular (low x + 0 + 1) + most_regular (low x + 0 + 0) * k) * k
  layer_vertices x =
      (λ i. total (λ y. column_vertices x y i) (suc k)) ∙ total_low (λ l. most_regular (low x + l + 1) + most_regular (low x + l + 0) * k) k

  block_vertices : cube corner_most (suc k) ≡ ((12 + 10 * k) + (10 + 7 * k) * k) + ((10 + 7 * k) + (7 + 3 * k) * k) * k
  block_vertices =
      (λ i. total (λ x. layer_vertices x i) (suc k))
      ∙ total_low (λ l. (most_regular (l + 1 + 1) + most_regular (l + 1 + 0) * k) + (most_regular (l + 0 + 1) + most_regular (l + 0 + 0) * k) * k) k

  side_vertices : square border_most (suc k) ≡ (12 + 10 * k) + (10 + 8 * k) * k
  side_vertices =
      (λ i. total (λ u. total_low (λ l. most_transition (low u + l)) k i) (suc k))
      ∙ total_low (λ l. most_transition (l + 1) + most_transition (l + 0) * k) k

-- of a block with no cell there is nothing
regular_sum : (n : ℕ) → cube corner_most n ≡ 3 * (n * (n * n + 4 * n - 1))
regular_sum zero = refl
regular_sum (suc k) =
    let e : suc k * suc k + 4 * suc k - 1 ≡ k * k + 6 * k + 4 = omega arith in
    block_vertices k ∙ rw e (omega arith)

transition_sum : (n : ℕ) → square border_most n ≡ 4 * (n * (2 * n + 1))
transition_sum zero = refl
transition_sum (suc k) = side_vertices k ∙ omega arith

-- ---- enough

module _ (s : Star) where
  regular_vertices : (x y z : ℕ) (m : Mesh) → length (cell_step (regular_cell s x y z) m).made ≤ length m.made + corner_most x y z
  unfolding regular_cell regular_use regular_leaves
  regular_vertices x y z m =
      omega (arith, cell_vertices (regular_cell s x y z) m, regular_made_most x y z (regular_case s x y z) (case_small s x y z))

  transition_vertices : (side u v : ℕ) (m : Mesh) → length (cell_step (transition_cell s side u v) m).made ≤ length m.made + border_most u v
  unfolding transition_cell transition_use transition_leaves
  transition_vertices side u v m =
      omega (
        arith,
        cell_vertices (transition_cell s side u v) m,
        transition_made_most u v (transition_case s side u v) (omega (arith, transition_case_small s side u v)),
      )

  regular_triangles : (x y z : ℕ) (m : Mesh) → length (cell_step (regular_cell s x y z) m).triangles ≤ length m.triangles + 5
  unfolding regular_cell
  regular_triangles x y z m =
      omega (arith, cell_triangles (regular_cell s x y z) m, (regular_cell_right (regular_case s x y z) (case_small s x y z)).triangles_most)

  transition_triangles : (side u v : ℕ) (m : Mesh) → length (cell_step (transition_cell s side u v) m).triangles ≤ length m.triangles + 12
  unfolding transition_cell
  transition_triangles side u v m =
      omega (
        arith,
        cell_triangles (transition_cell s side u v) m,
        (transition_cell_right (transition_case s side u v) (omega (arith, transition_case_small s side u v))).triangles_most,
      )

  pub enough : s.mask ≤ most_mask → Enough s
  unfolding empty_mesh
  enough h =
      let n = subdivisions s in
      let sides = ones s.mask in
      record {
        vertices = omega (
          arith,
          mesh_most (λ m. length m.made) corner_most border_most s regular_vertices transition_vertices refl h,
          regular_sum n,
          ap (λ (k : ℕ). sides * k) (transition_sum n),
        );
        triangles = omega (
          arith,
          mesh_most (λ m. length m.triangles) (λ x y z. 5) (λ u v. 12) s regular_triangles transition_triangles refl h,
          cube_equal 5 n,
          ap (λ (k : ℕ). sides * k) (square_equal 12 n),
        );
      }
