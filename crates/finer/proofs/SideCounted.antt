-- The directed sides of the labelled mesh, counted by the labels that its triangles name, are those of the regular cells and those that the tables say
-- of the transition cells, summed over the named sides.
use Rattle.std.specs.Prelude.{◌≡◌, Bool, true, false, cond, ℕ, ◌+◌}
use Rattle.std.proofs.Common.{sym, ap, ◌∙◌, add-zero, arith}
use Rattle.laws.specs.Steps.{total}
use Rattle.laws.specs.Counting.{weighed}
use Rattle.laws.specs.Sums.{square}
use Rattle.tables.specs.Cases.{transition_triangles}
use Rattle.tables.specs.FinerSides.{transition_sides_lem}
use Rattle.model.specs.Limits.{side_count}
use Rattle.model.specs.Sides.{named}
use Rattle.model.specs.Star.{Star, subdivisions}
use Rattle.model.specs.Points.{transition_case}
use Rattle.model.specs.Mesh.{Mesh, cell_step, transition_cell, transition_to, regular_mesh}
use Rattle.closed.specs.Clauses.{runs}
use Rattle.closed.specs.CellStep.{step_counted}
use Rattle.closed.proofs.Weighing.{all_weighed}
use Rattle.closed.specs.Indices.{IsSideCell}
use Rattle.finer.specs.Labels.{label_of, side_cell, labelled_mesh}
use Rattle.finer.specs.Walk.{Keeps, kept_all}
use Rattle.finer.specs.SideLabels.{byte_label}
use Rattle.finer.proofs.SideWhole.{Sound, SideWhole, corner_code, corner_named, whole_keeps}
use Rattle.finer.specs.SideFlux.{weight, side_runs}

cell_counted : (s : Star) (side u v : ℕ) (cell : IsSideCell s side u v) (m : Mesh) → SideWhole s side u v m → (g h : ℕ)
    → runs (cell_step (side_cell s side u v) m) g h ≡ runs m g h + side_runs s side g h u v
unfolding side_cell transition_cell side_runs
cell_counted s side u v cell m w g h =
    let case = transition_case s side u v in
    let at : ℕ → ℕ = label_of s side u v in
    let code : ℕ → ℕ = corner_code s side u v in
    step_counted (side_cell s side u v) m (λ k. at (code k)) w.sound.reach (corner_named s side u v cell m w) g h
    ∙ ap (λ (k : ℕ). runs m g h + k)
    (all_weighed at g h (byte_label s side u v) code (transition_triangles case) ∙ sym (ap (weighed (weight s side g h u v)) (transition_sides_lem case)))

-- a side adds its cells' sides, if it is named
unfoldable pub named_runs : Star → ℕ → ℕ → ℕ → ℕ
named_runs s g h side = cond (named s.mask side) (square (side_runs s side g h) (subdivisions s)) 0

named_adds : (s : Star) (g h side : ℕ) (b : Bool) → named s.mask side ≡ b
    → named_runs s g h side ≡ cond b (square (side_runs s side g h) (subdivisions s)) 0
unfolding named_runs
named_adds s g h side b e = rw e

module _ (s : Star) where
  abbrev n : ℕ
  n = subdivisions s

  -- the sides of the mesh before the cell (u, v) of a side, and before a side
  abbrev Before : ℕ → Mesh → Type 0
  Before side m = Sound s (transition_to s side 0 0) side m × ((g h : ℕ) → runs m g h ≡ runs (regular_mesh s) g h + total (named_runs s g h) side)

  abbrev Within : ℕ → ℕ → ℕ → Mesh → Type 0
  Within side u v m =
      SideWhole s side u v m
      × ((g h : ℕ) → runs m g h
      ≡ runs (regular_mesh s) g h + total (named_runs s g h) side + total (λ k. total (side_runs s side g h k) n) u + total (side_runs s side g h u) v)

  counted_keeps : Keeps s (side_cell s) Within Before
  counted_keeps =
      let k = whole_keeps s in
      record {
        start = (k.start, λ g h. sym (add-zero _));
        enter = λ side m a w. (k.enter side m a w.0, λ g h. omega (arith, w.1 g h));
        next = λ side u v m c w. (k.next side u v m c w.0, λ g h. omega (arith, cell_counted s side u v c m w.0 g h, w.1 g h));
        row = λ side u m a w. (k.row side u m a w.0, λ g h. omega (arith, w.1 g h));
        leave = λ side m a w. (k.leave side m a w.0, λ g h. omega (arith, w.1 g h, named_adds s g h side true a.side_named));
        pass = λ side m h e w. (k.pass side m h e w.0, λ g h. omega (arith, w.1 g h, named_adds s g h side false e));
      }

  pub labelled_counted : (g h : ℕ) → runs (labelled_mesh s) g h ≡ runs (regular_mesh s) g h + total (named_runs s g h) side_count
  labelled_counted g h = (kept_all s (side_cell s) Within Before counted_keeps).1 g h
