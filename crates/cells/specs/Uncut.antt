-- A cell that is all inside or all outside has no vertex and no triangle, and its step only reads its samples: such steps are stepped over.
use Rattle.std.specs.Prelude.{ℕ, ◌≤◌, ◌<◌, ◌≡◌, refl, Bool, true, false, ◌||◌, eqb}
use Rattle.std.proofs.Common.{append-nil, arith, eqb-true}
use Rattle.laws.specs.Steps.{iterate}
use Rattle.laws.specs.Iterated.{part_skip}
use Rattle.tables.specs.RegularRows as regular
use Rattle.tables.specs.TransitionRows as transition
use Rattle.tables.specs.Cases.{regular_class, regular_vertices, regular_triangles, transition_class, transition_vertices, transition_triangles}
use Rattle.tables.specs.Cases.{regular_cell as regularRow, transition_cell as transition_row}
use Rattle.model.specs.Star.{Star}
use Rattle.model.specs.Points.{regular_case, transition_case}
use Rattle.model.specs.Mesh.{Cell, Mesh, fill_to, cell_step, regular_cell, transition_cell}
use Rattle.cases.specs.Marks.{all_regular, all_transition, uncut}
use Rattle.cells.specs.Puts.{Nothing, SameMade}

pub nothing_step : (c : Cell) → Nothing c → (m : Mesh) → SameMade (cell_step c m) m
unfolding cell_step fill_to
nothing_step c none m =
    record {
      made_same = rw (none.no_vertices, append-nil m.made);
      triangles_same = rw (none.no_triangles, append-nil m.triangles);
      store_same = rw none.no_vertices;
    }

-- steps that make nothing are stepped over
pub made_skip : (f : ℕ → Mesh → Mesh) (m : Mesh) (from next : ℕ) → from ≤ next → ((i : ℕ) → from ≤ i → i < next → (m : Mesh) → SameMade (f i m) m)
    → SameMade (iterate f from m) (iterate f next m)
made_skip f m from next l none =
    record {
      made_same = part_skip (λ (m : Mesh). m.made) f m from next l (λ i a b m. (none i a b m).made_same);
      triangles_same = part_skip (λ (m : Mesh). m.triangles) f m from next l (λ i a b m. (none i a b m).triangles_same);
      store_same = part_skip (λ (m : Mesh). m.store) f m from next l (λ i a b m. (none i a b m).store_same);
    }

-- what holds of the case with no point inside and of that with all of them
uncut_either : (P : ℕ → Type 0) (case all : ℕ) → P 0 → P all → uncut case all ≡ true → P case
uncut_either P case all none every t = go (eqb case 0) (eqb case all) refl refl t
  where
    go : (x y : Bool) → eqb case 0 ≡ x → eqb case all ≡ y → x || y ≡ true → P case
    go true y is_none is_all h = rw (eqb-true case 0 is_none) none
    go false true is_none is_all h = rw (eqb-true case all is_all) every
    go false false is_none is_all h =
        let z : ◌≡◌ {A = ℕ} 0 1 = cc in
        absurd (omega arith)

-- ---- regular cells

abbrev RegularNothing : ℕ → Type 0
RegularNothing case = (regular_vertices case ≡ 0) × (regular_triangles case ≡ 0)

regular_outside : RegularNothing 0
unfolding regular.classes regular.cell_rows regular_class regularRow regular_vertices regular_triangles
regular_outside = (refl, refl)

regular_inside : RegularNothing all_regular
unfolding regular.classes regular.cell_rows regular_class regularRow regular_vertices regular_triangles
regular_inside = (refl, refl)

pub regular_nothing : (s : Star) (x y z : ℕ) → uncut (regular_case s x y z) all_regular ≡ true → Nothing (regular_cell s x y z)
unfolding regular_cell
regular_nothing s x y z t =
    let none = uncut_either RegularNothing (regular_case s x y z) all_regular regular_outside regular_inside t in
    record { no_vertices = none.0; no_triangles = none.1 }

-- ---- transition cells

abbrev TransitionNothing : ℕ → Type 0
TransitionNothing case = (transition_vertices case ≡ 0) × (transition_triangles case ≡ 0)

transition_outside : TransitionNothing 0
unfolding transition.classes transition.cell_rows transition_class transition_row transition_vertices transition_triangles
transition_outside = (refl, refl)

transition_inside : TransitionNothing all_transition
unfolding transition.classes transition.cell_rows transition_class transition_row transition_vertices transition_triangles
transition_inside = (refl, refl)

pub transition_nothing : (s : Star) (side u v : ℕ) → uncut (transition_case s side u v) all_transition ≡ true → Nothing (transition_cell s side u v)
unfolding transition_cell
transition_nothing s side u v t =
    let none = uncut_either TransitionNothing (transition_case s side u v) all_transition transition_outside transition_inside t in
    record { no_vertices = none.0; no_triangles = none.1 }
