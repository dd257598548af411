-- The cases that make no triangle: of the regular ones exactly 0 and 255, of the transition ones exactly 0 and 511, so exactly those with no point
-- inside and with all of them. One computed test over each table (document 02, [3]).
use Rattle.std.specs.Prelude.{◌≡◌, ◌⊎◌, ◌↔◌, Bool, ◌||◌, ℕ, ◌<◌, T, eqb}
use Rattle.std.proofs.Common.{sym, ◌∙◌, eqb-true, eq-eqb}
use Rattle.std.specs.Bool.{beq}
use Rattle.laws.specs.Tests.{both, below, all}
use Rattle.laws.specs.Ranges.{passes, beq_eq, none_or_all}
use Rattle.tables.specs.RegularRows as regular
use Rattle.tables.specs.TransitionRows as transition
use Rattle.tables.specs.Cases.{regular_class, regular_cell, regular_triangles, transition_class, transition_cell, transition_triangles}

-- the case has no triangle exactly if it is 0 or full
abbrev pub UncutAlone : (ℕ → ℕ) → ℕ → ℕ → Type 0
UncutAlone triangles full case = (triangles case ≡ 0) ↔ ((case ≡ 0) ⊎ (case ≡ full))

unfoldable uncut_test : (ℕ → ℕ) → ℕ → ℕ → Bool
uncut_test triangles full case = beq (eqb (triangles case) 0) (eqb case 0 || eqb case full)

uncut_told : (triangles : ℕ → ℕ) (full case : ℕ) → T (uncut_test triangles full case) → UncutAlone triangles full case
unfolding uncut_test
uncut_told triangles full case t =
    let same = beq_eq (eqb (triangles case) 0) (eqb case 0 || eqb case full) (passes _ t) in
    let either = none_or_all case full in
    (λ e. either.0 (sym same ∙ eq-eqb (triangles case) 0 e), λ o. eqb-true (triangles case) 0 (same ∙ either.1 o))

regular_tests : T (below (uncut_test regular_triangles 255) 256)
unfolding regular.classes regular.cell_rows regular_class regular_cell regular_triangles both uncut_test
regular_tests = tt

pub regular_uncut_alone : (case : ℕ) → case < 256 → UncutAlone regular_triangles 255 case
regular_uncut_alone case h = uncut_told regular_triangles 255 case (all (uncut_test regular_triangles 255) 256 regular_tests case h)

transition_tests : T (below (uncut_test transition_triangles 511) 512)
unfolding transition.classes transition.cell_rows transition_class transition_cell transition_triangles both uncut_test
transition_tests = tt

pub transition_uncut_alone : (case : ℕ) → case < 512 → UncutAlone transition_triangles 511 case
transition_uncut_alone case h = uncut_told transition_triangles 511 case (all (uncut_test transition_triangles 511) 512 transition_tests case h)
