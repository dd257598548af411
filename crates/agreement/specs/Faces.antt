-- Document 01, 'Answers by number': 8 over one face, with the neighbour's samples at hand, and over the faces of the named sides; and what holds of a
-- block that 8 passes.
use Rattle.std.specs.Prelude.{ℕ, ◌+◌, ◌*◌, ◌≤◌, ◌<◌, ◌≡◌, refl, Bool, true, false, cond, List, Float, get_or, Ok}
use Rattle.std.proofs.Common.{zero-le, ◌∙◌, arith}
use Rattle.std.specs.Bool.{beq}
use Rattle.std.specs.Float.{nan}
use Rattle.model.specs.declared.Refusal.TheVariants.{FaceMismatch}
use Rattle.model.specs.Answers.{Verdict}
use Rattle.model.specs.Refusals.{unless, first}
use Rattle.model.specs.Limits.{side_count}
use Rattle.model.specs.Samples.{sample_of}
use Rattle.model.specs.Sides.{named, neighbour_of}
use Rattle.model.specs.Rotations.{face_point, neighbour_point}
use Rattle.model.specs.Formulas.{inside}
use Rattle.model.specs.Star.{Star, subdivisions}
use Rattle.model.specs.Points.{fine_sample}
use Rattle.model.specs.Judging.{faces_agree, face_spot, face_row, face_side, judge_faces}
use Rattle.grid.specs.RotationLaws.{OnFace, OnSide}
use Rattle.grid.specs.Walks.{side_place, spot_read}
use Rattle.judge.specs.First.{unless_passed, each_passed, passed_over_lem}
use Rattle.judge.specs.NamedSides.{of_named}

-- a face's point among the centre's samples, and the coinciding one among the neighbour's
pub coarse_on : {n side u v : ℕ} → OnFace n side u v → OnSide side n u v 0
coarse_on on = omega arith

pub fine_on : {n side u v : ℕ} → OnFace n side u v → OnSide side (2 * n) (2 * u) (2 * v) (2 * n)
fine_on on = omega arith

module _ (n : ℕ) (threshold : Float) (centre neighbour : List Float) (side : ℕ) where
  abbrev pub pair_agrees : ℕ → ℕ → Bool
  pair_agrees u v =
      beq (inside threshold (sample_of n centre (face_point n side u v)))
      (inside threshold (sample_of (2 * n) neighbour (neighbour_point n side (2 * u) (2 * v))))

  -- it goes by the samples at the two places
  abbrev agree_at : ℕ → ℕ → Bool
  agree_at here there = beq (inside threshold (get_or centre here nan)) (inside threshold (get_or neighbour there nan))

  pub places_agree : {u v here there : ℕ} {r : Bool} → OnFace n side u v → here ≡ side_place n side 0 u v
      → there ≡ side_place (2 * n) side (2 * n) (2 * u) (2 * v) → r ≡ agree_at here there → r ≡ pair_agrees u v
  places_agree {u} {v} on here-is there-is e =
      let coarse = spot_read n side 0 u v (coarse_on on) centre in
      let fine = spot_read (2 * n) side (2 * n) (2 * u) (2 * v) (fine_on on) neighbour in
      e ∙ (λ i. agree_at (here-is i) (there-is i)) ∙ (λ i. beq (inside threshold (coarse i)) (inside threshold (fine i)))

  -- a point, the first places of a row, and the first rows of a face
  abbrev pub pair_spot : ℕ → ℕ → Verdict
  pair_spot u v = unless (pair_agrees u v) (FaceMismatch (record { side = side; u = u; v = v }))

  abbrev pub pair_row : ℕ → ℕ → Verdict
  pair_row u = first (pair_spot u)

  abbrev pub pair_rows : ℕ → Verdict
  pair_rows = first (λ u. pair_row u (n + 1))

-- a side's whole face
abbrev pub pair_face : ℕ → ℕ → Float → List Float → List Float → ℕ → Verdict
pair_face n mask threshold centre neighbours side =
    pair_rows n threshold centre (neighbour_of n mask neighbours side) side (n + 1)

pub face_by_face : (s : Star) →
    judge_faces s ≡ first (of_named s.mask (pair_face (subdivisions s) s.mask s.threshold s.centre s.neighbours)) side_count
unfolding judge_faces faces_agree fine_sample
face_by_face s = refl

-- 8 passes exactly where the samples agree at each point of each named side's face
abbrev pub AllAgree : Star → Type 0
AllAgree s =
    (side u v : ℕ) → side < side_count → named s.mask side ≡ true → u ≤ subdivisions s → v ≤ subdivisions s → faces_agree s side u v ≡ true

pub faces_agree_lem : (s : Star) → judge_faces s ≡ Ok tt → AllAgree s
unfolding judge_faces
faces_agree_lem s passed side u v hs is_named hu hv =
    let n = subdivisions s in
    let at_side = each_passed (λ side. cond (named s.mask side) (face_side s side (n + 1)) (Ok tt)) side_count side passed hs in
    let all_rows : face_side s side (n + 1) ≡ Ok tt = rw is_named at at_side in
    let at_row = each_passed (λ u. face_row s side u (n + 1)) (n + 1) u all_rows (omega arith) in
    let at-spot = each_passed (face_spot s side u) (n + 1) v at_row (omega arith) in
    unless_passed (faces_agree s side u v) (FaceMismatch (record { side = side; u = u; v = v })) at-spot

pub faces_pass : (s : Star) → AllAgree s → judge_faces s ≡ Ok tt
unfolding judge_faces
faces_pass s all =
    passed_over_lem (λ side. cond (named s.mask side) (face_side s side (subdivisions s + 1)) (Ok tt)) 0 side_count refl
    (λ side _ h. of_side side h (named s.mask side) refl) zero-le
  where
    of_side : (side : ℕ) → side < side_count → (b : Bool) → named s.mask side ≡ b → cond b (face_side s side (subdivisions s + 1)) (Ok tt) ≡ Ok tt
    of_side side h false is = refl
    of_side side h true is =
        passed_over_lem (λ u. face_row s side u (subdivisions s + 1)) 0 (subdivisions s + 1) refl
        (λ u _ hu.
        passed_over_lem (face_spot s side u) 0 (subdivisions s + 1) refl (λ v _ hv. rw (all side u v h is (omega arith) (omega arith))) zero-le)
        zero-le
