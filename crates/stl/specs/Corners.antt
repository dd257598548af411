-- Document 02, [1]: the nine f32 of a triangle, one by one. Assumes nothing.
use Prim.Native.Nat.{ℕ, zero, suc, ◌+◌, ◌*◌, ◌/◌, ◌%◌, ◌<◌}
use Rattle.std.proofs.Common.{arith, sym, ap, ap₂, ◌∙◌}
use Rattle.std.specs.Prelude.{◌≡◌, Float, length}
use Rattle.std.proofs.Math.Path.{refl}
use mathlib.Core.List.{List, [], ◌∷◌}
use Rattle.std.specs.Float.Ieee.{nan, fits}
use Rattle.std.proofs.Math.ListN.{get_or}
use Rattle.laws.specs.Steps.{listed}
use Rattle.laws.specs.Lists.{get_d_listed}
use Rattle.words.specs.Floats.{Fit}
use Rattle.model.specs.Corners.{corner_of}
use Rattle.stl.specs.Definition.{float_count, corners_of}

module _ (vertices : List Float) (triangles : List ℕ) (t : ℕ) where
  pub nine : length (corners_of vertices triangles t) ≡ float_count
  unfolding corners_of
  nine = refl

  -- all that is known of each, they are
  pub corners_by : (f : ℕ → Float) → ((corner axis : ℕ) → corner < 3 → axis < 3 → get_or vertices (6 * corner_of triangles t corner + axis) nan ≡ f (3 * corner + axis))
      → corners_of vertices triangles t ≡ listed f float_count
  unfolding corners_of
  corners_by f is =
      let e : (corner axis : ℕ) → corner < 3 → axis < 3 → get_or vertices (6 * corner_of triangles t corner + axis) nan ≡ f (3 * corner + axis) = is in
      λ i.
      e 0 0 (omega arith) (omega arith) i
      ∷ e 0 1 (omega arith) (omega arith) i
      ∷ e 0 2 (omega arith) (omega arith) i
      ∷ e 1 0 (omega arith) (omega arith) i
      ∷ e 1 1 (omega arith) (omega arith) i
      ∷ e 1 2 (omega arith) (omega arith) i
      ∷ e 2 0 (omega arith) (omega arith) i
      ∷ e 2 1 (omega arith) (omega arith) i
      ∷ e 2 2 (omega arith) (omega arith) i
      ∷ []

  -- the axis of a corner
  pub corner_at_lem : (corner axis : ℕ) → corner < 3 → axis < 3 → get_or (corners_of vertices triangles t) (3 * corner + axis) nan ≡ get_or vertices (6 * corner_of triangles t corner + axis) nan
  corner_at_lem corner axis c a =
      let at : ℕ → ℕ → Float = λ corner axis. get_or vertices (6 * corner_of triangles t corner + axis) nan in
      let quotient : (c a : ℕ) → c < 3 → a < 3 → (3 * c + a) / 3 ≡ c = λ c a h l. omega arith in
      let rest : (c a : ℕ) → c < 3 → a < 3 → (3 * c + a) % 3 ≡ a = λ c a h l. omega arith in
      let f : ℕ → Float = λ k. at (k / 3) (k % 3) in
      let known : (c a : ℕ) → c < 3 → a < 3 → at c a ≡ f (3 * c + a) = λ c a h l. sym (ap₂ at (quotient c a h l) (rest c a h l)) in
      ap (λ (l : List Float). get_or l (3 * corner + axis) nan) (corners_by f known)
      ∙ get_d_listed f float_count (3 * corner + axis) nan (omega arith) ∙ sym (known corner axis c a)

  pub fit_corners : Fit vertices → Fit (corners_of vertices triangles t)
  unfolding corners_of fits
  fit_corners fit zero = fit _
  fit_corners fit (suc zero) = fit _
  fit_corners fit (suc (suc zero)) = fit _
  fit_corners fit (suc (suc (suc zero))) = fit _
  fit_corners fit (suc (suc (suc (suc zero)))) = fit _
  fit_corners fit (suc (suc (suc (suc (suc zero))))) = fit _
  fit_corners fit (suc (suc (suc (suc (suc (suc zero)))))) = fit _
  fit_corners fit (suc (suc (suc (suc (suc (suc (suc zero))))))) = fit _
  fit_corners fit (suc (suc (suc (suc (suc (suc (suc (suc zero)))))))) = fit _
  fit_corners fit (suc (suc (suc (suc (suc (suc (suc (suc (suc k))))))))) = tt
