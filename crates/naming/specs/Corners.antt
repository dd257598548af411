-- Document 02, [1] and [10]: refusal 17. A look at all corners finds whether there is a triangle that names no vertex; what passes names one
-- with each corner.
use Prim.Native.Nat.{ℕ, zero, suc, ◌+◌, ◌*◌, ◌/◌, ◌%◌, ◌<◌, zero-le}
use Rattle.std.proofs.Common.{add-zero, arith, subst}
use Rattle.std.specs.Prelude.{◌≡◌, Bool, ◌&&◌, List, get_or, Ok}
use Rattle.std.proofs.Math.Path.{refl}
use Rattle.std.proofs.Math.Bool.{true, and-eq-true_iff}
use borrow.Author.Tests.{ltb-true, lt-ltb}
use Rattle.std.proofs.Math.Dec.{ltb}
use Rattle.laws.specs.Below.{all_below, each_below}
use Rattle.laws.specs.Ranges.{hold_all}
use Rattle.model.specs.declared.Refusal.TheVariants.{NoVertex}
use Rattle.model.specs.Answers.{Verdict}
use Rattle.model.specs.Refusals.{unless}
use Rattle.model.specs.Corners.{triangle_count, corner_of, named, judge_named}
use Rattle.judge.specs.First.{unless_passed, each_passed, passed_over_lem}

-- the first k corners each name a vertex
abbrev pub all_named : ℕ → List ℕ → ℕ → Bool
all_named held triangles = all_below (λ k. ltb (get_or triangles k 0) held)

abbrev pub named_spot : ℕ → List ℕ → ℕ → Verdict
named_spot held triangles t = unless (named held triangles t) (NoVertex t)

-- a triangle whose corners were looked at
pub spot_is : (held : ℕ) (triangles : List ℕ) (t : ℕ) (one two three : Bool) → one ≡ ltb (get_or triangles (3 * t) 0) held
    → two ≡ ltb (get_or triangles (3 * t + 1) 0) held → three ≡ ltb (get_or triangles (3 * t + 2) 0) held
    → named_spot held triangles t ≡ unless (one && two && three) (NoVertex t)
spot_is held triangles t one two three a b c = rw (add-zero, a, b, c)

module _ (held : ℕ) (triangles : List ℕ) where
  abbrev count : ℕ
  count = triangle_count triangles

  pub all_named_lem : all_named held triangles (3 * count) ≡ true → judge_named held triangles ≡ Ok tt
  unfolding judge_named
  all_named_lem h =
      let corner : (t k : ℕ) → t < count → k < 3 → ltb (corner_of triangles t k) held ≡ true =
      λ t k l below. each_below (λ i. ltb (get_or triangles i 0) held) (3 * count) (3 * t + k) h (omega arith) in
      passed_over_lem (named_spot held triangles) 0 count refl
      (λ t _ l. rw (corner t 0 l (omega arith), corner t 1 l (omega arith), corner t 2 l (omega arith))) zero-le

  -- ---- what passes

  three_named : judge_named held triangles ≡ Ok tt → (t : ℕ) → t < count
      → (corner_of triangles t 0 < held) × (corner_of triangles t 1 < held) × (corner_of triangles t 2 < held)
  unfolding judge_named
  three_named e t h =
      let a = ltb (corner_of triangles t 0) held in
      let b = ltb (corner_of triangles t 1) held in
      let c = ltb (corner_of triangles t 2) held in
      let all : named held triangles t ≡ true = unless_passed _ (NoVertex t) (each_passed (named_spot held triangles) count t e h) in
      let third = (and-eq-true_iff (a && b) c).0 all in
      let both = (and-eq-true_iff a b).0 third.0 in
      (ltb-true _ held both.0, ltb-true _ held both.1, ltb-true _ held third.1)

  pub corner_named : judge_named held triangles ≡ Ok tt → (t corner : ℕ) → t < count → corner < 3 → corner_of triangles t corner < held
  corner_named e t zero h small = (three_named e t h).0
  corner_named e t (suc zero) h small = (three_named e t h).1
  corner_named e t (suc (suc zero)) h small = (three_named e t h).2
  corner_named e t (suc (suc (suc corner))) h small = absurd (omega arith)

  -- by places
  pub by_place : ((t corner : ℕ) → t < count → corner < 3 → corner_of triangles t corner < held) → (p : ℕ) → p < 3 * count → get_or triangles p 0 < held
  by_place named p h =
      let q : 3 * (p / 3) + p % 3 ≡ p = omega arith in
      subst (λ (k : ℕ). get_or triangles k 0 < held) q (named (p / 3) (p % 3) (omega arith) (omega arith))

  pub place_named : judge_named held triangles ≡ Ok tt → (p : ℕ) → p < 3 * count → get_or triangles p 0 < held
  place_named e = by_place (corner_named e)

  pub places_named : ((p : ℕ) → p < 3 * count → get_or triangles p 0 < held) → judge_named held triangles ≡ Ok tt
  places_named h = all_named_lem (hold_all (λ k. ltb (get_or triangles k 0) held) (3 * count) (λ p l. lt-ltb _ held (h p l)))
