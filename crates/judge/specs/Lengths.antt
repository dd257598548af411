-- Document 01, 'Answers by number': 5 at a named side, and that the neighbours of the sides below one that is come to are wholly there.
use Rattle.std.specs.Prelude.{ℕ, zero, suc, ◌+◌, ◌*◌, ◌%◌, ◌≤◌, ◌<◌, ◌≡◌, Bool, true, false, cond, T, eqb, leb, Ok}
use Rattle.std.proofs.Math.Path.{ap}
use Rattle.std.proofs.Common.{subst, add-zero, add-one, eqb→eq, leb-true}
use native.Mathlib.Omega.{arith}
use Rattle.std.specs.Int.Count.{ones, ones_in}
use Rattle.laws.specs.Tests.{both, below, all₂}
use Rattle.model.specs.declared.Refusal.TheVariants.{MissingNeighbour}
use Rattle.model.specs.Answers.{Verdict}
use Rattle.model.specs.Limits.{side_count, most_mask}
use Rattle.model.specs.Refusals.{unless, first}
use Rattle.model.specs.Sides.{named, named_below, neighbour_length}
use Rattle.model.specs.Judging.{side_there}
use Rattle.judge.specs.First.{both_passed, unless_passed}

-- 5 at a named side: its part ends within what is held
abbrev pub part_there : ℕ → ℕ → ℕ → ℕ → Verdict
part_there n mask held side = unless (leb ((named_below mask side + 1) * neighbour_length n) held) (MissingNeighbour side)

-- ---- the named sides below a side

abbrev one_more : ℕ → ℕ → Bool
one_more mask side = eqb (named_below mask (side + 1)) (named_below mask side + cond (named mask side) 1 0)

each_one_more : T (below (λ mask. below (one_more mask) side_count) (most_mask + 1))
unfolding both named ones ones_in
each_one_more = tt

module _ (mask : ℕ) (h : mask ≤ most_mask) where
  named_below_next : (side : ℕ) → side < side_count → named_below mask (side + 1) ≡ named_below mask side + cond (named mask side) 1 0
  named_below_next side l = eqb→eq _ _ (all₂ one_more (most_mask + 1) side_count each_one_more mask side (omega arith) l)

  named_below_none : named_below mask 0 ≡ 0
  unfolding ones ones_in
  named_below_none =
      let none : mask % 1 ≡ 0 = omega arith in
      ap ones none

  pub named_below_all : named_below mask side_count ≡ ones mask
  named_below_all = ap ones (omega arith)

  -- no neighbour of a side below this one is missing
  pub parts_there : (n held side : ℕ) → side ≤ side_count → first (side_there n mask held) side ≡ Ok tt
      → named_below mask side * neighbour_length n ≤ held
  parts_there n held zero l e = rw named_below_none (omega arith)
  parts_there n held (suc side) l e =
      let parts = both_passed (first (side_there n mask held) side) (side_there n mask held side) e in
      let before = parts_there n held side (omega arith) parts.0 in
      let counted = named_below_next side (omega arith) in
      subst (λ (k : ℕ). named_below mask k * neighbour_length n ≤ held) (add-one side)
      (rw counted (there (named mask side) parts.1 before))
    where
      there : (isNamed : Bool)
          → cond isNamed (part_there n mask held side) (Ok tt) ≡ Ok tt
          → named_below mask side * neighbour_length n ≤ held
          → (named_below mask side + cond isNamed 1 0) * neighbour_length n ≤ held
      there true e before = leb-true _ _ (unless_passed _ (MissingNeighbour side) e)
      there false e before = rw add-zero before
