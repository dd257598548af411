-- Document 01, 'The block and its samples': the step to the next named side, and that a named side's part of the neighbour list is wholly
-- there. Each rule over masks is one computed test over the 64 masks and the six sides.
use Rattle.std.specs.Prelude.{ℕ, ◌+◌, ◌*◌, ◌/◌, ◌%◌, ◌^◌, ◌≤◌, ◌<◌, ◌≡◌, refl, Bool, true, false, not, List, T, eqb, leb, ltb, Float, length}
use Rattle.std.proofs.Common.{add-mul, mul-le-mul_right, arith, eqb→eq, le→leb, ltb→lt, lt→ltb, length-take, length-drop}
use Rattle.std.specs.Int.Count.{ones, ones_in, count_trailing_zeros}
use Rattle.std.proofs.Math.Dec.{leb→le}
use Rattle.laws.specs.Tests.{both, both_left, both_right, then, then_holds, below, all, all₂}
use Rattle.model.specs.Limits.{most_subdivisions, side_count, most_mask}
use Rattle.model.specs.Sides.{named, named_below, neighbour_length, neighbours_length, neighbour_of}

-- a test that holds, and one that does not
passes : (b : Bool) → T b → b ≡ true
passes true t = refl
passes false t = absurd t

fails : (b : Bool) → T (not b) → b ≡ false
fails true t = absurd t
fails false t = refl

-- ---- the next named side

-- the first named side at or after from, or 6
pub record NextSide (mask from r : ℕ) : Type 0 where
  pub from_le : from ≤ r
  pub le_six : r ≤ side_count
  pub none_between : (k : ℕ) → from ≤ k → k < r → named mask k ≡ false
  pub is_named : r < side_count → named mask r ≡ true

-- bit 6, which is no side's, ends the search
unfoldable pub next_side : ℕ → ℕ → ℕ
next_side mask from = from + count_trailing_zeros 8 ((mask + 64) / 2 ^ from)

unfoldable steps : ℕ → ℕ → ℕ → Bool
steps mask from r =
    both (leb from r)
    (both (leb r 6) (both (below (λ k. then (leb from k) (not (named mask k))) r) (then (ltb r 6) (named mask r))))

all_step : T (below (λ mask. below (λ from. steps mask from (next_side mask from)) 7) 64)
unfolding both then named count_trailing_zeros next_side steps
all_step = tt

module _ (mask from : ℕ) (hm : mask ≤ most_mask) (hf : from ≤ side_count) where
  step : T (steps mask from (next_side mask from))
  step = all₂ (λ m f. steps m f (next_side m f)) 64 7 all_step mask from (omega arith) (omega arith)

  pub next_side_lem : NextSide mask from (next_side mask from)
  unfolding steps
  next_side_lem =
      let r = next_side mask from in
      let rest = both_right _ _ (both_right _ _ step) in
      record {
        from_le = leb→le from r (both_left _ _ step);
        le_six = leb→le r 6 (both_left _ _ (both_right _ _ step));
        none_between = λ k l h. fails _ (then_holds _ _ (all (λ k. then (leb from k) (not (named mask k))) r (both_left _ _ rest) k h) (le→leb from k l));
        is_named = λ l. passes _ (then_holds _ _ (both_right _ _ rest) (lt→ltb r 6 l));
      }

-- ---- a side's part of the neighbour list

-- what a shift by a side's number comes to
pub bit_of : (side : ℕ) → side < side_count → 1 * 2 ^ side % 2 ^ 8 ≡ 2 ^ side
unfolding both
bit_of side h = eqb→eq _ _ (all (λ s. eqb (1 * 2 ^ s % 2 ^ 8) (2 ^ s)) 6 tt side h)

all_there : T (below (λ mask. below (λ side. then (named mask side) (ltb (named_below mask side) (ones mask))) 6) 64)
unfolding both then named ones ones_in
all_there = tt

-- a named side of a block whose neighbour list is as long as its mask asks
pub record NeighbourThere (n mask : ℕ) (neighbours : List Float) (side : ℕ) : Type 0 where
  pub few : n ≤ most_subdivisions
  pub sides : mask ≤ most_mask
  pub side_is : side < side_count
  pub is_named : named mask side ≡ true
  pub neighbours_are : length neighbours ≡ neighbours_length n mask

pub named_below_lem : (mask side : ℕ) → mask ≤ most_mask → side < side_count → named mask side ≡ true → named_below mask side < ones mask
named_below_lem mask side hm hs hn =
    ltb→lt _ _
    (then_holds _ _
    (all₂ (λ m s. then (named m s) (ltb (named_below m s) (ones m))) 64 6 all_there mask side (omega arith) hs) (rw hn tt))

module _ (n mask : ℕ) (neighbours : List Float) (side : ℕ) (h : NeighbourThere n mask neighbours side) where
  -- the part ends within the list
  pub part_ends : named_below mask side * neighbour_length n + neighbour_length n ≤ length neighbours
  part_ends =
      let l = neighbour_length n in
      let b = named_below mask side in
      let e : (b + 1) * l ≤ ones mask * l =
      mul-le-mul_right l (omega (arith, named_below_lem mask side h.sides h.side_is h.is_named)) in
      omega (arith, add-mul b 1 l)

  pub neighbour_length_lem : length (neighbour_of n mask neighbours side) ≡ neighbour_length n
  unfolding neighbour_of
  neighbour_length_lem = simp (length-take, length-drop) (omega (arith, part_ends))
