-- What the statement of each public function allows is one answer: two that it allows for the same inputs are equal. The functions lend no buffer.
use mathlib.Core.Path.{◌≡◌, sym, ◌∙◌}
use mathlib.Core.Bool.{true, false}
use Prim.Native.Nat.{ℕ, ◌<◌}
use native.Mathlib.Decide.{dec_lt}
use native.Mathlib.Omega.{arith}
use contract.Lifetimes.{Lfts}
use Rattle.model.specs.Pinned.{pinned}
use Rattle.grid.specs.SideLaws.{NextSide}
use Rattle.grid.proofs.face_walk.face_walk.Reads as face-walk
use Rattle.grid.proofs.face_walk.along.Reads as along
use Rattle.grid.proofs.readings.reading_at.Reads as reading_at_lem
use Rattle.grid.proofs.readings.value_of.Reads as value_of_lem
use Rattle.grid.proofs.readings.value_in_block.Reads as value-in-block
use Rattle.grid.proofs.rotation.rotation_for_side.Reads as rotation-for-side
use Rattle.grid.proofs.rotation.side_point.Reads as side-point
use Rattle.grid.proofs.rotation.face_point.Reads as face-point
use Rattle.grid.proofs.rotation.fine_points.Reads as fine_points
use Rattle.grid.proofs.shared_vertex_indices.store_length.Reads as store_length
use Rattle.grid.proofs.shared_vertex_indices.regular_place.Reads as regular_place_lem
use Rattle.grid.proofs.shared_vertex_indices.transition_place.Reads as transition_place_lem
use Rattle.grid.proofs.transition_sides.is_named.Reads as is_named
use Rattle.grid.proofs.transition_sides.count.Reads as count
use Rattle.grid.proofs.transition_sides.next_side.Reads as next_side_lem
use Rattle.grid.proofs.transition_sides.count_below.Reads as count-below
use Rattle.grid.proofs.transition_sides.sample_count.Reads as sample-count
use Rattle.grid.proofs.transition_sides.neighbour.Reads as neighbour
use Rattle.grid.proofs.voxel_blocks.inside.Reads as inside
use Rattle.grid.proofs.voxel_blocks.sample_length.Reads as sample-length
use Rattle.grid.proofs.voxel_blocks.in_block.Reads as in_block
use Rattle.grid.proofs.voxel_blocks.on_face.Reads as on_face_lem
use Rattle.grid.proofs.voxel_blocks.sample.Reads as sample
use Rattle.grid.proofs.voxel_blocks.outside_by.Reads as outside_by
use Rattle.grid.proofs.voxel_blocks.place.Reads as place
use Rattle.grid.proofs.voxel_blocks.kind.Reads as kind
use Rattle.grid.proofs.voxel_blocks.outside_count.Reads as outside-count
use Rattle.grid.proofs.voxel_blocks.is_sampled.Reads as is-sampled
use Rattle.grid.proofs.voxel_blocks.reading.Reads as reading
use Rattle.grid.proofs.voxel_blocks.one_up.Reads as one_up

-- of two next sides neither comes before the other: it would be named, and passed over as one that is not
not_before : {mask from r r' : ℕ} → NextSide mask from r → NextSide mask from r' → r < r' → ⊥
not_before {r = r} p q l =
    let clash : true ≡ false = sym (p.is_named (omega (arith, q.le_six))) ∙ q.none_between r p.from_le l in
    let z : ◌≡◌ {A = ℕ} 0 1 = cc in
    omega arith

next_side_one : {mask from r r' : ℕ} → NextSide mask from r → NextSide mask from r' → r ≡ r'
next_side_one {r = r} {r' = r'} p q = go (dec_lt r r') (dec_lt r' r)
  where
    go : Dec (r < r') → Dec (r' < r) → r ≡ r'
    go (yes l) m = absurd (not_before p q l)
    go (no l) (yes m) = absurd (not_before q p m)
    go (no l) (no m) = omega arith

pub face_walk_pinned : (κs : Lfts 0) (a : _) (r r' : _) (e e' : _) → face-walk.Learnt κs a r e → face-walk.Learnt κs a r' e' → r ≡ r'
face_walk_pinned κs a r r' e e' h k = pinned h k

pub along_pinned : (κs : Lfts 0) (a : _) (r r' : _) (e e' : _) → along.Learnt κs a r e → along.Learnt κs a r' e' → r ≡ r'
along_pinned κs a r r' e e' h k = pinned h k

pub reading_at_pinned : (κs : Lfts 1) (a : _) (r r' : _) (e e' : _) → reading_at_lem.Learnt κs a r e → reading_at_lem.Learnt κs a r' e' → r ≡ r'
reading_at_pinned κs a r r' e e' h k = pinned h k

pub value_of_pinned : (κs : Lfts 0) (a : _) (r r' : _) (e e' : _) → value_of_lem.Learnt κs a r e → value_of_lem.Learnt κs a r' e' → r ≡ r'
value_of_pinned κs a r r' e e' h k = pinned h k

pub value_in_block_pinned : (κs : Lfts 1) (a : _) (r r' : _) (e e' : _) → value-in-block.Learnt κs a r e → value-in-block.Learnt κs a r' e' → r ≡ r'
value_in_block_pinned κs a r r' e e' h k = pinned h k

pub rotation_for_side_pinned : (κs : Lfts 0) (a : _) (r r' : _) (e e' : _) → rotation-for-side.Learnt κs a r e → rotation-for-side.Learnt κs a r' e' → r ≡ r'
rotation_for_side_pinned κs a r r' e e' h k = pinned h k

pub side_point_pinned : (κs : Lfts 0) (a : _) (r r' : _) (e e' : _) → side-point.Learnt κs a r e → side-point.Learnt κs a r' e' → r ≡ r'
side_point_pinned κs a r r' e e' h k = pinned h.0 k.0

pub face_point_pinned : (κs : Lfts 0) (a : _) (r r' : _) (e e' : _) → face-point.Learnt κs a r e → face-point.Learnt κs a r' e' → r ≡ r'
face_point_pinned κs a r r' e e' h k = pinned h.0 k.0

pub fine_points_pinned : (κs : Lfts 0) (a : _) (r r' : _) (e e' : _) → fine_points.Learnt κs a r e → fine_points.Learnt κs a r' e' → r ≡ r'
fine_points_pinned κs a r r' e e' h k =
    λ i. record { here = pinned h.0.0 k.0.0 i; there = pinned h.1.0 k.1.0 i }

pub store_length_pinned : (κs : Lfts 0) (a : _) (r r' : _) (e e' : _) → store_length.Learnt κs a r e → store_length.Learnt κs a r' e' → r ≡ r'
store_length_pinned κs a r r' e e' h k = pinned h k

pub regular_place_pinned : (κs : Lfts 0) (a : _) (r r' : _) (e e' : _) → regular_place_lem.Learnt κs a r e → regular_place_lem.Learnt κs a r' e' → r ≡ r'
regular_place_pinned κs a r r' e e' h k = pinned h.0 k.0

pub transition_place_pinned : (κs : Lfts 0) (a : _) (r r' : _) (e e' : _) → transition_place_lem.Learnt κs a r e → transition_place_lem.Learnt κs a r' e' → r ≡ r'
transition_place_pinned κs a r r' e e' h k = pinned h.0 k.0

pub is_named_pinned : (κs : Lfts 0) (a : _) (r r' : _) (e e' : _) → is_named.Learnt κs a r e → is_named.Learnt κs a r' e' → r ≡ r'
is_named_pinned κs a r r' e e' h k = pinned h k

pub count_pinned : (κs : Lfts 0) (a : _) (r r' : _) (e e' : _) → count.Learnt κs a r e → count.Learnt κs a r' e' → r ≡ r'
count_pinned κs a r r' e e' h k = pinned h k

pub next_side_pinned : (κs : Lfts 0) (a : _) (r r' : _) (e e' : _) → next_side_lem.Learnt κs a r e → next_side_lem.Learnt κs a r' e' → r ≡ r'
next_side_pinned κs a r r' e e' h k = next_side_one h k

pub count_below_pinned : (κs : Lfts 0) (a : _) (r r' : _) (e e' : _) → count-below.Learnt κs a r e → count-below.Learnt κs a r' e' → r ≡ r'
count_below_pinned κs a r r' e e' h k = pinned h k

pub sample_count_pinned : (κs : Lfts 0) (a : _) (r r' : _) (e e' : _) → sample-count.Learnt κs a r e → sample-count.Learnt κs a r' e' → r ≡ r'
sample_count_pinned κs a r r' e e' h k = pinned h.0 k.0

pub neighbour_pinned : (κs : Lfts 1) (a : _) (r r' : _) (e e' : _) → neighbour.Learnt κs a r e → neighbour.Learnt κs a r' e' → r.now ≡ r'.now
neighbour_pinned κs a r r' e e' h k = pinned h.0 k.0

pub inside_pinned : (κs : Lfts 0) (a : _) (r r' : _) (e e' : _) → inside.Learnt κs a r e → inside.Learnt κs a r' e' → r ≡ r'
inside_pinned κs a r r' e e' h k = pinned h k

pub sample_length_pinned : (κs : Lfts 0) (a : _) (r r' : _) (e e' : _) → sample-length.Learnt κs a r e → sample-length.Learnt κs a r' e' → r ≡ r'
sample_length_pinned κs a r r' e e' h k = pinned h k

pub in_block_pinned : (κs : Lfts 0) (a : _) (r r' : _) (e e' : _) → in_block.Learnt κs a r e → in_block.Learnt κs a r' e' → r ≡ r'
in_block_pinned κs a r r' e e' h k = pinned h.0 k.0

pub on_face_pinned : (κs : Lfts 0) (a : _) (r r' : _) (e e' : _) → on_face_lem.Learnt κs a r e → on_face_lem.Learnt κs a r' e' → r ≡ r'
on_face_pinned κs a r r' e e' h k = pinned h.0 k.0

pub sample_pinned : (κs : Lfts 1) (a : _) (r r' : _) (e e' : _) → sample.Learnt κs a r e → sample.Learnt κs a r' e' → r ≡ r'
sample_pinned κs a r r' e e' h k = pinned h k

pub outside_by_pinned : (κs : Lfts 0) (a : _) (r r' : _) (e e' : _) → outside_by.Learnt κs a r e → outside_by.Learnt κs a r' e' → r ≡ r'
outside_by_pinned κs a r r' e e' h k = pinned h.0 k.0

pub place_pinned : (κs : Lfts 0) (a : _) (r r' : _) (e e' : _) → place.Learnt κs a r e → place.Learnt κs a r' e' → r ≡ r'
place_pinned κs a r r' e e' h k = pinned h.0 k.0

pub kind_pinned : (κs : Lfts 0) (a : _) (r r' : _) (e e' : _) → kind.Learnt κs a r e → kind.Learnt κs a r' e' → r ≡ r'
kind_pinned κs a r r' e e' h k = pinned h k

pub outside_count_pinned : (κs : Lfts 0) (a : _) (r r' : _) (e e' : _) → outside-count.Learnt κs a r e → outside-count.Learnt κs a r' e' → r ≡ r'
outside_count_pinned κs a r r' e e' h k = pinned h k

pub is_sampled_pinned : (κs : Lfts 0) (a : _) (r r' : _) (e e' : _) → is-sampled.Learnt κs a r e → is-sampled.Learnt κs a r' e' → r ≡ r'
is_sampled_pinned κs a r r' e e' h k = pinned h k

pub reading_pinned : (κs : Lfts 1) (a : _) (r r' : _) (e e' : _) → reading.Learnt κs a r e → reading.Learnt κs a r' e' → r ≡ r'
reading_pinned κs a r r' e e' h k = pinned h k

pub one_up_pinned : (κs : Lfts 0) (a : _) (r r' : _) (e e' : _) → one_up.Learnt κs a r e → one_up.Learnt κs a r' e' → r ≡ r'
one_up_pinned κs a r r' e e' h k = pinned h k
