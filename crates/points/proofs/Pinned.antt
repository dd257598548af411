-- What the statement of each public function allows is one answer: of two that it allows for the same inputs, each is the other. A vertex
-- between grid points of the centre does not go by the neighbours, so that any list of them will do; a point of a transition cell goes by a
-- list that has the lent samples as the side's part, and there is one.
use Prim.Native.Nat.{ℕ, ◌*◌}
use mathlib.Core.Path.{◌≡◌, sym, ap, ◌∙◌}
use mathlib.Core.List.{List, [], ◌++◌}
use native.Mathlib.Omega.{arith}
use lib.Ieee.{Float, nan}
use lib.ListN.{length, take, replicate, length-replicate}
use lib.Seq.{take_all, drop_at}
use contract.Lifetimes.{Lfts}
use Rattle.model.specs.Sides.{neighbour_length, named_below, neighbour_of}
use Rattle.model.specs.Pinned.{pinned}
use Rattle.points.proofs.block.regular_position.Reads as regular-position
use Rattle.points.proofs.block.fine_position.Reads as fine-position
use Rattle.points.proofs.formulas.vertex_between.Reads as vertex-between
use Rattle.points.proofs.fractions.fractions_of.Reads as fractions-of
use Rattle.points.proofs.grid_point.regular_vertex_between.Reads as regular-vertex-between
use Rattle.points.proofs.grid_point.transition_point.Reads as transition-point
use Rattle.points.proofs.grid_point.vertex_inside.Reads as vertex-inside

-- the lent samples, after those of the named sides below
module _ (n mask side : ℕ) (fine : List Float) (e : length fine ≡ neighbour_length n) where
  abbrev neighbours : List Float
  neighbours = replicate (named_below mask side * neighbour_length n) nan ++ fine

  is_part : fine ≡ neighbour_of n mask neighbours side
  unfolding neighbour_of
  is_part =
      let k = named_below mask side * neighbour_length n in
      sym (take_all (neighbour_length n) fine (omega arith))
      ∙ ap (take (neighbour_length n)) (sym (drop_at (replicate k nan) fine k (length-replicate k nan)))

pub regular_position_pinned : (κs : Lfts 1) (a : _) (r r' : _) (e e' : _) → regular-position.Learnt κs a r e → regular-position.Learnt κs a r' e' → r ≡ r'
regular_position_pinned κs a r r' e e' h k = pinned h k

pub fine_position_pinned : (κs : Lfts 1) (a : _) (r r' : _) (e e' : _) → fine-position.Learnt κs a r e → fine-position.Learnt κs a r' e' → r ≡ r'
fine_position_pinned κs a r r' e e' h k = pinned h k

pub vertex_between_pinned : (κs : Lfts 0) (a : _) (r r' : _) (e e' : _) → vertex-between.Learnt κs a r e → vertex-between.Learnt κs a r' e' → r ≡ r'
vertex_between_pinned κs a r r' e e' h k = pinned h k

pub fractions_of_pinned : (κs : Lfts 0) (a : _) (r r' : _) (e e' : _) → fractions-of.Learnt κs a r e → fractions-of.Learnt κs a r' e' → r ≡ r'
fractions_of_pinned κs a r r' e e' h k = pinned h.are k.are

pub regular_vertex_between_pinned : (κs : Lfts 2) (a : _) (r r' : _) (e e' : _) → regular-vertex-between.Learnt κs a r e → regular-vertex-between.Learnt κs a r' e' → r ≡ r'
regular_vertex_between_pinned κs a r r' e e' h k = pinned (h []) (k [])

pub vertex_inside_pinned : (κs : Lfts 2) (a : _) (r r' : _) (e e' : _) → vertex-inside.Learnt κs a r e → vertex-inside.Learnt κs a r' e' → r ≡ r'
vertex_inside_pinned κs a r r' e e' h k = pinned (h []) (k [])

pub transition_point_pinned : (κs : Lfts 3) (a : _) (r r' : _) (e e' : _) → transition-point.Asked κs a
    → transition-point.Learnt κs a r e → transition-point.Learnt κs a r' e' → r ≡ r'
transition_point_pinned κs a r r' e e' asked h k =
    let part = is_part _ _ _ _ asked.0.fine_is in
    pinned (h _ part) (k _ part)
