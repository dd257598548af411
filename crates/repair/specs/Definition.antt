-- Document 02, [5]: a repair pass for damaged deliveries. Samples are bit patterns here, since a NaN's bits can be told only so. What is changed and
-- how it is listed, what is refused and when, and what the call leaves. Definitions only.
use Rattle.std.specs.Prelude.{ℕ, zero, suc, ◌+◌, ◌*◌, ◌/◌, Bool, true, false, cond, List, [], ◌∷◌, ◌++◌, map, leb, Float, length, get_or, set, Err, Ok}
use Rattle.std.specs.Float.{binary32}
use Rattle.std.specs.Float.Ieee.{of_bits, to_bits}
use Rattle.laws.specs.Steps.{each, laid}
use Rattle.laws.specs.Counting.{gather}
use Rattle.model.specs.declared.Xyz.{Xyz}
use Rattle.model.specs.declared.Header.{Header}
use Rattle.model.specs.declared.Refusal.TheVariants.{BadFiller, ChangesTooShort}
use Rattle.model.specs.Answers.{Verdict}
use Rattle.model.specs.Limits.{side_count}
use Rattle.model.specs.Samples.{place_of}
use Rattle.model.specs.Sides.{named, named_below, neighbour_length}
use Rattle.model.specs.Rotations.{face_point, neighbour_point}
use Rattle.model.specs.Star.{Star, star}
use Rattle.model.specs.Refusals.{unless, or_else}
use Rattle.model.specs.Judging.{usable, faces_agree, judge_lent}
use Rattle.repair.specs.declared.Change.{Change}
use Rattle.repair.specs.Answers.{Repaired}

-- ---- a delivery: the bits of the centre's samples and of the neighbours'

pub record Delivery : Type 0 where
  pub centre : List ℕ
  pub neighbours : List ℕ

abbrev pub delivery : List ℕ → List ℕ → Delivery
delivery centre neighbours = record { centre = centre; neighbours = neighbours }

-- the sample that bits stand for
abbrev pub value_of : ℕ → Float
value_of bits = of_bits binary32 bits

-- a delivery as 7 and 8 judge it
abbrev pub as_star : Header → Delivery → Star
as_star h d = star h (map value_of d.centre) (map value_of d.neighbours)

-- list 0 is the centre, 1 the neighbours
abbrev pub in_list : ℕ → Delivery → List ℕ
in_list zero d = d.centre
in_list (suc k) d = d.neighbours

-- the delivery with another list in its place
abbrev pub replaced : ℕ → List ℕ → Delivery → Delivery
replaced zero bits d = delivery bits d.neighbours
replaced (suc k) bits d = delivery d.centre bits

-- ---- changes: list, place, old bits, new bits

abbrev pub put : ℕ → ℕ → ℕ → Delivery → Delivery
put list place bits d = replaced list (set (in_list list d) place bits) d

abbrev pub made : Change → Delivery → Delivery
made c d = put c.list c.place c.new d

-- one after another
abbrev pub applied : List Change → Delivery → Delivery
applied [] d = d
applied (c ∷ rest) d = applied rest (made c d)

-- undone again, the last one first
abbrev pub undone : List Change → Delivery → Delivery
undone [] d = d
undone (c ∷ rest) d = put c.list c.place c.old (undone rest d)

-- what is read beyond the end of a list
abbrev pub no_change : Change
no_change = record { list = 0; place = 0; old = 0; new = 0 }

abbrev pub change_unless : Bool → Change → List Change
change_unless true c = []
change_unless false c = c ∷ []

abbrev pub words_of : Change → List ℕ
words_of c = c.list ∷ c.place ∷ c.old ∷ c.new ∷ []

-- ---- each sample that 7 would refuse becomes the filler: the centre's by place, then the neighbours' by place

abbrev pub filler_at : ℕ → ℕ → List ℕ → ℕ → List Change
filler_at list filler bits place =
    change_unless (usable (value_of (get_or bits place 0)))
    (record { list = list; place = place; old = get_or bits place 0; new = filler })

abbrev pub fillers_in : ℕ → ℕ → List ℕ → List Change
fillers_in list filler bits = gather (filler_at list filler bits) (length bits)

abbrev pub fillers : ℕ → Delivery → List Change
fillers filler d = fillers_in 0 filler d.centre ++ fillers_in 1 filler d.neighbours

-- ---- then, at each point that 8 would refuse, the fine sample takes the centre's bits: by side, u and v

abbrev pub place_at : ℕ → Xyz → ℕ
place_at n p = place_of n (p.x + 1) (p.y + 1) (p.z + 1)

-- where the centre's face point stands in its list, and the neighbour's coinciding point in its own
abbrev pub coarse_place : ℕ → ℕ → ℕ → ℕ → ℕ
coarse_place n side u v = place_at n (face_point n side u v)

abbrev pub fine_place : ℕ → ℕ → ℕ → ℕ → ℕ → ℕ
fine_place n mask side u v = named_below mask side * neighbour_length n + place_at (2 * n) (neighbour_point n side (2 * u) (2 * v))

abbrev pub mismatch_at : Header → Delivery → ℕ → ℕ → ℕ → List Change
mismatch_at h d side u v =
    let n = h.block.subdivisions in
    let place = fine_place n h.mask side u v in
    change_unless (faces_agree (as_star h d) side u v)
    (record { list = 1; place = place; old = get_or d.neighbours place 0; new = get_or d.centre (coarse_place n side u v) 0 })

abbrev pub mismatches_at : Header → Delivery → ℕ → List Change
mismatches_at h d side =
    let m = h.block.subdivisions + 1 in
    cond (named h.mask side) (gather (λ u. gather (mismatch_at h d side u) m) m) []

unfoldable pub mismatches : Header → Delivery → List Change
mismatches h d = gather (mismatches_at h d) side_count

-- ---- all of them: the mismatches are those that the fillers leave

unfoldable pub changes_of : Header → ℕ → Delivery → List Change
changes_of h filler d = fillers filler d ++ mismatches h (applied (fillers filler d) d)

-- ---- the call

-- its list, for a filler that is a number
abbrev pub list_of : Header → Delivery → Float → List Change
list_of h d filler = changes_of h (to_bits binary32 filler) d

-- 1 to 6, of the lists that are lent
abbrev pub lent_with : Header → Delivery → Verdict
lent_with h d = judge_lent h.block h.mask h.threshold (length d.centre) (length d.neighbours)

-- 18: 7 would refuse it
abbrev pub judge_filler : Float → Verdict
judge_filler filler = unless (usable filler) BadFiller

-- 19: four words a change
abbrev pub judge_changes : ℕ → ℕ → Verdict
judge_changes wanted held = unless (leb wanted (held / 4)) (ChangesTooShort wanted)

-- 1 to 6, 18, 19
unfoldable pub judge_repair : Header → Delivery → Float → ℕ → Verdict
judge_repair h d filler held =
    or_else (lent_with h d)
    (or_else (judge_filler filler)
    (judge_changes (length (list_of h d filler)) held))

pub record RepairOutcome : Type 0 where
  pub answer : Repaired
  pub left : Delivery
  pub changes : List ℕ

abbrev pub repair_answer : List Change → Delivery → List ℕ → Verdict → RepairOutcome
repair_answer list d changes (Ok _) =
    record { answer = Ok (length list); left = applied list d; changes = laid (each words_of list) changes }
repair_answer list d changes (Err r) = record { answer = Err r; left = d; changes = changes }

unfoldable pub repair : Header → Delivery → Float → List ℕ → RepairOutcome
repair h d filler changes =
    repair_answer (list_of h d filler) d changes (judge_repair h d filler (length changes))
