-- Document 01, 'Answers by number': when each of 1 to 10 and 14 is met, and 1 to 6 and 1 to 7 in their order. What judges several takes the first
-- that is met. Definitions only.
use Rattle.std.specs.Prelude.{ℕ, zero, suc, ◌+◌, ◌*◌, ◌/◌, Bool, cond, ◌&&◌, List, ◌++◌, eqb, leb, Float, length, get_or, Ok}
use Rattle.std.specs.Bool.{beq}
use Rattle.std.specs.Float.Ieee as Ieee
use Rattle.std.specs.Float.{nan}
use Rattle.model.specs.declared.Block.{Block}
use Rattle.model.specs.declared.Refusal.TheVariants.{Subdivisions, Mask, Measure, CentreLength, MissingNeighbour, NeighboursTooLong, BadSample, FaceMismatch, IndexStoreTooShort, NoRoom, BufferTooShort}
use Rattle.model.specs.Answers.{Verdict}
use Rattle.model.specs.Limits.{most_subdivisions, most_mask, side_count, most_size, least_part}
use Rattle.model.specs.Samples.{sample_length, sample_of}
use Rattle.model.specs.Sides.{named, named_below, neighbour_length, neighbours_length}
use Rattle.model.specs.Rotations.{face_point}
use Rattle.model.specs.Formulas.{whole, ◌⊘◌, inside}
use Rattle.model.specs.Refusals.{unless, or_else, first}
use Rattle.model.specs.Star.{Star, subdivisions}
use Rattle.model.specs.Points.{fine_sample}
use Rattle.model.specs.Mesh.{store_length}

-- 1
abbrev pub judge_subdivisions : ℕ → Verdict
judge_subdivisions n = unless (leb 1 n && leb n most_subdivisions) (Subdivisions n)

-- 2
abbrev pub judge_mask : ℕ → Verdict
judge_mask mask = unless (leb mask most_mask) (Mask mask)

-- finite and at most 1,048,576 in size: each comparison is false at a NaN
abbrev pub limit : Float
limit = whole most_size

abbrev pub usable : Float → Bool
usable x = Ieee.le (Ieee.neg limit) x && Ieee.le x limit

abbrev pub usable_size : Float → Bool
usable_size x = Ieee.le (whole 1 ⊘ whole least_part) x && Ieee.le x limit

-- 3: 0 to 2 base, 3 size, 4 threshold
abbrev pub measure_usable : Block → Float → ℕ → Bool
measure_usable block threshold zero = usable block.base.x
measure_usable block threshold (suc zero) = usable block.base.y
measure_usable block threshold (suc (suc zero)) = usable block.base.z
measure_usable block threshold (suc (suc (suc zero))) = usable_size block.size
measure_usable block threshold (suc (suc (suc (suc k)))) = usable threshold

unfoldable pub judge_measures : Block → Float → Verdict
judge_measures block threshold = first (λ k. unless (measure_usable block threshold k) (Measure k)) 5

-- 4
abbrev pub judge_centre : ℕ → ℕ → Verdict
judge_centre n held = unless (eqb held (sample_length n)) (CentreLength (sample_length n))

-- 5: the first side not wholly there
abbrev pub side_there : ℕ → ℕ → ℕ → ℕ → Verdict
side_there n mask held side =
    cond (named mask side)
    (unless (leb ((named_below mask side + 1) * neighbour_length n) held) (MissingNeighbour side)) (Ok tt)

unfoldable pub judge_missing : ℕ → ℕ → ℕ → Verdict
judge_missing n mask held = first (side_there n mask held) side_count

-- 6
abbrev pub judge_too_long : ℕ → ℕ → ℕ → Verdict
judge_too_long n mask held =
    unless (leb held (neighbours_length n mask)) (NeighboursTooLong (neighbours_length n mask))

-- 7
abbrev pub sample_usable : List Float → ℕ → Verdict
sample_usable samples place = unless (usable (get_or samples place nan)) (BadSample place)

unfoldable pub judge_samples : List Float → Verdict
judge_samples samples = first (sample_usable samples) (length samples)

-- 1 to 6, of a block and the lengths of the lists that are lent with it
unfoldable pub judge_lent : Block → ℕ → Float → ℕ → ℕ → Verdict
judge_lent block mask threshold centre neighbours =
    let n = block.subdivisions in
    or_else (judge_subdivisions n)
    (or_else (judge_mask mask)
    (or_else (judge_measures block threshold)
    (or_else (judge_centre n centre)
    (or_else (judge_missing n mask neighbours)
    (judge_too_long n mask neighbours)))))

-- 1 to 7, of a block and its neighbours
unfoldable pub judge_star : Star → Verdict
judge_star s =
    or_else (judge_lent s.block s.mask s.threshold (length s.centre) (length s.neighbours))
    (judge_samples (s.centre ++ s.neighbours))

-- 8: the centre's face point and the neighbour's coinciding point lie on the same side of the threshold
unfoldable pub faces_agree : Star → ℕ → ℕ → ℕ → Bool
faces_agree s side u v =
    let n = subdivisions s in
    beq (inside s.threshold (sample_of n s.centre (face_point n side u v)))
    (inside s.threshold (fine_sample s side (2 * u) (2 * v)))

abbrev pub face_spot : Star → ℕ → ℕ → ℕ → Verdict
face_spot s side u v = unless (faces_agree s side u v) (FaceMismatch (record { side = side; u = u; v = v }))

abbrev pub face_row : Star → ℕ → ℕ → ℕ → Verdict
face_row s side u = first (face_spot s side u)

abbrev pub face_side : Star → ℕ → ℕ → Verdict
face_side s side = first (λ u. face_row s side u (subdivisions s + 1))

abbrev pub face_sides : Star → ℕ → Verdict
face_sides s = first (λ side. cond (named s.mask side) (face_side s side (subdivisions s + 1)) (Ok tt))

unfoldable pub judge_faces : Star → Verdict
judge_faces s = face_sides s side_count

-- 9
abbrev pub judge_store : ℕ → ℕ → Verdict
judge_store n held = unless (leb (store_length n) held) (IndexStoreTooShort (store_length n))

-- 10: room is len/6 and len/3 rounded down
abbrev pub judge_room : ℕ → ℕ → ℕ → ℕ → Verdict
judge_room vertices triangles heldVertices heldTriangles =
    unless (leb vertices (heldVertices / 6) && leb triangles (heldTriangles / 3))
    (NoRoom (record { vertices = vertices; triangles = triangles }))

-- 14
abbrev pub judge_buffer : ℕ → ℕ → Verdict
judge_buffer wanted held = unless (leb wanted held) (BufferTooShort wanted)
