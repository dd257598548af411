-- Laws of the orders: each comes to what the model says of the call, a call that says what its judges come to is judged by them, each judge refuses with
-- its own number, and so a refusal with a number is that judge's.
use Rattle.std.specs.Prelude.{ℕ, zero, suc, ◌+◌, ◌-◌, ◌*◌, ◌/◌, ◌≡◌, refl, ◌↔◌, ◌⊎◌, Bool, true, false, cond, not, ◌&&◌, List, [], ◌∷◌, ◌++◌, T, eqb, leb, ℤ, Float, length, get_or, take, drop, Err, Ok}
use Rattle.std.proofs.Common.{sym, ap, ◌∙◌, inl, inr, ⊎_elim, T_not}
use Rattle.std.specs.Float.{nan}
use Rattle.laws.specs.Tests.{eq→eqb, both, both_left, both_right}
use Rattle.model.specs.declared.Block.{Block}
use Rattle.model.specs.declared.Counts.{Counts}
use Rattle.model.specs.declared.Header.{Header}
use Rattle.model.specs.declared.Refusal.{Refusal}
use Rattle.model.specs.declared.Refusal.TheVariants.{Subdivisions, Mask, Measure, CentreLength, MissingNeighbour, NeighboursTooLong, BadSample, FaceMismatch, IndexStoreTooShort, NoRoom, RecordLength, Version, SampleCount, BufferTooShort, PointNeverSampled}
use Rattle.model.specs.Answers.{Verdict}
use Rattle.model.specs.Sides.{named, named_below, neighbour_length, neighbours_length}
use Rattle.model.specs.Refusals.{numbers_of, unless, or_else, first}
use Rattle.model.specs.Samples.{sample_length, sampled, outside_count, one_up}
use Rattle.model.specs.Limits.{most_subdivisions, most_mask, side_count}
use Rattle.model.specs.Star.{Star, star, subdivisions}
use Rattle.model.specs.Mesh.{store_length}
use Rattle.model.specs.Judging.{judge_lent, judge_star, judge_subdivisions, judge_mask, measure_usable, judge_measures, judge_centre, side_there, judge_missing, judge_buffer, usable, sample_usable, judge_samples, faces_agree, face_spot, face_row, judge_faces}
use Rattle.model.specs.Extraction.{judge_extraction}
use Rattle.model.specs.Words.{word_at}
use Rattle.model.specs.Record.{version_at, header_length, header_of, count_of, samples_of, judge_record}
use Rattle.judge.specs.First.{or_else_assoc, or_else_passed}
use Rattle.promises.specs.Left.{Lent, counts}
use Rattle.promises.specs.Orders.{Judge, in_order, Numbered, Judged, lent_judges, block_judges, room_judges, extraction_judges, writing_judges, record_judges, reading_judges, point_judge, point_judges, sample_judges}

infixr 4 ◌&◌
pub ◌&◌ : {A B : Type 0} → A → B → A × B
a & b = (a, b)

-- ---- orders

pub numbered_append : (a b : List Judge) → Numbered a → Numbered b → Numbered (a ++ b)
numbered_append [] b p q = q
numbered_append (j ∷ a) b p q = (p.0, numbered_append a b p.1 q)

pub numbered_take : (k : ℕ) (a : List Judge) → Numbered a → Numbered (take k a)
numbered_take zero a p = tt
numbered_take (suc k) [] p = tt
numbered_take (suc k) (j ∷ a) p = (p.0, numbered_take k a p.1)

pub record_in_order : (bytes : List ℕ) → in_order (record_judges bytes) ≡ judge_record bytes
unfolding judge_record
record_in_order bytes = simp or_else_passed

pub reading_in_order : (bytes : List ℕ) (samples : List Float)
    → in_order (reading_judges bytes samples) ≡ or_else (judge_record bytes) (judge_buffer (count_of bytes) (length samples))
unfolding judge_record
reading_in_order bytes samples = simp (or_else_assoc, or_else_passed)

pub block_in_order : (s : Star) → in_order (block_judges s) ≡ judge_star s
unfolding judge_lent judge_star
block_in_order s = simp (or_else_assoc, or_else_passed)

pub writing_in_order : (h : Header) (centre neighbours : List Float) (bytes : List ℕ)
    → in_order (writing_judges h centre neighbours bytes)
    ≡ or_else (judge_star (star h centre neighbours))
    (judge_buffer (header_length + 4 * length (centre ++ neighbours)) (length bytes))
unfolding judge_lent judge_star
writing_in_order h centre neighbours bytes = simp (or_else_assoc, or_else_passed)

pub point_in_order : (n : ℕ) (samples : List Float) (x y z : ℤ)
    → in_order (point_judges n samples x y z) ≡ or_else (or_else (judge_subdivisions n) (judge_centre n (length samples))) (point_judge n x y z).says
point_in_order n samples x y z = simp (or_else_assoc, or_else_passed)

pub sample_in_order : (bytes : List ℕ) (x y z : ℤ)
    → in_order (sample_judges bytes x y z) ≡ or_else (judge_record bytes) (point_judge (header_of bytes).block.subdivisions x y z).says
unfolding judge_record
sample_in_order bytes x y z = simp (or_else_assoc, or_else_passed)

pub extraction_in_order : (s : Star) (lent : Lent)
    → in_order (extraction_judges s lent) ≡ judge_extraction s (length lent.store) (length lent.vertices) (length lent.triangles)
unfolding judge_extraction judge_lent judge_star
extraction_in_order s lent = simp (or_else_assoc, or_else_passed)

-- ---- a call that says what its judges come to

-- its answer to a refusal tells which it is, and is never the one when all pass
module _ {A : Type 0} (refuse : Refusal → A) (accept : A) (answer : Verdict → A) (passed : answer (Ok tt) ≡ accept)
    (refused : (r : Refusal) → answer (Err r) ≡ refuse r) (which : (q r : Refusal) → refuse q ≡ refuse r → q ≡ r)
    (never : (r : Refusal) → accept ≡ refuse r → ◌≡◌ {A = Verdict} (Ok tt) (Err r)) where
  refused_so : (v : Verdict) (r : Refusal) → (answer v ≡ refuse r) ↔ (v ≡ Err r)
  refused_so (Ok _) r = (λ e. never r (sym passed ∙ e), λ e. cc)
  refused_so (Err q) r = (
    λ e. ap Err (which q r (sym (refused q) ∙ e)),
    λ e. let same : q ≡ r = cc in refused q ∙ ap refuse same,
  )

  accepted_so : (v : Verdict) → (answer v ≡ accept) ↔ (v ≡ Ok tt)
  accepted_so (Ok _) = (λ e. refl, λ e. passed)
  accepted_so (Err q) = (λ e. sym (never q (sym e ∙ refused q)), λ e. cc)

  pub judged : (judges : List Judge) (v : Verdict) → in_order judges ≡ v → Numbered judges → Judged judges (λ r. answer v ≡ refuse r) (answer v ≡ accept)
  judged judges v order numbered =
      record {
        numbered = numbered;
        refused_by_first = λ r. rw order (refused_so v r);
        accepted_by_all = rw order (accepted_so v);
      }

-- the refusal of two judges is the one's or the other's
pub one_or_other : (v w : Verdict) (r : Refusal) → or_else v w ≡ Err r → (v ≡ Err r) ⊎ (w ≡ Err r)
one_or_other (Err q) w r e = inl e
one_or_other (Ok _) w r e = inr e

-- ---- numbers

-- it refuses with the number k alone
abbrev pub Refuses : ℕ → Verdict → Type 0
Refuses k v = (r : Refusal) → v ≡ Err r → (numbers_of r).number ≡ k

pub by_unless : (b : Bool) (q : Refusal) → Refuses (numbers_of q).number (unless b q)
by_unless true q r e = cc
by_unless false q r e = let same : q ≡ r = cc in ap (λ (p : Refusal). (numbers_of p).number) (sym same)

passing : (k : ℕ) → Refuses k (Ok tt)
passing k r e = cc

pub by_first : (k : ℕ) (f : ℕ → Verdict) → ((j : ℕ) → Refuses k (f j)) → (n : ℕ) → Refuses k (first f n)
by_first k f each zero r e = passing k r e
by_first k f each (suc n) r e = ⊎_elim (by_first k f each n r) (each n r) (one_or_other (first f n) (f n) r e)

if_named : (k : ℕ) (b : Bool) (v : Verdict) → Refuses k v → Refuses k (cond b v (Ok tt))
if_named k true v h = h
if_named k false v h = passing k

measures_number : (b : Block) (t : Float) → Refuses 3 (judge_measures b t)
unfolding judge_measures
measures_number b t = by_first 3 _ (λ k. by_unless (measure_usable b t k) (Measure k)) 5

missing_number : (n mask held : ℕ) → Refuses 5 (judge_missing n mask held)
unfolding judge_missing
missing_number n mask held =
    by_first 5 (side_there n mask held)
    (λ side.
    if_named 5 (named mask side) _ (by_unless (leb ((named_below mask side + 1) * neighbour_length n) held) (MissingNeighbour side)))
    side_count

pub samples_number : (samples : List Float) → Refuses 7 (judge_samples samples)
unfolding judge_samples
samples_number samples = by_first 7 (sample_usable samples) (λ k. by_unless (usable (get_or samples k nan)) (BadSample k)) (length samples)

pub faces_number : (s : Star) → Refuses 8 (judge_faces s)
unfolding judge_faces
faces_number s =
    by_first 8 _
    (λ side.
    if_named 8 (named s.mask side) _
    (by_first 8 (λ u. face_row s side u (subdivisions s + 1))
    (λ u. by_first 8 (face_spot s side u) (λ v. by_unless (faces_agree s side u v) (FaceMismatch (record { side = side; u = u; v = v }))) (subdivisions s + 1)) (subdivisions s + 1)))
    side_count

pub subdivisions_number : (n : ℕ) → Refuses 1 (judge_subdivisions n)
subdivisions_number n = by_unless (leb 1 n && leb n most_subdivisions) (Subdivisions n)

mask_number : (mask : ℕ) → Refuses 2 (judge_mask mask)
mask_number mask = by_unless (leb mask most_mask) (Mask mask)

pub centre_number : (n held : ℕ) → Refuses 4 (judge_centre n held)
centre_number n held = by_unless (eqb held (sample_length n)) (CentreLength (sample_length n))

pub buffer_number : (wanted held : ℕ) → Refuses 14 (judge_buffer wanted held)
buffer_number wanted held = by_unless (leb wanted held) (BufferTooShort wanted)

pub lent_numbered : (block : Block) (mask : ℕ) (threshold : Float) (centre neighbours : ℕ) → Numbered (lent_judges block mask threshold centre neighbours)
lent_numbered block mask threshold centre neighbours =
    let n = block.subdivisions in
    let long = neighbours_length n mask in
    subdivisions_number n & mask_number mask & measures_number block threshold & centre_number n centre & missing_number n mask neighbours &
    by_unless (leb neighbours long) (NeighboursTooLong long) & tt

pub block_numbered : (s : Star) → Numbered (block_judges s)
block_numbered s =
    numbered_append (take 6 (block_judges s)) (drop 6 (block_judges s))
    (lent_numbered s.block s.mask s.threshold (length s.centre) (length s.neighbours))
    (samples_number (s.centre ++ s.neighbours) & tt)

pub room_numbered : (s : Star) (lent : Lent) → Numbered (room_judges s lent)
room_numbered s lent =
    let wanted = store_length (subdivisions s) in
    by_unless (leb wanted (length lent.store)) (IndexStoreTooShort wanted) &
    by_unless (leb (counts s).vertices (length lent.vertices / 6) && leb (counts s).triangles (length lent.triangles / 3)) (NoRoom (counts s)) & tt

pub extraction_numbered : (s : Star) (lent : Lent) → Numbered (extraction_judges s lent)
extraction_numbered s lent =
    numbered_append (block_judges s) (drop 7 (extraction_judges s lent)) (block_numbered s) (faces_number s & room_numbered s lent)

pub writing_numbered : (h : Header) (centre neighbours : List Float) (bytes : List ℕ) → Numbered (writing_judges h centre neighbours bytes)
writing_numbered h centre neighbours bytes =
    let s = star h centre neighbours in
    numbered_append (block_judges s) (drop 7 (writing_judges h centre neighbours bytes)) (block_numbered s)
    (buffer_number (header_length + 4 * length (centre ++ neighbours)) (length bytes) & tt)

pub record_numbered : (bytes : List ℕ) → Numbered (record_judges bytes)
record_numbered bytes =
    let h = header_of bytes in
    let version = get_or bytes version_at 0 in
    by_unless (leb header_length (length bytes) && eqb (word_at bytes 0) (length bytes - 4)) RecordLength & by_unless (eqb version 1) (Version version) &
    subdivisions_number h.block.subdivisions & mask_number h.mask & measures_number h.block h.threshold &
    by_unless (eqb (length bytes - header_length) (4 * count_of bytes)) (SampleCount (count_of bytes)) & samples_number (samples_of bytes) & tt

pub reading_numbered : (bytes : List ℕ) (samples : List Float) → Numbered (reading_judges bytes samples)
reading_numbered bytes samples =
    numbered_append (record_judges bytes) (drop 7 (reading_judges bytes samples)) (record_numbered bytes)
    (buffer_number (count_of bytes) (length samples) & tt)

pub point_number : (n : ℕ) (x y z : ℤ) → Refuses 15 (point_judge n x y z).says
point_number n x y z =
    by_unless (sampled n (one_up n x) (one_up n y) (one_up n z)) (PointNeverSampled (outside_count n (one_up n x) (one_up n y) (one_up n z)))

pub point_numbered : (n : ℕ) (samples : List Float) (x y z : ℤ) → Numbered (point_judges n samples x y z)
point_numbered n samples x y z = subdivisions_number n & centre_number n (length samples) & point_number n x y z & tt

pub sample_numbered : (bytes : List ℕ) (x y z : ℤ) → Numbered (sample_judges bytes x y z)
sample_numbered bytes x y z =
    numbered_append (record_judges bytes) (drop 7 (sample_judges bytes x y z)) (record_numbered bytes)
    (point_number (header_of bytes).block.subdivisions x y z & tt)

-- ---- a refusal with a number is that of the judge who has it

unfoldable pub others : ℕ → List Judge → Bool
others k [] = true
others k (j ∷ rest) = both (not (eqb j.number k)) (others k rest)

past : (k : ℕ) (before after : List Judge) (r : Refusal) → (numbers_of r).number ≡ k → Numbered before → T (others k before)
    → in_order (before ++ after) ≡ Err r → in_order after ≡ Err r
unfolding others
past k [] after r n p t e = e
past k (j ∷ rest) after r n p t e =
    ⊎_elim (λ here. absurd (T_not (eqb j.number k) (both_left _ _ t) (eq→eqb _ _ (sym (p.0 r here) ∙ n))))
    (past k rest after r n p.1 (both_right _ _ t)) (one_or_other j.says (in_order (rest ++ after)) r e)

-- 15 is that of the last judge, where no other has its number
pub never_sampled : (before : List Judge) (n : ℕ) (x y z : ℤ) (c : ℕ) → Numbered before → T (others 15 before)
    → in_order (before ++ point_judge n x y z ∷ []) ≡ Err (PointNeverSampled c)
    → (sampled n (one_up n x) (one_up n y) (one_up n z) ≡ false) × (c ≡ outside_count n (one_up n x) (one_up n y) (one_up n z))
never_sampled before n x y z c p t e =
    go (sampled n (one_up n x) (one_up n y) (one_up n z)) (past 15 before (point_judge n x y z ∷ []) (PointNeverSampled c) refl p t e)
  where
    go : (b : Bool) → or_else (unless b (PointNeverSampled (outside_count n (one_up n x) (one_up n y) (one_up n z)))) (Ok tt) ≡ Err (PointNeverSampled c)
        → (b ≡ false) × (c ≡ outside_count n (one_up n x) (one_up n y) (one_up n z))
    go true e = (cc, cc)
    go false e = (refl, cc)

pub no_room : (s : Star) (lent : Lent) (c : Counts) → in_order (extraction_judges s lent) ≡ Err (NoRoom c) → c ≡ counts s
unfolding others both
no_room s lent c e =
    let judges = extraction_judges s lent in
    go (leb (counts s).vertices (length lent.vertices / 6) && leb (counts s).triangles (length lent.triangles / 3))
    (past 10 (take 9 judges) (drop 9 judges) (NoRoom c) refl (numbered_take 9 judges (extraction_numbered s lent)) tt e)
  where
    go : (b : Bool) → or_else (unless b (NoRoom (counts s))) (Ok tt) ≡ Err (NoRoom c) → c ≡ counts s
    go true e = cc
    go false e = cc
