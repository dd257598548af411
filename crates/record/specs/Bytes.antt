-- Document 01, 'Block record': the bytes of a header and its samples, read back; and an accepted record's bytes, put back.
-- Assumes nothing.
use Rattle.std.specs.Prelude.{ℕ, zero, suc, ◌+◌, ◌-◌, ◌*◌, ◌^◌, ◌≤◌, ◌<◌, ◌≡◌, refl, Float, drop}
use Rattle.std.proofs.Common.{zero-add, ◌∙◌, take-append-drop, take-add, drop-drop}
use native.Mathlib.Omega.{arith}
use Rattle.std.proofs.Math.Path.{sym, ap, ap₂}
use mathlib.Core.List.{List, [], ◌∷◌, ◌++◌, append_assoc, append-nil}
use Rattle.std.specs.Float.Ieee.{nan}
use Rattle.std.proofs.Math.ListN.{length, get_or, take, length-append, length-drop}
use Rattle.std.proofs.Math.Seq.{drop-cons, take_all, get_or-append-add}
use Rattle.std.proofs.lemmas.List.Edits.{sets}
use Rattle.model.specs.declared.Header.{Header}
use Rattle.laws.specs.Steps.{listed, each, laid}
use Rattle.model.specs.Words.{word_at, word_bytes, float_at, float_bytes}
use Rattle.model.specs.Record.{version_at, subdivisions_at, mask_at, threshold_at, header_length, sample_from, header_of, count_of, samples_of, record_of}
use Rattle.laws.specs.Lists.{each_append, length_each, listed_is, sets_append, sets_first}
use Rattle.words.specs.Orders.{Bytes, big}
use Rattle.words.specs.Floats.{Fit, floats_back, floats_after}
use Rattle.judge.specs.Usable.{usable_number}
use Rattle.record.specs.Accepted.{Accepted, length_samples, measured}

-- the five floats of a header
abbrev pub measures_of : Header → List Float
measures_of h = h.threshold ∷ h.block.base.x ∷ h.block.base.y ∷ h.block.base.z ∷ h.block.size ∷ []

-- what the length field tells: the bytes that follow it
abbrev pub length_field : ℕ → ℕ
length_field count = header_length - 4 + 4 * count

-- the bytes before the floats
abbrev pub start_of : Header → ℕ → List ℕ
start_of h count = word_bytes (length_field count) ++ (1 ∷ h.block.subdivisions ∷ h.mask ∷ [])

pub by_floats : (h : Header) (samples : List Float) → record_of h samples ≡ start_of h (length samples) ++ each float_bytes (measures_of h ++ samples)
unfolding record_of
by_floats h samples = simp append_assoc

pub length_record : (h : Header) (samples : List Float) → length (record_of h samples) ≡ sample_from (length samples)
unfolding word_bytes
length_record h samples =
    ap length (by_floats h samples)
    ∙ length-append (start_of h (length samples)) (each float_bytes (measures_of h ++ samples))
    ∙ ap (λ (k : ℕ). threshold_at + k) (length_each float_bytes 4 (measures_of h ++ samples) (λ x. refl))
    ∙ (let e : threshold_at + 4 * (5 + length samples) ≡ sample_from (length samples) = omega arith in rw length-append e)

-- ---- read back

pub length_told : (h : Header) (samples : List Float) → length_field (length samples) < 2 ^ 32 → word_at (record_of h samples) 0 ≡ length_field (length samples)
length_told h samples l =
    let rest = each float_bytes (measures_of h ++ samples) in
    let start : List ℕ = 1 ∷ h.block.subdivisions ∷ h.mask ∷ [] in
    ap (λ (b : List ℕ). word_at b 0) (by_floats h samples ∙ append_assoc (word_bytes (length_field (length samples))) start rest)
    ∙ big.after [] (start ++ rest) (length_field (length samples)) l

pub version_told : (h : Header) (samples : List Float) → get_or (record_of h samples) 4 0 ≡ 1
unfolding word_bytes
version_told h samples = ap (λ (b : List ℕ). get_or b 4 0) (by_floats h samples)

module _ (h : Header) (samples : List Float) (fit-measures : Fit (measures_of h)) (fit : Fit samples) where
  fit_all : Fit (measures_of h ++ samples)
  fit_all zero = fit-measures 0
  fit_all (suc zero) = fit-measures 1
  fit_all (suc (suc zero)) = fit-measures 2
  fit_all (suc (suc (suc zero))) = fit-measures 3
  fit_all (suc (suc (suc (suc zero)))) = fit-measures 4
  fit_all (suc (suc (suc (suc (suc k))))) = fit k

  float_is : (k : ℕ) → k < 5 + length samples → float_at (record_of h samples) (threshold_at + 4 * k) ≡ get_or (measures_of h ++ samples) k nan
  unfolding word_bytes
  float_is k l =
      let start = start_of h (length samples) in
      let rest = each float_bytes (measures_of h ++ samples) in
      ap (λ (b : List ℕ). float_at b (threshold_at + 4 * k)) (by_floats h samples ∙ ap (λ (l : List ℕ). start ++ l) (sym (append-nil rest)))
      ∙ floats_after big start [] (measures_of h ++ samples) k fit_all (rw length-append l)

  pub header_back : header_of (record_of h samples) ≡ h
  unfolding header_of word_bytes
  header_back =
      let byte : (k : ℕ) → get_or (record_of h samples) k 0 ≡ get_or (start_of h (length samples) ++ each float_bytes (measures_of h ++ samples)) k 0 =
      λ k. ap (λ (b : List ℕ). get_or b k 0) (by_floats h samples) in
      λ i. record {
        block = record {
          base = record { x = float_is 1 (omega arith) i; y = float_is 2 (omega arith) i; z = float_is 3 (omega arith) i };
          size = float_is 4 (omega arith) i;
          subdivisions = byte subdivisions_at i;
        };
        mask = byte mask_at i;
        threshold = float_is 0 (omega arith) i;
      }

  pub samples_back : count_of (record_of h samples) ≡ length samples → samples_of (record_of h samples) ≡ samples
  unfolding samples_of
  samples_back e =
      ap (listed (λ k. float_at (record_of h samples) (sample_from k))) e
      ∙ listed_is (λ k. float_at (record_of h samples) (sample_from k)) samples nan
      (λ k l. ap (float_at (record_of h samples)) (let q : sample_from k ≡ threshold_at + 4 * (5 + k) = omega arith in q) ∙ float_is (5 + k) (omega arith) ∙ get_or-append-add (measures_of h) samples k nan)

-- ---- written by parts

-- the header's bytes, then those of the centre's samples, then those of the neighbours'
pub parts_laid : (h : Header) (centre neighbours : List Float) (bytes : List ℕ) → sample_from (length centre + length neighbours) ≤ length bytes
    → sets (sets (sets bytes 0 (start_of h (length centre + length neighbours) ++ each float_bytes (measures_of h))) (sample_from 0) (each float_bytes centre))
    (sample_from (length centre)) (each float_bytes neighbours)
    ≡ laid (record_of h (centre ++ neighbours)) bytes
unfolding word_bytes
parts_laid h centre neighbours bytes room =
    let head = start_of h (length centre + length neighbours) ++ each float_bytes (measures_of h) in
    let c = each float_bytes centre in
    let n = each float_bytes neighbours in
    let past : sample_from (length centre) ≡ 0 + length (head ++ c) =
    sym (zero-add (length (head ++ c)) ∙ length-append head c ∙ ap (λ (k : ℕ). header_length + k) (length_each float_bytes 4 centre (λ x. refl))) in
    let all : (head ++ c) ++ n ≡ record_of h (centre ++ neighbours) =
    sym (by_floats h (centre ++ neighbours) ∙ simp (length-append, each_append, append_assoc)) in
    ap (λ (l : List ℕ). sets l (sample_from (length centre)) n) (sets_append bytes 0 head c)
    ∙ ap (λ (k : ℕ). sets (sets bytes 0 (head ++ c)) k n) past
    ∙ sets_append bytes 0 (head ++ c) n
    ∙ ap (sets bytes 0) all
    ∙ sets_first bytes (record_of h (centre ++ neighbours)) (rw (length_record h (centre ++ neighbours), length-append) room)

-- ---- put back

module _ (bytes : List ℕ) (small : Bytes bytes) (a : Accepted bytes) where
  start_back : start_of (header_of bytes) (length (samples_of bytes)) ≡ take threshold_at bytes
  unfolding header_of
  start_back =
      let long : header_length ≤ length bytes = a.long in
      let told : length_field (length (samples_of bytes)) ≡ word_at bytes 0 = rw (length_samples bytes) (omega (arith, a.told, a.counted)) in
      let three : take 3 (drop version_at bytes) ≡ 1 ∷ (header_of bytes).block.subdivisions ∷ (header_of bytes).mask ∷ [] =
      rw (drop-cons bytes version_at 0 (omega arith), drop-cons bytes subdivisions_at 0 (omega arith), drop-cons bytes mask_at 0 (omega arith), a.version) in
      ap₂ ◌++◌ (ap word_bytes told ∙ big.back bytes small 0 (omega arith)) (sym three) ∙ sym (take-add version_at 3 bytes)

  floats_are : each float_bytes (measures_of (header_of bytes) ++ samples_of bytes) ≡ drop threshold_at bytes
  unfolding header_of samples_of
  floats_are =
      let count = count_of bytes in
      each_append float_bytes (measures_of (header_of bytes)) (samples_of bytes)
      ∙ ap₂ ◌++◌ (floats_back big bytes small threshold_at 5 (omega (arith, a.long)) (measured bytes a))
      (floats_back big bytes small header_length count (omega (arith, a.counted)) (λ k l. usable_number (float_at bytes (sample_from k)) (a.usable_samples k l))
      ∙ ap (take (4 * count)) (sym (drop-drop (4 * 5) threshold_at bytes)))
      ∙ sym (take-add (4 * 5) (4 * count) (drop threshold_at bytes))
      ∙ take_all (4 * 5 + 4 * count) (drop threshold_at bytes) (rw length-drop (omega (arith, a.counted)))

  pub record_back : record_of (header_of bytes) (samples_of bytes) ≡ bytes
  record_back = by_floats (header_of bytes) (samples_of bytes) ∙ ap₂ ◌++◌ start_back floats_are ∙ take-append-drop threshold_at bytes
