-- Document 02, [1]: what stands in a file that was written: zeros in header, normals and attributes, the count of triangles, and the
-- corners that the triangles name, bit for bit up to a NaN's pattern.
use Rattle.std.specs.Prelude.{ℕ, ◌+◌, ◌*◌, ◌≤◌, ◌<◌, ◌≡◌, refl, Float, length, get_or, take, drop, Err, Ok}
use Rattle.std.proofs.Common.{zero-add, arith, ap₂, ◌∙◌, length-append, get_or-append-add}
use Rattle.std.proofs.Math.Path.{sym, ap}
use mathlib.Core.List.{List, [], ◌++◌, append_assoc}
use Rattle.std.specs.Float.{nan, binary32}
use Rattle.std.specs.Float.Ieee.{to_bits}
use Rattle.std.proofs.Math.ListN.{get_or-append}
use Rattle.std.proofs.Math.Seq.{take_at}
use Rattle.laws.specs.Steps.{listed, each, laid}
use Rattle.laws.specs.Counting.{gather}
use Rattle.laws.specs.Lists.{length_each, listed_is}
use Rattle.laws.specs.Gathered.{length_gather, gather_same, gather_split}
use Rattle.model.specs.Answers.{Verdict}
use Rattle.model.specs.Words.{little_at, little_bytes, little_float_at, little_float_bytes}
use Rattle.words.specs.Orders.{little}
use Rattle.words.specs.Floats.{Fit, floats_after}
use Rattle.model.specs.Corners.{triangle_count}
use Rattle.stl.specs.Definition.{vertex_count, corners_of, header_length, normal_length, corners_length, attribute_length, triangle_length, zeros, triangle_bytes, file_of, file_length, most_triangles, judge_writing, write_answer, write_stl, count_in, corners_from, corners_in, positions_in}
use Rattle.stl.specs.Parts.{start_of, length_zeros, zero_at, length_start, facet_of, length_facet, file_parts, length_file}
use Rattle.stl.specs.Passing.{Writable, writable}
use Rattle.stl.specs.Corners.{nine, fit_corners}
use Rattle.stl.specs.Files.{attribute_from, Plain}

-- ---- stretches of zeros

-- a stretch of zeros after p
zeros_after : (p q : List ℕ) (n i : ℕ) → i < n → get_or (p ++ (zeros n ++ q)) (length p + i) 0 ≡ 0
zeros_after p q n i h = get_or-append-add p (zeros n ++ q) i 0 ∙ get_or-append (zeros n) q 0 i (rw (length_zeros n) h) ∙ zero_at n i h

-- ---- the file of a mesh

module _ (vertices : List Float) (triangles : List ℕ) (few : triangle_count triangles ≤ most_triangles) where
  abbrev file : List ℕ
  file = file_of vertices triangles

  abbrev count : ℕ
  count = triangle_count triangles

  abbrev facet : ℕ → List ℕ
  facet = facet_of vertices triangles

  abbrev width : (t : ℕ) → length (facet t) ≡ triangle_length
  width = length_facet vertices triangles

  at_header : file ≡ zeros header_length ++ (little_bytes count ++ gather facet count)
  at_header = file_parts vertices triangles ∙ append_assoc (zeros header_length) (little_bytes count) (gather facet count)

  pub count_in_file : count_in file ≡ count
  count_in_file =
      ap₂ little_at at_header (sym (length_zeros header_length))
      ∙ little.after (zeros header_length) (gather facet count) count (omega arith)

  header_zero : (i : ℕ) → i < header_length → get_or file i 0 ≡ 0
  header_zero i h =
      ap₂ (λ (l : List ℕ) (k : ℕ). get_or l k 0) at_header (sym (zero-add i))
      ∙ zeros_after [] (little_bytes count ++ gather facet count) header_length i h

  module _ (t : ℕ) (h : t < count) where
    -- what stands before a triangle, and after it
    abbrev before : List ℕ
    before = start_of count ++ gather facet t

    abbrev after : List ℕ
    after = (gather_split facet triangle_length width count t h).0

    abbrev floats : List ℕ
    floats = each little_float_bytes (corners_of vertices triangles t)

    length_before : length before ≡ file_length t
    length_before =
        length-append (start_of count) (gather facet t)
        ∙ ap₂ ◌+◌ (length_start count) (length_gather facet triangle_length width t)

    around : file ≡ before ++ (facet t ++ after)
    around =
        file_parts vertices triangles
        ∙ ap (λ (l : List ℕ). start_of count ++ l) (gather_split facet triangle_length width count t h).1
        ∙ sym (append_assoc (start_of count) (gather facet t) (facet t ++ after))

    -- its parts
    in_parts : facet t ++ after ≡ zeros normal_length ++ (floats ++ (zeros attribute_length ++ after))
    unfolding triangle_bytes
    in_parts = simp append_assoc

    at_normal : file ≡ before ++ (zeros normal_length ++ (floats ++ (zeros attribute_length ++ after)))
    at_normal = around ∙ ap (λ (l : List ℕ). before ++ l) in_parts

    abbrev with_normal : List ℕ
    with_normal = before ++ zeros normal_length

    at_floats : file ≡ with_normal ++ (floats ++ (zeros attribute_length ++ after))
    at_floats = at_normal ∙ sym (append_assoc before (zeros normal_length) (floats ++ (zeros attribute_length ++ after)))

    length_with_normal : length with_normal ≡ corners_from t
    length_with_normal = length-append before (zeros normal_length) ∙ ap₂ ◌+◌ length_before (length_zeros normal_length)

    abbrev with_floats : List ℕ
    with_floats = with_normal ++ floats

    at_attribute : file ≡ with_floats ++ (zeros attribute_length ++ after)
    at_attribute = at_floats ∙ sym (append_assoc with_normal floats (zeros attribute_length ++ after))

    length_floats : length floats ≡ corners_length
    length_floats =
        length_each little_float_bytes 4 (corners_of vertices triangles t) (λ x. little.four (to_bits binary32 x)) ∙ ap (λ (n : ℕ). 4 * n) (nine vertices triangles t)

    length_with_floats : length with_floats ≡ attribute_from t
    length_with_floats = length-append with_normal floats ∙ ap₂ ◌+◌ length_with_normal length_floats

    normal_zero : (i : ℕ) → i < normal_length → get_or file (file_length t + i) 0 ≡ 0
    normal_zero i l =
        ap₂ (λ (b : List ℕ) (k : ℕ). get_or b (k + i) 0) at_normal (sym length_before)
        ∙ zeros_after before (floats ++ (zeros attribute_length ++ after)) normal_length i l

    attribute_zero : (i : ℕ) → i < attribute_length → get_or file (attribute_from t + i) 0 ≡ 0
    attribute_zero i l =
        ap₂ (λ (b : List ℕ) (k : ℕ). get_or b (k + i) 0) at_attribute (sym length_with_floats) ∙ zeros_after with_floats after attribute_length i l

    pub corners_in_file : Fit vertices → corners_in file t ≡ corners_of vertices triangles t
    corners_in_file fit =
        let corners = corners_of vertices triangles t in
        let is : (k : ℕ) → k < length corners → little_float_at file (corners_from t + 4 * k) ≡ get_or corners k nan =
        λ k l.
        ap₂ (λ (b : List ℕ) (i : ℕ). little_float_at b (i + 4 * k)) at_floats (sym length_with_normal)
        ∙ floats_after little with_normal (zeros attribute_length ++ after) corners k (fit_corners vertices triangles t fit) l in
        ap (listed (λ k. little_float_at file (corners_from t + 4 * k))) (sym (nine vertices triangles t))
        ∙ listed_is (λ k. little_float_at file (corners_from t + 4 * k)) corners nan is

  pub file_plain : Plain file
  file_plain =
      record {
        header = header_zero;
        normals = λ t i h. normal_zero t (rw count_in_file at h) i;
        attributes = λ t i h. attribute_zero t (rw count_in_file at h) i;
      }

  pub positions_in_file : Fit vertices → positions_in file ≡ gather (corners_of vertices triangles) count
  unfolding positions_in
  positions_in_file fit =
      ap (gather (corners_in file)) count_in_file
      ∙ gather_same (corners_in file) (corners_of vertices triangles) count (λ t h. corners_in_file t h fit)

-- ---- what was written

pub record Wrote (vertices : List Float) (triangles : List ℕ) (out : List ℕ) (k : ℕ) : Type 0 where
  pub whole : Writable vertices triangles (length out)
  pub long : k ≡ file_length (triangle_count triangles)
  pub left : (write_stl vertices triangles out).bytes ≡ laid (file_of vertices triangles) out
  -- the first k bytes are the file
  pub taken : take k (write_stl vertices triangles out).bytes ≡ file_of vertices triangles

-- a length is answered only for what passes
answered : (vertices : List Float) (triangles out : List ℕ) (k : ℕ) (v : Verdict) → (write_answer vertices triangles out v).answer ≡ Ok k
    → (v ≡ Ok tt) × (file_length (triangle_count triangles) ≡ k)
answered vertices triangles out k (Ok _) e = (refl, cc)
answered vertices triangles out k (Err r) e = (cc, cc)

module _ (vertices : List Float) (triangles out : List ℕ) (k : ℕ) (e : (write_stl vertices triangles out).answer ≡ Ok k) where
  pub wrote : Wrote vertices triangles out k
  unfolding write_stl
  wrote =
      let v = judge_writing (vertex_count vertices) triangles (length out) in
      let a = answered vertices triangles out k v e in
      let left : (write_stl vertices triangles out).bytes ≡ laid (file_of vertices triangles) out =
      ap (λ (v : Verdict). (write_answer vertices triangles out v).bytes) a.0 in
      record {
        whole = writable vertices triangles (length out) a.0;
        long = sym a.1;
        left = left;
        taken =
            ap (take k) left
            ∙ take_at (file_of vertices triangles) (drop (length (file_of vertices triangles)) out) k (length_file vertices triangles ∙ a.1);
      }

  -- its header, its normals and its attributes are zero
  pub written_plain : Plain (take k (write_stl vertices triangles out).bytes)
  written_plain = rw wrote.taken (file_plain vertices triangles wrote.whole.few)

  -- its bytes 80 to 83 are the count
  pub written_count : little_at (take k (write_stl vertices triangles out).bytes) header_length ≡ triangle_count triangles
  written_count = ap (λ (b : List ℕ). little_at b header_length) wrote.taken ∙ count_in_file vertices triangles wrote.whole.few
