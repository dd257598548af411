-- Document 02, [1]: the parts that a file is written by, and their lengths. Assumes nothing.
use Rattle.std.specs.Prelude.{ℕ, ◌+◌, ◌*◌, ◌≤◌, ◌<◌, ◌≡◌, List, [], ◌∷◌, ◌++◌, Float, length, get_or, set}
use Rattle.std.proofs.Common.{zero-add, add-zero, arith, sym, ap, ap₂, ◌∙◌, length-append}
use Rattle.std.proofs.Math.Path.{refl}
use Rattle.std.specs.Float.{nan, binary32}
use Rattle.std.specs.Float.Ieee.{to_bits}
use Rattle.std.proofs.lemmas.List.{length-replicate, get_or-replicate, replicate-append-replicate}
use Rattle.std.proofs.lemmas.List.Edits.{sets}
use Rattle.laws.specs.Steps.{laid}
use Rattle.laws.specs.Counting.{gather}
use Rattle.laws.specs.Lists.{sets_append, sets_first}
use Rattle.laws.specs.Gathered.{length_gather, sets_three}
use Rattle.model.specs.Words.{little_bytes}
use Rattle.stl.specs.declared.writer.Corner.{Corner}
use Rattle.model.specs.Corners.{triangle_count}
use Rattle.stl.specs.Definition.{corners_of, header_length, start_length, normal_length, corner_length, corners_length, attribute_length, triangle_length, zeros, triangle_bytes, file_of, file_length}

-- ---- zeros

pub length_zeros : (n : ℕ) → length (zeros n) ≡ n
unfolding zeros
length_zeros n = length-replicate n 0

pub zero_at : (n i : ℕ) → i < n → get_or (zeros n) i 0 ≡ 0
unfolding zeros
zero_at n i h = get_or-replicate n i 0 0 h

-- one zero more
pub zero_more : (bytes : List ℕ) (at k : ℕ) → set (sets bytes at (zeros k)) (at + k) 0 ≡ sets bytes at (zeros (k + 1))
unfolding zeros
zero_more bytes at k =
    ap (λ (n : ℕ). set (sets bytes at (zeros k)) (at + n) 0) (sym (length_zeros k))
    ∙ sets_append bytes at (zeros k) (0 ∷ []) ∙ ap (sets bytes at) (replicate-append-replicate k 1 0)

-- ---- the header and the count

abbrev pub start_of : ℕ → List ℕ
start_of count = zeros header_length ++ little_bytes count

pub length_start : (count : ℕ) → length (start_of count) ≡ start_length
unfolding zeros little_bytes
length_start count = refl

pub start_put : (bytes : List ℕ) (count : ℕ) → sets (sets bytes 0 (zeros header_length)) header_length (little_bytes count) ≡ sets bytes 0 (start_of count)
start_put bytes count =
    ap (λ (k : ℕ). sets (sets bytes 0 (zeros header_length)) k (little_bytes count)) (sym (zero-add (length (zeros header_length)) ∙ length_zeros header_length))
    ∙ sets_append bytes 0 (zeros header_length) (little_bytes count)

-- ---- a triangle, by the patterns of its corners: three words a corner, three corners between two stretches of zeros

abbrev pub patterns_of : List Float → ℕ → Corner
patterns_of vertices v =
    record {
      x = to_bits binary32 (get_or vertices (6 * v) nan);
      y = to_bits binary32 (get_or vertices (6 * v + 1) nan);
      z = to_bits binary32 (get_or vertices (6 * v + 2) nan);
    }

unfoldable pub corner_bytes : Corner → List ℕ
corner_bytes c = little_bytes c.x ++ little_bytes c.y ++ little_bytes c.z

unfoldable pub corners_bytes : Corner → Corner → Corner → List ℕ
corners_bytes a b c = corner_bytes a ++ corner_bytes b ++ corner_bytes c

unfoldable pub facet_bytes : Corner → Corner → Corner → List ℕ
facet_bytes a b c = zeros normal_length ++ corners_bytes a b c ++ zeros attribute_length

module _ (bytes : List ℕ) (at : ℕ) where
  pub corner_put : (c : Corner)
      → sets (sets (sets bytes at (little_bytes c.x)) (at + 4) (little_bytes c.y)) (at + 8) (little_bytes c.z) ≡ sets bytes at (corner_bytes c)
  unfolding corner_bytes little_bytes
  corner_put c = sets_three bytes at (at + 4) (at + 8) (little_bytes c.x) (little_bytes c.y) (little_bytes c.z) refl (omega arith)

  module _ (a b c : Corner) where
    pub corners_put : sets (sets (sets bytes at (corner_bytes a)) (at + corner_length) (corner_bytes b)) (at + 2 * corner_length) (corner_bytes c) ≡ sets bytes at (corners_bytes a b c)
    unfolding corners_bytes corner_bytes little_bytes
    corners_put = sets_three bytes at (at + corner_length) (at + 2 * corner_length) (corner_bytes a) (corner_bytes b) (corner_bytes c) refl (omega arith)

    pub facet_put : sets (sets (sets bytes at (zeros normal_length)) (at + normal_length) (corners_bytes a b c)) (at + normal_length + corners_length) (zeros attribute_length)
        ≡ sets bytes at (facet_bytes a b c)
    unfolding facet_bytes corners_bytes corner_bytes little_bytes
    facet_put =
        sets_three bytes at (at + normal_length) (at + normal_length + corners_length) (zeros normal_length) (corners_bytes a b c) (zeros attribute_length)
        (ap (λ (k : ℕ). at + k) (length_zeros normal_length)) refl

-- those of the vertices that a triangle names
pub facet_is : (vertices : List Float) (triangles : List ℕ) (t : ℕ)
    → facet_bytes (patterns_of vertices (get_or triangles (3 * t) 0)) (patterns_of vertices (get_or triangles (3 * t + 1) 0)) (patterns_of vertices (get_or triangles (3 * t + 2) 0))
    ≡ triangle_bytes (corners_of vertices triangles t)
unfolding facet_bytes corners_bytes corner_bytes triangle_bytes corners_of little_bytes
facet_is vertices triangles t = simp add-zero

-- ---- the triangles, one after another

module _ (vertices : List Float) (triangles : List ℕ) where
  -- the bytes of a triangle
  abbrev pub facet_of : ℕ → List ℕ
  facet_of t = triangle_bytes (corners_of vertices triangles t)

  pub length_facet : (t : ℕ) → length (facet_of t) ≡ triangle_length
  unfolding triangle_bytes corners_of zeros little_bytes
  length_facet t = refl

  abbrev facets : List ℕ
  facets = gather facet_of (triangle_count triangles)

  -- the start, then the triangles
  pub file_parts : file_of vertices triangles ≡ start_of (triangle_count triangles) ++ facets
  unfolding file_of
  file_parts = refl

  pub length_file : length (file_of vertices triangles) ≡ file_length (triangle_count triangles)
  length_file =
      let count = triangle_count triangles in
      ap length file_parts ∙ length-append (start_of count) facets
      ∙ ap₂ ◌+◌ (length_start count) (length_gather facet_of triangle_length length_facet count)

  pub file_laid : (bytes : List ℕ) → file_length (triangle_count triangles) ≤ length bytes
      → sets (sets bytes 0 (start_of (triangle_count triangles))) start_length facets ≡ laid (file_of vertices triangles) bytes
  file_laid bytes room =
      let start = start_of (triangle_count triangles) in
      ap (λ (k : ℕ). sets (sets bytes 0 start) k facets) (sym (zero-add (length start) ∙ length_start (triangle_count triangles)))
      ∙ sets_append bytes 0 start facets ∙ ap (sets bytes 0) (sym file_parts)
      ∙ sets_first bytes (file_of vertices triangles) (rw length_file room)
