-- Laws of what the writing pass has read: sheet by sheet, none for a layer that is passed over and none for a side that is not named; with what the
-- vertices have read it is what the definition's steps read.
use Prim.Native.Nat.{ℕ, ◌+◌, ◌*◌, ◌≤◌, ◌<◌}
use native.Mathlib.Numerals.{add-one}
use native.Mathlib.Omega.{arith}
use mathlib.Core.Path.{◌≡◌, refl, sym, ap, ◌∙◌}
use mathlib.Core.Bool.{Bool, cond}
use mathlib.Core.List.{List}
use lib.Ieee.{Float}
use lib.ListN.{length}
use Rattle.laws.specs.Steps.{total}
use Rattle.laws.specs.Sums.{total_none, total_skip}
use Rattle.model.specs.Limits.{most_subdivisions, side_count}
use Rattle.model.specs.Sides.{named}
use Rattle.model.specs.Star.{Star, subdivisions}
use Rattle.model.specs.Mesh.{regular_reads, transition_reads, mesh_of}
use Rattle.model.specs.Reads.{side_reads}
use Rattle.model.specs.Layers.{passed_over}
use Rattle.model.specs.Layered.{layered_mesh}
use Rattle.model.specs.LayeredReads.{layer_reads}
use Rattle.model.proofs.LayeredReads.{layered_reads}
use Rattle.grid.specs.SideLaws.{NextSide}
use Rattle.cases.specs.Sheets.{most_sheet_reads}
use Rattle.cells.specs.declared.Progress.{Progress}
use Rattle.layers.specs.Over.{Trusted, NextLayer}
use Rattle.layers.specs.Layered.{layered_same}
use Rattle.writing.specs.Writing.{ReadTo, most_sheets, Holds}
use Rattle.walk.specs.Walk.{none_named}

-- ---- sheets of either kind

-- no more sheets than these
read_within : {cases cases' sheets sheets' reads : ℕ} → cases ≡ cases' → sheets ≤ sheets' → ReadTo cases sheets reads → ReadTo cases' sheets' reads
read_within e l r = record { reads_are = r.reads_are ∙ e; few = omega (arith, r.few, l) }

-- one that reads
read_more : {cases cases' sheets sheets' reads more : ℕ} → cases' ≡ cases + more → sheets + 1 ≤ sheets' → more ≤ most_sheet_reads
    → ReadTo cases sheets reads → ReadTo cases' sheets' (reads + more)
read_more e l small r = record { reads_are = omega (arith, r.reads_are, e); few = omega (arith, r.few, l, small) }

-- one after some that do not
total_next : (part : ℕ → ℕ) (from k more : ℕ) → from ≤ k → ((i : ℕ) → from ≤ i → i < k → part i ≡ 0) → more ≡ part k → total part (k + 1) ≡ total part from + more
total_next part from k more l none e =
    let one : total part (k + 1) ≡ total part k + part k = rw add-one in
    omega (arith, total_skip part from k l none, one, e)

module _ (s : Star) (summary : List Float) where
  -- ---- layers

  layer_part : (x : ℕ) {over : Bool} → passed_over s.threshold summary x ≡ over → layer_reads s summary x ≡ cond over 0 (regular_reads * subdivisions s * subdivisions s)
  layer_part x e = ap (λ (over : Bool). cond over 0 (regular_reads * subdivisions s * subdivisions s)) e

  -- before all layers
  pub read_none : ReadTo (total (layer_reads s summary) 0) 0 0
  read_none = record { reads_are = refl; few = omega arith }

  -- a layer, and those before it that are passed over
  pub read_layer : (from x reads more : ℕ) → NextLayer (subdivisions s) s.threshold summary from x → x < subdivisions s
      → more ≡ regular_reads * subdivisions s * subdivisions s → more ≤ most_sheet_reads
      → ReadTo (total (layer_reads s summary) from) from reads → ReadTo (total (layer_reads s summary) (x + 1)) (x + 1) (reads + more)
  read_layer from x reads more step below e small =
      read_more
      (total_next (layer_reads s summary) from x more step.ordered (λ x l u. layer_part x (step.all_over x l u)) (e ∙ sym (layer_part x (step.not_over below))))
      (omega (arith, step.ordered)) small

  -- and those after the last
  pub read_layers : (from reads : ℕ) → NextLayer (subdivisions s) s.threshold summary from (subdivisions s) → subdivisions s ≤ most_subdivisions
      → ReadTo (total (layer_reads s summary) from) from reads → ReadTo (total (layer_reads s summary) (subdivisions s)) most_subdivisions reads
  read_layers from reads step few =
      read_within (sym (total_skip (layer_reads s summary) from (subdivisions s) step.ordered (λ x l u. layer_part x (step.all_over x l u)))) (omega (arith, step.ordered))

  -- ---- all

  pub read_all : (regular cases : ℕ) (counts : Progress) (vertices : List Float) (triangles store edges : List ℕ)
      → Trusted (subdivisions s) s.centre summary → ReadTo (total (layer_reads s summary) (subdivisions s)) most_subdivisions regular
      → ReadTo (regular + total (side_reads s) side_count) most_sheets cases
      → Holds (mesh_of s) counts vertices triangles store edges → cases + counts.reads ≡ (layered_mesh s summary).reads
  read_all regular cases counts vertices triangles store edges t before r h =
      omega (arith, before.reads_are, r.reads_are, h.read_so_far, h.vertex_count_lem, layered_reads s summary, ap length (layered_same s summary t).made_same)

module _ (s : Star) (before : ℕ) where
  -- ---- sides, after so many reads

  side_part : (side : ℕ) {is : Bool} → named s.mask side ≡ is → side_reads s side ≡ cond is (transition_reads * subdivisions s * subdivisions s) 0
  side_part side e = ap (λ (is : Bool). cond is (transition_reads * subdivisions s * subdivisions s) 0) e

  -- before all sides
  pub read_first : before ≤ most_sheet_reads * most_subdivisions → ReadTo (before + total (side_reads s) 0) (most_subdivisions + 0) before
  read_first small = record { reads_are = omega arith; few = omega arith }

  -- a side, and those before it that are not named
  pub read_side : (from side reads more : ℕ) → NextSide s.mask from side → side < side_count
      → more ≡ transition_reads * subdivisions s * subdivisions s → more ≤ most_sheet_reads
      → ReadTo (before + total (side_reads s) from) (most_subdivisions + from) reads
      → ReadTo (before + total (side_reads s) (side + 1)) (most_subdivisions + (side + 1)) (reads + more)
  read_side from side reads more step below e small =
      let added =
      total_next (side_reads s) from side more step.from_le (λ side l u. side_part side (step.none_between side l u)) (e ∙ sym (side_part side (step.is_named below))) in
      read_more (omega (arith, added)) (omega (arith, step.from_le)) small

  -- and those after the last
  pub read_sides : (from reads : ℕ) → NextSide s.mask from side_count → ReadTo (before + total (side_reads s) from) (most_subdivisions + from) reads
      → ReadTo (before + total (side_reads s) side_count) most_sheets reads
  read_sides from reads step =
      let skipped = total_skip (side_reads s) from side_count step.from_le (λ side l u. side_part side (step.none_between side l u)) in
      read_within (omega (arith, skipped)) (omega (arith, step.from_le))

  pub read_unnamed : s.mask ≡ 0 → before ≤ most_sheet_reads * most_subdivisions → ReadTo (before + total (side_reads s) side_count) most_sheets before
  read_unnamed e small =
      let none = total_none (side_reads s) side_count (λ side h. side_part side (none_named s e side h)) in
      record { reads_are = omega (arith, none); few = omega arith }
