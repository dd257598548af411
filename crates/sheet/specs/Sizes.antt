-- How large figures are: at most what so many layers of cells add. So no sum over the records of a run wraps.
use Rattle.std.specs.Prelude.{ℕ, ◌+◌, ◌-◌, ◌*◌, ◌^◌, ◌≤◌, ◌<◌, ◌≡◌, refl, Err, Ok}
use Rattle.std.proofs.Common.{zero-le, arith}
use Rattle.model.specs.declared.Refusal.{Refusal}
use Rattle.model.specs.Limits.{most_subdivisions, side_count}
use Rattle.cases.specs.Sheets.{sheet_places}
use Rattle.cells.specs.Puts.{most_of_cell}
use Rattle.sheet.specs.declared.Edges.{Edges}
use Rattle.sheet.specs.declared.Figures.{Figures}
use Rattle.sheet.specs.Answers.{Line}
use Rattle.sheet.specs.Definition.{none, plus, adds, most_run}
use Rattle.sheet.specs.Rows.{AtMost}

-- what a layer of cells adds at most; the layers of a block, one more for its last plane, and its sides
abbrev pub most_of_layer : ℕ
most_of_layer = most_of_cell * sheet_places

abbrev pub most_planes : ℕ
most_planes = most_subdivisions + 1

abbrev pub most_layers : ℕ
most_layers = most_planes + side_count

-- each fits its 64 bits
abbrev pub Fits : Figures → Type 0
Fits = AtMost (2 ^ 64 - 1)

pub record EdgesFit (e : Edges) : Type 0 where
  pub x : e.x < 2 ^ 64
  pub y : e.y < 2 ^ 64
  pub z : e.z < 2 ^ 64

-- at most what so many layers add
abbrev pub Small : ℕ → Figures → Type 0
Small k = AtMost (most_of_layer * k)

pub at_most_of : {a : ℕ} (b : ℕ) {f : Figures} → a ≤ b → AtMost a f → AtMost b f
at_most_of b h p =
    record {
      inside = omega (arith, p.inside);
      x = omega (arith, p.x);
      y = omega (arith, p.y);
      z = omega (arith, p.z);
      vertices = omega (arith, p.vertices);
      triangles = omega (arith, p.triangles);
    }

pub at_most_plus : {a b : ℕ} {f g : Figures} → AtMost a f → AtMost b g → AtMost (a + b) (plus f g)
at_most_plus p q =
    record {
      inside = omega (arith, p.inside, q.inside);
      x = omega (arith, p.x, q.x);
      y = omega (arith, p.y, q.y);
      z = omega (arith, p.z, q.z);
      vertices = omega (arith, p.vertices, q.vertices);
      triangles = omega (arith, p.triangles, q.triangles);
    }

pub at_most_none : (b : ℕ) → AtMost b none
at_most_none b = record { inside = zero-le; x = zero-le; y = zero-le; z = zero-le; vertices = zero-le; triangles = zero-le }

pub small_plus : (j k : ℕ) {f g : Figures} → Small j f → Small k g → Small (j + k) (plus f g)
small_plus j k p q = at_most_of (most_of_layer * (j + k)) (omega arith) (at_most_plus p q)

pub small_of : (j k : ℕ) {f : Figures} → j ≤ k → Small j f → Small k f
small_of j k h p = at_most_of (most_of_layer * k) (omega arith) p

-- so few layers as those of all records of a run
pub small_fits : (k : ℕ) {f : Figures} → k ≤ most_layers * (most_run + 1) → Small k f → Fits f
small_fits k h p = at_most_of (2 ^ 64 - 1) (omega arith) p

-- ---- a line, and the lines up to a place of a run

-- a refused one adds nothing
pub refused_adds : (r : Refusal) → adds (Err r) ≡ none
refused_adds r = refl

abbrev pub SmallLine : Line → Type 0
SmallLine (Ok f) = Small most_layers f
SmallLine (Err r) = Unit {0}

small_adds : (line : Line) → SmallLine line → Small most_layers (adds line)
small_adds (Ok f) p = p
small_adds (Err r) p = at_most_none (most_of_layer * most_layers)

pub small_start : Small (most_layers * 0) none
small_start = at_most_none (most_of_layer * (most_layers * 0))

pub small_more : (at size : ℕ) {sum : Figures} (line : Line) → 1 ≤ size → Small (most_layers * at) sum → SmallLine line
    → Small (most_layers * (at + size)) (plus sum (adds line))
small_more at size line some p q =
    small_of (most_layers * at + most_layers) (most_layers * (at + size)) (omega arith) (small_plus (most_layers * at) most_layers p (small_adds line q))
