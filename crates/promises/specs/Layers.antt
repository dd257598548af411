-- What the buyer was promised of summaries by layer (document 02, [12]), for every input: what making and setting answer and leave, what a layer's two
-- numbers are, that setting keeps a summary right, what 26 refuses, that a layer passed over makes nothing, and that each unmarked layer on one side of the
-- threshold is passed over. It speaks of layers' `make_summary` and `set_sample`, to which the `ensures` of the calls say that the code is equal, in the words
-- of the model's Layers. Definitions only.
use Rattle.std.specs.Prelude.{ℕ, ◌+◌, ◌*◌, ◌/◌, ◌%◌, ◌≤◌, ◌<◌, ◌≡◌, ◌⊎◌, Bool, true, false, List, [], ◌∷◌, ℤ, pos, Float, length, get_or, Err, Ok}
use Rattle.std.specs.Float.{nan, fin}
use Rattle.std.specs.Float.Ieee.{le, lt, eq}
use Rattle.model.specs.declared.Refusal.{Refusal}
use Rattle.model.specs.declared.Refusal.TheVariants.{LayerDiffers}
use Rattle.model.specs.declared.PlaceKind.TheVariants.{Face}
use Rattle.model.specs.Samples.{sample_of}
use Rattle.model.specs.Rotations.{xyz}
use Rattle.model.specs.Formulas.{inside}
use Rattle.model.specs.Star.{Star, subdivisions}
use Rattle.model.specs.Points.{regular_case}
use Rattle.model.specs.Mesh.{Mesh, regular_layer}
use Rattle.model.specs.Judging.{judge_subdivisions, judge_centre, judge_samples, judge_star, judge_buffer}
use Rattle.model.specs.Layers.{layer_count, layer_sample, best_of, less, more, layer_extent, summary_length, entry_of, marked, agree, layer_stands, judge_layers, passed_over}
use Rattle.cases.specs.Marks.{all_regular}
use Rattle.cells.specs.Puts.{SameMade}
use Rattle.layers.specs.Definition.{judge_own, make_summary, point_up, place_up, judge_value, set_sample}
use Rattle.promises.specs.Orders.{Judge, judge, Judged, point_judge}
use Rattle.promises.specs.PlaceKinds.{AllIn, Stands}

-- ---- every call is answered: 1, 4, 7, 14 of making; 1, 4, 7, 15, 7 of the new value, 14 of setting

abbrev pub making_judges : ℕ → List Float → List Float → List Judge
making_judges n samples summary =
    judge 1 (judge_subdivisions n) ∷
    judge 4 (judge_centre n (length samples)) ∷
    judge 7 (judge_samples samples) ∷
    judge 14 (judge_buffer (summary_length n) (length summary)) ∷
    []

abbrev pub setting_judges : ℕ → List Float → ℤ → ℤ → ℤ → Float → List Float → List Judge
setting_judges n samples x y z value summary =
    judge 1 (judge_subdivisions n) ∷
    judge 4 (judge_centre n (length samples)) ∷
    judge 7 (judge_samples samples) ∷
    point_judge n x y z ∷
    judge 7 (judge_value n (point_up n x y z) value) ∷
    judge 14 (judge_buffer (summary_length n) (length summary)) ∷
    []

pub record SummaryIsAnswered : Type 0 where
  pub making : (n : ℕ) (samples summary : List Float)
      → Judged (making_judges n samples summary) (λ r. (make_summary n samples summary).answer ≡ Err r) ((make_summary n samples summary).answer ≡ Ok tt)
  -- refused, it leaves the lent summary as it was
  pub making_untouched : (n : ℕ) (samples summary : List Float) (r : Refusal) → (make_summary n samples summary).answer ≡ Err r
      → (make_summary n samples summary).summary ≡ summary
  pub setting : (n : ℕ) (samples : List Float) (x y z : ℤ) (value : Float) (summary : List Float)
      → Judged (setting_judges n samples x y z value summary) (λ r. (set_sample n samples x y z value summary).answer ≡ Err r)
      ((set_sample n samples x y z value summary).answer ≡ Ok tt)
  -- refused, it leaves both lists as they were
  pub setting_untouched : (n : ℕ) (samples : List Float) (x y z : ℤ) (value : Float) (summary : List Float) (r : Refusal)
      → (set_sample n samples x y z value summary).answer ≡ Err r
      → ((set_sample n samples x y z value summary).samples ≡ samples) × ((set_sample n samples x y z value summary).summary ≡ summary)

-- ---- a layer's two numbers

-- v is one of f 0, .., f (n - 1): none is less, and each before it is more, so that of equals it is the first
pub record Least (f : ℕ → Float) (n : ℕ) (v : Float) : Type 0 where
  pub at : ℕ
  pub within : at < n
  pub is : v ≡ f at
  pub none_less : (k : ℕ) → k < n → le v (f k) ≡ true
  pub first : (k : ℕ) → k < at → lt v (f k) ≡ true

pub record Greatest (f : ℕ → Float) (n : ℕ) (v : Float) : Type 0 where
  pub at : ℕ
  pub within : at < n
  pub is : v ≡ f at
  pub none_more : (k : ℕ) → k < n → le (f k) v ≡ true
  pub first : (k : ℕ) → k < at → lt (f k) v ≡ true

pub record LayerNumbers : Type 0 where
  -- the samples of the layer x in storage order: number k is that of the point (x + k / m^2, k / m mod m, k mod m), with m = n + 1, of its two planes
  pub in_order_lem : (n x : ℕ) (samples : List Float) (k : ℕ) → x < n → k < layer_count n
      → let m = n + 1 in layer_sample n samples x k ≡ sample_of n samples (xyz (x + k / (m * m)) (k / m % m) (k % m))
  -- and each point of the two planes is one of them
  pub points : (n x a y z : ℕ) (samples : List Float) → x < n → a ≤ 1 → y ≤ n → z ≤ n
      → let m = n + 1 in
      (m * m * a + (m * y + z) < layer_count n) × (sample_of n samples (xyz (x + a) y z) ≡ layer_sample n samples x (m * m * a + (m * y + z)))
  -- of samples that 1, 4 and 7 let pass
  pub least : (n : ℕ) (samples : List Float) (x : ℕ) → judge_own n samples ≡ Ok tt → x < n
      → Least (layer_sample n samples x) (layer_count n) (layer_extent n samples x).least
  pub greatest : (n : ℕ) (samples : List Float) (x : ℕ) → judge_own n samples ≡ Ok tt → x < n
      → Greatest (layer_sample n samples x) (layer_count n) (layer_extent n samples x).greatest
  -- +0 and -0 are equal, and of two equals the first is kept
  pub zeros : eq (fin false 0 (pos 0)) (fin true 0 (pos 0)) ≡ true
  pub equals : (f : ℕ → Float) → eq (f 0) (f 1) ≡ true → (best_of less f 2 ≡ f 0) × (best_of more f 2 ≡ f 0)

-- ---- making

pub record SummaryMade (n : ℕ) (samples before after : List Float) : Type 0 where
  pub layers : (x : ℕ) → x < n → entry_of after x ≡ layer_extent n samples x
  -- all beyond stays
  pub beyond : (k : ℕ) → summary_length n ≤ k → get_or after k nan ≡ get_or before k nan
  pub as_long : length after ≡ length before
  -- 26 lets it pass
  pub passes : judge_layers n samples after ≡ Ok tt

-- ---- setting

-- the point is one of the block's, in one of the layer's two planes
pub record InLayer (n : ℕ) (x y z : ℤ) (layer : ℕ) : Type 0 where
  pub in_block : AllIn n x y z
  pub in_plane : (x ≡ pos layer) ⊎ (x ≡ pos (layer + 1))

pub record SampleSet (n : ℕ) (samples : List Float) (x y z : ℤ) (value : Float) (summary samples' summary' : List Float) : Type 0 where
  -- the sample is set, and every other stays
  pub sample : get_or samples' (place_up n (point_up n x y z)) nan ≡ value
  pub others : (k : ℕ) → (k ≡ place_up n (point_up n x y z) → ⊥) → get_or samples' k nan ≡ get_or samples k nan
  -- each layer that holds the point is as made afresh, marked or not; every other place of the summary stays
  pub touched : (layer : ℕ) → layer < n → InLayer n x y z layer → entry_of summary' layer ≡ layer_extent n samples' layer
  pub untouched : (layer : ℕ) → (InLayer n x y z layer → ⊥) → entry_of summary' layer ≡ entry_of summary layer
  pub beyond : (k : ℕ) → summary_length n ≤ k → get_or summary' k nan ≡ get_or summary k nan
  -- a point of an extension face touches none
  pub on_face_lem : (face : ℕ) → Stands n x y z (Face face) → summary' ≡ summary
  pub as_long : (length samples' ≡ length samples) × (length summary' ≡ length summary)
  -- 1, 4 and 7 let the samples pass as before; and where 26 let the summary pass, it does
  pub own : judge_own n samples' ≡ Ok tt
  pub passes : judge_layers n samples summary ≡ Ok tt → judge_layers n samples' summary' ≡ Ok tt

-- ---- 26, and layers passed over

-- the layer is the first unmarked one that differs in value from one made afresh
pub record DiffersFirst (n : ℕ) (samples summary : List Float) (layer : ℕ) : Type 0 where
  pub within : layer < n
  pub unmarked : marked (entry_of summary layer) ≡ false
  pub differs : agree (entry_of summary layer) (layer_extent n samples layer) ≡ false
  pub before : (x : ℕ) → x < layer → layer_stands n samples summary x ≡ true

-- every cell of the layer is all outside or all inside, and the layer's step leaves every mesh as it was, but for its reads
pub record MakesNothing (s : Star) (x : ℕ) : Type 0 where
  pub cases : (y z : ℕ) → y < subdivisions s → z < subdivisions s → (regular_case s x y z ≡ 0) ⊎ (regular_case s x y z ≡ all_regular)
  pub step : (m : Mesh) → SameMade (regular_layer s x m) m

-- ---- all of it

pub record LayerPromises : Type 0 where
  pub answered_always : SummaryIsAnswered
  pub numbers : LayerNumbers
  pub made : (n : ℕ) (samples summary : List Float) → (make_summary n samples summary).answer ≡ Ok tt
      → SummaryMade n samples summary (make_summary n samples summary).summary
  pub set : (n : ℕ) (samples : List Float) (x y z : ℤ) (value : Float) (summary : List Float) → (set_sample n samples x y z value summary).answer ≡ Ok tt
      → let o = set_sample n samples x y z value summary in SampleSet n samples x y z value summary o.samples o.summary
  pub differs_first : (n : ℕ) (samples summary : List Float) (layer : ℕ) → judge_layers n samples summary ≡ Err (LayerDiffers layer)
      → DiffersFirst n samples summary layer
  -- of a block that 1 to 7 let pass, with a summary that 26 lets pass
  pub passed_over_lem : (s : Star) (summary : List Float) (x : ℕ) → judge_star s ≡ Ok tt → judge_layers (subdivisions s) s.centre summary ≡ Ok tt
      → x < subdivisions s → passed_over s.threshold summary x ≡ true → MakesNothing s x
  -- and there each unmarked layer whose samples are all inside or all outside is passed over
  pub all_passed_over : (s : Star) (summary : List Float) (x : ℕ) (b : Bool) → judge_star s ≡ Ok tt
      → judge_layers (subdivisions s) s.centre summary ≡ Ok tt → x < subdivisions s → marked (entry_of summary x) ≡ false
      → ((k : ℕ) → k < layer_count (subdivisions s) → inside s.threshold (layer_sample (subdivisions s) s.centre x k) ≡ b)
      → passed_over s.threshold summary x ≡ true
