-- A plane of a block's samples, the points at one x line by line: what is counted in it, and in the layer of cells and edges from it to the next, is
-- what the definition counts there.
use Rattle.std.specs.Prelude.{◌≡◌, not, List, ℕ, zero, suc, ◌+◌, ◌*◌, ◌≤◌, ◌<◌, Float, get_or, Ok}
use Rattle.std.proofs.Math.Path.{refl, ap}
use Rattle.std.proofs.Common.{sym, ap₂, ◌∙◌, subst, mul-add, mul-le-mul_left, zero-add, add-one, arith, get_or-take}
use Rattle.std.specs.Bool.{beq}
use Rattle.std.specs.Float.{nan}
use Rattle.laws.specs.Steps.{total}
use Rattle.laws.specs.Counting.{one}
use Rattle.laws.specs.Sums.{total_same, total_rows, square, cube}
use Rattle.model.specs.declared.Counts.{Counts}
use Rattle.model.specs.declared.PlaceKind.TheVariants.{InBlock}
use Rattle.model.specs.Answers.{Reading}
use Rattle.model.specs.Limits.{most_subdivisions}
use Rattle.model.specs.Samples.{sample_length, in_block, value_of, value_at, sample_of}
use Rattle.model.specs.Rotations.{xyz}
use Rattle.model.specs.Formulas.{inside, inside_bit}
use Rattle.model.specs.Star.{Star, subdivisions}
use Rattle.model.specs.OverCells.{triangles_at}
use Rattle.model.specs.Record.{header_of, count_of, samples_of, star_of}
use Rattle.grid.specs.Places.{in_block_lem}
use Rattle.grid.specs.Kinds.{in_block_reading_lem}
use Rattle.cases.specs.Sheets.{Measured, Plane}
use Rattle.cases.specs.RowPlaces.{row_before}
use Rattle.sheet.specs.declared.Figures.{Figures}
use Rattle.sheet.specs.Definition.{inside_at, inside_samples, crosses_x, crosses_y, crosses_z, x_edges, y_edges, z_edges, made_at, plus}

-- the places that a plane has room for
abbrev pub plane_places : ℕ
plane_places = (most_subdivisions + 1) * (most_subdivisions + 1)

abbrev of_block : Float → Reading
of_block v = Ok (v, InBlock)

-- 1 if just one of two samples is inside
abbrev pub crossing_bit : Float → Float → Float → ℕ
crossing_bit t a b = one (not (beq (inside t a) (inside t b)))

-- the edges from each sample of a list from a place on to the one as far on in another that cross
abbrev pub crossing_sum : Float → List Float → ℕ → List Float → ℕ → ℕ → ℕ
crossing_sum t a at b to count = total (λ k. crossing_bit t (get_or a (at + k) nan) (get_or b (to + k) nan)) count

-- ---- what is counted

-- in a plane
abbrev pub plane_figures : Star → ℕ → Figures
plane_figures s x =
    let n = subdivisions s in
    record {
      inside = square (inside_at s x) (n + 1);
      edges = record { x = 0; y = total (λ y. total (crosses_y s x y) (n + 1)) n; z = total (λ y. total (crosses_z s x y) n) (n + 1) };
      vertices = 0;
      triangles = 0;
    }

-- in the layer from a plane to the next, and in that one
abbrev pub step_figures : Star → ℕ → Figures
step_figures s x =
    let n = subdivisions s in
    record {
      inside = (plane_figures s (x + 1)).inside;
      edges = record { x = square (crosses_x s x) (n + 1); y = (plane_figures s (x + 1)).edges.y; z = (plane_figures s (x + 1)).edges.z };
      vertices = square (made_at s x) n;
      triangles = square (triangles_at s x) n;
    }

-- in the planes up to one, and in the layers below it
abbrev pub planes_to : Star → ℕ → Figures
planes_to s zero = plane_figures s 0
planes_to s (suc k) = plus (planes_to s k) (step_figures s k)

abbrev pub regular_figures : Star → Figures
regular_figures s =
    record {
      inside = inside_samples s;
      edges = record { x = x_edges s; y = y_edges s; z = z_edges s };
      vertices = cube (made_at s) (subdivisions s);
      triangles = cube (triangles_at s) (subdivisions s);
    }

module _ (s : Star) where
  abbrev n : ℕ
  n = subdivisions s

  -- what each plane adds, and what each layer adds
  planes_add : (f a : ℕ → ℕ) → a 0 ≡ f 0 → ((k : ℕ) → a (suc k) ≡ a k + f (k + 1)) → (k : ℕ) → a k ≡ total f (k + 1)
  planes_add f a first more zero = first ∙ sym (zero-add (f 0))
  planes_add f a first more (suc k) =
      more k ∙ ap₂ ◌+◌ (planes_add f a first more k ∙ ap (total f) (add-one k)) (ap f (add-one k)) ∙ ap (total f) (sym (add-one (suc k)))

  layers_add : (f a : ℕ → ℕ) → a 0 ≡ 0 → ((k : ℕ) → a (suc k) ≡ a k + f k) → (k : ℕ) → a k ≡ total f k
  layers_add f a first more zero = first
  layers_add f a first more (suc k) = more k ∙ ap (λ (t : ℕ). t + f k) (layers_add f a first more k)

  pub all_planes : planes_to s n ≡ regular_figures s
  unfolding inside_samples x_edges y_edges z_edges
  all_planes =
      λ i.
      record {
        inside = planes_add (λ x. square (inside_at s x) (n + 1)) (λ k. (planes_to s k).inside) refl (λ k. refl) n i;
        edges = record {
          x = layers_add (λ x. square (crosses_x s x) (n + 1)) (λ k. (planes_to s k).edges.x) refl (λ k. refl) n i;
          y = planes_add (λ x. total (λ y. total (crosses_y s x y) (n + 1)) n) (λ k. (planes_to s k).edges.y) refl (λ k. refl) n i;
          z = planes_add (λ x. total (λ y. total (crosses_z s x y) n) (n + 1)) (λ k. (planes_to s k).edges.z) refl (λ k. refl) n i;
        };
        vertices = layers_add (λ x. square (made_at s x) n) (λ k. (planes_to s k).vertices) refl (λ k. refl) n i;
        triangles = layers_add (λ x. square (triangles_at s x) n) (λ k. (planes_to s k).triangles) refl (λ k. refl) n i;
      }

-- ---- a layer's cells

pub record LayerCounts (s : Star) (x : ℕ) (counts : Counts) : Type 0 where
  pub vertices_are : counts.vertices ≡ square (made_at s x) (subdivisions s)
  pub triangles_are : counts.triangles ≡ square (triangles_at s x) (subdivisions s)

-- ---- a list of samples that is a plane

module _ (s : Star) (x : ℕ) (plane : List Float) (p : Plane s x plane) where
  sample_at : (y z : ℕ) → y ≤ n s → z ≤ n s → get_or plane ((n s + 1) * y + z) nan ≡ sample_of (n s) s.centre (xyz x y z)
  unfolding value_at
  sample_at y z hy hz = ap value_of (p.reading_at_lem y z hy hz)

  pub plane_inside : total (λ k. inside_bit s.threshold (get_or plane k nan)) ((n s + 1) * (n s + 1)) ≡ square (inside_at s x) (n s + 1)
  plane_inside =
      total_rows _ (n s + 1) (n s + 1)
      ∙ total_same _ _ (n s + 1)
      (λ y hy. total_same _ _ (n s + 1) (λ z hz. ap (inside_bit s.threshold) (sample_at y z (omega arith) (omega arith))))

  -- the sample at a place of the plane is that of the point there
  read_at : (k y z : ℕ) → k ≡ (n s + 1) * y + z → y ≤ n s → z ≤ n s → get_or plane k nan ≡ sample_of (n s) s.centre (xyz x y z)
  read_at k y z at hy hz = ap (λ (i : ℕ). get_or plane i nan) at ∙ sample_at y z hy hz

  -- a line and the next
  pub plane_up : crossing_sum s.threshold plane 0 plane (n s + 1) ((n s + 1) * n s) ≡ total (λ y. total (crosses_y s x y) (n s + 1)) (n s)
  plane_up =
      total_rows _ (n s + 1) (n s)
      ∙ total_same _ _ (n s)
      (λ y hy. total_same _ _ (n s + 1)
      (λ z hz. ap₂ (crossing_bit s.threshold) (read_at _ y z (omega arith) (omega arith) (omega arith))
      (read_at _ (y + 1) z (omega (arith, mul-add (n s + 1) y 1)) (omega arith) (omega arith))))

  -- a point of a line and the next
  pub plane_along : (y : ℕ) → y ≤ n s
      → crossing_sum s.threshold plane ((n s + 1) * y) plane ((n s + 1) * y + 1) (n s) ≡ total (crosses_z s x y) (n s)
  plane_along y hy =
      total_same _ _ (n s)
      (λ z hz. ap₂ (crossing_bit s.threshold) (read_at _ y z (omega arith) hy (omega arith)) (read_at _ y (z + 1) (omega arith) hy (omega arith)))

-- a plane and the next
pub plane_across : (s : Star) (x : ℕ) (low high : List Float) → Plane s x low → Plane s (x + 1) high
    → crossing_sum s.threshold low 0 high 0 ((subdivisions s + 1) * (subdivisions s + 1)) ≡ square (crosses_x s x) (subdivisions s + 1)
plane_across s x low high p q =
    let m = subdivisions s + 1 in
    total_rows _ m m
    ∙ total_same _ _ m
    (λ y hy. total_same _ _ m
    (λ z hz. ap₂ (crossing_bit s.threshold) (read_at s x low p _ y z (omega arith) (omega arith) (omega arith))
    (read_at s (x + 1) high q _ y z (omega arith) (omega arith) (omega arith))))

-- what holds of the block's own measures holds of those that are told
pub measured : (s : Star) (n : ℕ) (threshold : Float) (P : ℕ → Float → Type 0) → Measured s n threshold → P (subdivisions s) s.threshold → P n threshold
measured s n threshold P is p =
    subst (λ (t : Float). P n t) is.threshold_is (subst (λ (k : ℕ). P k s.threshold) is.subdivisions_are p)

-- it is one if it holds the record's samples from the plane's first on
module _ (bytes : List ℕ) (x : ℕ) (hx : x ≤ (header_of bytes).block.subdivisions) where
  abbrev subs : ℕ
  subs = (header_of bytes).block.subdivisions

  pub plane_read : (plane : List Float)
      → ((k : ℕ) → k < (subs + 1) * (subs + 1) → get_or plane k nan ≡ get_or (samples_of bytes) (in_block subs x 0 0 + k) nan) → Plane (star_of bytes) x plane
  plane_read plane read =
      record {
        reading_at_lem = λ y z hy hz.
            let at : in_block subs x 0 0 + ((subs + 1) * y + z) ≡ in_block subs x y z = omega arith in
            ap of_block
            (read ((subs + 1) * y + z) (row_before subs y (subs + 1) z (omega arith) hz)
            ∙ ap (λ (k : ℕ). get_or (samples_of bytes) k nan) at
            ∙ sym (get_or-take (sample_length subs) (samples_of bytes) (in_block subs x y z) nan (omega (arith, in_block_lem subs x y z hx hy hz))))
            ∙ sym (in_block_reading_lem subs (star_of bytes).centre (xyz x y z) (record { x_in = hx; y_in = hy; z_in = hz }));
      }

  -- each of them is one of the record's
  pub plane_in : (k : ℕ) → k < (subs + 1) * (subs + 1) → in_block subs x 0 0 + k < count_of bytes
  plane_in k h =
      let most : (subs + 1) * (subs + 1) * (x + 1) ≤ (subs + 1) * (subs + 1) * (subs + 1) = mul-le-mul_left ((subs + 1) * (subs + 1)) (omega arith) in
      omega (arith, most, mul-add ((subs + 1) * (subs + 1)) x 1)

-- and so is a list that has the same places
pub plane_same : (s : Star) (x : ℕ) (high low : List Float) → Plane s x high
    → ((k : ℕ) → k < (subdivisions s + 1) * (subdivisions s + 1) → get_or low k nan ≡ get_or high k nan) → Plane s x low
plane_same s x high low p same =
    record {
      reading_at_lem = λ y z hy hz.
          let n = subdivisions s in
          ap of_block (same ((n + 1) * y + z) (row_before n y (n + 1) z (omega arith) hz)) ∙ p.reading_at_lem y z hy hz;
    }
