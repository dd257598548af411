-- What the buyer was promised of the sample reads that extraction reports (document 02, [7]): how many they are, and a bound in n and s alone, which no
-- smaller one can replace. The report is the model's `extract ..  .reads`, to which the `ensures` of the call says that the code's is equal. Definitions only.
use Rattle.std.specs.Prelude.{ℕ, ◌+◌, ◌-◌, ◌*◌, ◌^◌, ◌≤◌, ◌<◌, ◌≡◌, Err, Ok}
use Rattle.std.specs.Int.Count.{ones}
use Rattle.model.specs.declared.Counts.{Counts}
use Rattle.model.specs.declared.Refusal.{Refusal}
use Rattle.model.specs.Limits.{most_mask}
use Rattle.model.specs.Star.{Star, subdivisions}
use Rattle.model.specs.Judging.{judge_star, judge_faces}
use Rattle.model.specs.Mesh.{mesh_of}
use Rattle.model.specs.Extraction.{extract}
use Rattle.promises.specs.Left.{Lent, answered}

-- what a call reports
abbrev pub reported : Star → Lent → ℕ
reported s lent = (extract s lent.store lent.vertices lent.triangles).reads

-- eight a regular cell, nine a transition cell, fourteen a vertex: of n subdivisions, so many sides and so many vertices
abbrev pub reads_total : ℕ → ℕ → ℕ → ℕ
reads_total n sides vertices = 8 * (n * n * n) + 9 * (sides * (n * n)) + 14 * vertices

-- 50 n^3 + 168 n^2 - 42 n, and for each side 121 n^2 + 56 n: the same with the most vertices that such a block can have
abbrev pub most_reads : ℕ → ℕ → ℕ
most_reads n sides = 2 * (n * (25 * (n * n) + 84 * n - 21)) + sides * (n * (121 * n + 56))

-- a block that passes 1 to 8, and whose reads are as many as the bound allows
pub record Costly (s : Star) : Type 0 where
  pub accepted : judge_star s ≡ Ok tt
  pub faces : judge_faces s ≡ Ok tt
  pub reads : (mesh_of s).reads ≡ most_reads (subdivisions s) (ones s.mask)

pub record Reached (mask : ℕ) : Type 0 where
  pub block : Star
  pub mask_is : block.mask ≡ mask
  pub costly : Costly block

pub record ReadsPromises : Type 0 where
  -- accepted, extraction reports the reads of the definition's steps, which are 8 n^3 + 9 s n^2 + 14 V
  pub counted : (s : Star) (lent : Lent) (c : Counts) → answered s lent ≡ Ok c → reported s lent ≡ (mesh_of s).reads
  pub total : (s : Star) (lent : Lent) (c : Counts) → answered s lent ≡ Ok c
      → reported s lent ≡ reads_total (subdivisions s) (ones s.mask) c.vertices
  -- a refusal reports 0
  pub refused : (s : Star) (lent : Lent) (r : Refusal) → answered s lent ≡ Err r → reported s lent ≡ 0
  -- and whatever it answers, the report is within the bound, and fits a u64
  pub most : (s : Star) (lent : Lent) → reported s lent ≤ most_reads (subdivisions s) (ones s.mask)
  pub fits : (s : Star) (lent : Lent) → reported s lent < 2 ^ 64
  -- there are blocks that cost as much as the bound allows, with no finer side and with six
  pub reached_alone : Reached 0
  pub reached_among : Reached most_mask
