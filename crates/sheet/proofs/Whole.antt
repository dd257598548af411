-- A record that passed: its header is that of its bytes, and what it holds by that.
use Rattle.std.specs.Prelude.{ℕ, ◌+◌, ◌*◌, ◌≤◌, ◌<◌, ◌≡◌, true, List, Float, get_or}
use Rattle.std.specs.Float.{nan}
use Rattle.std.proofs.Common.{sym, ap, subst}
use Rattle.record.specs.declared.passed.Record.{Record}
use Rattle.record.specs.Accepted.{Accepted, accepted}
use Rattle.model.specs.declared.Header.{Header}
use Rattle.model.specs.Limits.{most_subdivisions, most_mask, side_count}
use Rattle.model.specs.Record.{header_of, count_of, samples_of, star_of}
use Rattle.model.specs.Samples.{in_block}
use Rattle.model.specs.Sides.{named}
use Rattle.lines.specs.Lines.{NamedSide, side_of}
use Rattle.cases.specs.Sheets.{Measured, Plane}
use Rattle.sheet.specs.Planes.{plane_read, plane_in}

module _ (r : Record) where
  pub whole : Accepted r.bytes.now
  whole = accepted r.bytes.now r.passed

  -- what holds of its bytes' header holds of its own
  of_header : (P : Header → Type 0) → P (header_of r.bytes.now) → P r.header
  of_header P = subst P (sym r.told)

  abbrev pub n : ℕ
  n = r.header.block.subdivisions

  pub few : n ≤ most_subdivisions
  few = of_header (λ (h : Header). h.block.subdivisions ≤ most_subdivisions) whole.few

  pub sides : r.header.mask ≤ most_mask
  sides = of_header (λ (h : Header). h.mask ≤ most_mask) whole.sides

  pub mask_is : (star_of r.bytes.now).mask ≡ r.header.mask
  mask_is = ap (λ (h : Header). h.mask) (sym r.told)

  pub measured_as : Measured (star_of r.bytes.now) n r.header.threshold
  measured_as =
      record { subdivisions_are = ap (λ (h : Header). h.block.subdivisions) (sym r.told); threshold_is = ap (λ (h : Header). h.threshold) (sym r.told) }

  pub side_is : (side : ℕ) → side < side_count → named r.header.mask side ≡ true → NamedSide r.header side
  side_is = side_of r.bytes.now whole r.header r.told

  -- the samples of its planes
  pub plane_there : (x k : ℕ) → x ≤ n → k < (n + 1) * (n + 1) → in_block n x 0 0 + k < count_of r.bytes.now
  plane_there x k = of_header
      (λ (h : Header). let m = h.block.subdivisions in x ≤ m → k < (m + 1) * (m + 1) → in_block m x 0 0 + k < count_of r.bytes.now)
      (λ hx hk. plane_in r.bytes.now x hx k hk)

  pub plane_is : (x : ℕ) (plane : List Float) → x ≤ n
      → ((k : ℕ) → k < (n + 1) * (n + 1) → get_or plane k nan ≡ get_or (samples_of r.bytes.now) (in_block n x 0 0 + k) nan) → Plane (star_of r.bytes.now) x plane
  plane_is x plane = of_header
      (λ (h : Header). let m = h.block.subdivisions in x ≤ m
      → ((k : ℕ) → k < (m + 1) * (m + 1) → get_or plane k nan ≡ get_or (samples_of r.bytes.now) (in_block m x 0 0 + k) nan) → Plane (star_of r.bytes.now) x plane)
      (λ hx read. plane_read r.bytes.now x hx plane read)
