-- `planes::fill_plane` meets its contract. The loop's invariant: the places passed hold the record's samples from the plane's first on.
use Rattle.std.specs.Prelude.{ℕ, ◌+◌, ◌*◌, ◌≤◌, ◌<◌, ◌≡◌, List, Float, length, get_or, take}
use Rattle.std.specs.Float.{nan}
use Rattle.std.proofs.Common.{arith, sym, ap, ◌∙◌, length-take-le}
use Rattle.std.proofs.lemmas.List.{get_or_append_left}
use Rattle.model.specs.Record.{count_of, samples_of}
use Rattle.laws.specs.Filled.{one_filled}
use Rattle.cases.specs.RowPlaces.{layer_fits}
use Rattle.sheet.specs.Planes.{plane_places}
use Rattle.record.specs.declared.passed.Record.{Record}
use Rattle.sheet.proofs.Whole.{n, whole, few, plane_there, plane_is}
use Rattle.sheet.proofs.planes.fill_plane.Goals as goal
use Rattle.sheet.proofs.planes.fill_plane.Goals.{In-loop-k}

-- the plane's places are few
room : (r : Record) → (n r + 1) * (n r + 1) ≤ plane_places
room r = layer_fits (n r) (few r)

part : (r : Record) (plane : List Float) → length plane ≡ plane_places → length (take ((n r + 1) * (n r + 1)) plane) ≡ (n r + 1) * (n r + 1)
part r plane long = length-take-le ((n r + 1) * (n r + 1)) plane (omega (arith, room r, long))

-- the sample is one of the record's
there : (c : In-loop-k) → c.in_block-first.result + c.loop-k.k < count_of c.args.src.now.bytes.now
there c =
    let src = c.args.src.now in
    let below : c.loop-k.k < (n src + 1) * (n src + 1) = omega (arith, c.loop-k-test.true, part src c.args.plane.now c.requires.plane_len) in
    omega (arith, c.in_block-first.ensures.0, plane_there src c.args.x c.loop-k.k c.requires.x_in below)

pub in_block-first-requires : goal.in_block-first-requires
in_block-first-requires c = omega (arith, few c.args.src.now, c.requires.x_in)

pub overflow_add-count : goal.overflow_add-count
overflow_add-count c = omega (arith, few c.args.src.now)

pub overflow_add-count-2 : goal.overflow_add-count-2
overflow_add-count-2 c = omega (arith, few c.args.src.now)

pub overflow_mul-count : goal.overflow_mul-count
overflow_mul-count c = omega (arith, room c.args.src.now)

pub slice_bounds-sample-items-end : goal.slice_bounds-sample-items-end
slice_bounds-sample-items-end c = omega (arith, room c.args.src.now, c.requires.plane_len)

pub slice_bounds-sample-items-end-2 : goal.slice_bounds-sample-items-end-2
slice_bounds-sample-items-end-2 c = sym (part c.args.src.now c.args.plane.now c.requires.plane_len)

pub overflow_add-first : goal.overflow_add-first
overflow_add-first c = omega (arith, there (goal.at.overflow_add-first c).In-loop-k, (whole c.args.src.now).counted)

pub sample-requires : goal.sample-requires
sample-requires c = there (goal.at.sample-requires c).In-loop-k

pub loop-k-preserved : goal.loop-k-preserved
loop-k-preserved c =
    one_filled _ c.loop-k.k c.loop-k.sample-items c.sample.result (omega (arith, c.loop-k-test.true, c.loop-k.auto.sample-items)) c.sample.ensures c.loop-k.invariant

pub returns : goal.returns
returns c =
    let src = c.args.src.now in
    let long = part src c.args.plane.now c.requires.plane_len in
    plane_is src c.args.x _ c.requires.x_in
    (λ k h.
    get_or_append_left c.loop-k.sample-items _ nan k (omega (arith, c.loop-k.auto.sample-items, long))
    ∙ c.loop-k.invariant.sample_at k (omega (arith, c.loop-k-test.false, long))
    ∙ ap (λ (first : ℕ). get_or (samples_of src.bytes.now) (first + k) nan) c.in_block-first.ensures.0)
