-- `fill_samples` meets its contract. The loop's invariant: the samples passed stand in the first places, and all beyond is as it was.
use Rattle.std.specs.Prelude.{ℕ, ◌≡◌, ◌<◌, List, ◌++◌, Float, drop, take, slice_set}
use Rattle.std.proofs.Common.{◌∙◌, ap, arith, append-nil, length-take-le}
use Rattle.std.proofs.lemmas.List.{drop_all}
use Rattle.laws.specs.Steps.{listed}
use Rattle.laws.specs.Lists.{length_listed, listed_more}
use Rattle.model.specs.Words.{float_at}
use Rattle.model.specs.Record.{sample_from, count_of, samples_of}
use Rattle.record.specs.Accepted.{sample_is}
use Rattle.record.proofs.reader.fill_samples.Goals as goal

-- the sample at a place
abbrev at : List ℕ → ℕ → Float
at bytes k = float_at bytes (sample_from k)

pub loop-k-preserved : goal.loop-k-preserved
loop-k-preserved c =
    let bytes = c.args.from.now.bytes.now in
    let k = c.loop-k.k in
    let part = take c.count.result c.args.samples.now in
    let here : k < count_of bytes = omega (arith, c.count.ensures, c.loop-k-test.true, length-take-le c.count.result c.args.samples.now (rw c.count.ensures c.requires)) in
    ap (λ (l : List Float). slice_set l k c.sample.result) c.loop-k.invariant
    ∙ ap (slice_set (listed (at bytes) k ++ drop k part) k) (c.sample.ensures ∙ sample_is bytes k here)
    ∙ listed_more (at bytes) k part c.loop-k-test.true

pub returns : goal.returns
unfolding samples_of
returns c =
    let bytes = c.args.from.now.bytes.now in
    let before = c.args.samples.now in
    let part = take c.count.result before in
    let all : c.loop-k.k ≡ count_of bytes =
    omega (arith, c.count.ensures, c.loop-k-test.false, length-take-le c.count.result before (rw c.count.ensures c.requires)) in
    ap (λ (l : List Float). l ++ drop c.count.result before) (c.loop-k.invariant ∙ ap (λ (l : List Float). listed (at bytes) c.loop-k.k ++ l) (drop_all c.loop-k.k part c.loop-k-test.false))
    ∙ rw (append-nil, all, c.count.ensures, length_listed (at bytes) (count_of bytes))
