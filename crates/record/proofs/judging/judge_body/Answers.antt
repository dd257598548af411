-- `judge_body` meets its contract: the count by n and mask decides 13, and then 7 is that of the samples in order.
use mathlib.Core.Path.{◌≡◌, ap₂, ◌∙◌}
use Rattle.model.specs.Sides.{sample_count}
use Rattle.model.specs.Record.{count_of}
use Rattle.record.specs.ReadingOrder.{body_refused, body_counted}
use Rattle.record.proofs.judging.judge_body.Goals as goal
use Rattle.record.proofs.judging.judge_body.Goals.{After-sample_count-count}

counted : (c : After-sample_count-count) → c.sample_count-count.result ≡ count_of c.args.bytes.now
counted c =
    c.sample_count-count.ensures.0
    ∙ ap₂ sample_count c.subdivisions_of.ensures c.mask_of.ensures

pub returns-then-bytes-count : goal.returns-then-bytes-count
returns-then-bytes-count c = body_refused _ c.sample_count-count.result (counted (goal.at.returns-then-bytes-count c).After-sample_count-count) c.if-bytes-count.true

pub returns : goal.returns
returns c =
    c.judge_samples.ensures ∙ body_counted _ c.sample_count-count.result (counted (goal.at.returns c).After-sample_count-count) c.if-bytes-count.false
