-- `judge_file` meets its contract: too short for a count, or judged by the count that stands there.
use mathlib.Core.Path.{ap, ◌∙◌}
use borrow.Author.Tests.{lt-leb, le-leb}
use lib.ListN.{length}
use Rattle.stl.specs.Definition.{start_length, file_length}
use Rattle.stl.proofs.reader.judge_file.Goals as goal

pub returns-then-bytes-lt-START : goal.returns-then-bytes-lt-START
returns-then-bytes-lt-START c = rw (lt-leb start_length (length c.args.bytes.now) c.if-bytes-lt-START.true)

pub returns : goal.returns
returns c =
    let bytes = c.args.bytes.now in
    let wanted = c.file_length-wanted.ensures ∙ ap file_length c.count_in.ensures.0 in
    rw (le-leb start_length (length bytes) c.if-bytes-lt-START.false, ← wanted) c.unless.ensures
