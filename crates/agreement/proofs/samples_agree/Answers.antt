-- `samples_agree` meets its contract by what `inside` ensures of both samples.
use Rattle.agreement.proofs.samples_agree.Goals as goal

pub returns : goal.returns
returns c =
    rw (c.inside.ensures, c.inside-2.ensures, c.value_in_block.ensures, c.value_in_block-2.ensures)
