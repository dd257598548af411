-- `sixteens::sixteen` meets its contract: its sixteen calls are at one place after another.
use native.Mathlib.Nat.{add-zero}
use Rattle.cases.specs.Sheets.{side_by_side}
use Rattle.cases.proofs.Each.{each_at}
use Rattle.cases.proofs.sixteens.sixteen.Goals as goal

pub returns : goal.returns
returns g c =
    let first = c.number.ensures in
    each_at _ side_by_side (rw add-zero first, (c.number-2.ensures, (c.number-3.ensures, (c.number-4.ensures, (c.number-5.ensures, (c.number-6.ensures, (c.number-7.ensures, (c.number-8.ensures, (c.number-9.ensures, (c.number-10.ensures, (c.number-11.ensures, (c.number-12.ensures, (c.number-13.ensures, (c.number-14.ensures, (c.number-15.ensures, (c.number-16.ensures, tt))))))))))))))))
