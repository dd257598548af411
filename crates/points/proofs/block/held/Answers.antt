-- `block::held` meets its contract by what `held_by` ensures of each axis.
use mathlib.Core.Path.{sym, ◌∙◌}
use Rattle.model.specs.Formulas.{held}
use Rattle.points.proofs.block.held.Goals as goal
use Rattle.points.proofs.block.held.Goals.{then-held_by, else-held_by}

pub returns-then-held_by-2 : goal.returns-then-held_by-2
unfolding held
returns-then-held_by-2 c =
    elim c.if-held_by.branch [
      | then-held_by w ↦ c.if-held_by-2.true ∙ rw (sym c.held_by.ensures ∙ w.if-held_by.true)
      | else-held_by w ↦
          c.if-held_by-2.true
          ∙ rw (
            sym c.held_by.ensures ∙ w.if-held_by.false,
            sym w.held_by-else-held_by.ensures ∙ sym w.value-is ∙ c.if-held_by-2.true,
          )
    ]

pub returns-else-held_by-2 : goal.returns-else-held_by-2
unfolding held
returns-else-held_by-2 c =
    elim c.if-held_by.branch [
      | then-held_by w ↦ absurd (let z : ⊥ = cc in z)
      | else-held_by w ↦
          rw (
            sym c.held_by.ensures ∙ w.if-held_by.false,
            sym w.held_by-else-held_by.ensures ∙ sym w.value-is ∙ c.if-held_by-2.false,
            c.held_by-else-held_by-2.ensures,
          )
    ]
