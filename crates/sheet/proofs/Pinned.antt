-- What the statement of each call allows is one answer: two that it allows for the same inputs are equal. The calls lend no buffer.
use mathlib.Core.Path.{◌≡◌}
use contract.Lifetimes.{Lfts}
use Rattle.model.specs.Pinned.{pinned}
use Rattle.sheet.proofs.EdgesAdd.add.Reads as edges-add
use Rattle.sheet.proofs.FiguresAdd.add.Reads as figures-add
use Rattle.sheet.proofs.sheet_line.Reads as sheet-line
use Rattle.sheet.proofs.sheet_total.Reads as sheet-total

pub sheet_line_pinned : (κs : Lfts 1) (a : _) (r r' : _) (e e' : _) → sheet-line.Learnt κs a r e → sheet-line.Learnt κs a r' e' → r ≡ r'
sheet_line_pinned κs a r r' e e' h k = pinned h k

pub sheet_total_pinned : (κs : Lfts 1) (a : _) (r r' : _) (e e' : _) → sheet-total.Learnt κs a r e → sheet-total.Learnt κs a r' e' → r ≡ r'
sheet_total_pinned κs a r r' e e' h k = pinned h k

pub Edges_add_pinned : (κs : Lfts 0) (a : _) (r r' : _) (e e' : _) → edges-add.Learnt κs a r e → edges-add.Learnt κs a r' e' → r ≡ r'
Edges_add_pinned κs a r r' e e' h k = pinned h k

pub Figures_add_pinned : (κs : Lfts 0) (a : _) (r r' : _) (e e' : _) → figures-add.Learnt κs a r e → figures-add.Learnt κs a r' e' → r ≡ r'
Figures_add_pinned κs a r r' e e' h k = pinned h k
