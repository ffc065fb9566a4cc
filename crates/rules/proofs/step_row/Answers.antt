-- `rules::step_row` meets its contract: a forward step has the table's word, and a reverse one the link's bits with the two kinds swapped.
-- Assumes nothing.
use mathlib.Core.Path.{refl}
use Rattle.rules.proofs.Steps.{forward_row}
use Rattle.rules.proofs.step_row.Goals as goal

pub returns-in-Forward : goal.returns-in-Forward
returns-in-Forward c = rw (c.in-Forward.is, c.leads_to.ensures) (forward_row _ _ _ _ refl)

pub returns-in-Reverse : goal.returns-in-Reverse
returns-in-Reverse c = rw c.in-Reverse.is c.reverse_row.ensures
