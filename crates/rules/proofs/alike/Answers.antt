-- `rules::alike` meets its contract: it tells true only of nodes whose from kinds are equal and whose paths `same_path` finds equal.
-- Assumes nothing.
use Rattle.rules.proofs.Repeating.{alike_paths}
use mathlib.Core.Path.{sym, ◌∙◌}
use borrow.Author.Tests.{eqb-true}
use Rattle.rules.proofs.alike.Goals as goal

pub returns-then-eq : goal.returns-then-eq
returns-then-eq c = alike_paths c.load.ensures c.load-2.ensures (eqb-true _ _ (sym c.eq.ensures ∙ c.if-eq.true)) c.same_path.ensures
