-- `rules::stands_alike` meets its contract: a node that is alike is found, and where none is said to be, nothing is claimed.
-- Assumes nothing.
use Rattle.rules.proofs.Repeating.{none_alike, one_alike}
use native.Mathlib.Omega.{arith}
use Rattle.rules.proofs.stands_alike.Goals as goal

pub returns-then-alike : goal.returns-then-alike
returns-then-alike c = one_alike (omega arith) (omega arith) c.alike.ensures c.if-alike.true

pub returns : goal.returns
returns c = none_alike _ _ _ _
