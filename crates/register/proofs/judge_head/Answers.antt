-- `register::judge_head` meets its contract: the two numbers are those of the body, and the tests are the definition's.
-- Assumes nothing.
use borrow.Author.Tests.{le-leb}
use native.Mathlib.Omega.{arith}
use Rattle.std.proofs.lemmas.Bool.Decides.{nat_tests}
use Rattle.register.specs.Form.{head_of}
use Rattle.register.proofs.judge_head.Goals as goal

pub returns-then-records-gt-MOST_RECORDS : goal.returns-then-records-gt-MOST_RECORDS
unfolding head_of
returns-then-records-gt-MOST_RECORDS c = grind (arith, nat_tests)

pub returns : goal.returns
unfolding head_of
returns c = simp (le-leb _ _ c.if-links-gt-MOST_LINKS.false, le-leb _ _ c.if-records-gt-MOST_RECORDS.false, ← c.two-links.ensures, ← c.two-records.ensures)
