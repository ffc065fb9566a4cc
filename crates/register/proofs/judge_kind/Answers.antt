-- `register::judge_kind` meets its contract: the byte is the body's, and the test is the definition's.
-- Assumes nothing.
use borrow.Author.Tests.{lt-ltb, le-ltb}
use Rattle.register.specs.Form.{kind_of}
use Rattle.register.proofs.judge_kind.Goals as goal

pub returns-then-b-ge-KINDS : goal.returns-then-b-ge-KINDS
unfolding kind_of
returns-then-b-ge-KINDS c = simp (le-ltb _ _ c.if-b-ge-KINDS.true)

pub returns : goal.returns
unfolding kind_of
returns c = simp (lt-ltb _ _ c.if-b-ge-KINDS.false)
