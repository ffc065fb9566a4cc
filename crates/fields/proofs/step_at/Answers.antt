-- `fields::step_at` meets its contract: three tests of the file's length tell apart the end, a head cut short, a body cut short and a whole field.
-- Assumes nothing.
use Rattle.fields.specs.Raw.{raw_at}
use borrow.Author.Tests.{lt-ltb, lt-leb, le-ltb, le-leb}
use Rattle.fields.proofs.step_at.Goals as goal

pub returns-then-s-at : goal.returns-then-s-at
unfolding raw_at
returns-then-s-at c = simp (le-leb _ _ c.if-s-at.true)

pub returns-then-s-at-2 : goal.returns-then-s-at-2
unfolding raw_at
returns-then-s-at-2 c = simp (lt-ltb _ _ c.if-s-at-2.true, lt-leb _ _ c.if-s-at.false)

pub returns-then-s-at-3 : goal.returns-then-s-at-3
unfolding raw_at
returns-then-s-at-3 c = simp (lt-ltb _ _ (rw c.from.ensures at c.if-s-at-3.true), ← c.two-len.ensures, le-ltb _ _ c.if-s-at-2.false, lt-leb _ _ c.if-s-at.false)

pub returns : goal.returns
unfolding raw_at
returns c = simp (le-ltb _ _ (rw c.from.ensures at c.if-s-at-3.false), ← c.two-len.ensures, le-ltb _ _ c.if-s-at-2.false, lt-leb _ _ c.if-s-at.false)
