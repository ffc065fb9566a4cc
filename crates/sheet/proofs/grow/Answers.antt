-- `sheet::grow` meets its contract: from, link, to and order are tested in the definition's order, and the next key must be above this one.
-- Assumes nothing.
use Rattle.fields.specs.Table.{rows, tag_length}
use borrow.Author.Tests.{lt-ltb, lt-leb, le-ltb, le-leb}
use borrow.Author.Rules.{rules}
use Rattle.sheet.specs.Form.{next}
use Rattle.sheet.proofs.grow.Goals.{then-q-from-via-then-q-from, then-q-from-via-else-q-from+then-q-link, then-q-from-via-else-q-from+else-q-link+then-q-to}
use Rattle.sheet.proofs.grow.Goals as goal

pub bounds-f-0 : goal.bounds-f-0
unfolding tag_length rows
bounds-f-0 c = search rules

pub bounds-f-1 : goal.bounds-f-1
unfolding tag_length rows
bounds-f-1 c = search rules

pub bounds-f-2 : goal.bounds-f-2
unfolding tag_length rows
bounds-f-2 c = search rules

pub returns-then-q-from : goal.returns-then-q-from
unfolding next
returns-then-q-from c =
    elim c.then-q-from.branch [
      | then-q-from-via-then-q-from w ↦ simp (le-ltb _ _ w.if-q-from.true)
      | then-q-from-via-else-q-from+then-q-link w ↦ simp (lt-ltb _ _ w.if-q-from.false, le-ltb _ _ w.if-q-link.true)
      | then-q-from-via-else-q-from+else-q-link+then-q-to w ↦ simp (lt-ltb _ _ w.if-q-from.false, lt-ltb _ _ w.if-q-link.false, le-ltb _ _ w.if-q-to.true)
    ]

pub returns-then-key-q : goal.returns-then-key-q
unfolding next
returns-then-key-q c =
    simp (lt-ltb _ _ c.if-q-from.false, lt-ltb _ _ c.if-q-link.false, lt-ltb _ _ c.if-q-to.false, ← c.from.ensures, ← c.from-2.ensures, ← c.from-3.ensures, lt-leb _ _ c.if-key-q.true)

pub returns : goal.returns
unfolding next
returns c =
    simp (lt-ltb _ _ c.if-q-from.false, lt-ltb _ _ c.if-q-link.false, lt-ltb _ _ c.if-q-to.false, ← c.from.ensures, ← c.from-2.ensures, ← c.from-3.ensures, le-leb _ _ c.if-key-q.false)
