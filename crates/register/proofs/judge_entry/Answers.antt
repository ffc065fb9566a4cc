-- `register::judge_entry` meets its contract: a kind is due while a record has none, and a link after that.
-- Assumes nothing.
use Rattle.fields.specs.Table.{rows, tag_length}
use Rattle.register.specs.Form.{entry_of}
use mathlib.Core.Path.{◌∙◌}
use native.Mathlib.Omega.{arith}
use borrow.Author.Tests.{eq-eqb, ne_eqb}
use Rattle.register.proofs.judge_entry.Goals as goal

pub judge_link-requires : goal.judge_link-requires
unfolding tag_length rows
judge_link-requires c = let p = c.requires in (p.0 ∙ simp (eq-eqb _ _ c.if-q-eq0.true), omega (arith, p.1))

pub returns-then-q-eq0 : goal.returns-then-q-eq0
unfolding entry_of
returns-then-q-eq0 c = simp (eq-eqb _ _ c.if-q-eq0.true) c.judge_link.ensures

pub judge_kind-requires : goal.judge_kind-requires
unfolding tag_length rows
judge_kind-requires c = let p = c.requires in (p.0 ∙ simp (ne_eqb _ _ c.if-q-eq0.false), omega (arith, c.if-q-eq0.false))

pub returns-else-q-eq0 : goal.returns-else-q-eq0
unfolding entry_of
returns-else-q-eq0 c = simp (ne_eqb _ _ c.if-q-eq0.false) c.judge_kind.ensures
