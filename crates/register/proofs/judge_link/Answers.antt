-- `register::judge_link` meets its contract: the tests, of from, link and to and of the key against the floor, are the definition's, in its order.
-- Assumes nothing.
use borrow.Author.Tests.{lt-ltb, lt-leb, le-leb}
use native.Mathlib.Omega.{arith}
use Rattle.std.proofs.lemmas.Bool.Decides.{nat_tests}
use Rattle.register.specs.Form.{link_of}
use Rattle.register.proofs.judge_link.Goals as goal

pub returns-then-q-from : goal.returns-then-q-from
unfolding link_of
returns-then-q-from c = grind (arith, nat_tests)

pub returns-then-key-q : goal.returns-then-key-q
unfolding link_of
returns-then-key-q c =
    simp (
      lt-leb _ _ c.if-key-q.true,
      ← c.key_of-key.ensures.0,
      lt-ltb _ _ c.if-q-to.false,
      ← c.two-to.ensures,
      lt-ltb _ _ c.if-b-ge-LINKS.false,
      lt-ltb _ _ c.if-q-from.false,
      ← c.two-from.ensures,
    )

pub returns : goal.returns
unfolding link_of
returns c =
    simp (
      le-leb _ _ c.if-key-q.false,
      ← c.key_of-key.ensures.0,
      lt-ltb _ _ c.if-q-to.false,
      ← c.two-to.ensures,
      lt-ltb _ _ c.if-b-ge-LINKS.false,
      lt-ltb _ _ c.if-q-from.false,
      ← c.two-from.ensures,
    )
