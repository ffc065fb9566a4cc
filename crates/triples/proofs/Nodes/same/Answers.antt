-- `triples::Nodes::same` meets its contract: triples with the same kinds at both ends are equal just where their paths are.
-- Assumes nothing.
use mathlib.Core.Path.{sym, ◌∙◌}
use borrow.Author.Tests.{eqb-true, eqb-false}
use Rattle.triples.proofs.Comparing.{from_differ, to_differ, paths_decide, unlike}
use Rattle.triples.proofs.Nodes.same.Goals.{then-eq, else-eq}
use Rattle.triples.proofs.Nodes.same.Goals as goal

pub returns-then-eq-2 : goal.returns-then-eq-2
returns-then-eq-2 c =
    let a = c.args in
    let s = a.self.now in
    elim c.if-eq.branch [
      | then-eq w ↦
          paths_decide s.question.now s.words.now a.a a.b c.load-x.ensures.is c.load-y.ensures.is (eqb-true _ _ (sym c.eq.ensures ∙ w.if-eq.true))
          (eqb-true _ _ (sym w.eq-then-eq.ensures ∙ sym w.value-is ∙ c.if-eq-2.true)) c.same_path.ensures
      | else-eq w ↦ unlike (w.value-is ∙ w.if-eq.false) c.if-eq-2.true
    ]

pub returns-else-eq-2 : goal.returns-else-eq-2
returns-else-eq-2 c =
    let a = c.args in
    let s = a.self.now in
    rw c.if-eq-2.false (elim c.if-eq.branch [
      | then-eq w ↦
          to_differ s.question.now s.words.now a.a a.b c.load-x.ensures.is c.load-y.ensures.is (eqb-true _ _ (sym c.eq.ensures ∙ w.if-eq.true))
          (eqb-false _ _ (sym w.eq-then-eq.ensures ∙ sym w.value-is ∙ c.if-eq-2.false))
      | else-eq w ↦
          from_differ s.question.now s.words.now a.a a.b c.load-x.ensures.is c.load-y.ensures.is (eqb-false _ _ (sym c.eq.ensures ∙ w.if-eq.false))
    ])
