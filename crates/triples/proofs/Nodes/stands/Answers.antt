-- `triples::Nodes::stands` meets its contract: no triple from j on is equal, so that those before j decide.
-- Assumes nothing.
use mathlib.Core.Path.{sym, ◌∙◌}
use Rattle.theory.specs.Inference.{triple?}
use Rattle.triples.proofs.Growing.{look_yes, look_on, look_end}
use Rattle.triples.specs.Paths.{triple_of}
use Rattle.triples.proofs.Nodes.stands.Goals as goal

pub returns-then-same : goal.returns-then-same
returns-then-same c =
    let a = c.args in
    sym (c.loop-j.invariant ∙ look_yes a.self.now.question.now a.self.now.words.now (triple? (triple_of a.self.now.question.now a.self.now.words.now a.u)) a.s c.loop-j.j c.loop-j-test.true
    (sym c.same.ensures ∙ c.if-same.true))

pub loop-j-preserved : goal.loop-j-preserved
loop-j-preserved c =
    let a = c.args in
    c.loop-j.invariant ∙ look_on a.self.now.question.now a.self.now.words.now (triple? (triple_of a.self.now.question.now a.self.now.words.now a.u)) a.s c.loop-j.j c.loop-j-test.true
    (sym c.same.ensures ∙ c.if-same.false)

pub returns : goal.returns
returns c = let a = c.args in
    sym (c.loop-j.invariant ∙ look_end a.self.now.question.now a.self.now.words.now (triple? (triple_of a.self.now.question.now a.self.now.words.now a.u)) a.s c.loop-j.j c.loop-j-test.false)
