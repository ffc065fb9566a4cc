-- `conformance::first_unknown` meets its contract: the kinds of the records before i are known, so the search from i on finds what the whole search finds.
-- Assumes nothing.
use Rattle.conformance.proofs.KindSearch.{kinds_start, kinds_end, kinds_unknown, kinds_known}
use Rattle.conformance.proofs.first_unknown.Goals as goal

pub loop-i-init : goal.loop-i-init
loop-i-init c = kinds_start _ _

pub returns-then-kinds-kind_at : goal.returns-then-kinds-kind_at
returns-then-kinds-kind_at c = kinds_unknown _ _ _ _ c.args.register.now.counted c.loop-i.invariant c.loop-i-test.true _ c.kind_at.ensures c.if-kinds-kind_at.true

pub loop-i-preserved : goal.loop-i-preserved
loop-i-preserved c = kinds_known _ _ _ _ c.args.register.now.counted c.loop-i.invariant c.loop-i-test.true _ c.kind_at.ensures c.if-kinds-kind_at.false

pub returns : goal.returns
returns c = kinds_end _ _ _ _ c.args.register.now.counted c.loop-i.invariant c.loop-i-test.false
