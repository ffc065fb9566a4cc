-- `register::past_links` meets its contract: between the bounds a number has a link's tag and length, a from in range and a key that ascends, so each turn takes one more link.
-- Assumes nothing.
use Rattle.register.specs.Passed.{here}
use Rattle.register.proofs.Passing.{linked_start, linked_more}
use native.Mathlib.Omega.{arith}
use Rattle.register.proofs.past_links.Goals as goal

pub returns-then-q-ne0 : goal.returns-then-q-ne0
returns-then-q-ne0 c = here

pub loop-floor-init : goal.loop-floor-init
loop-floor-init c = linked_start _ _ _ _ _ c.if-q-ne0.false c.requires (omega arith) c.number_at-v.ensures

pub loop-floor-preserved : goal.loop-floor-preserved
loop-floor-preserved c =
    linked_more c.loop-floor.invariant (c.link_passes.ensures c.loop-floor-test.true) (λ k. omega (arith, c.type_inv.s k)) c.from-records.ensures (omega arith) _
    c.number_at-v-in-loop-floor.ensures
