-- `register::past_kinds` meets its contract: each turn takes one more field that is a kind's, whole and judged to be in range.
-- Assumes nothing.
use Rattle.fields.specs.Contract.{read_said}
use mathlib.Core.Path.{◌∙◌, sym, ap}
use Rattle.register.proofs.Passing.{kind_room, past_kind}
use Rattle.register.specs.Passed.{here}
use native.Mathlib.Omega.{arith}
use Rattle.register.proofs.past_kinds.Goals as goal

pub loop-next-init : goal.loop-next-init
loop-next-init c = (here, c.requires)

pub slice_bounds-judge_kind-end : goal.slice_bounds-judge_kind-end
slice_bounds-judge_kind-end c = omega (arith, kind_room (c.kind_lies.ensures c.loop-next-test.true))

pub loop-next-preserved : goal.loop-next-preserved
loop-next-preserved c =
    let l = c.kind_lies.ensures c.loop-next-test.true in
    let j = sym c.judge_kind.ensures ∙ ap (read_said (λ q. q)) c.in-Ok.is in
    (past_kind c.loop-next.invariant.0 _ l j, kind_room l)
