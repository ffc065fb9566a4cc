-- `inference::infer` meets its contract: each part on the stack has the triples of its path, and the first symbol whose rule is refused is the first that the definition refuses.
-- Assumes nothing.
use mathlib.Core.Path.{◌≡◌, ◌∙◌}
use Rattle.rules.specs.Outcome.{refusal_at}
use Rattle.std.proofs.Common.{rules}
use Rattle.std.proofs.lemmas.Result.{err_from_is_err_and}
use Rattle.inference.proofs.Told.{mapped_ok, mapped_err}
use Rattle.inference.proofs.Turning.{asked, turn_at}
use Rattle.inference.proofs.Running.{inferred, running_start, running_stops, running_more, running_end}
use Rattle.inference.proofs.infer.Goals as goal

pub loop-i-init : goal.loop-i-init
loop-i-init c = (c.requires, running_start (asked c.requires))

pub rule-made-requires : goal.rule-made-requires
rule-made-requires c = (turn_at (asked c.loop-i.invariant.0) c.loop-i.invariant.1 c.loop-i-test.true c.decode-k.ensures (c.from.ensures ∙ c.operands.ensures)).asks

pub returns-in_err-n : goal.returns-in_err-n
returns-in_err-n c =
    let p = err_from_is_err_and c.from_residual.result c.from_residual.ensures.1 in
    let m = mapped_err _ c.rule-made.result c.map_err.ensures.cases c.in_err-n.was in
    let r : c.in_err-n.field-0.0 ≡ refusal_at m.0 c.loop-i.i-counter = (let q = m.2 in search rules) in
    rw (p.1, p.2, r)
    (inferred (running_stops (asked c.loop-i.invariant.0) c.loop-i.invariant.1 c.loop-i-test.true c.decode-k.ensures (c.from.ensures ∙ c.operands.ensures) c.rule-made.ensures m.0 m.1))

pub loop-i-preserved : goal.loop-i-preserved
loop-i-preserved c = (
  c.loop-i.invariant.0,
  running_more (asked c.loop-i.invariant.0) c.loop-i.invariant.1 c.loop-i-test.true c.decode-k.ensures (c.from.ensures ∙ c.operands.ensures) c.rule-made.ensures
      (mapped_ok _ c.rule-made.result c.map_err.ensures.cases c.in_ok-n.was) c.origin.ensures,
)

pub returns : goal.returns
returns c = inferred (running_end (asked c.loop-i.invariant.0) c.loop-i.invariant.1 c.loop-i-test.false)
