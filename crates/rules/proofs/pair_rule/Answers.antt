-- `rules::pair_rule` meets its contract: leaving repeats out changes no path, so 13 is judged over all candidates; then a turn adds one row, and the rows after it are left.
-- Assumes nothing.
use mathlib.Core.Path.{sym, ◌∙◌}
use Rattle.std.proofs.lemmas.Result.{err_from_is_err_and}
use Rattle.rules.proofs.PairRule.{rule_long, rule_start, rule_asks, rule_turn, rule_many, rule_over}
use Rattle.rules.proofs.RuleOutcome.{few_made, few_not}
use Rattle.rules.proofs.pair_rule.Goals as goal

pub returns-then-not-rows_short : goal.returns-then-not-rows_short
returns-then-not-rows_short c = rule_long c.args.o c.requires (sym c.rows_short.ensures ∙ c.if-not-rows_short.true)

pub loop-i-init : goal.loop-i-init
loop-i-init c = rule_start c.args.o c.requires (sym c.rows_short.ensures ∙ c.if-not-rows_short.false)

pub add_new_row-requires : goal.add_new_row-requires
add_new_row-requires c = rule_asks c.args.o c.requires c.loop-i.invariant c.loop-i-test.true

pub returns-in_err-count : goal.returns-in_err-count
returns-in_err-count c =
    let p = err_from_is_err_and c.from_residual.result c.from_residual.ensures.1 in
    let m = few_not c.in_err-count.ensures in
    rw (p.1, p.2, m.0)
    (rule_many c.args.o c.requires c.loop-i.invariant c.loop-i-test.true c.add_new_row.ensures (sym c.rows_short.ensures ∙ c.if-not-rows_short.false) m.1)

pub loop-i-preserved : goal.loop-i-preserved
loop-i-preserved c =
    let m = few_made c.in_ok-count.ensures in
    rw m.0 (rule_turn c.args.o c.requires c.loop-i.invariant c.loop-i-test.true c.add_new_row.ensures m.1)

pub returns : goal.returns
returns c =
    rule_over c.args.o c.requires c.loop-i.invariant (sym c.rows_short.ensures ∙ c.if-not-rows_short.false) c.loop-i-test.false
