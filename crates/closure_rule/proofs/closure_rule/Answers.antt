-- `closure_rule::closure_rule` meets its contract: the walks of the acyclic triples and then the kept closures are the rule's list; 13 hangs on the walks alone, and closures only make a list longer.
-- Assumes nothing.
use Rattle.std.proofs.lemmas.Result.{err_from_is_err_and}
use Rattle.rules.proofs.RuleOutcome.{few_made, few_not}
use Rattle.closure_rule.proofs.RulePieces.{rule_long, rule_grows, rule_many, rule_keeps, rule_told}
use Rattle.closure_rule.proofs.closure_rule.Goals as goal

pub returns-then-not-walks_short : goal.returns-then-not-walks_short
returns-then-not-walks_short c = rule_long c.requires c.copy_acyclic-f.ensures c.walks_short.ensures c.if-not-walks_short.true

pub grow_walks-requires : goal.grow_walks-requires
grow_walks-requires c = rule_grows c.requires c.copy_acyclic-f.ensures c.walks_short.ensures c.if-not-walks_short.false

pub returns-in_err-w : goal.returns-in_err-w
returns-in_err-w c =
    let p = err_from_is_err_and c.from_residual.result c.from_residual.ensures.1 in
    let m = few_not c.in_err-w.ensures in
    rw (p.1, p.2, m.0) (rule_many c.requires c.copy_acyclic-f.ensures c.walks_short.ensures c.if-not-walks_short.false c.grow_walks.ensures m.1)

pub add_edges-k-requires : goal.add_edges-k-requires
add_edges-k-requires c =
    let m = few_made c.in_ok-w.ensures in
    rw (c.kept_node-node.ensures, m.0)
    (rule_keeps c.requires c.copy_acyclic-f.ensures c.walks_short.ensures c.if-not-walks_short.false c.grow_walks.ensures c.graph.ensures m.1)

pub returns : goal.returns
returns c =
    let m = few_made c.in_ok-w.ensures in
    rw c.few-2.ensures
    (rule_told c.requires c.copy_acyclic-f.ensures c.walks_short.ensures c.if-not-walks_short.false c.grow_walks.ensures c.graph.ensures m.1
    (rw (c.kept_node-node.ensures, m.0) at c.add_edges-k.ensures))
