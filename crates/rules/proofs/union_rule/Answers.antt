-- `rules::union_rule` meets its contract: the candidates are one part and then the other, and no path of either is over 48 symbols long.
-- Assumes nothing.
use Rattle.std.proofs.lemmas.Result.{err_from_is_err_and}
use Rattle.rules.proofs.Unions.{first_many, union_told}
use Rattle.rules.proofs.RuleOutcome.{few_made, few_not}
use Rattle.rules.proofs.union_rule.Goals as goal

pub returns-in_err-a : goal.returns-in_err-a
returns-in_err-a c =
    let p = err_from_is_err_and c.from_residual.result c.from_residual.ensures.1 in
    let m = few_not c.in_err-a.ensures in
    rw (p.1, p.2, m.0) (first_many c.requires c.add_copies.ensures m.1)

pub returns : goal.returns
returns c =
    let m = few_made c.in_ok-a.ensures in
    rw c.few-2.ensures (union_told c.requires c.add_copies.ensures m.1 (rw m.0 at c.add_copies-b.ensures))
