-- `printing::count_row` meets its contract: what the chain counts of the numbers below n is the bits that are set.
-- Assumes nothing.
use Rattle.std.proofs.Common.{rules, ◌≡◌, length, arith, ap, ◌∙◌}
use borrow.Author.Tests.{tests}
use Rattle.std.specs.List.{range_with_len, filter as passing}
use Rattle.std.proofs.lemmas.Iterator.{YieldsList-from_range}
use Rattle.std.proofs.lemmas.Iterator.Consumers.{YieldsList-from_filter, count_from_yields_List}
use Rattle.rows.specs.Row.{row_bit}
use Rattle.printing.proofs.Chains.{passed_below, passed_most}
use Rattle.printing.proofs.count_row.Goals as goal

pub returns : goal.returns
returns c =
    let f = row_bit c.args.words.now c.args.r in
    let e : c.count.result ≡ length (passing f (range_with_len 0 c.args.n)) = count_from_yields_List c.filter.result _ c.count.ensures.ran
    (YieldsList-from_filter _ f (YieldsList-from_range 0 c.args.n c.args.n (cc) (omega arith)) c.filter.ensures.closure (λ x b q k. search (rules, tests))) in
    (e ∙ ap length (passed_below f c.args.n), rw (e ∙ ap length (passed_below f c.args.n)) (passed_most f c.args.n))
