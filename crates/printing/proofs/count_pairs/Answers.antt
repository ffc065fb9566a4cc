-- `printing::count_pairs` meets its contract: row s of the words has the pairs from s, and the chain adds up how many there are in each.
-- Assumes nothing.
use Rattle.std.proofs.Common.{rules, length, ◌+◌, ◌*◌, ◌^◌, ◌<◌, ◌≤◌, arith, sym, ap, ◌∙◌}
use borrow.Author.Tests.{tests}
use Rattle.std.specs.List.{range_with_len}
use Rattle.std.proofs.lemmas.Iterator.{YieldsList-from_range, YieldsList-from_map, serves_from_Range}
use Rattle.std.proofs.lemmas.Iterator.Consumers.{sum_by_from_yields_List, fits_by_from_yields_list}
use Rattle.theory.specs.Words.{row_words}
use Rattle.relation.specs.Pairs.{pair_at}
use Rattle.relation.proofs.Making.{row_le}
use Rattle.printing.proofs.Chains.{summed_below, passed_most}
use Rattle.printing.proofs.Lines.{count_pieces, row, row_told}
use Rattle.printing.proofs.Room.{pieces_most}
use Rattle.printing.proofs.count_pairs.Goals as goal

pub sum-requires-clause-can : goal.sum-requires-clause-can
sum-requires-clause-can c = (
  tt,
  serves_from_Range (λ x q k. search (rules, tests)) (λ x lo hi.
      let below : x < c.args.n = omega (arith, ap (λ s. s.end) c.map.ensures.source) in
      let room : x * c.args.w + c.args.w ≤ length c.args.words.now = omega (arith, row_le c.args.w below, c.requires.2) in
      let fits : x * c.args.w < 2 ^ 64 = omega arith in
      let rows : x * c.args.w + row_words c.args.n ≤ length c.args.words.now = omega (arith, c.requires.0) in
      search (rules, tests)),
)

pub sum-requires-clause-fits : goal.sum-requires-clause-fits
sum-requires-clause-fits c =
    fits_by_from_yields_list (λ s. length (row c.args.words.now c.args.w c.args.n s)) (range_with_len 0 c.args.n) c.map.result _
    (YieldsList-from_map _ (λ s. length (row c.args.words.now c.args.w c.args.n s)) (YieldsList-from_range 0 c.args.n c.args.n (cc) (omega arith)) c.map.ensures.closure
    (λ x r q k. (search (rules, tests), row_told c.args.words.now c.args.w c.args.n x (search (rules, tests)))))
    (omega (
      arith,
      summed_below (row c.args.words.now c.args.w c.args.n) c.args.n,
      pieces_most (row c.args.words.now c.args.w c.args.n) 1024 0 c.args.n (λ x h. omega (arith, passed_most (pair_at c.args.words.now 0 c.args.w x) c.args.n)),
    ))

pub returns : goal.returns
returns c =
    sum_by_from_yields_List (λ s. length (row c.args.words.now c.args.w c.args.n s)) (range_with_len 0 c.args.n) c.map.result _ c.sum.ensures.ran
    (YieldsList-from_map _ (λ s. length (row c.args.words.now c.args.w c.args.n s)) (YieldsList-from_range 0 c.args.n c.args.n (cc) (omega arith)) c.map.ensures.closure
    (λ x r q k. (search (rules, tests), row_told c.args.words.now c.args.w c.args.n x (search (rules, tests)))))
    ∙ summed_below (row c.args.words.now c.args.w c.args.n) c.args.n ∙ sym (count_pieces _ _)
