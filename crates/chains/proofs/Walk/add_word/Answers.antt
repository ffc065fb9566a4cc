-- `chains::Walk::add_word` meets its contract: a turn adds the row of the next bit of the word, and the rows of no bit gain nothing.
-- Assumes nothing.
use native.Mathlib.Omega.{arith}
use mathlib.Core.Path.{◌≡◌, sym, ap, ◌∙◌}
use Prim.Native.Nat.{◌+◌, ◌*◌, ◌<◌}
use lib.ListN.{get_or}
use Rattle.rows.specs.BitList.{ones}
use Rattle.rows.proofs.BitLists.{ones_from, Next, ones_start, ones_next, ones_end}
use Rattle.chains.specs.Walked.{walked}
use Rattle.chains.proofs.Gains.{gained_none, word_records, word_row, word_end}
use Rattle.chains.proofs.Walk.add_word.Goals.{In-Some}
use Rattle.chains.proofs.Walk.add_word.Goals as goal

next : (c : In-Some) → let v = get_or c.args.from.now c.args.i 0 in Next v c.loop-k.invariant.0 c.in-Some.k × (ones c.next.new.self.0 ≡ ones_from v (c.in-Some.k + 1))
next c = let i = c.loop-k.invariant in ones_next _ i.0 c.in-Some.k _ (sym i.2 ∙ c.in-Some.ensures.steps)

lies : (c : In-Some) → 64 * c.args.i + c.in-Some.k < c.args.self.now.records
lies c =
    let a = c.args in
    let p = c.requires in
    word_records a.from.now a.i a.self.now.records a.self.now.words p.3 p.1 (omega (arith, c.type_inv.from a.i)) _ (next c).0.here

pub loop-k-init : goal.loop-k-init
loop-k-init c = (0, omega arith, ap (λ s. ones s.0) c.into_iter-k-iterator.ensures.into_iter_gives ∙ ones_start _, gained_none _ _ _ (omega arith))

pub overflow_add-i : goal.overflow_add-i
overflow_add-i c = omega (arith, lies (goal.at.overflow_add-i c).In-Some, c.args.self.now.routed.wide, c.args.self.now.routed.narrow)

pub add_row-requires : goal.add_row-requires
add_row-requires c = (lies (goal.at.add_row-requires c).In-Some, omega (arith, c.requires.0, c.loop-k.invariant.3.kept.len), c.requires.4)

pub loop-k-preserved : goal.loop-k-preserved
loop-k-preserved c =
    let a = c.args in
    let s = (goal.at.loop-k-preserved c).In-Some in
    let n = next s in
    let i = c.loop-k.invariant in
    (c.in-Some.k + 1, omega (arith, n.0.small), n.1, word_row (walked a.self.now) a.from.now a.to.now a.i i.0 c.in-Some.k i.3 n.0 (lies s) c.add_row.ensures)

pub returns : goal.returns
returns c =
    let a = c.args in
    let i = c.loop-k.invariant in
    word_end (walked a.self.now) a.from.now a.to.now a.i i.0 i.3 (λ j x y. ones_end _ i.0 j (sym i.2 ∙ c.in-None.ensures.steps.0) x y) i.1
