-- `relation::take_bits` meets its contract: the rows of the bits below p are taken in, and the bits of v from p on are still to come.
-- Assumes nothing.
use mathlib.Core.Path.{◌≡◌, sym, ap, ◌∙◌}
use Prim.Native.Nat.{◌+◌, ◌*◌, ◌<◌, ◌≤◌}
use native.Mathlib.Omega.{arith}
use Rattle.rows.specs.BitList.{ones}
use Rattle.rows.proofs.BitLists.{ones_from, Next, ones_start, ones_next, ones_end}
use Rattle.relation.proofs.Joining.{bit_row, word_none, word_more, word_all}
use Rattle.relation.proofs.take_bits.Goals.{In-Some}
use Rattle.relation.proofs.take_bits.Goals as goal

next : (c : In-Some) → Next c.args.v c.loop-k.invariant.0 c.in-Some.k × (ones c.next.new.self.0 ≡ ones_from c.args.v (c.in-Some.k + 1))
next c = let i = c.loop-k.invariant in ones_next c.args.v i.0 c.in-Some.k _ (sym i.2 ∙ c.in-Some.ensures.steps)

lies : (c : In-Some) → let a = c.args in (a.g + c.in-Some.k < a.n) × ((a.g + c.in-Some.k) * a.w + a.w ≤ a.n * a.w)
lies c = bit_row c.args.g c.args.w (next c).0 c.requires.2

pub loop-k-init : goal.loop-k-init
loop-k-init c = (0, omega arith, ap (λ s. ones s.0) c.into_iter-k-iterator.ensures.into_iter_gives ∙ ones_start c.args.v, word_none _ _ _ _ _ _)

pub overflow_add-g : goal.overflow_add-g
overflow_add-g c = omega (arith, (lies (goal.at.overflow_add-g c).In-Some).0, c.ranges.n.fits)

pub overflow_mul-g : goal.overflow_mul-g
overflow_mul-g c = omega (arith, (lies (goal.at.overflow_mul-g c).In-Some).1)

pub overflow_add-q : goal.overflow_add-q
overflow_add-q c = omega (arith, (lies (goal.at.overflow_add-q c).In-Some).1)

pub unite-requires : goal.unite-requires
unite-requires c = (omega arith, omega (arith, (lies (goal.at.unite-requires c).In-Some).1))

pub loop-k-preserved : goal.loop-k-preserved
loop-k-preserved c =
    let a = c.args in
    let n = next (goal.at.loop-k-preserved c).In-Some in
    (c.in-Some.k + 1, omega (arith, n.0.small), n.1, word_more a.work.now a.q a.w a.g c.loop-k.invariant.3 n.0 c.unite.ensures)

pub returns : goal.returns
returns c =
    let i = c.loop-k.invariant in
    word_all _ _ _ _ c.args.v i.3 (λ j a b. ones_end c.args.v i.0 j (sym i.2 ∙ c.in-None.ensures.steps.0) a b) i.1
