-- `answer::add_members` meets its contract: a turn adds one member's pairs, and what is held stays so.
-- Assumes nothing.
use Prim.Native.Nat.{◌-◌, ◌+◌}
use mathlib.Core.Path.{◌≡◌}
use lib.ListN.{get_or}
use Rattle.chains.proofs.Holding.{held_none}
use Rattle.evaluation.proofs.Grounds.{grounded, narrow}
use Rattle.evaluation.proofs.Slices.{part_length}
use Rattle.answer.proofs.Adding.{adding_start, adding_more, adding_end, makes_path, size_few, symbols_end}
use native.Mathlib.Omega.{arith}
use Rattle.answer.proofs.add_members.Goals as goal

pub fill-requires : goal.fill-requires
fill-requires c = omega (arith, narrow (grounded c.args.ground.now))

pub loop-i-init : goal.loop-i-init
loop-i-init c = (adding_start _ _ _ _ _ _ c.requires.readable, held_none (grounded c.args.ground.now) _)

pub slice_bounds-symbols-end : goal.slice_bounds-symbols-end
slice_bounds-symbols-end c = omega (arith, symbols_end c.loop-i.invariant.0 c.loop-i-test.true _ c.from.ensures)

pub invariant_of-symbols : goal.invariant_of-symbols
invariant_of-symbols c =
    let m = c.args.members.now in
    let k = c.loop-i.first in
    let z = k + c.from.result - k in
    let e : z ≡ get_or m.sizes c.loop-i.i 0 = omega (arith, c.from.ensures) in
    let s = symbols_end c.loop-i.invariant.0 c.loop-i-test.true z e in
    let a = part_length m.numbers z k (omega (arith, s)) in
    let b = part_length m.sets z k (omega (arith, s)) in
    record { paired = omega (arith, a, b); few = omega (arith, a, size_few c.loop-i.invariant.0 c.loop-i-test.true z e) }

pub invariant_of-path : goal.invariant_of-path
invariant_of-path c =
    let m = c.args.members.now in
    let k = c.loop-i.first in
    let z = k + c.from.result - k in
    let e : z ≡ get_or m.sizes c.loop-i.i 0 = omega (arith, c.from.ensures) in
    record { whole = makes_path c.loop-i.invariant.0 c.loop-i-test.true z e (omega arith) }

pub loop-i-preserved : goal.loop-i-preserved
loop-i-preserved c =
    let m = c.args.members.now in
    let v = c.add_member.ensures in
    let k = c.loop-i.first in
    let z = k + c.from.result - k in
    let e : z ≡ get_or m.sizes c.loop-i.i 0 = omega (arith, c.from.ensures) in
    (adding_more c.loop-i.invariant.0 c.loop-i-test.true z _ e (omega arith) (omega (arith, c.from.ensures)) v.adds, v.held)

pub returns : goal.returns
returns c = adding_end c.loop-i.invariant.0 c.loop-i-test.false
