-- `encode::put_members` meets its contract: after i members the bytes of the others are what is left of the file; with at most 48 symbols to a member, k stays in the arrays.
-- Assumes nothing.
use mathlib.Core.Path.{◌≡◌}
use lib.ListN.{length}
use Rattle.encode.proofs.Members.{count_room, placed_start, placed_in, placed_room, placed_end}
use borrow.Author.Rules.{rules}
use native.Mathlib.Omega.{arith}
use Rattle.encode.proofs.put_members.Goals as goal

pub put_count-a-requires : goal.put_count-a-requires
put_count-a-requires c = count_room c.args.q.now c.requires.1

pub loop-i-init : goal.loop-i-init
loop-i-init c = placed_start c.args.q.now c.requires.0 c.requires.1 c.put_count-a.ensures

pub put_member-a-requires : goal.put_member-a-requires
put_member-a-requires c =
    let f : length c.args.q.now.numbers ≡ 6144 = search rules in
    let g : length c.args.q.now.sets ≡ 6144 = search rules in
    let h = placed_in c.loop-i.invariant c.loop-i-test.true in
    (omega (arith, f, h), (omega (arith, g, h), placed_room c.loop-i.invariant c.loop-i-test.true))

pub returns : goal.returns
returns c = placed_end c.loop-i.invariant c.put_count-a.ensures c.loop-i-test.false
