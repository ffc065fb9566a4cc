-- `members_file::put_file` meets its contract: what is written, followed by the members of the nodes from k on, is always the whole file, for which there is room.
-- Assumes nothing.
use Rattle.members_file.proofs.Filling.{count_room, fill_start, fill_over, fill_turn}
use mathlib.Core.Path.{refl}
use Rattle.members_file.proofs.put_file.Goals as goal

pub put_count-at-requires : goal.put_count-at-requires
put_count-at-requires c = count_room c.requires

pub loop-k-init : goal.loop-k-init
loop-k-init c = fill_start c.requires refl refl c.put_count-at.ensures

pub loop-k-preserved : goal.loop-k-preserved
loop-k-preserved c = fill_turn c.requires c.loop-k.invariant c.next_member-m.ensures c.put_member-at.ensures

pub returns : goal.returns
returns c =
    fill_over c.requires c.loop-k.invariant c.put_count-at.ensures c.loop-k-test.false
