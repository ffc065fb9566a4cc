-- `members_file::measure` meets its contract: what is counted, with the members of the nodes from k on, is always the whole file.
-- Assumes nothing.
use Rattle.members_file.proofs.Counting.{count_start, count_turn, count_over}
use mathlib.Core.Path.{refl}
use Rattle.members_file.proofs.measure.Goals as goal

pub loop-k-init : goal.loop-k-init
loop-k-init c = count_start c.requires refl refl

pub loop-k-preserved : goal.loop-k-preserved
loop-k-preserved c = count_turn c.requires c.loop-k.invariant c.next_member-m.ensures

pub returns : goal.returns
returns c = count_over c.requires c.loop-k.invariant c.loop-k-test.false
