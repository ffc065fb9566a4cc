-- `transitive_closure::walk` meets its contract: each turn is a stage, and the walk ends with all rows met and none on the stack.
-- Assumes nothing.
use mathlib.Core.Path.{refl}
use Rattle.transitive_closure.proofs.Stages.{stage_none}
use Rattle.transitive_closure.proofs.Trails.{trail_none}
use Rattle.transitive_closure.proofs.walk.Goals as goal

pub loop-p-init : goal.loop-p-init
loop-p-init c = let p = c.requires in ((refl, stage_none p), rw c.new.ensures (trail_none p.inner p.pending_room))
