-- `paths_main::contents` meets its contract: what was read lies within the room and is what the file had first, and each turn that goes on reads something.
-- Assumes nothing.
use Rattle.std.proofs.Common.{◌≤◌, ◌-◌, length, take}
use Rattle.std.specs.Io.KnownBytes.{Consumes}
use Rattle.paths_main.proofs.contents.Given as goal

abbrev pub invariant-loop-at : goal.invariant-loop-at
invariant-loop-at g l = record { within : l.at ≤ length l.room; read : Consumes (g.R.Read.remaining l.initial.file) (g.R.Read.remaining l.file) (take l.at l.room) }

abbrev pub decreases-loop-at : goal.decreases-loop-at
decreases-loop-at g l = length l.initial.room - l.at
