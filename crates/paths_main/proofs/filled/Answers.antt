-- `paths_main::filled` meets its contract, by a law on lists of any length: the lists that are lent are too long to compute.
-- Assumes nothing.
use Rattle.std.proofs.Common.{◌≡◌, refl}
use Rattle.std.proofs.Math.ListN.{length-replicate}
use Rattle.paths_main.specs.Output.{copies}
use Rattle.paths_main.proofs.filled.Goals as goal

pub returns : goal.returns
unfolding copies
returns g c = record { all = refl; size = length-replicate _ _ }
