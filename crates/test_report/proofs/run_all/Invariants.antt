-- `test_report::run_all` meets its contract: the call may be made at each field, and each turn leaves less of the input.
-- Assumes nothing.
use Rattle.std.proofs.Common.{length}
use Rattle.test_report.proofs.run_all.Given as goal

abbrev pub decreases-loop-files : goal.decreases-loop-files
decreases-loop-files g l = length l.rest
