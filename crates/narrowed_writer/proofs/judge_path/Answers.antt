-- `narrowed_writer::judge_path` meets its contract: a symbol that is pushed leaves the rest to the symbols after it.
-- Assumes nothing.
use mathlib.Core.Path.{sym}
use Rattle.narrowed_writer.proofs.Judging.{path_more}
use Rattle.narrowed_writer.proofs.judge_path.Goals as goal

pub loop-number-preserved : goal.loop-number-preserved
loop-number-preserved c =
    path_more c.loop-number.invariant c.loop-number-test.true _ _ c.symbol_size-place.ensures.0 c.symbol_size-place.ensures.1 (sym c.in_ok-q.ensures)
