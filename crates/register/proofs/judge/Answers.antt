-- `register::judge` meets its contract: the position says whether a head or an entry is judged, and each callee judges as the definition does.
-- Assumes nothing.
use Rattle.fields.specs.Table.{rows, tag_length}
use Rattle.register.proofs.judge.Goals as goal

pub judge_head-requires : goal.judge_head-requires
unfolding tag_length rows
judge_head-requires c = rw c.in-Head.is at c.requires
