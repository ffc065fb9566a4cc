-- `relation::take_some` meets its contract: a word without a bit names no row.
-- Assumes nothing.
use Rattle.relation.proofs.Joining.{word_empty}
use Rattle.relation.proofs.take_some.Goals as goal

pub returns-else-v-ne0 : goal.returns-else-v-ne0
returns-else-v-ne0 c = let a = c.args in word_empty a.row.now a.work.now a.q a.w a.g a.v c.if-v-ne0.false
