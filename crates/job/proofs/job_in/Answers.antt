-- `job::job_in` meets its contract: 15 where the work words are too few for either half, else the outcome of `job_words`, which changed no work word but those that are cleared.
-- Assumes nothing.
use Rattle.job.proofs.Needs.{need_is}
use Rattle.job.proofs.WholeCall.{roomy, settles_15, settles_rest}
use Rattle.job.proofs.job_in.Goals as goal

pub returns-then-work-need : goal.returns-then-work-need
returns-then-work-need c = settles_15 _ (need_is _ (rw c.size.ensures.0 at c.max-need.ensures)) c.if-work-need.true

pub job_words-size-requires-clause-roomy : goal.job_words-size-requires-clause-roomy
job_words-size-requires-clause-roomy c = roomy _ (need_is _ (rw c.size.ensures.0 at c.max-need.ensures)) c.if-work-need.false

pub returns : goal.returns
returns c =
    settles_rest _ (need_is _ (rw c.size.ensures.0 at c.max-need.ensures)) c.if-work-need.false c.job_words-size.ensures c.clear.ensures
