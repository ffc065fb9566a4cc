-- `paths_main::run` meets its contract: the job's outcome on areas of zeros is the one that is printed, and 8192 work words allow at most 128 records.
-- Assumes nothing.
use Rattle.paths_main.proofs.Printing.{job_fits, prints_refused, prints_accepted, refusal_room}
use Rattle.paths_main.proofs.run.Goals as goal

pub put_refusal-requires : goal.put_refusal-requires
put_refusal-requires c = refusal_room _ _ _ _ c.requires

pub put_answer-requires : goal.put_answer-requires
put_answer-requires c =
    (job_fits _ _ _ c.filled-work.ensures.all c.filled-answer.ensures.all c.filled-file.ensures.all c.whole_job.ensures.returns _ c.in-Ok.is, c.requires)

pub returns-in-Err : goal.returns-in-Err
returns-in-Err c =
    prints_refused _ _ _ c.filled-work.ensures.all c.filled-answer.ensures.all c.filled-file.ensures.all c.whole_job.ensures.returns c.requires _ c.in-Err.is
    c.put_refusal.ensures

pub returns-in-Ok : goal.returns-in-Ok
returns-in-Ok c =
    prints_accepted _ _ _ c.filled-work.ensures.all c.filled-answer.ensures.all c.filled-file.ensures.all c.whole_job.ensures.returns c.requires _ c.in-Ok.is
    c.put_answer.ensures
