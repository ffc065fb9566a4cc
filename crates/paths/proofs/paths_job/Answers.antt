-- `paths::paths_job` meets its contract: `whole_job` leaves what is due; as 0 is told of acceptance alone, the answer is then the question's plain answer too.
-- Assumes nothing.
use Rattle.paths.proofs.OutcomeNumbers.{tells_call}
use Rattle.paths.proofs.paths_job.Goals as goal

pub returns : goal.returns
returns c =
    let h = c.whole_job.ensures in
    let t = c.tell_file.ensures in
    record {
      tells_call = tells_call t h.returns;
      tells_plain = record { accepted = λ z. let (x, e) = t.only z in h.answers_plain.accepted x e; answer_is = λ z. let (x, e) = t.only z in h.answers_plain.answer x e };
    }
