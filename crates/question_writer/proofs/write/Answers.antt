-- `question_writer::write` meets its contract: 14 where the area is shorter than the bytes counted, else the file: the two cases of `file_in`.
-- Assumes nothing.
use mathlib.Core.Path.{refl}
use Rattle.fields.proofs.Filing.{file_short, file_put}
use Rattle.question_writer.proofs.write.Goals as goal

pub returns-then-file-n : goal.returns-then-file-n
returns-then-file-n c = rw c.about.ensures (file_short _ _ _ c.measure-n.ensures c.if-file-n.true)

pub returns : goal.returns
returns c =
    let h = c.put.ensures in
    file_put _ _ _ c.measure-n.ensures c.if-file-n.false refl h.1 h.0
