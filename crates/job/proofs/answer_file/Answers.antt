-- `job::answer_file` meets its contract: the file is readable, and its members are those in the arrays.
-- Assumes nothing.
use mathlib.Core.Path.{sym, ap, ◌∙◌}
use mathlib.Core.Bool.{false≢true}
use Rattle.std.specs.Result.{is_ok}
use Rattle.narrowed_question.proofs.ArraysFilled.{blank_zeroed}
use Rattle.job.proofs.ReadBack.{is_read, readable, answered}
use Rattle.job.proofs.answer_file.Goals as goal

pub read_into-requires : goal.read_into-requires
read_into-requires c = blank_zeroed c.blank-members.ensures

pub set_members-requires : goal.set_members-requires
set_members-requires c = let r = c.requires in record { readable = readable r.written c.read_into.ensures; room = r.room }

pub returns-then-is_ok : goal.returns-then-is_ok
returns-then-is_ok c = answered c.requires.written c.read_into.ensures c.set_members.ensures

pub returns-else-is_ok : goal.returns-else-is_ok
returns-else-is_ok c =
    absurd (false≢true (sym c.if-is_ok.false ∙ c.is_ok.ensures.value ∙ ap is_ok (is_read c.requires.written c.read_into.ensures)))
