-- `narrowed_writer::write` meets its contract: the verdict is the reader's on the file, and one without refusal tells the file's length: the area holds it, or it is 14.
-- Assumes nothing.
use Rattle.theory.specs.Result.{got}
use mathlib.Core.Path.{refl, ap, sym}
use native.Mathlib.Omega.{arith}
use Rattle.std.proofs.lemmas.Result.{err_from_is_err_and}
use Rattle.narrowed_writer.specs.Outcome.{file_of}
use Rattle.narrowed_writer.proofs.Judging.{verdict_few}
use Rattle.narrowed_writer.proofs.Outcomes.{judged_got, writes_refused, writes_short, writes_all}
use Rattle.narrowed_writer.proofs.write.Goals as goal

pub returns-in_err-n : goal.returns-in_err-n
returns-in_err-n c =
    let p = err_from_is_err_and c.from_residual.result c.from_residual.ensures.1 in
    rw (p.1, p.2) (writes_refused _ _ _ _ _ refl (sym c.in_err-n.ensures))

pub returns-then-out-n : goal.returns-then-out-n
returns-then-out-n c = writes_short _ _ _ _ refl (sym c.in_ok-n.ensures) c.if-out-n.true

pub put_members-requires : goal.put_members-requires
unfolding file_of
put_members-requires c =
    let e = sym c.in_ok-n.ensures in
    (verdict_few _ _ e, omega (arith, (judged_got _ _ e).1, c.if-out-n.false))

pub returns : goal.returns
unfolding file_of
returns c = writes_all _ _ _ _ _ (ap got c.put_members.ensures.1) (sym c.in_ok-n.ensures) c.if-out-n.false c.put_members.ensures.0
