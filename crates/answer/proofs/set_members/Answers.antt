-- `answer::set_members` meets its contract: an answer that was cleared took in the pairs of all members.
-- Assumes nothing.
use Rattle.evaluation.proofs.Grounds.{grounded}
use Rattle.answer.proofs.Answered.{fills_narrowed}
use native.Mathlib.Omega.{arith}
use Rattle.answer.proofs.set_members.Goals as goal

pub returns : goal.returns
returns c =
    let e = c.size-room.ensures.0 in
    fills_narrowed (grounded c.args.ground.now) c.requires.room.1 (λ i. omega (arith, c.type_inv.answer i)) _ _ e c.clear.ensures c.add_members.ensures
