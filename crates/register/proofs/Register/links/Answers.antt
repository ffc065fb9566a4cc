-- `register::Register::links` meets its contract: an accepted file has its head and its kinds in front, and links to its end (`on_start`).
-- Assumes nothing.
use Rattle.register.proofs.Walk.{all_to_come}
use Rattle.register.proofs.Places.{on_start, start_room}
use native.Mathlib.Omega.{arith}
use Rattle.register.proofs.Register.links.Goals as goal

pub overflow_mul-result : goal.overflow_mul-result
overflow_mul-result c = let r = c.args.self.now in omega (arith, start_room r.file.now r.records r.accepted r.counted)

pub overflow_add-result : goal.overflow_add-result
overflow_add-result c = let r = c.args.self.now in omega (arith, start_room r.file.now r.records r.accepted r.counted)

pub invariant_of-result : goal.invariant_of-result
invariant_of-result c = let r = c.args.self.now in record { on = on_start _ _ _ r.accepted r.counted r.linked }

pub returns-clause-all : goal.returns-clause-all
returns-clause-all c = let r = c.args.self.now in all_to_come _ _ r.linked
