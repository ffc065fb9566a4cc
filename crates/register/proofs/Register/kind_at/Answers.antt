-- `register::Register::kind_at` meets its contract: in a file with that many records each kind lies where its number says (`kind_lies`).
-- Assumes nothing.
use Rattle.register.proofs.Places.{kind_lies}
use native.Mathlib.Omega.{arith}
use Rattle.register.proofs.Register.kind_at.Goals as goal

pub overflow_mul-result : goal.overflow_mul-result
overflow_mul-result c = let r = c.args.self.now in omega (arith, (kind_lies r.file.now c.args.i (omega (arith, c.requires, r.counted))).0)

pub overflow_add-result : goal.overflow_add-result
overflow_add-result c = let r = c.args.self.now in omega (arith, (kind_lies r.file.now c.args.i (omega (arith, c.requires, r.counted))).0)

pub bounds-self-i : goal.bounds-self-i
bounds-self-i c = let r = c.args.self.now in (kind_lies r.file.now c.args.i (omega (arith, c.requires, r.counted))).0

pub returns : goal.returns
returns c = let r = c.args.self.now in (kind_lies r.file.now c.args.i (omega (arith, c.requires, r.counted))).1
