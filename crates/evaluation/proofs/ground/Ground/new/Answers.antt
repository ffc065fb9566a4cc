-- `evaluation::Ground::new` meets its contract: a register has 1,024 records at most.
-- Assumes nothing.
use Rattle.register.proofs.AcceptedRegister.{accepted_register}
use native.Mathlib.Omega.{arith}
use Rattle.evaluation.proofs.ground.Ground.new.Goals as goal

pub row_words-words-requires : goal.row_words-words-requires
row_words-words-requires c = let r = c.args.register in omega (arith, r.counted, (accepted_register _ _ r.accepted).few_records)
