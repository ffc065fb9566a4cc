-- `evaluation::kind_mask` meets its contract: a turn makes one word, of the 64 records that it stands for or of all that are left.
use Rattle.rows.specs.Row.{Row, mask_of}
use Rattle.register.specs.Form.{register_in}
use Rattle.theory.specs.Register.{kind}
use Rattle.theory.specs.KindSet.{has}
use Prim.Native.Nat.{◌≤◌}
use Rattle.evaluation.proofs.kind_mask.Given as goal

abbrev pub invariant-loop-i : goal.invariant-loop-i
invariant-loop-i l = (l.i ≤ l.ground.words) × Row 0 l.i (mask_of (λ t. has l.set (kind (register_in l.ground.register.file.now) t)) l.ground.register.records) l.initial.mask l.mask
