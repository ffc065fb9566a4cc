-- `evaluation::kind_word` meets its contract: a turn moves the bit that the set has for the record's kind to the record's place, and changes no other bit.
use Rattle.rows.specs.Row.{Word}
use Rattle.register.specs.Form.{register_in}
use Rattle.theory.specs.Register.{kind}
use Rattle.theory.specs.KindSet.{has}
use Prim.Native.Nat.{◌+◌, ◌≤◌}
use Rattle.evaluation.proofs.kind_word.Given as goal

abbrev pub invariant-loop-i : goal.invariant-loop-i
invariant-loop-i l = (l.i ≤ l.m) × Word (λ j. has l.set (kind (register_in l.register.file.now) (l.g + j))) l.i l.v
