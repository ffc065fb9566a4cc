-- `answer::add_members` meets its contract: a turn adds one member's pairs, and what is held stays so.
use Rattle.register.specs.Form.{register_in}
use Rattle.chains.specs.Chain.{Held}
use Rattle.answer.proofs.Adding.{Adding}
use Rattle.answer.proofs.add_members.Given as goal

abbrev pub invariant-loop-i : goal.invariant-loop-i
invariant-loop-i l =
    let g = l.ground in
    Adding l.members (register_in g.register.file.now) g.register.records g.words l.initial.work l.work l.initial.answer l.answer l.i l.first
    × Held (register_in g.register.file.now) g.register.records g.words l.held l.work
