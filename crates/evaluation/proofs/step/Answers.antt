-- `evaluation::step` meets its contract: a relation that was cleared took in the pairs of the step, and so has no others.
-- Assumes nothing.
use Rattle.register.specs.Form.{register_in}
use Rattle.evaluation.proofs.Links.{step_made}
use Rattle.symbols.specs.Contract.{direction_said}
use Rattle.evaluation.proofs.step.Goals as goal

pub returns : goal.returns
returns c =
    let a = c.args in
    step_made (register_in a.ground.now.register.file.now) (direction_said a.direction) a.l.0 (rw c.size.ensures.0 at c.clear.ensures) c.add_links.ensures
