-- `evaluation::add_links` meets its contract: the relation with the pairs of the links still to come is always the one that is due, and each link joins two of the n records.
use Rattle.evaluation.proofs.Links.{Passing}
use Rattle.register.specs.LinksAhead.{to_come}
use Rattle.symbols.specs.Contract.{direction_said}
use Rattle.evaluation.proofs.add_links.Given as goal

abbrev pub invariant-loop-e : goal.invariant-loop-e
invariant-loop-e l =
    let g = l.ground in
    let it = l.e-iterator in
    Passing g.register.file.now l.b g.register.records g.words (direction_said l.direction) l.l.0 l.initial.work l.work (to_come it.file.now it.left)
