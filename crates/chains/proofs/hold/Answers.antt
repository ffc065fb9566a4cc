-- `chains::hold` meets its contract: a step that is loaded takes a free place, and the others lie apart from it.
-- Assumes nothing.
use Rattle.evaluation.proofs.Grounds.{grounded}
use Rattle.chains.proofs.Holding.{past, before_end, held_more, holds_more}
use Rattle.symbols.proofs.Numbers.{decoded}
use Rattle.rows.proofs.Words.{kept_in}
use Prim.Native.Nat.{◌*◌}
use Rattle.chains.proofs.hold.Goals as goal

pub returns-clause-held : goal.returns-clause-held
returns-clause-held c =
    let a = c.args in
    let f = c.in_ok-free in
    let m = rw c.size.ensures.0 at c.step.ensures in (
      held_more (grounded a.table.now.ground) f.free a.number c.requires.1 m (decoded c.decode.ensures c.in-Step.is) f.ensures.0,
      holds_more a.held.now f.free a.number f.ensures.1,
    )

pub returns-clause-kept : goal.returns-clause-kept
returns-clause-kept c =
    let g = c.args.table.now.ground in
    let f = c.in_ok-free in
    let z = g.register.records * g.words in
    let m = rw c.size.ensures.0 at c.step.ensures in
    kept_in m.kept (past f.free z) (before_end f.free z f.ensures.0)
