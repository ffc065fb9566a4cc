-- `Search::turn` meets its contract: a row that is met goes on the stack, which has room for it; a row that is left is finished.
-- Assumes nothing.
use mathlib.Core.Path.{refl}
use native.Mathlib.Omega.{arith}
use Rattle.transitive_closure.proofs.Stages.{stage_none}
use Rattle.transitive_closure.proofs.Trails.{trail_room, trail_down, trail_fewer}
use Rattle.transitive_closure.proofs.Search.turn.Goals as goal

pub push-requires : goal.push-requires
push-requires c =
    let p = c.requires in
    (omega arith, omega (arith, trail_room c.args.p.w c.unset.ensures c.in-Some.ensures p.1 p.0.words))

pub returns-in-Some : goal.returns-in-Some
returns-in-Some c =
    let p = c.requires in
    let a = c.in-Some.ensures in
    let w = c.args.p.w in (
      (refl, stage_none p.0),
      record {
        walking = rw c.push.ensures.items (trail_down w c.unset.ensures a p.1 p.0.words);
        less = λ e. omega (arith, c.push.ensures.len, trail_fewer w c.unset.ensures a p.1 p.0.words);
      },
    )
