-- `kind_rows::fill` meets its contract: a turn puts one record into the row of its kind.
-- Assumes nothing.
use mathlib.Core.Path.{refl, ◌∙◌}
use Rattle.relation.proofs.Making.{row_le}
use Rattle.evaluation.proofs.Grounds.{grounded, limits, rows_hold}
use Rattle.kind_rows.proofs.Tables.{kinds_none, kinds_more}
use Prim.Native.Nat.{◌/◌, ◌<◌}
use native.Mathlib.Omega.{arith}
use Rattle.kind_rows.proofs.fill.Goals as goal

pub loop-t-init : goal.loop-t-init
loop-t-init c = (omega arith, kinds_none _ c.clear.ensures (omega (arith, c.requires, c.clear.ensures.kept.len)), refl)

pub set-requires : goal.set-requires
set-requires c =
    let g = c.args.ground.now in
    let k = (limits (grounded g)).kinds c.loop-t.t in
    let e : c.from-k.result < 64 = omega (arith, c.from-k.ensures, c.kind_at.ensures, k) in
    omega (arith, row_le g.words e, c.loop-t.invariant.1.room, rows_hold (grounded g), c.loop-t-test.true)

pub loop-t-preserved : goal.loop-t-preserved
loop-t-preserved c =
    let g = c.args.ground.now in
    let l = c.loop-t in
    let k = (limits (grounded g)).kinds l.t in
    let h : l.t / 64 < g.words = omega (arith, rows_hold (grounded g), c.loop-t-test.true) in (
      omega (arith, c.loop-t-test.true),
      kinds_more c.from-k.result l.invariant.1 c.set.ensures (c.from-k.ensures ∙ c.kind_at.ensures)
          (omega (arith, c.from-k.ensures, c.kind_at.ensures, k)) h,
      (c.set.ensures g.words h).kept.len ∙ l.invariant.2,
    )
