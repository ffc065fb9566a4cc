-- `evaluation::apply` meets its contract: a symbol that fits has its operands on top of the stack; its relation takes their place, a step's goes on top, and those below stay.
-- Assumes nothing.
use Rattle.symbols.specs.Contract.{operator_said}
use Prim.Native.Nat.{◌-◌, ◌*◌}
use Rattle.evaluation.proofs.Joins.{by_op}
use Rattle.evaluation.proofs.Grounds.{grounded, rows_hold, narrow}
use Rattle.evaluation.proofs.Applying.{fits_step, fits_one, fits_two, applied_step, applied_closure, applied_two}
use Rattle.symbols.proofs.Numbers.{decoded}
use native.Mathlib.Omega.{arith}
use Rattle.evaluation.proofs.apply.Goals as goal

pub step-requires : goal.step-requires
step-requires c = fits_step (grounded c.args.ground.now) _ _ (decoded c.decode.ensures c.in-Step.is) c.requires

pub overflow_add-result : goal.overflow_add-result
overflow_add-result c = omega (arith, c.size-z.ensures.0, fits_step (grounded c.args.ground.now) _ _ (decoded c.decode.ensures c.in-Step.is) c.requires)

pub join_via-requires : goal.join_via-requires
join_via-requires c =
    let e = c.size-z.ensures.0 in
    let t = fits_two (grounded c.args.ground.now) _ tt (decoded c.decode.ensures c.in-Join.is) c.requires in
    (omega (arith, e, t.under), omega (arith, e, t.below, t.ends), rw e t.next)

pub operate-requires : goal.operate-requires
operate-requires c =
    let e = c.size-z.ensures.0 in
    let g = (grounded c.args.ground.now) in
    let t = fits_two g _ tt (decoded c.decode.ensures c.in-Op.is) c.requires in
    (omega (arith, e, t.under), omega (arith, e, t.below, t.ends), narrow g, rows_hold g, rw e t.next, rw e t.top)

pub closure-requires : goal.closure-requires
closure-requires c =
    let e = c.size-z.ensures.0 in
    let g = (grounded c.args.ground.now) in
    let o = fits_one g (decoded c.decode.ensures c.in-Closure.is) c.requires in
    (omega (arith, e, o.below, o.ends), rows_hold g, narrow g, rw e o.top)

pub returns-in-Step : goal.returns-in-Step
returns-in-Step c = rw c.size-z.ensures.0 (applied_step (grounded c.args.ground.now) c.args.b _ _ _ (decoded c.decode.ensures c.in-Step.is) c.step.ensures)

pub returns-in-Join : goal.returns-in-Join
returns-in-Join c =
    let z = c.size-z.ensures.0 in
    let g = (grounded c.args.ground.now) in
    let e = decoded c.decode.ensures c.in-Join.is in
    let t = fits_two g _ tt e c.requires in
    rw z (applied_two g c.args.b _ tt e t.below t.under (rw z at c.join_via.ensures))

pub returns-in-Op : goal.returns-in-Op
returns-in-Op c =
    let z = c.size-z.ensures.0 in
    let g = (grounded c.args.ground.now) in
    let s = c.args.ground.now.register.records * c.args.ground.now.words in
    let b = c.args.b in
    let e = decoded c.decode.ensures c.in-Op.is in
    let t = fits_two g _ tt e c.requires in
    rw z (applied_two g b _ tt e t.below t.under (by_op g (b - s - s) (b - s) (operator_said c.in-Op.o) (rw z at c.operate.ensures)))

pub returns-in-Closure : goal.returns-in-Closure
returns-in-Closure c =
    let g = (grounded c.args.ground.now) in
    let x = decoded c.decode.ensures c.in-Closure.is in
    applied_closure g c.args.b _ x (fits_one g x c.requires).below (rw c.size-z.ensures.0 at c.closure.ensures)
