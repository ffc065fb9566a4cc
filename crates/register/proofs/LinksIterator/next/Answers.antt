-- `register::LinksIterator::next` meets its contract: a cursor with links left stands at one, whose numbers are handed on, and what is left lies behind it (`next_link`).
-- Assumes nothing.
use Rattle.register.proofs.Walk.{to_come_length, to_come_none}
use Rattle.register.proofs.Places.{next_room, on_next, next_link}
use mathlib.Core.Path.{refl, ◌∙◌}
use Prim.Native.Nat.{◌-◌}
use native.Mathlib.Omega.{arith}
use Rattle.register.proofs.LinksIterator.next.Goals as goal

pub returns-then-self-eq0-clause-steps : goal.returns-then-self-eq0-clause-steps
returns-then-self-eq0-clause-steps c =
    let e = to_come_none _ _ c.args.self.now.on.few c.if-self-eq0.true in
    ((e, e), refl)

pub overflow_add-body : goal.overflow_add-body
overflow_add-body c = omega (arith, next_room _ _ _ c.args.self.now.on c.if-self-eq0.false)

pub overflow_add-body-2 : goal.overflow_add-body-2
overflow_add-body-2 c = omega (arith, next_room _ _ _ c.args.self.now.on c.if-self-eq0.false)

pub two-requires : goal.two-requires
two-requires c = omega (arith, next_room _ _ _ c.args.self.now.on c.if-self-eq0.false)

pub overflow_add-e : goal.overflow_add-e
overflow_add-e c = omega (arith, next_room _ _ _ c.args.self.now.on c.if-self-eq0.false)

pub bounds-self-body : goal.bounds-self-body
bounds-self-body c = omega (arith, next_room _ _ _ c.args.self.now.on c.if-self-eq0.false)

pub overflow_add-body-3 : goal.overflow_add-body-3
overflow_add-body-3 c = omega (arith, next_room _ _ _ c.args.self.now.on c.if-self-eq0.false)

pub two-requires-2 : goal.two-requires-2
two-requires-2 c = omega (arith, next_room _ _ _ c.args.self.now.on c.if-self-eq0.false)

pub overflow_add-self : goal.overflow_add-self
overflow_add-self c = omega (arith, next_room _ _ _ c.args.self.now.on c.if-self-eq0.false)

pub invariant_of-self : goal.invariant_of-self
invariant_of-self c = record { on = on_next _ _ _ c.args.self.now.on c.if-self-eq0.false }

pub returns-clause-steps : goal.returns-clause-steps
returns-clause-steps c =
    (next_link _ _ _ c.args.self.now.on c.if-self-eq0.false _ _ _ (c.from.ensures ∙ c.two.ensures) refl (c.from-2.ensures ∙ c.two-2.ensures), refl)

pub returns-clause-goes : goal.returns-clause-goes
returns-clause-goes c =
    let h = c.args.self.now.on in
    let a = to_come_length _ _ h.few in
    let b = to_come_length _ (c.args.self.now.left - 1) (on_next _ _ _ h c.if-self-eq0.false).few in
    record { on = λ _. (tt, tt, omega (arith, a, b, c.if-self-eq0.false)); keeps = tt; rests = λ _. tt }
