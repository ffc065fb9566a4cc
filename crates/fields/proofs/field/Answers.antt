-- `fields::field` meets its contract: a whole field that is due is handed out, at the end nothing, and anything else is refused.
-- Assumes nothing.
use mathlib.Core.Path.{◌≡◌, refl, sym, ◌∙◌}
use Prim.Native.Nat.{◌+◌, ◌≤◌}
use native.Mathlib.Omega.{arith}
use native.Mathlib.Nat.{add-sub_cancel_left}
use lib.ListN.{length}
use borrow.Author.Rules.{rules}
use Rattle.fields.specs.declared.Fit.TheVariants as fit
use Rattle.fields.proofs.Raws.{field_room, body_whole, part_length, judged_at, refused_end, refused_whole, refused_short}
use Rattle.fields.proofs.Rows.{told, told_unfit}
use Rattle.fields.proofs.field.Goals.{In-Whole, in_default-via-in-Whole+else-eq, in_default-via-in-End+else-due, in_default-via-in_default}
use Rattle.fields.proofs.field.Goals as goal

room : (c : In-Whole) → c.args.at + 3 + c.in-Whole.len ≤ length c.args.s.now
room c = field_room _ _ _ _ (sym c.step_at.ensures ∙ c.in-Whole.is)

pub overflow_add-next : goal.overflow_add-next
overflow_add-next c = let r = room (goal.at.overflow_add-next c).In-Whole in omega arith

pub overflow_add-next-in-Whole : goal.overflow_add-next-in-Whole
overflow_add-next-in-Whole c = let r = room (goal.at.overflow_add-next-in-Whole c).In-Whole in omega arith

pub overflow_add-body : goal.overflow_add-body
overflow_add-body c = let r = room (goal.at.overflow_add-body c).In-Whole in omega arith

pub slice_bounds-body-end : goal.slice_bounds-body-end
slice_bounds-body-end c = let r = room (goal.at.slice_bounds-body-end c).In-Whole in omega arith

pub returns-in-Whole-clause-said : goal.returns-in-Whole-clause-said
returns-in-Whole-clause-said c =
    let u : c.fit_of.result ≡ fit.Fits = search rules in
    let f = told _ _ _ c.fit_of.ensures u in
    let r = room (goal.at.returns-in-Whole-clause-said c).In-Whole in
    let n = part_length _ _ _ r in
    rw (c.from.ensures, n) (sym (judged_at c.args.due _ _ c.step_at.ensures c.in-Whole.is ∙ rw (f.0, f.1)))

pub returns-in-Whole-clause-part : goal.returns-in-Whole-clause-part
returns-in-Whole-clause-part c =
    let r = room (goal.at.returns-in-Whole-clause-part c).In-Whole in
    record { here = refl; body = rw (c.from.ensures, add-sub_cancel_left, body_whole _ _ _ c.step_at.ensures c.in-Whole.is); next = rw (c.from.ensures, part_length _ _ _ r) }

pub returns-in-End-clause-said : goal.returns-in-End-clause-said
returns-in-End-clause-said c = sym (judged_at _ _ _ c.step_at.ensures c.in-End.is ∙ rw c.if-due.true)

pub refused-requires : goal.refused-requires
refused-requires c =
    elim c.in_default.branch [
      | in_default-via-in-Whole+else-eq w ↦ refused_whole _ _ _ c.step_at.ensures w.in-Whole.is (told_unfit _ _ _ w.fit_of.ensures (search rules))
      | in_default-via-in-End+else-due w ↦ refused_end _ _ _ c.step_at.ensures w.in-End.is w.if-due.false
      | in_default-via-in_default w ↦ refused_short _ _ _ c.step_at.ensures w.in_default.not-Whole w.in_default.not-End
    ]
