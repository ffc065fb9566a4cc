-- `fields::body_at` meets its contract: a whole field ends within the file, so that its body is a part of it; of any other field the body is empty.
-- Assumes nothing.
use native.Mathlib.Omega.{arith}
use native.Mathlib.Nat.{add-sub_cancel_left}
use Prim.Native.Nat.{◌+◌, ◌≤◌}
use mathlib.Core.Path.{◌∙◌, sym}
use lib.ListN.{length}
use Rattle.fields.specs.Raw.{body_in}
use Rattle.fields.proofs.Raws.{field_room, no_body}
use Rattle.fields.proofs.body_at.Goals.{In-Whole}
use Rattle.fields.proofs.body_at.Goals as goal

room : (c : In-Whole) → c.args.at + 3 + c.in-Whole.len ≤ length c.args.s.now
room c = field_room _ _ _ _ (sym c.step_at.ensures ∙ c.in-Whole.is)

pub returns-in_default : goal.returns-in_default
unfolding body_in
returns-in_default c = sym (no_body _ _ _ c.step_at.ensures c.in_default.not-Whole)

pub overflow_add-body : goal.overflow_add-body
overflow_add-body c = let r = room (goal.at.overflow_add-body c).In-Whole in omega arith

pub overflow_add-result : goal.overflow_add-result
overflow_add-result c = let r = room (goal.at.overflow_add-result c).In-Whole in omega arith

pub slice_bounds-result-end-2 : goal.slice_bounds-result-end-2
slice_bounds-result-end-2 c = let r = room (goal.at.slice_bounds-result-end-2 c).In-Whole in omega arith

pub returns : goal.returns
unfolding body_in
returns c = rw (c.from.ensures, ← c.step_at.ensures, c.in-Whole.is, add-sub_cancel_left)
