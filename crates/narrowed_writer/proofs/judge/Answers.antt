-- `narrowed_writer::judge` meets its contract: the verdict on the members from the i-th on, given the one before and the place, is that on all members.
-- Assumes nothing.
use mathlib.Core.Path.{◌≡◌, ◌∙◌, sym}
use lib.ListN.{length}
use Rattle.std.proofs.lemmas.Result.{err_from_is_err_and}
use Rattle.narrowed_writer.proofs.Judging.{many_refused, member_start, judged, member_refused, member_size, member_order, member_more}
use borrow.Author.Rules.{rules}
use native.Mathlib.Omega.{arith}
use Rattle.narrowed_writer.proofs.judge.Goals as goal

pub returns-then-q-gt-MEMBERS : goal.returns-then-q-gt-MEMBERS
returns-then-q-gt-MEMBERS c = many_refused _ c.if-q-gt-MEMBERS.true

pub loop-n-init : goal.loop-n-init
loop-n-init c = member_start _ (omega (arith, c.if-q-gt-MEMBERS.false))

pub returns-in_err-next : goal.returns-in_err-next
returns-in_err-next c =
    let j = judged c.loop-n.invariant c.loop-n-test.true c.in_err-next.ensures in
    let long : length c.args.q.now.numbers ≡ 6144 = search rules in
    let p = err_from_is_err_and c.from_residual.result c.from_residual.ensures.1 in
    rw (p.1, p.2) (member_refused c.loop-n.invariant j.0 long _ _ j.1)

pub slice_bounds-earlier-end-in-loop-n : goal.slice_bounds-earlier-end-in-loop-n
slice_bounds-earlier-end-in-loop-n c =
    let j = judged c.loop-n.invariant c.loop-n-test.true c.in_ok-next.ensures in
    let long : length c.args.q.now.numbers ≡ 6144 = search rules in
    let few = member_size c.loop-n.invariant j.0 long _ j.1 in
    let r = c.loop-n.invariant in
    omega (arith, few, j.0, j.2, c.from.ensures, r.used, r.few)

pub returns-then-not-earlier : goal.returns-then-not-earlier
returns-then-not-earlier c =
    let j = judged c.loop-n.invariant c.loop-n-test.true c.in_ok-next.ensures in
    let long : length c.args.q.now.numbers ≡ 6144 = search rules in
    let b = rw (c.from.ensures ∙ j.2) at (sym c.earlier.ensures ∙ c.if-not-earlier.true) in
    member_order c.loop-n.invariant j.0 long _ j.1 b

pub loop-n-preserved : goal.loop-n-preserved
loop-n-preserved c =
    let j = judged c.loop-n.invariant c.loop-n-test.true c.in_ok-next.ensures in
    let long : length c.args.q.now.numbers ≡ 6144 = search rules in
    let b = rw (c.from.ensures ∙ j.2) at (sym c.earlier.ensures ∙ c.if-not-earlier.false) in
    rw (c.from.ensures ∙ j.2) (member_more c.loop-n.invariant j.0 long _ j.1 b)
