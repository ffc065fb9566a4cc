-- `conformance::first_forbidden` meets its contract: the search over the links still to come, counted from their place, finds what the whole search finds.
-- Assumes nothing.
use mathlib.Core.Logic.{inl}
use native.Mathlib.Omega.{arith}
use Prim.Native.Nat.{◌+◌, ◌<◌}
use lib.ListN.{length}
use Rattle.register.specs.LinksAhead.{to_come}
use Rattle.conformance.proofs.LinkSearch.{few_links, kind_fits, links_start, links_end, link_from, link_label, link_to, link_forbidden, link_permitted}
use Rattle.conformance.proofs.first_forbidden.Goals as goal

pub loop-i-init-derived : goal.loop-i-init-derived
loop-i-init-derived c =
    let h = c.enumerate-i-items.ensures in
    let l = c.links.result in
    let n : 0 + length (to_come l.file.now l.left) < 18446744073709551616 = omega (arith, few_links _ _ c.args.register.now.accepted c.links.ensures.all) in
    ((tt, tt, inl (rw (c.into_iter-i-iterator.ensures.into_iter_gives, h.count, h.source) n)), tt)

pub loop-i-init : goal.loop-i-init
loop-i-init c =
    let h = c.enumerate-i-items.ensures in
    rw (c.into_iter-i-iterator.ensures.into_iter_gives, h.count, h.source) (links_start _ _ _ c.args.register.now.accepted c.links.ensures.all)

pub kind_at-from-requires : goal.kind_at-from-requires
kind_at-from-requires c = rw c.args.register.now.counted (link_from _ _ _ _ c.loop-i.invariant c.in-Some.ensures.steps.0.0)

pub kind_at-to-requires : goal.kind_at-to-requires
kind_at-to-requires c = rw c.args.register.now.counted (link_to _ _ _ _ c.loop-i.invariant c.in-Some.ensures.steps.0.0)

pub permits-requires : goal.permits-requires
permits-requires c =
    let a = c.args.register.now.accepted in
    (kind_fits _ a _ _ c.kind_at-from.ensures, link_label _ _ _ _ c.loop-i.invariant c.in-Some.ensures.steps.0.0, kind_fits _ a _ _ c.kind_at-to.ensures)

pub overflow_add-result : goal.overflow_add-result
overflow_add-result c = omega (arith, c.args.register.now.counted, c.loop-i.invariant.few, c.in-Some.ensures.steps.1)

pub returns-then-not-permits : goal.returns-then-not-permits
returns-then-not-permits c =
    let e = c.in-Some.ensures.steps in
    rw e.1 (link_forbidden _ _ _ _ c.loop-i.invariant e.0.0 c.kind_at-from.ensures c.kind_at-to.ensures c.permits.ensures c.if-not-permits.true c.args.register.now.counted)

pub loop-i-preserved : goal.loop-i-preserved
loop-i-preserved c =
    let e = c.in-Some.ensures.steps in
    rw e.2 (link_permitted _ _ _ _ c.loop-i.invariant e.0.0 c.kind_at-from.ensures c.kind_at-to.ensures c.permits.ensures c.if-not-permits.false)

pub returns : goal.returns
returns c = links_end _ _ _ _ c.loop-i.invariant c.in-None.ensures.steps.0.0.0
