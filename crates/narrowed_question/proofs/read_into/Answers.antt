-- `narrowed_question::read_into` meets its contract: at each field the arrays hold the members read so far.
-- Assumes nothing.
use mathlib.Core.Path.{◌≡◌, refl, ◌∙◌, ap, sym}
use Rattle.std.specs.Prelude.{Ok}
use Rattle.std.proofs.lemmas.Result.{err_from_is_err_and}
use Rattle.fields.proofs.Fields.{Handed}
use Rattle.field_reader.specs.Reader.{next_place}
use Rattle.narrowed_question.specs.Form.{due}
use Rattle.narrowed_question.specs.Contract.{counted}
use Rattle.narrowed_question.proofs.Tracks.{field_ready}
use Rattle.narrowed_question.proofs.Loop.{reading_start, reading_able, into_refused, seen_there, handed_there, none_left, item_is}
use Rattle.narrowed_question.proofs.Loop.{reading_ends, reading_wrong, reading_stop, reading_go, reading_open, reading_more, reading_order, reading_last}
use Rattle.narrowed_question.proofs.Loop.{last_room, last_done, last_ordered}
use native.Mathlib.Omega.{arith}
use Rattle.narrowed_question.proofs.read_into.Goals as goal
use Rattle.narrowed_question.proofs.read_into.Goals.{In-Some}

-- the field that was handed out, and where the reader then stands
there : (c : In-Some) → Handed (due c.loop-f.st) c.args.s.now c.loop-f.reader.at c.in-Some.f × (c.next.new.self.at ≡ c.in-Some.f.next) × (c.next.new.self.src.now ≡ c.args.s.now)
there c =
    let u = c.in_ok-f.was ∙ ap Ok c.in-Some.is in (
      handed_there _ _ c.loop-f.reader c.loop-f.invariant.2 c.due.ensures c.next.ensures.said c.next.ensures.part u,
      c.next.ensures.place ∙ ap (next_place c.loop-f.reader.at) u,
      ap (λ b. b.now) c.next.ensures.file ∙ c.loop-f.invariant.2,
    )

pub loop-f-init : goal.loop-f-init
loop-f-init c = (rw c.new-reader.ensures.1 (reading_start _ c.requires), refl, ap (λ b. b.now) c.new-reader.ensures.0)

pub returns-in_err-f : goal.returns-in_err-f
returns-in_err-f c =
    let r = c.loop-f.invariant in
    let p = err_from_is_err_and c.from_residual.result c.from_residual.ensures.1 in
    rw (p.1, p.2) (into_refused r.1 (reading_wrong r.0 _ _ (seen_there _ _ c.loop-f.reader r.2 c.due.ensures c.next.ensures.said c.in_err-f.was)))

pub judge-requires : goal.judge-requires
judge-requires c = field_ready _ _ _ _ (reading_able c.loop-f.invariant.0).0 (there (goal.at.judge-requires c).In-Some).0

pub returns-in_err-next : goal.returns-in_err-next
returns-in_err-next c =
    let r = c.loop-f.invariant in
    let h = (there (goal.at.returns-in_err-next c).In-Some).0 in
    let p = err_from_is_err_and c.from_residual-in_err-next.result c.from_residual-in_err-next.ensures.1 in
    rw (p.1, p.2) (into_refused r.1 (reading_stop r.0 _ h _ _ (sym c.in_err-next.ensures)))

pub loop-f-smaller-in-Nothing : goal.loop-f-smaller-in-Nothing
loop-f-smaller-in-Nothing c =
    let h = there (goal.at.loop-f-smaller-in-Nothing c).In-Some in
    let next = h.0.next in
    let room = h.0.room in
    omega (arith, h.1)

pub loop-f-preserved-in-Nothing : goal.loop-f-preserved-in-Nothing
loop-f-preserved-in-Nothing c =
    let r = c.loop-f.invariant in
    let h = there (goal.at.loop-f-preserved-in-Nothing c).In-Some in
    let j = item_is c.in_ok-next.ensures c.in-Nothing.is in
    rw h.1 (reading_go r.0 _ h.0 _ j, r.1, h.2)

pub keep_head-requires : goal.keep_head-requires
keep_head-requires c =
    let r = c.loop-f.invariant in
    let h = there (goal.at.keep_head-requires c).In-Some in
    let j = item_is c.in_ok-next.ensures c.in-Opens.is in
    (reading_open r.0 _ h.0 _ _ _ _ j).0

pub loop-f-smaller-in-Opens : goal.loop-f-smaller-in-Opens
loop-f-smaller-in-Opens c =
    let h = there (goal.at.loop-f-smaller-in-Opens c).In-Some in
    let next = h.0.next in
    let room = h.0.room in
    omega (arith, h.1)

pub loop-f-preserved-in-Opens : goal.loop-f-preserved-in-Opens
loop-f-preserved-in-Opens c =
    let r = c.loop-f.invariant in
    let h = there (goal.at.loop-f-preserved-in-Opens c).In-Some in
    let j = item_is c.in_ok-next.ensures c.in-Opens.is in
    rw (h.1, c.keep_head.ensures) ((reading_open r.0 _ h.0 _ _ _ _ j).1, r.1, h.2)

pub keep-requires : goal.keep-requires
keep-requires c =
    let r = c.loop-f.invariant in
    let h = there (goal.at.keep-requires c).In-Some in
    let j = item_is c.in_ok-next.ensures c.in-Symbol.is in
    (reading_more r.0 _ h.0 _ _ j).0

pub overflow_add-used : goal.overflow_add-used
overflow_add-used c =
    let r = c.loop-f.invariant in
    let h = there (goal.at.overflow_add-used c).In-Some in
    let j = item_is c.in_ok-next.ensures c.in-Symbol.is in
    let b = (reading_more r.0 _ h.0 _ _ j).0 in omega arith

pub loop-f-smaller-in-Symbol : goal.loop-f-smaller-in-Symbol
loop-f-smaller-in-Symbol c =
    let h = there (goal.at.loop-f-smaller-in-Symbol c).In-Some in
    let next = h.0.next in
    let room = h.0.room in
    omega (arith, h.1)

pub loop-f-preserved-in-Symbol : goal.loop-f-preserved-in-Symbol
loop-f-preserved-in-Symbol c =
    let r = c.loop-f.invariant in
    let h = there (goal.at.loop-f-preserved-in-Symbol c).In-Some in
    let j = item_is c.in_ok-next.ensures c.in-Symbol.is in
    rw (h.1, c.keep.ensures) ((reading_more r.0 _ h.0 _ _ j).1, r.1, h.2)

pub keep-requires-in-Last : goal.keep-requires-in-Last
keep-requires-in-Last c =
    let r = c.loop-f.invariant in
    let h = there (goal.at.keep-requires-in-Last c).In-Some in
    let j = item_is c.in_ok-next.ensures c.in-Last.is in
    last_room r.0 _ h.0 _ _ _ j

pub overflow_add-used-in-Last : goal.overflow_add-used-in-Last
overflow_add-used-in-Last c =
    let r = c.loop-f.invariant in
    let h = there (goal.at.overflow_add-used-in-Last c).In-Some in
    let j = item_is c.in_ok-next.ensures c.in-Last.is in
    let b = last_room r.0 _ h.0 _ _ _ j in omega arith

pub slice_bounds-earlier-count : goal.slice_bounds-earlier-count
slice_bounds-earlier-count c =
    let r = c.loop-f.invariant in
    let h = there (goal.at.slice_bounds-earlier-count c).In-Some in
    let j = item_is c.in_ok-next.ensures c.in-Last.is in
    omega (arith, last_ordered r.0 _ h.0 _ _ _ j, last_room r.0 _ h.0 _ _ _ j)

pub slice_bounds-earlier-start : goal.slice_bounds-earlier-start
slice_bounds-earlier-start c =
    let r = c.loop-f.invariant in
    let h = there (goal.at.slice_bounds-earlier-start c).In-Some in
    let j = item_is c.in_ok-next.ensures c.in-Last.is in
    omega (arith, last_ordered r.0 _ h.0 _ _ _ j, last_room r.0 _ h.0 _ _ _ j)

pub slice_bounds-earlier-end : goal.slice_bounds-earlier-end
slice_bounds-earlier-end c =
    let r = c.loop-f.invariant in
    let h = there (goal.at.slice_bounds-earlier-end c).In-Some in
    let j = item_is c.in_ok-next.ensures c.in-Last.is in
    omega (arith, last_ordered r.0 _ h.0 _ _ _ j, last_room r.0 _ h.0 _ _ _ j)

pub slice_bounds-earlier-count-in-Last : goal.slice_bounds-earlier-count-in-Last
slice_bounds-earlier-count-in-Last c =
    let r = c.loop-f.invariant in
    let h = there (goal.at.slice_bounds-earlier-count-in-Last c).In-Some in
    let j = item_is c.in_ok-next.ensures c.in-Last.is in
    omega (arith, last_ordered r.0 _ h.0 _ _ _ j, last_room r.0 _ h.0 _ _ _ j)

pub slice_bounds-earlier-start-in-Last : goal.slice_bounds-earlier-start-in-Last
slice_bounds-earlier-start-in-Last c =
    let r = c.loop-f.invariant in
    let h = there (goal.at.slice_bounds-earlier-start-in-Last c).In-Some in
    let j = item_is c.in_ok-next.ensures c.in-Last.is in
    omega (arith, last_ordered r.0 _ h.0 _ _ _ j, last_room r.0 _ h.0 _ _ _ j)

pub slice_bounds-earlier-end-in-Last : goal.slice_bounds-earlier-end-in-Last
slice_bounds-earlier-end-in-Last c =
    let r = c.loop-f.invariant in
    let h = there (goal.at.slice_bounds-earlier-end-in-Last c).In-Some in
    let j = item_is c.in_ok-next.ensures c.in-Last.is in
    omega (arith, last_ordered r.0 _ h.0 _ _ _ j, last_room r.0 _ h.0 _ _ _ j)

pub returns-then-not-earlier : goal.returns-then-not-earlier
returns-then-not-earlier c =
    let r = c.loop-f.invariant in
    let h = there (goal.at.returns-then-not-earlier c).In-Some in
    let j = item_is c.in_ok-next.ensures c.in-Last.is in
    let b = rw c.keep-in-Last.ensures at (sym c.earlier.ensures ∙ c.if-not-earlier.true) in
    rw c.keep-in-Last.ensures (record { outcome = ap counted (sym (reading_order r.0 _ h.0 _ _ _ j b)); members = r.1 })

pub overflow_add-done : goal.overflow_add-done
overflow_add-done c =
    let r = c.loop-f.invariant in
    let h = there (goal.at.overflow_add-done c).In-Some in
    let j = item_is c.in_ok-next.ensures c.in-Last.is in
    let b = last_done r.0 _ h.0 _ _ _ j in omega arith

pub loop-f-smaller : goal.loop-f-smaller
loop-f-smaller c =
    let h = there (goal.at.loop-f-smaller c).In-Some in
    let next = h.0.next in
    let room = h.0.room in
    omega (arith, h.1)

pub loop-f-preserved : goal.loop-f-preserved
loop-f-preserved c =
    let r = c.loop-f.invariant in
    let h = there (goal.at.loop-f-preserved c).In-Some in
    let j = item_is c.in_ok-next.ensures c.in-Last.is in
    let b = rw c.keep-in-Last.ensures at (sym c.earlier.ensures ∙ c.if-not-earlier.false) in
    rw (h.1, c.keep-in-Last.ensures) (reading_last r.0 _ h.0 _ _ _ j b, r.1, h.2)

pub returns : goal.returns
returns c =
    let r = c.loop-f.invariant in
    let u = c.in_ok-f.was ∙ ap Ok (none_left _ c.in_default.not-Some) in
    reading_ends r.0 (seen_there _ _ c.loop-f.reader r.2 c.due.ensures c.next.ensures.said u)
