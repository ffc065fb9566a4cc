-- `register::read` meets its contract: what is read so far is what the definition has read of it (`Reading`), and each field comes closer to the file's end.
-- Assumes nothing.
use Rattle.std.proofs.Common.{Ok}
use Rattle.std.proofs.lemmas.Result.{err_from_is_err_and}
use Rattle.register.proofs.Passing.{reading_passed, passed_on}
use Rattle.register.proofs.Loop.{reading_start, ends_within, reading_accepted, reading_counted, reading_linked}
use Rattle.register.proofs.Loop.{reading_wrong, reading_ready, reading_refused, reading_next}
use Rattle.field_reader.proofs.Steps.{Stepped, seen_next, stepped}
use Rattle.register.specs.Form.{due}
use Rattle.fields.specs.Contract.{read_said}
use Rattle.fields.specs.Reading.{ends, field_at}
use mathlib.Core.Path.{◌≡◌, ◌∙◌, ap, sym}
use native.Mathlib.Omega.{arith}
use Rattle.register.proofs.read.Goals.{In-Some, In_default}
use Rattle.register.proofs.read.Goals as goal

-- where a field was handed out, and where none is left
at_field : (c : In-Some) → Stepped (due c.loop-f.st) c.args.s.now c.loop-f.reader.at c.in-Some.f c.next.new.self
at_field c =
    stepped _ _ c.loop-f.invariant.0 c.due_at.ensures c.next.ensures.said c.next.ensures.part c.next.ensures.file c.next.ensures.place (c.in_ok-f.was ∙ ap Ok c.in-Some.is)

at_end : (c : In_default) → let l = c.loop-f in field_at (due l.st) c.args.s.now l.reader.at ≡ ends
at_end c = seen_next _ c.loop-f.reader c.loop-f.invariant.0 c.due_at.ensures c.next.ensures.said (c.in_ok-f.was ∙ ap Ok c.in_default.is)

pub loop-f-init : goal.loop-f-init
loop-f-init c = (ap (λ b. b.now) c.new-reader.ensures.0, rw c.new-reader.ensures.1 (reading_start _))

pub returns-in_err-f-clause-said : goal.returns-in_err-f-clause-said
returns-in_err-f-clause-said c =
    let p = err_from_is_err_and c.from_residual.result c.from_residual.ensures.1 in
    let l = c.loop-f.invariant in
    rw (p.1, p.2) (reading_wrong _ _ _ l.1 _ _ (seen_next _ c.loop-f.reader l.0 c.due_at.ensures c.next.ensures.said c.in_err-f.was))

pub judge-requires : goal.judge-requires
judge-requires c = reading_ready _ _ _ c.loop-f.invariant.1 (at_field (goal.at.judge-requires c).In-Some).field

pub returns-in_err-progress-clause-said : goal.returns-in_err-progress-clause-said
returns-in_err-progress-clause-said c =
    let p = err_from_is_err_and c.from_residual-in_err-progress.result c.from_residual-in_err-progress.ensures.1 in
    let h = at_field (goal.at.returns-in_err-progress-clause-said c).In-Some in
    rw (p.1, p.2) (reading_refused _ _ _ c.loop-f.invariant.1 h.field _ _ (sym c.judge.ensures ∙ ap (read_said (λ q. q)) c.in_err-progress.was))

pub past-r-requires : goal.past-r-requires
past-r-requires c = (at_field (goal.at.past-r-requires c).In-Some).field.room

pub loop-f-smaller : goal.loop-f-smaller
loop-f-smaller c =
    let h = (at_field (goal.at.loop-f-smaller c).In-Some).field in
    omega (arith, h.next, h.room, (passed_on _ _ c.past-r.ensures h.room).0)

pub loop-f-preserved : goal.loop-f-preserved
loop-f-preserved c =
    let h = at_field (goal.at.loop-f-preserved c).In-Some in
    (h.file, reading_passed _ _ c.past-r.ensures (reading_next _ _ _ c.loop-f.invariant.1 h.field _ (sym c.judge.ensures ∙ ap (read_said (λ q. q)) c.in_ok-progress.was)))

pub unreachable-requires : goal.unreachable-requires
unreachable-requires c = ends_within _ _ _ c.loop-f.invariant.1 (at_end (goal.at.unreachable-requires c).In_default) c.in_default-st.is

pub invariant_of-result : goal.invariant_of-result
invariant_of-result c =
    let e = at_end (goal.at.invariant_of-result c).In_default in
    let r = c.loop-f.invariant.1 in
    record {
      accepted = reading_accepted _ _ _ r _ c.in-Within.is e;
      counted = c.from.ensures ∙ reading_counted _ _ _ r _ c.in-Within.is e;
      linked = c.from-2.ensures ∙ reading_linked _ _ _ r _ c.in-Within.is e;
    }
