-- `question::read` meets its contract: at each field the array has the codes read so far with zeros after them, and the field that is refused is the definition's.
-- Assumes nothing.
use mathlib.Core.Path.{◌≡◌, ◌∙◌, refl, ap, sym, subst}
use native.Mathlib.Omega.{arith}
use Prim.Native.Nat.{◌+◌, ◌<◌}
use lib.ListN.{set}
use Rattle.field_reader.specs.declared.Standing.TheVariants.{Within}
use Rattle.std.specs.Prelude.{Ok}
use Rattle.std.proofs.lemmas.Result.{err_from_is_err_and}
use Rattle.theory.specs.Result.{got}
use Rattle.fields.specs.Reading.{ends, wrong, field_at}
use Rattle.fields.specs.Contract.{number_of, place_of, read_said}
use Rattle.fields.proofs.Fields.{Handed, seen_at, handed}
use Rattle.question.specs.Form.{due, judge}
use Rattle.question.specs.Internal.{turned}
use Rattle.question.proofs.Loop.{Reading, reading_start, reading_ends, reading_wrong, reading_ready, reading_stop, reading_go, reading_more}
use Rattle.question.proofs.read.Goals.{In-Some, In_ok-code, In-Some-code}
use Rattle.question.proofs.read.Goals as goal

-- the field that was handed out, and where the reader stands after it
at_field : (c : In-Some) → Handed (due c.loop-f.st) c.args.s.now c.loop-f.reader.at c.in-Some.f
at_field c =
    subst (λ s. Handed (due c.loop-f.st) s c.loop-f.reader.at c.in-Some.f) c.loop-f.invariant.1
    (handed _ _ c.due.ensures c.next.ensures.said c.next.ensures.part (c.in_ok-f.was ∙ ap Ok c.in-Some.is))

gone_on : (c : In-Some) → (c.next.new.self.at ≡ c.in-Some.f.next) × (c.next.new.self.src.now ≡ c.args.s.now)
gone_on c = (rw (c.in_ok-f.was, c.in-Some.is) at c.next.ensures.place, ap (λ b. b.now) c.next.ensures.file ∙ c.loop-f.invariant.1)

-- what it is judged to be
is_judged : (c : In_ok-code) → let f = c.in-Some.f in judge c.loop-f.st f.at f.next f.tag f.body.now ≡ got (turned (c.in_ok-code.code, c.in_ok-code.left))
is_judged c = sym c.judge.ensures ∙ ap (read_said turned) c.in_ok-code.was

pub loop-f-init : goal.loop-f-init
loop-f-init c = (rw c.new-reader.ensures.1 (reading_start _), ap (λ b. b.now) c.new-reader.ensures.0)

pub returns-in_err-f : goal.returns-in_err-f
returns-in_err-f c =
    let p = err_from_is_err_and c.from_residual.result c.from_residual.ensures.1 in
    let r = c.in_err-f.field-0.0 in
    let e = subst (λ s. field_at (due c.loop-f.st) s c.loop-f.reader.at ≡ wrong (number_of r) (place_of r)) c.loop-f.invariant.1
    (seen_at _ _ c.due.ensures c.next.ensures.said c.in_err-f.was) in
    rw (p.1, p.2) (reading_wrong _ _ _ _ _ c.loop-f.invariant.0 _ e)

pub judge-requires : goal.judge-requires
judge-requires c = reading_ready _ _ _ _ _ c.loop-f.invariant.0 (at_field (goal.at.judge-requires c).In-Some)

pub returns-in_err-code : goal.returns-in_err-code
returns-in_err-code c =
    let p = err_from_is_err_and c.from_residual-in_err-code.result c.from_residual-in_err-code.ensures.1 in
    rw (p.1, p.2) (reading_stop _ _ _ _ _ c.loop-f.invariant.0 (at_field (goal.at.returns-in_err-code c).In-Some) _ (sym c.judge.ensures ∙ ap (read_said turned) c.in_err-code.was))

-- a symbol was handed over
added : (c : In-Some-code) → let l = c.loop-f in (l.count < 32) × Reading c.args.s.now (Within c.in_ok-code.left) c.in-Some.f.next (l.count + 1) (set l.codes l.count c.in-Some-code.c)
added c =
    reading_more _ _ _ _ _ c.loop-f.invariant.0 (at_field (goal.at.bounds-codes-count c).In-Some) _ _
    (is_judged (goal.at.bounds-codes-count c).In_ok-code ∙ ap (λ o. got (turned (o, c.in_ok-code.left))) c.in-Some-code.is)

pub bounds-codes-count : goal.bounds-codes-count
bounds-codes-count c = (added c).0

pub loop-f-smaller-in-Some-code : goal.loop-f-smaller-in-Some-code
loop-f-smaller-in-Some-code c =
    let i = (goal.at.loop-f-smaller-in-Some-code c).In-Some in
    let h = at_field i in
    let m = gone_on i in
    omega (arith, h.next, h.room, m.0)

pub loop-f-preserved-in-Some-code : goal.loop-f-preserved-in-Some-code
loop-f-preserved-in-Some-code c =
    let m = gone_on (goal.at.loop-f-preserved-in-Some-code c).In-Some in
    (rw m.0 (added c).1, m.1)

pub loop-f-smaller : goal.loop-f-smaller
loop-f-smaller c =
    let i = (goal.at.loop-f-smaller c).In-Some in
    let h = at_field i in
    let m = gone_on i in
    omega (arith, h.next, h.room, m.0)

pub loop-f-preserved : goal.loop-f-preserved
loop-f-preserved c =
    let i = (goal.at.loop-f-preserved c).In-Some in
    let m = gone_on i in
    let e = is_judged (goal.at.loop-f-preserved c).In_ok-code ∙ ap (λ o. got (turned (o, c.in_ok-code.left))) c.in_default-code.is in
    (rw m.0 (reading_go _ _ _ _ _ c.loop-f.invariant.0 (at_field i) _ e), m.1)

pub returns : goal.returns
returns c =
    let e = subst (λ s. field_at (due c.loop-f.st) s c.loop-f.reader.at ≡ ends) c.loop-f.invariant.1
    (seen_at _ _ c.due.ensures c.next.ensures.said (c.in_ok-f.was ∙ ap Ok c.in_default.is)) in
    reading_ends _ _ _ _ _ c.loop-f.invariant.0 e _ refl refl
