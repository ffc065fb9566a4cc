-- `sheet::read_into` meets its contract: at each field the table has the bits of the triples read so far and no others, and the field that is refused is the definition's.
-- Assumes nothing.
use mathlib.Core.Path.{◌≡◌, ◌∙◌, ap, sym, refl}
use mathlib.Core.Option as Math
use Prim.Native.Nat.{◌<◌}
use native.Mathlib.Omega.{arith}
use Rattle.std.specs.Prelude as std
use Rattle.std.specs.Prelude.{Option, Ok}
use Rattle.std.proofs.lemmas.Result.{err_from_is_err_and}
use Rattle.theory.specs.Register.{Edge}
use Rattle.theory.specs.Result.{Result, got}
use Rattle.fields.specs.declared.Refusal.{Refusal}
use Rattle.sheet.specs.declared.Triple.{Triple}
use Rattle.sheet.specs.declared.Triples.{Triples}
use Rattle.field_reader.specs.declared.Standing.{Standing}
use Rattle.field_reader.proofs.Steps.{Stepped, seen_next, stepped}
use Rattle.field_reader.specs.declared.Standing.TheVariants.{Within}
use Rattle.sheet.specs.Form.{due}
use Rattle.sheet.specs.Internal.{sizes_at, edge_said, edges_said, turn_said}
use Rattle.sheet.specs.Table.{permit}
use Rattle.sheet.proofs.Loop.{Progress, progress_start, reads_refused, progress_ends, progress_wrong, progress_ready, progress_stop, progress_go, progress_more}
use Rattle.sheet.proofs.read_into.Goals.{In-Some, In-Some-triple, in-Head, in-Within}
use Rattle.sheet.proofs.read_into.Goals as goal

-- where a field was handed out
at_field : (c : In-Some) → Stepped (due c.loop-f.st) c.args.s.now c.loop-f.reader.at c.in-Some.f c.next.new.self
at_field c =
    stepped _ _ c.loop-f.invariant.0 c.due.ensures c.next.ensures.said c.next.ensures.part c.next.ensures.file c.next.ensures.place (c.in_ok-f.was ∙ ap Ok c.in-Some.is)

-- what was made of it, by its triple
triple_judged : {a : std.Result (Option Triple × Triples) Refusal} {t u : Option Triple} {q : Triples} {r : Result (Standing Triples × Math.Option Edge)} → t ≡ u → a ≡ Ok (t, q) → turn_said a ≡ r
    → got (Within q, edges_said u) ≡ r
triple_judged {q = q} e w j = ap (λ t. got (Within q, edges_said t)) (sym e) ∙ ap turn_said (sym w) ∙ j

-- where it is a triple
at_triple : (c : In-Some-triple) →
    let x = edge_said c.in-Some-triple.x in
    ((x.from < 64) × (x.label < 64) × (x.to < 64)) × Progress c.args.s.now (Within c.in_ok-triple.q) c.in-Some.f.next (permit c.loop-f.sheet.table x)
at_triple c =
    let h = stepped _ _ c.loop-f.invariant.0 c.due.ensures c.next.ensures.said c.next.ensures.part c.next.ensures.file c.next.ensures.place (c.in_ok-f.was ∙ ap Ok c.in-Some.is) in
    progress_more _ _ _ _ c.loop-f.invariant.1 h.field _ _ (triple_judged c.in-Some-triple.is c.in_ok-triple.was c.judge.ensures)

pub loop-f-init : goal.loop-f-init
loop-f-init c = (ap (λ b. b.now) c.new-reader.ensures.0, rw c.new-reader.ensures.1 (progress_start _ c.requires))

pub returns-in_err-f : goal.returns-in_err-f
returns-in_err-f c =
    let p = err_from_is_err_and c.from_residual.result c.from_residual.ensures.1 in
    let l = c.loop-f.invariant in
    let w = seen_next _ c.loop-f.reader l.0 c.due.ensures c.next.ensures.said c.in_err-f.was in
    rw (p.1, p.2) (reads_refused _ _ (progress_wrong _ _ _ _ l.1 _ _ w))

pub judge-requires : goal.judge-requires
judge-requires c = progress_ready _ _ _ _ c.loop-f.invariant.1 (at_field (goal.at.judge-requires c).In-Some).field

pub returns-in_err-triple : goal.returns-in_err-triple
returns-in_err-triple c =
    let p = err_from_is_err_and c.from_residual-in_err-triple.result c.from_residual-in_err-triple.ensures.1 in
    let h = at_field (goal.at.returns-in_err-triple c).In-Some in
    rw (p.1, p.2) (progress_stop _ _ _ _ c.loop-f.invariant.1 h.field _ (ap turn_said (sym c.in_err-triple.was) ∙ c.judge.ensures))

pub word_of-i-requires : goal.word_of-i-requires
word_of-i-requires c = let r = (at_triple (goal.at.word_of-i-requires c).In-Some-triple).0 in (r.0, r.1)

pub with_bit-requires : goal.with_bit-requires
with_bit-requires c = let r = (at_triple (goal.at.with_bit-requires c).In-Some-triple).0 in omega (arith, r.2, c.from.ensures)

pub loop-f-smaller-in-Some-triple : goal.loop-f-smaller-in-Some-triple
loop-f-smaller-in-Some-triple c =
    let h = at_field (goal.at.loop-f-smaller-in-Some-triple c).In-Some in
    omega (arith, h.field.room, h.field.next, h.place)

pub loop-f-preserved-in-Some-triple : goal.loop-f-preserved-in-Some-triple
loop-f-preserved-in-Some-triple c =
    let h = at_field (goal.at.loop-f-preserved-in-Some-triple c).In-Some in
    (h.file, rw (h.place, c.with_bit.ensures, c.word_of-i.ensures.0, c.from.ensures) (at_triple (goal.at.loop-f-preserved-in-Some-triple c).In-Some-triple).1)

pub loop-f-smaller : goal.loop-f-smaller
loop-f-smaller c =
    let h = at_field (goal.at.loop-f-smaller c).In-Some in
    omega (arith, h.field.room, h.field.next, h.place)

pub loop-f-preserved : goal.loop-f-preserved
loop-f-preserved c =
    let h = at_field (goal.at.loop-f-preserved c).In-Some in
    (h.file, rw h.place (progress_go _ _ _ _ c.loop-f.invariant.1 h.field _ (triple_judged c.in_default-triple.is c.in_ok-triple.was c.judge.ensures)))

pub returns : goal.returns
returns c =
    let l = c.loop-f.invariant in
    let e : sizes_at c.loop-f.st ≡ c.match-st.kinds =
    elim c.match-st.branch [ in-Head w ↦ ap sizes_at w.in-Head.is ∙ sym w.kinds-is | in-Within w ↦ ap sizes_at w.in-Within.is ∙ sym w.kinds-is ] in
    progress_ends _ _ _ _ l.1 (seen_next _ c.loop-f.reader l.0 c.due.ensures c.next.ensures.said (c.in_ok-f.was ∙ ap Ok c.in_default.is)) _ e refl
