-- What an accepted job says: the three files were read, the register obeys, the area has the file of the members, and the answer is theirs and the question's.
-- Assumes nothing.
use mathlib.Core.Path.{◌≡◌, refl, sym, ap, ◌∙◌}
use mathlib.Core.Bool.{Bool, true, false}
use mathlib.Core.List.{List}
use mathlib.Core.Option.{Option, none, some}
use Prim.Native.Nat.{ℕ, ◌≤◌}
use native.Mathlib.Omega.{arith}
use lib.Dec.{T, ltb}
use lib.ListN.{length}
use lib.Seq.{sets}
use borrow.Author.Tests.{ltb-false}
use Rattle.theory.specs.PathExpr.{PathExpr, Symbol}
use Rattle.theory.specs.Register.{Register, records}
use Rattle.theory.specs.Sheet.{Sheet, conforms?, breach, Breached, conforming, unknown_kind, forbidden_link}
use Rattle.theory.specs.Merging.{Member}
use Rattle.theory.specs.Narrowing.{Narrowing, link_fault, narrow_symbols}
use Rattle.theory.specs.Evaluation.{plain_answer, narrowed_answer}
use Rattle.theory.specs.Words.{answer_words}
use Rattle.theory.proofs.Conformance.{breach_exact}
use Rattle.theory.proofs.Narrowing.{not_refused}
use Rattle.theory.proofs.Demand3.{narrow_path}
use Rattle.theory.proofs.Answers.{answer_words_equal}
use Rattle.fields.specs.declared.Source.TheVariants as source
use Rattle.std.specs.Prelude as std
use Rattle.fields.specs.declared.Failure.{Failure}
use Rattle.theory.specs.Result.{got, refused}
use Rattle.fields.specs.declared.Size.{Size}
use Rattle.fields.specs.Call.{accepts, returned, Returns, zeroed, performed}
use Rattle.fields.specs.Contract.{written_said}
use Rattle.fields.specs.Reading.{read}
use Rattle.sheet.specs.Form.{sheet_form}
use Rattle.sheet.proofs.Ranges.{accepted_sheet}
use Rattle.question.specs.Form.{question_form, question_symbols}
use Rattle.question.proofs.Paths.{Asks, accepted_question}
use Rattle.register.specs.Form.{register_form}
use Rattle.register.proofs.AcceptedRegister.{accepted_register}
use Rattle.narrowing.specs.Call.{file_of, narrow_need}
use Rattle.fields.proofs.Calls.{not_accepted, performed_rest, performed_accepted, three_read}
use Rattle.narrowing.proofs.Accepted.{filed}
use Rattle.narrowing.proofs.Accepted as narrow·Accepted
use Rattle.answer.specs.Calls.{answer_need, work_need, plain_call}
use Rattle.answer.proofs.Meaning.{same, answered_enough}
use Rattle.job.specs.Call.{Results, results, narrow_checked, with_answer, completed, filled, job_need, job_task, job_call}
use Rattle.job.specs.Contract.{AnswersPlain}
use Rattle.job.proofs.Needs.{larger_both}

pub record Accepted (s q g work answer answer' area area' : List ℕ) (z : Size) : Type 0 where
  pub narrowing : narrow·Accepted.Accepted s q area area' z
  pub register : Register
  pub register_reads : read register_form g ≡ got register
  pub no_breach : breach narrowing.sheet register ≡ none
  pub enough : job_need register ≤ length work
  pub room : answer_need register ≤ length answer
  pub words : answer' ≡ sets answer 0 (answer_words (records register) (narrowed_answer register narrowing.members))

-- ---- from the outcome
-- neither 11 nor 16, 12 or 13 was said
checked_got : (S : Sheet) (r : Register) (ss : List Symbol) (ms : List Member) → narrow_checked S r ss ≡ got ms → (breach S r ≡ none) × (narrow_symbols S ss ≡ got ms)
unfolding narrow_checked narrow_symbols
checked_got S r ss ms e = by_breach (breach S r) refl
  where
    by_breach : (b : Option ℕ) → breach S r ≡ b → (breach S r ≡ none) × (narrow_symbols S ss ≡ got ms)
    by_breach none h = (h, rw h at e)
    by_breach (some i) h =
        let x : refused 16 i ≡ got ms = (not_refused (link_fault S.link_names) ss (refused 16 i) ms (rw h at e)).1 in
        let z : ◌≡◌ {A = ℕ} 0 1 = cc in
        absurd (omega arith)

completed_accepted : (r : Register) (o : Narrowing) (to : Results) (z : Size) → (completed r o to).outcome ≡ accepts z → (ms : List Member) × (o ≡ got ms) × ((file_of ms to.area).outcome ≡ accepts z)
completed_accepted r (refused n i) to z e = not_accepted source.Work n i z e
completed_accepted r (got ms) to z e = (ms, refl, e)

module _ (s q g work answer area : List ℕ) (z : Size) (e : (job_call s q g work answer area).outcome ≡ accepts z) where
  abbrev to : Results
  to = results answer area

  abbrev Due : Type 0
  Due = Accepted s q g work answer (job_call s q g work answer area).areas.answer area (job_call s q g work answer area).areas.area z

  module _ (S : Sheet) (es : read sheet_form s ≡ got S) (cs : List ℕ) (eq : read question_form q ≡ got cs) (r : Register) (er : read register_form g ≡ got r) where
    abbrev o : Narrowing
    o = narrow_checked S r (question_symbols cs)

    is_performed : job_call s q g work answer area ≡ performed (job_task r o) work to
    unfolding job_call
    is_performed = rw (es, eq, er)

    enough : job_need r ≤ length work
    unfolding job_task
    enough = performed_accepted (job_task r o) work to (rw is_performed at e)

    is_filled : job_call s q g work answer area ≡ returned (filled r o to).outcome (zeroed (job_need r) work) (filled r o to).areas
    unfolding job_task
    is_filled = is_performed ∙ performed_rest (job_task r o) work to enough

    by_room : (b : Bool) → ltb (length answer) (answer_need r) ≡ b → Due
    unfolding filled
    by_room true t = not_accepted source.Work 14 (answer_need r) z (rw (is_filled, t) at e)
    by_room false t =
        let is : job_call s q g work answer area ≡ returned (completed r o to).outcome (zeroed (job_need r) work) (completed r o to).areas = is_filled ∙ rw t in
        let (ms, m, y) = completed_accepted r o to z (rw is at e) in
        let (eb, en) = checked_got S r (question_symbols cs) ms m in
        let there : (job_call s q g work answer area).areas ≡ (with_answer r ms answer (file_of ms area)).areas = ap (λ x. x.areas) is ∙ ap (λ x. (completed r x to).areas) m in
        record {
          narrowing =
              record {
                sheet = S;
                sheet_reads = es;
                codes = cs;
                question_reads = eq;
                members = ms;
                narrows = en;
                filed = rw there (filed ms area z y);
              };
          register = r;
          register_reads = er;
          no_breach = eb;
          enough = enough;
          room = ltb-false (length answer) (answer_need r) t;
          words = rw (there, y);
        }

  pub accepted : Due
  unfolding job_call
  accepted =
      let (S, cs, r, es, eq, er) = three_read source.Question source.Register work to source.Sheet (read sheet_form s) (read question_form q) (read register_form g)
      (λ S cs r. job_task r (narrow_checked S r (question_symbols cs))) e in
      by_room S es cs eq r er (ltb (length answer) (answer_need r)) refl

-- ---- demand 3 in one line
obeys : (S : Sheet) (r : Register) → breach S r ≡ none → T (conforms? S r)
obeys S r e = go none ((breach_exact S r none).0 e) refl
  where
    go : (o : Option ℕ) → Breached S r o → o ≡ none → T (conforms? S r)
    go _ (conforming t) w = t
    go _ (unknown_kind f) w = let x : ◌≡◌ {A = ℕ} 0 1 = cc in absurd (omega arith)
    go _ (forbidden_link h f) w = let x : ◌≡◌ {A = ℕ} 0 1 = cc in absurd (omega arith)

module _ {s q g work answer answer' area area' : List ℕ} {z : Size} (a : Accepted s q g work answer answer' area area' z) where
  pub register_conforms : T (conforms? a.narrowing.sheet a.register)
  register_conforms = obeys a.narrowing.sheet a.register a.no_breach

  module _ (p : PathExpr) (k : Asks a.narrowing.codes p) where
    -- the members' words are the question's
    same_words : answer_words (records a.register) (narrowed_answer a.register a.narrowing.members) ≡ answer_words (records a.register) (plain_answer a.register p)
    same_words =
        let n = a.narrowing in
        answer_words_equal n.sheet (accepted_sheet s n.sheet n.sheet_reads) p k.plain n.members (narrow_path n.sheet p (question_symbols n.codes) k.path ∙ n.narrows)
        a.register (accepted_register g a.register a.register_reads).formed register_conforms

    is_plain : ((plain_call q g work answer).outcome ≡ accepts tt) × (answer' ≡ (plain_call q g work answer).areas)
    is_plain =
        let r = a.register in
        let m : work_need r ≤ length work = omega (arith, (larger_both narrow_need (work_need r)).1, a.enough) in
        let e = same q g work answer r a.register_reads a.narrowing.codes p a.narrowing.question_reads k.path ∙ answered_enough r (plain_answer r p) work answer m a.room in
        (rw e, rw e (a.words ∙ ap (sets answer 0) same_words))

  pub plainly : ((plain_call q g work answer).outcome ≡ accepts tt) × (answer' ≡ (plain_call q g work answer).areas)
  plainly = let (p, k) = accepted_question q a.narrowing.codes a.narrowing.question_reads in is_plain p k

-- where the code accepts, the answer is the plain one
pub plain_by : (s q g work answer area : List ℕ) {work' answer' area' : List ℕ} {o : std.Result Size Failure} → Returns (job_call s q g work answer area) (written_said o) work' (results answer' area')
    → AnswersPlain (plain_call q g work answer) o answer'
plain_by s q g work answer area j = record {
  accepted = λ z e. (plainly (accepted s q g work answer area z (sym (ap (λ x. x.outcome) j.is) ∙ e))).0;
  answer = λ z e. ap (λ x. x.areas.answer) j.is ∙ (plainly (accepted s q g work answer area z (sym (ap (λ x. x.outcome) j.is) ∙ e))).1;
}
