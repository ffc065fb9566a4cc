-- Demand 3, whole, of the calls: whatever narrowing or the whole job accepts agrees.
-- Assumes nothing.
use mathlib.Core.Path.{◌≡◌, sym, ap, subst, ◌∙◌}
use mathlib.Core.List.{List, map}
use Prim.Native.Nat.{ℕ}
use lib.Dec.{T}
use lib.ListN.{length-map, get_or}
use Rattle.theory.specs.PathExpr.{PathExpr}
use Rattle.theory.specs.Sheet.{Sheet, sheet?, conforms?}
use Rattle.theory.specs.Narrowing.{narrow}
use Rattle.theory.specs.Demand3.{Demand3}
use Rattle.theory.specs.NoIdle.{NoIdle}
use Rattle.theory.proofs.Members.{narrow_fits}
use Rattle.theory.proofs.Demand3.{demand3, narrow_path}
use Rattle.theory.proofs.NoIdle.{no_idle}
use Rattle.theory.specs.Result.{Result, got}
use Rattle.fields.specs.declared.Size.{Size}
use Rattle.fields.specs.Reading.{read}
use Rattle.sheet.specs.Form.{sheet_form}
use Rattle.sheet.proofs.Ranges.{accepted_sheet}
use Rattle.question.specs.Form.{question_symbols}
use Rattle.question.proofs.Paths.{Asks, accepted_question}
use Rattle.narrowed_question.specs.Members.{flat_of, narrowed_file}
use Rattle.narrowed_question.proofs.Formed.{narrowed_back}
use Rattle.narrowing.proofs.Accepted.{Accepted, accepted}
use Rattle.fields.proofs.Filing as Filing
use Rattle.answer.specs.Calls.{members_of}
use Rattle.answer.proofs.Meaning.{plain_word}
use Rattle.answer.proofs.TwoAnswers.{members_back, words_equal, bits_subset}
use Rattle.job.specs.Call.{job_call}
use Rattle.job.proofs.Accepted.{register_conforms, plainly}
use Rattle.job.proofs.Accepted as job·Accepted
use Rattle.paths.specs.Agreement.{NarrowTook, file_written, Agrees, JobTook, job_file, JobAgrees}

module _ {s q file file' : List ℕ} {z : Size} (a : Accepted s q file file' z) (p : PathExpr) (k : Asks a.codes p) where
  valid : T (sheet? a.sheet)
  valid = accepted_sheet s a.sheet a.sheet_reads

  same : narrow a.sheet p ≡ got a.members
  same = narrow_path a.sheet p (question_symbols a.codes) k.path ∙ a.narrows

  back : members_of (map flat_of a.members) ≡ a.members
  back = members_back a.members (narrow_fits a.sheet valid p k.plain a.members same).each

  file_agrees : Agrees s q (narrowed_file a.members) z
  file_agrees =
      record {
        S = a.sheet;
        sheet_reads = a.sheet_reads;
        codes = a.codes;
        question_reads = a.question_reads;
        q = p;
        path = k.path;
        flats = map flat_of a.members;
        file_reads = narrowed_back a.sheet valid p k.plain a.members same;
        members = a.filed.counted ∙ sym (length-map a.members flat_of);
        bytes = a.filed.measured;
        meaning = subst (Demand3 a.sheet p) (sym back) (demand3 a.sheet valid p k.plain a.members same);
        no_idle = subst (NoIdle a.sheet) (sym back) (no_idle a.sheet valid p k.plain a.members same);
        equal = λ {register} {work} {answer} {work'} {answer'} {r} h. words_equal a.sheet valid p k.plain a.members same q register a.codes a.question_reads k.path r
            h.reads work answer work' answer' h.plain h.narrowed;
        subset = λ {register} {work} {answer} {work'} {answer'} {r} h. bits_subset a.sheet valid p k.plain a.members same q register a.codes a.question_reads k.path r
            h.reads work answer work' answer' h.plain h.narrowed;
      }

pub agreement : (sheet question work area : List ℕ) (z : Size) → NarrowTook sheet question work area z → Agrees sheet question (file_written sheet question work area z) z
agreement sheet question work area z took =
    let a = accepted sheet question work area z took in
    let (p, k) = accepted_question question a.codes a.question_reads in
    subst (λ (f : List ℕ). Agrees sheet question f z) (sym (Filing.file_written a.filed)) (file_agrees a p k)

-- ---- the whole job
module _ (sheet question register work answer area : List ℕ) (z : Size) (took : JobTook sheet question register work answer area z) where
  abbrev a : job·Accepted.Accepted sheet question register work answer (job_call sheet question register work answer area).areas.answer area
      (job_call sheet question register work answer area).areas.area z
  a = job·Accepted.accepted sheet question register work answer area z took

  abbrev file : List ℕ
  file = job_file sheet question register work answer area z

  obeys : (S : Sheet) → read sheet_form sheet ≡ got S → T (conforms? S a.register)
  obeys S e =
      let f : ◌≡◌ {A = Result Sheet} (got a.narrowing.sheet) (got S) = sym a.narrowing.sheet_reads ∙ e in
      let same-sheet : a.narrowing.sheet ≡ S = cc in
      subst (λ (x : Sheet). T (conforms? x a.register)) same-sheet (register_conforms a)

  module _ (p : PathExpr) (k : Asks a.narrowing.codes p) where
    abbrev agrees : Agrees sheet question file z
    agrees = subst (λ (f : List ℕ). Agrees sheet question f z) (sym (Filing.file_written a.narrowing.filed)) (file_agrees a.narrowing p k)

    job_agrees : JobAgrees sheet question register work answer area z
    job_agrees =
        let (ok, e) = plainly a in
        record {
          file_agrees = agrees;
          r = a.register;
          register_reads = a.register_reads;
          conforms = obeys;
          narrowed_same = λ work' answer' y i h. ap (λ (l : List ℕ). get_or l i 0) e
              ∙ sym (agrees.equal (record { reads = a.register_reads; plain = ok; narrowed = y }) (obeys agrees.S agrees.sheet_reads) i h);
          plain_same = λ work' answer' y i h.
              ap (λ (l : List ℕ). get_or l i 0) e
              ∙ plain_word question register work answer a.register a.register_reads a.narrowing.codes p a.narrowing.question_reads k.path ok i h
              ∙ sym (plain_word question register work' answer' a.register a.register_reads a.narrowing.codes p a.narrowing.question_reads k.path y i h);
        }

  pub job_agreement : JobAgrees sheet question register work answer area z
  job_agreement = let (p, k) = accepted_question question a.narrowing.codes a.narrowing.question_reads in job_agrees p k
