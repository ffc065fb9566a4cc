-- The members are read back from the file that was written.
-- Assumes nothing.
use mathlib.Core.Path.{◌≡◌, refl, sym, subst, ◌∙◌}
use mathlib.Core.List.{List}
use Prim.Native.Nat.{ℕ}
use Rattle.std.specs.Prelude as std
use Rattle.std.specs.Prelude.{Ok, Err}
use Rattle.theory.specs.Evaluation.{narrowed_answer}
use Rattle.theory.specs.Result.{got}
use Rattle.fields.specs.declared.Refusal.{Refusal}
use Rattle.fields.specs.Reading.{read}
use Rattle.fields.proofs.Bools.{not_got}
use Rattle.narrowed_question.specs.declared.Members.{Members}
use Rattle.narrowed_question.specs.Form.{Flat, narrowed_form}
use Rattle.narrowed_question.specs.Formed.{WellFormed}
use Rattle.narrowed_question.specs.ArrayMembers.{given}
use Rattle.narrowed_question.specs.Contract.{ReadsInto}
use Rattle.evaluation.specs.declared.ground.Ground.{Ground}
use Rattle.evaluation.specs.Standing.{register_on}
use Rattle.answer.specs.Calls.{members_of}
use Rattle.answer.specs.Contract.{Readable}
use Rattle.answer.specs.Contract as answer·contract
use Rattle.answer.proofs.Files.{file_refused, file_given}
use Rattle.job.specs.Internal.{HasMembers, AnswersFile}

module _ {file : List ℕ} (h : HasMembers file) {o : std.Result (Unit {0}) Refusal} {q : Members} (g : ReadsInto (read narrowed_form file) o q) where
  -- it is not refused
  pub is_read : o ≡ Ok tt
  is_read = by_result o refl
    where
      by_result : (a : std.Result (Unit {0}) Refusal) → o ≡ a → a ≡ Ok tt
      by_result (Ok u) e = refl
      by_result (Err x) e = absurd (not_got _ _ h.members (sym (file_refused file o q g x e) ∙ h.reads))

  same : (ms : List Flat) → read narrowed_form file ≡ got ms → WellFormed ms → given q ≡ ms
  same = file_given file o q g is_read

  pub readable : Readable q
  readable = subst WellFormed (sym (same h.members h.reads h.formed)) h.formed

  pub answered : {x : Ground} {work work' answer answer' : List ℕ}
      → answer·contract.Fills x.register.records x.words (narrowed_answer (register_on x) (members_of (given q))) (Ok tt) work work' answer answer'
      → AnswersFile file x work work' answer answer'
  answered {x} {work} {work'} {answer} {answer'} b =
      record {
        fills = λ ms k f.
            subst (λ (l : List Flat). answer·contract.Fills x.register.records x.words (narrowed_answer (register_on x) (members_of l)) (Ok tt) work work' answer answer')
            (same ms k f) b;
      }
