-- Two questions that have the same pairs on every register have the same plain answer: outcome, work words and answer words.
-- Assumes nothing.
use mathlib.Core.Path.{◌≡◌, refl, ap, fun_ext}
use mathlib.Core.Bool.{Bool}
use mathlib.Core.Logic.{◌↔◌}
use mathlib.Core.List.{List}
use mathlib.Core.Option.{some}
use Prim.Native.Nat.{ℕ}
use lib.Dec.{T}
use Rattle.theory.specs.PathExpr.{PathExpr}
use Rattle.theory.specs.Postfix.{path_of}
use Rattle.theory.specs.Register.{Register, well_formed?, Holds}
use Rattle.theory.specs.Evaluation.{plain_answer}
use Rattle.theory.proofs.Tests.{bool_eq}
use Rattle.theory.proofs.Evaluation.{plain_right}
use Rattle.theory.specs.Result.{Result, got, refused}
use Rattle.fields.specs.Call.{performed}
use Rattle.fields.specs.Reading.{read}
use Rattle.question.specs.Form.{question_form, question_symbols}
use Rattle.register.specs.Form.{register_form}
use Rattle.register.proofs.AcceptedRegister.{accepted_register}
use Rattle.answer.specs.Calls.{answer_task, plain_call}

-- a question's file is read, and asks for a path
pub record AsksFor (question : List ℕ) (p : PathExpr) : Type 0 where
  pub codes : List ℕ
  pub reads : read question_form question ≡ got codes
  pub path : path_of (question_symbols codes) ≡ some p

module _ {x y : List ℕ} {p q : PathExpr} (a : AsksFor x p) (b : AsksFor y q) (same : (r : Register) (s t : ℕ) → Holds r p s t ↔ Holds r q s t) where
  pairs_same : (r : Register) → T (well_formed? r) → (s t : ℕ) → plain_answer r p s t ≡ plain_answer r q s t
  pairs_same r f s t =
      bool_eq (plain_answer r p s t) (plain_answer r q s t)
      (λ h. (plain_right r f q s t).1 ((same r s t).0 ((plain_right r f p s t).0 h)))
      (λ h. (plain_right r f p s t).1 ((same r s t).1 ((plain_right r f q s t).0 h)))

  by_register : (register work answer : List ℕ) (c : Result Register) → read register_form register ≡ c → plain_call x register work answer ≡ plain_call y register work answer
  unfolding plain_call
  by_register register work answer (refused n i) e = rw (a.reads, b.reads, e)
  by_register register work answer (got r) e =
      rw (a.reads, b.reads, e, a.path, b.path)
      (ap (λ (f : ℕ → ℕ → Bool). performed (answer_task r f) work answer) (fun_ext (λ s. fun_ext (λ t. pairs_same r (accepted_register register r e).formed s t))))

  pub same_answer : (register work answer : List ℕ) → plain_call x register work answer ≡ plain_call y register work answer
  same_answer register work answer = by_register register work answer (read register_form register) refl
