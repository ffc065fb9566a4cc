-- The calls, by what their files say: a refusal of the one, of the other, or the result of both.
-- Assumes nothing.
use mathlib.Core.Path.{◌≡◌}
use mathlib.Core.List.{List}
use Prim.Native.Nat.{ℕ}
use Rattle.theory.specs.PathExpr.{Symbol}
use Rattle.theory.specs.Postfix.{path_of}
use Rattle.theory.specs.Evaluation.{narrowed_answer}
use Rattle.fields.specs.declared.Source.TheVariants as source
use Rattle.theory.specs.Result.{got, refused}
use Rattle.fields.specs.Reading.{read}
use Rattle.fields.specs.Call.{Outcome, refuses, Returns, performed}
use Rattle.question.specs.Form.{question_form, question_symbols}
use Rattle.register.specs.Form.{register_form, register_in}
use Rattle.register.specs.LinksAhead.{Accepted}
use Rattle.narrowed_question.specs.Form.{Flat, narrowed_form}
use Rattle.answer.specs.Calls.{asked, answer_task, members_of, plain_call, narrowed_call}

module _ (q s work answer : List ℕ) where
  pub plain_refused : {n p : ℕ} → read question_form q ≡ refused n p → Returns (plain_call q s work answer) (refuses source.Question n p) work answer
  unfolding plain_call
  plain_refused e = record { is = rw e }

  pub narrowed_refused : {n p : ℕ} → read narrowed_form q ≡ refused n p → Returns (narrowed_call q s work answer) (refuses source.Narrowed n p) work answer
  unfolding narrowed_call
  narrowed_refused e = record { is = rw e }

  module _ (cs : List ℕ) (e : read question_form q ≡ got cs) where
    pub plain_register : {n p : ℕ} → read register_form s ≡ refused n p → Returns (plain_call q s work answer) (refuses source.Register n p) work answer
    unfolding plain_call
    plain_register h = record { is = rw (e, h) }

    pub plain_accepted : {o : Outcome (Unit {0})} {xs ys : List ℕ} → Accepted s → (ss : List Symbol) → ss ≡ question_symbols cs
        → Returns (performed (answer_task (register_in s) (asked (register_in s) (path_of ss))) work answer) o xs ys → Returns (plain_call q s work answer) o xs ys
    unfolding plain_call
    plain_accepted h ss k a = record { is = rw (e, h, ← k) a.is }

  module _ (ms : List Flat) (e : read narrowed_form q ≡ got ms) where
    pub narrowed_register : {n p : ℕ} → read register_form s ≡ refused n p → Returns (narrowed_call q s work answer) (refuses source.Register n p) work answer
    unfolding narrowed_call
    narrowed_register h = record { is = rw (e, h) }

    pub narrowed_accepted : {o : Outcome (Unit {0})} {xs ys : List ℕ} → Accepted s
        → Returns (performed (answer_task (register_in s) (narrowed_answer (register_in s) (members_of ms))) work answer) o xs ys → Returns (narrowed_call q s work answer) o xs ys
    unfolding narrowed_call
    narrowed_accepted h a = record { is = rw (e, h) a.is }
