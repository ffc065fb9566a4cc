-- Demand 3 of computed answers: equal words on a register that conforms, otherwise a subset.
-- Assumes nothing.
use mathlib.Core.Path.{◌≡◌, ap, fun_ext}
use mathlib.Core.List.{List}
use Prim.Native.Nat.{ℕ}
use lib.Dec.{T}
use Rattle.theory.specs.PathExpr.{PathExpr, plain?}
use Rattle.theory.specs.Register.{Register, records, well_formed?}
use Rattle.theory.specs.Sheet.{Sheet, sheet?, conforms?}
use Rattle.theory.specs.Merging.{Member}
use Rattle.theory.specs.Narrowing.{narrow}
use Rattle.theory.specs.Result.{got}
use Rattle.theory.specs.Evaluation.{plain_answer, narrowed_answer}
use Rattle.theory.specs.Words.{answer_words, Subset}
use Rattle.theory.proofs.Tests.{bool_eq}
use Rattle.theory.proofs.Evaluation.{plain_right, narrowed_right}
use Rattle.theory.proofs.Words.{words_subset}
use Rattle.theory.proofs.Demand3.{demand3}

module _ (S : Sheet) (ok : T (sheet? S)) (q : PathExpr) (plain : T (plain? q)) (ms : List Member) (e : narrow S q ≡ got ms)
    (r : Register) (well_formed : T (well_formed? r)) where
  pub answer_sound : (s t : ℕ) → T (narrowed_answer r ms s t) → T (plain_answer r q s t)
  answer_sound s t a = (plain_right r well_formed q s t).1 ((demand3 S ok q plain ms e).sound r s t ((narrowed_right r well_formed ms s t).0 a))

  pub answers_equal : T (conforms? S r) → (s t : ℕ) → narrowed_answer r ms s t ≡ plain_answer r q s t
  answers_equal conforms s t =
      bool_eq (narrowed_answer r ms s t) (plain_answer r q s t) (answer_sound s t)
      (λ a. (narrowed_right r well_formed ms s t).1 ((demand3 S ok q plain ms e).complete r conforms s t ((plain_right r well_formed q s t).0 a)))

  pub answer_words_equal : T (conforms? S r) → answer_words (records r) (narrowed_answer r ms) ≡ answer_words (records r) (plain_answer r q)
  answer_words_equal conforms = ap (answer_words (records r)) (fun_ext (λ s. fun_ext (λ t. answers_equal conforms s t)))

  pub answer_words_subset : Subset (answer_words (records r) (narrowed_answer r ms)) (answer_words (records r) (plain_answer r q))
  answer_words_subset = words_subset (records r) (narrowed_answer r ms) (plain_answer r q) answer_sound
