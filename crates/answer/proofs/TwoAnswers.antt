-- Demand 3 on a register's file: a plain answer of a question and a narrowed answer of the file of its members, neither refused.
-- SPECIFICATION, Promises.
-- Assumes nothing.
use mathlib.Core.Path.{◌≡◌, refl, sym, ap, subst, ◌∙◌}
use mathlib.Core.List.Memᴰ.{head as here}
use mathlib.Core.List.Memᴰ.{tail as there}
use mathlib.Core.List.{List, [], ◌∷◌, map, Memᴰ as In}
use mathlib.Core.Option.{Option, some}
use Prim.Native.Nat.{ℕ, ◌<◌}
use lib.Dec.{T}
use lib.ListN.{get_or}
use Rattle.bits.specs.Bit.{bit_of}
use Rattle.theory.specs.PathExpr.{PathExpr, plain?}
use Rattle.theory.specs.Postfix.{path_of}
use Rattle.theory.specs.Register.{Register, records}
use Rattle.theory.specs.Sheet.{Sheet, sheet?, conforms?}
use Rattle.theory.specs.Merging.{Member}
use Rattle.theory.specs.Narrowing.{MemberFits, narrow}
use Rattle.theory.specs.Evaluation.{plain_answer, narrowed_answer}
use Rattle.theory.specs.Words.{answer_words}
use Rattle.theory.proofs.Members.{narrow_fits}
use Rattle.theory.proofs.Answers.{answer_words_equal, answer_words_subset}
use Rattle.theory.specs.Result.{got}
use Rattle.fields.specs.Call.{accepts, performed}
use Rattle.fields.specs.Reading.{read}
use Rattle.question.specs.Form.{question_form, question_symbols}
use Rattle.register.specs.Form.{register_form}
use Rattle.register.proofs.AcceptedRegister.{accepted_register}
use Rattle.narrowed_question.specs.Members.{flat_of, narrowed_file}
use Rattle.narrowed_question.proofs.Formed.{narrowed_back}
use Rattle.narrowed_question.proofs.Paths.{path_back}
use Rattle.answer.specs.Calls.{answer_need, answer_task, with_path, members_of, plain_call, narrowed_call}
use Rattle.answer.proofs.Meaning.{word_answered, plain_word, same_narrowed}

-- the members come back from their file
pub members_back : (ms : List Member) → ((m : Member) → In m ms → MemberFits m) → members_of (map flat_of ms) ≡ ms
members_back [] f = refl
members_back (m ∷ ms) f =
    ap (λ (o : Option PathExpr). with_path (flat_of m) o (members_of (map flat_of ms))) (path_back m (f m (here refl)))
    ∙ ap (λ (l : List Member). m ∷ l) (members_back ms (λ n i. f n (there i)))

module _
    (S : Sheet) (ok : T (sheet? S)) (q : PathExpr) (plain : T (plain? q)) (ms : List Member) (e : narrow S q ≡ got ms)
    (question register : List ℕ) (cs : List ℕ) (eq : read question_form question ≡ got cs) (ep : path_of (question_symbols cs) ≡ some q)
    (r : Register) (er : read register_form register ≡ got r) (work answer work' answer' : List ℕ)
    (accepted : (plain_call question register work answer).outcome ≡ accepts tt)
    (accepted' : (narrowed_call (narrowed_file ms) register work' answer').outcome ≡ accepts tt) where
  narrowed_same : narrowed_call (narrowed_file ms) register work' answer' ≡ performed (answer_task r (narrowed_answer r ms)) work' answer'
  narrowed_same =
      same_narrowed (narrowed_file ms) register work' answer' r er (map flat_of ms) (narrowed_back S ok q plain ms e)
      ∙ ap (λ (l : List Member). performed (answer_task r (narrowed_answer r l)) work' answer') (members_back ms (narrow_fits S ok q plain ms e).each)

  abbrev plain_words : List ℕ
  plain_words = (plain_call question register work answer).areas

  abbrev narrowed_words : List ℕ
  narrowed_words = (narrowed_call (narrowed_file ms) register work' answer').areas

  plain_at : (k : ℕ) → k < answer_need r → get_or plain_words k 0 ≡ get_or (answer_words (records r) (plain_answer r q)) k 0
  plain_at = plain_word question register work answer r er cs q eq ep accepted

  narrowed_at : (k : ℕ) → k < answer_need r → get_or narrowed_words k 0 ≡ get_or (answer_words (records r) (narrowed_answer r ms)) k 0
  narrowed_at k h =
      ap (λ x. get_or x.areas k 0) narrowed_same ∙ word_answered r (narrowed_answer r ms) work' answer' (sym (ap (λ x. x.outcome) narrowed_same) ∙ accepted') k h

  -- "their N times W words are equal if the register obeys"
  pub words_equal : T (conforms? S r) → (k : ℕ) → k < answer_need r → get_or narrowed_words k 0 ≡ get_or plain_words k 0
  words_equal c k h = narrowed_at k h ∙ ap (λ (ws : List ℕ). get_or ws k 0) (answer_words_equal S ok q plain ms e r (accepted_register register r er).formed c) ∙ sym (plain_at k h)

  -- "and otherwise each bit set in the narrowed answer is set in the plain one"
  pub bits_subset : (k j : ℕ) → k < answer_need r → T (bit_of (get_or narrowed_words k 0) j) → T (bit_of (get_or plain_words k 0) j)
  bits_subset k j h b =
      subst (λ (x : ℕ). T (bit_of x j)) (sym (plain_at k h))
      (answer_words_subset S ok q plain ms e r (accepted_register register r er).formed k j (subst (λ (x : ℕ). T (bit_of x j)) (narrowed_at k h) b))
