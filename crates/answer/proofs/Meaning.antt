-- The bits of an accepted answer are the pairs of the published meaning, and no others.
-- Assumes nothing.
use mathlib.Core.Path.{◌≡◌, refl, sym, ap, subst, ◌∙◌}
use mathlib.Core.Bool.{Bool, true, false, ◌&&◌}
use mathlib.Core.List.{List, ◌++◌}
use mathlib.Core.Option.{some}
use Prim.Native.Nat.{ℕ, ◌+◌, ◌*◌, ◌/◌, ◌%◌, ◌<◌, ◌≤◌}
use native.Mathlib.Nat.{zero-add}
use native.Mathlib.Omega.{arith}
use lib.Dec.{T, ltb}
use lib.ListN.{length, get_or, drop, get_or-append}
use lib.Seq.{sets, sets-eq}
use borrow.Author.Tests.{lt-ltb, le-ltb, ltb-false}
use Rattle.bits.specs.Bit.{bit_of}
use Rattle.theory.specs.PathExpr.{PathExpr}
use Rattle.theory.specs.Postfix.{path_of}
use Rattle.theory.specs.Register.{Register, records, well_formed?, Holds}
use Rattle.theory.specs.Demand3.{Answer}
use Rattle.theory.specs.Evaluation.{plain_answer, narrowed_answer}
use Rattle.theory.specs.Words.{row_words, answer_words}
use Rattle.theory.proofs.Tests.{and_right, and_both}
use Rattle.theory.proofs.Evaluation.{holds_bounds, plain_right, narrowed_right}
use Rattle.theory.proofs.Words.{words_length, answer_bit}
use Rattle.theory.specs.Result.{got}
use Rattle.fields.specs.Call.{accepts, returned, zeroed, performed}
use Rattle.fields.proofs.Calls.{not_accepted, performed_rest, performed_accepted}
use Rattle.fields.specs.declared.Source.TheVariants as source
use Rattle.fields.specs.Reading.{read}
use Rattle.question.specs.Form.{question_form, question_symbols}
use Rattle.register.specs.Form.{register_form}
use Rattle.register.proofs.AcceptedRegister.{accepted_register}
use Rattle.narrowed_question.specs.Form.{Flat, narrowed_form}
use Rattle.relation.proofs.Making.{row_le}
use Rattle.answer.specs.Calls.{answer_need, work_need, answered, answer_task, asked, members_of, plain_call, narrowed_call}

-- bit t mod 64 of word s × W + t div 64
abbrev pub bit_at : Register → List ℕ → ℕ → ℕ → Bool
bit_at r ws s t = bit_of (get_or ws (s * row_words (records r) + t / 64) 0) (t % 64)

-- with words enough nothing is refused
pub answered_enough : (r : Register) (f : ℕ → ℕ → Bool) (work answer : List ℕ) → work_need r ≤ length work → answer_need r ≤ length answer
    → performed (answer_task r f) work answer ≡ returned (accepts tt) (zeroed (work_need r) work) (sets answer 0 (answer_words (records r) f))
unfolding answer_task answered
answered_enough r f work answer h l = performed_rest (answer_task r f) work answer h ∙ rw (le-ltb (length answer) (answer_need r) l)

-- the area's bit is that of the definition
module _ (r : Register) (f : ℕ → ℕ → Bool) (work answer : List ℕ) (ok : (performed (answer_task r f) work answer).outcome ≡ accepts tt) where
  written : (answer_need r ≤ length answer) × ((performed (answer_task r f) work answer).areas ≡ sets answer 0 (answer_words (records r) f))
  unfolding answer_task answered
  written = by_room (ltb (length answer) (answer_need r)) refl
    where
      enough : work_need r ≤ length work
      enough = performed_accepted (answer_task r f) work answer ok

      is : performed (answer_task r f) work answer ≡ returned (answered r f answer).outcome (zeroed (work_need r) work) (answered r f answer).areas
      is = performed_rest (answer_task r f) work answer enough

      by_room : (b : Bool) → ltb (length answer) (answer_need r) ≡ b → (answer_need r ≤ length answer) × ((performed (answer_task r f) work answer).areas ≡ sets answer 0 (answer_words (records r) f))
      by_room true q = not_accepted source.Work 14 (answer_need r) tt (rw (is, q) at ok)
      by_room false q = (ltb-false (length answer) (answer_need r) q, rw (is, q))

  pub word_answered : (k : ℕ) → k < answer_need r → get_or (performed (answer_task r f) work answer).areas k 0 ≡ get_or (answer_words (records r) f) k 0
  word_answered k h =
      let us = answer_words (records r) f in
      let n = words_length (records r) f in
      let room = written.0 in
      let e : sets answer 0 us ≡ us ++ drop (length us) answer = sets-eq us answer 0 (omega (arith, n)) ∙ ap (λ (n : ℕ). us ++ drop n answer) (zero-add (length us)) in
      ap (λ (ws : List ℕ). get_or ws k 0) (written.1 ∙ e) ∙ get_or-append us (drop (length us) answer) 0 k (omega (arith, n))

  bit_answered : (s t : ℕ) → s < records r → t / 64 < row_words (records r) → bit_at r (performed (answer_task r f) work answer).areas s t ≡ ltb t (records r) && f s t
  bit_answered s t h l =
      ap (λ (x : ℕ). bit_of x (t % 64)) (word_answered (s * row_words (records r) + t / 64) (omega (arith, row_le (row_words (records r)) h))) ∙ answer_bit (records r) f s t h l

module _ (q s work answer : List ℕ) (r : Register) (er : read register_form s ≡ got r) where
  formed : T (well_formed? r)
  formed = (accepted_register s r er).formed

  -- a plain answer
  module _ (cs : List ℕ) (p : PathExpr) (eq : read question_form q ≡ got cs) (ep : path_of (question_symbols cs) ≡ some p) where
    pub same : plain_call q s work answer ≡ performed (answer_task r (asked r (some p))) work answer
    unfolding plain_call
    same = rw (eq, er, ep)

  module _ (cs : List ℕ) (p : PathExpr) (eq : read question_form q ≡ got cs) (ep : path_of (question_symbols cs) ≡ some p) (ok : (plain_call q s work answer).outcome ≡ accepts tt) where
    abbrev is : plain_call q s work answer ≡ performed (answer_task r (asked r (some p))) work answer
    is = same cs p eq ep

    pub plain_word : (k : ℕ) → k < answer_need r → get_or (plain_call q s work answer).areas k 0 ≡ get_or (answer_words (records r) (plain_answer r p)) k 0
    plain_word k h = ap (λ x. get_or x.areas k 0) is ∙ word_answered r (asked r (some p)) work answer (sym (ap (λ x. x.outcome) is) ∙ ok) k h

    bit : (i t : ℕ) → i < records r → t / 64 < row_words (records r) → bit_at r (plain_call q s work answer).areas i t ≡ ltb t (records r) && plain_answer r p i t
    bit i t h l = ap (λ x. bit_at r x.areas i t) is ∙ bit_answered r (asked r (some p)) work answer (sym (ap (λ x. x.outcome) is) ∙ ok) i t h l

    pub plain_pairs : (i t : ℕ) → i < records r → t / 64 < row_words (records r)
        → (T (bit_at r (plain_call q s work answer).areas i t) → Holds r p i t) × (Holds r p i t → T (bit_at r (plain_call q s work answer).areas i t))
    plain_pairs i t h l = (
      λ b. (plain_right r formed p i t).0 (and_right (ltb t (records r)) (plain_answer r p i t) (subst T (bit i t h l) b)),
      λ x. subst T (sym (bit i t h l)) (and_both (ltb t (records r)) (plain_answer r p i t) (subst T (sym (lt-ltb t (records r) (holds_bounds r formed p i t x).1)) tt)
          ((plain_right r formed p i t).1 x)),
    )

  -- a narrowed answer
  module _ (ms : List Flat) (eq : read narrowed_form q ≡ got ms) where
    pub same_narrowed : narrowed_call q s work answer ≡ performed (answer_task r (narrowed_answer r (members_of ms))) work answer
    unfolding narrowed_call
    same_narrowed = rw (eq, er)

  module _ (ms : List Flat) (eq : read narrowed_form q ≡ got ms) (ok : (narrowed_call q s work answer).outcome ≡ accepts tt) where
    abbrev is_narrowed : narrowed_call q s work answer ≡ performed (answer_task r (narrowed_answer r (members_of ms))) work answer
    is_narrowed = same_narrowed ms eq

    bit_narrowed : (i t : ℕ) → i < records r → t / 64 < row_words (records r)
        → bit_at r (narrowed_call q s work answer).areas i t ≡ ltb t (records r) && narrowed_answer r (members_of ms) i t
    bit_narrowed i t h l =
        ap (λ x. bit_at r x.areas i t) is_narrowed
        ∙ bit_answered r (narrowed_answer r (members_of ms)) work answer (sym (ap (λ x. x.outcome) is_narrowed) ∙ ok) i t h l

    pub narrowed_pairs : (i t : ℕ) → i < records r → t / 64 < row_words (records r)
        → (T (bit_at r (narrowed_call q s work answer).areas i t) → Answer r (members_of ms) i t)
        × (Answer r (members_of ms) i t → T (bit_at r (narrowed_call q s work answer).areas i t))
    narrowed_pairs i t h l = (
      λ b. (narrowed_right r formed (members_of ms) i t).0 (and_right (ltb t (records r)) (narrowed_answer r (members_of ms) i t) (subst T (bit_narrowed i t h l) b)),
      λ x. subst T (sym (bit_narrowed i t h l))
          (and_both (ltb t (records r)) (narrowed_answer r (members_of ms) i t)
          (subst T (sym (lt-ltb t (records r) (holds_bounds r formed x.0.path i t x.2.holds).1)) tt) ((narrowed_right r formed (members_of ms) i t).1 x)),
    )
