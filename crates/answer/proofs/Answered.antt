-- The outcome of a call and its areas, from its parts.
-- Assumes nothing.
use mathlib.Core.Path.{◌≡◌, refl, sym, subst}
use mathlib.Core.Bool.{Bool, true, false, cond}
use mathlib.Core.List.{List, [], ◌∷◌}
use mathlib.Core.Option.{Option, some}
use Prim.Native.Nat.{ℕ, ◌*◌, ◌^◌, ◌<◌, ◌≤◌}
use native.Mathlib.Omega.{arith}
use lib.Dec.{ltb}
use lib.ListN.{length, get_or}
use lib.Seq.{sets}
use borrow.Author.Tests.{lt-ltb, le-ltb}
use Rattle.theory.specs.PathExpr.{PathExpr}
use Rattle.theory.specs.TransitiveClosure.{look}
use Rattle.theory.specs.Lists.{some?}
use Rattle.theory.specs.Merging.{Member}
use Rattle.theory.specs.Register.{Register, records}
use Rattle.theory.specs.Evaluation.{evaluate, plain_answer, narrowed_answer, member_answer}
use Rattle.theory.specs.Words.{row_words, answer_words}
use Rattle.std.specs.Prelude as std
use Rattle.std.specs.Prelude.{Ok, Err}
use Rattle.fields.specs.declared.Failure.{Failure}
use Rattle.fields.specs.declared.Refusal.TheVariants.{AreaShort}
use Rattle.fields.specs.declared.Source.TheVariants as source
use Rattle.fields.specs.Call.{accepts, refuses, output, Gives, Returns, performed}
use Rattle.fields.proofs.Calls.{performed_15, performed_done}
use Rattle.fields.specs.Contract.{failure, outcome_said}
use Rattle.register.specs.Form.{register_in}
use Rattle.rows.specs.Kept.{Kept, Wrote}
use Rattle.rows.specs.Row.{row_bit, Row}
use Rattle.rows.proofs.Words.{kept_refl, kept_trans, kept_in}
use Rattle.evaluation.specs.Grounded.{Grounded}
use Rattle.evaluation.specs.Stack.{Stored, Evaluated}
use Rattle.evaluation.proofs.Grounds.{limits}
use Rattle.evaluation.proofs.Tables.{evaluate_past}
use Rattle.answer.specs.Calls.{answer_need, work_need, answered, answer_task, asked}
use Rattle.answer.specs.Contract.{Fills}
use Rattle.answer.specs.Internal.{Adds}
use Rattle.rows.proofs.Areas.{zero_words}
use Rattle.answer.proofs.Areas.{stored_words, stored_copied, stored_added}

-- ---- with work words enough
pub fills_short : {n w : ℕ} {answer : List ℕ} (f : ℕ → ℕ → Bool) (work : List ℕ) → length answer < n * w → Fills n w f (Err (failure source.Work (AreaShort (n * w)))) work work answer answer
fills_short {n} {w} {answer} f work h = record { outcome = rw (lt-ltb (length answer) (n * w) h); area = rw (lt-ltb (length answer) (n * w) h); kept = kept_refl 0 (28 * (n * w)) work }

fills_full : {n w : ℕ} {work work' answer answer' : List ℕ} (f : ℕ → ℕ → Bool) → row_words n ≡ w → n * w ≤ length answer → Kept 0 (28 * (n * w)) work work' → Kept 0 (n * w) answer answer'
    → Stored answer' 0 n w f → ((s t : ℕ) → n ≤ t → f s t ≡ false) → ((i : ℕ) → get_or answer' i 0 < 2 ^ 64) → Fills n w f (Ok tt) work work' answer answer'
fills_full {n} {w} {work} {work'} {answer} {answer'} f e h k a st past fits = record {
  outcome = rw (le-ltb (length answer) (n * w) h);
  area =
      rw (le-ltb (length answer) (n * w) h)
      (stored_words n f (subst (λ (v : ℕ). Kept 0 (n * v) answer answer') (sym e) a) (subst (λ (v : ℕ). Stored answer' 0 n v f) (sym e) st) past fits
      (subst (λ (v : ℕ). n * v ≤ length answer) (sym e) h));
  kept = kept_in k (omega arith) (omega arith);
}

module _ {s : List ℕ} {n w : ℕ} (ground : Grounded s n w) where
  past : (p : PathExpr) (i t : ℕ) → n ≤ t → look (evaluate (register_in s) p) i t ≡ false
  past p i t h = evaluate_past (register_in s) (limits ground).formed p i t (omega (arith, ground.count))

  no_member : (ms : List Member) (i t : ℕ) → n ≤ t → narrowed_answer (register_in s) ms i t ≡ false
  unfolding narrowed_answer
  no_member ms i t h = go ms
    where
      go : (ms : List Member) → some? (member_answer (register_in s) i t) ms ≡ false
      go [] = refl
      go (m ∷ ms) = rw (past m.path i t h, go ms)

  module _ {work work' answer answer' : List ℕ} (room : n * w ≤ length answer) (fits : (i : ℕ) → get_or answer' i 0 < 2 ^ 64) where
    pub fills_plain : (p : PathExpr) (o : Option PathExpr) (need : ℕ) → need ≡ n * w → o ≡ some p → Evaluated (register_in s) n w work work' p → Row 0 need (row_bit work' 0) answer answer'
        → Fills n w (asked (register_in s) o) (Ok tt) work work' answer answer'
    unfolding plain_answer
    fills_plain p o need q e ev copied =
        let c = subst (λ (k : ℕ). Row 0 k (row_bit work' 0) answer answer') q copied in
        subst (λ (x : Option PathExpr). Fills n w (asked (register_in s) x) (Ok tt) work work' answer answer') (sym e)
        (fills_full (asked (register_in s) (some p)) ground.wide room (kept_in ev.kept (omega arith) (omega arith))
        (kept_in c.kept (omega arith) (omega arith)) (stored_copied c ev.pairs) (past p) fits)

    pub fills_narrowed : {answer₁ : List ℕ} (ms : List Member) (need : ℕ) → need ≡ n * w → Wrote 0 need (λ j. 0) answer answer₁
        → Adds (register_in s) n w (narrowed_answer (register_in s) ms) work work' answer₁ answer'
        → Fills n w (narrowed_answer (register_in s) ms) (Ok tt) work work' answer answer'
    fills_narrowed {answer₁} ms need q cleared a =
        let c = subst (λ (k : ℕ). Wrote 0 k (λ j. 0) answer answer₁) q cleared in
        fills_full (narrowed_answer (register_in s) ms) ground.wide room a.kept
        (kept_trans c.kept a.pairs.kept (omega arith) (omega arith) (omega arith) (omega arith)) (stored_added (narrowed_answer (register_in s) ms) c a.pairs) (no_member ms) fits

-- ---- 15, or the result
module _ (r : Register) (f : ℕ → ℕ → Bool) (work answer : List ℕ) where
  -- in rows of w words for n records
  abbrev Short : ℕ → ℕ → Type 0
  Short n w = length work < 28 * (n * w) → Returns (performed (answer_task r f) work answer) (refuses source.Work 15 (28 * (n * w))) work answer

  short : Short (records r) (row_words (records r))
  unfolding answer_task
  short h = performed_15 (answer_task r f) work answer refl h

  abbrev Rest : ℕ → ℕ → Type 0
  Rest n w = (o : std.Result (Unit {0}) Failure) (work₁ work₂ answer₁ : List ℕ) (need : ℕ) → need ≡ 28 * (n * w) → need ≤ length work → Fills n w f o work work₁ answer answer₁
      → Wrote 0 need (λ j. 0) work₁ work₂ → Returns (performed (answer_task r f) work answer) (outcome_said o) work₂ answer₁

  filled : (o : std.Result (Unit {0}) Failure) {work₁ answer₁ : List ℕ} → Fills (records r) (row_words (records r)) f o work work₁ answer answer₁ → Gives (answered r f answer) (outcome_said o) answer₁
  unfolding answered
  filled o {answer₁ = answer₁} g = record { is = by_room (ltb (length answer) (answer_need r)) g.outcome g.area }
    where
      by_room : (b : Bool) → outcome_said o ≡ cond b (refuses source.Work 14 (answer_need r)) (accepts tt) → answer₁ ≡ cond b answer (sets answer 0 (answer_words (records r) f))
          → output (outcome_said o) answer₁ ≡ cond b (output (refuses source.Work 14 (answer_need r)) answer) (output (accepts tt) (sets answer 0 (answer_words (records r) f)))
      by_room true p q = rw (p, q)
      by_room false p q = rw (p, q)

  rest : Rest (records r) (row_words (records r))
  unfolding answer_task
  rest o work₁ work₂ answer₁ need e h g c =
      let l = rw e at h in
      performed_done (answer_task r f) work answer l (filled o g) (zero_words (work_need r) g.kept (subst (λ (k : ℕ). Wrote 0 k (λ j. 0) work₁ work₂) e c) l)

  module _ {n w : ℕ} (count : records r ≡ n) (wide : w ≡ row_words n) where
    pub answers_15 : Short n w
    answers_15 = subst (λ (v : ℕ). Short n v) (sym wide) (subst (λ (k : ℕ). Short k (row_words k)) count short)

    pub answers_rest : Rest n w
    answers_rest = subst (λ (v : ℕ). Rest n v) (sym wide) (subst (λ (k : ℕ). Rest k (row_words k)) count rest)
