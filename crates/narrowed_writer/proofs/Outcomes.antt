-- The writer's outcomes, from the verdict.
-- Assumes nothing.
use Prim.Native.Nat.{ℕ, ◌<◌, ◌≤◌}
use mathlib.Core.Path.{◌≡◌, refl, subst}
use mathlib.Core.List.{List}
use lib.ListN.{length}
use lib.Seq.{sets}
use borrow.Author.Tests.{lt-leb, le-leb}
use Rattle.theory.specs.Result.{got, refused}
use Rattle.fields.specs.Reading.{read}
use Rattle.narrowed_question.specs.declared.Members.{Members}
use Rattle.narrowed_question.specs.Form.{narrowed_form}
use Rattle.narrowed_question.specs.Writing.{encode}
use Rattle.narrowed_question.specs.ArrayMembers.{given}
use Rattle.std.specs.Prelude as std
use Rattle.fields.specs.declared.Refusal.{Refusal}
use Rattle.fields.specs.Contract.{read_said}
use Rattle.narrowed_writer.specs.Verdict.{verdict}
use Rattle.narrowed_writer.specs.Outcome.{file_of, judgement, Writes}
use Rattle.narrowed_writer.proofs.Verdict.{Whole, verdict_is, given_normal}

module _ (q : Members) where
  judged_refused : (i j : ℕ) → verdict (given q) ≡ refused i j → judgement q ≡ refused i j
  unfolding judgement file_of
  judged_refused i j e = subst (Whole (encode (given q)) (read narrowed_form (encode (given q))) (given q)) e (verdict_is (given q) (given_normal q))

  pub judged_got : (n : ℕ) → verdict (given q) ≡ got n → (judgement q ≡ got (given q)) × (n ≡ length (file_of q))
  unfolding judgement file_of
  judged_got n e = subst (Whole (encode (given q)) (read narrowed_form (encode (given q))) (given q)) e (verdict_is (given q) (given_normal q))

  module _ (before : List ℕ) (r : std.Result ℕ Refusal) where
    pub writes_refused : (i j : ℕ) → read_said (λ n. n) r ≡ refused i j → verdict (given q) ≡ refused i j → Writes q before r before
    writes_refused i j h e =
        let z = judged_refused i j e in
        record { outcome = rw z h; area = rw z refl }

    pub writes_short : (n : ℕ) → read_said (λ n. n) r ≡ refused 14 n → verdict (given q) ≡ got n → length before < n → Writes q before r before
    writes_short n h e l =
        let (z, w) = judged_got n e in
        let t = lt-leb (length (file_of q)) (length before) (subst (λ (m : ℕ). length before < m) w l) in
        record { outcome = rw (z, t, ← w) h; area = rw (z, t) refl }

    pub writes_all : (n : ℕ) (after : List ℕ) → read_said (λ n. n) r ≡ got (length (file_of q)) → verdict (given q) ≡ got n → n ≤ length before
        → after ≡ sets before 0 (file_of q) → Writes q before r after
    writes_all n after h e l a =
        let (z, w) = judged_got n e in
        let t = le-leb (length (file_of q)) (length before) (subst (λ (m : ℕ). m ≤ length before) w l) in
        record { outcome = rw (z, t) h; area = rw (z, t) a }
