-- Demand 2's last sentence: a narrowed question written and read is unchanged, and so are the bytes of one read and written.
-- Assumes nothing.
use Prim.Native.Nat.{ℕ, ◌+◌, ◌≤◌}
use mathlib.Core.Path.{◌≡◌, refl, ap, ◌∙◌, sym}
use mathlib.Core.Bool.{Bool, true, false, cond}
use mathlib.Core.List.{List}
use lib.ListN.{length, take, drop}
use lib.Seq.{sets, sets-eq, take-append_seam}
use lib.Dec.{leb}
use native.Mathlib.Omega.{arith}
use borrow.Author.Tests.{le-leb, leb-true}
use Rattle.theory.specs.Result.{Result, got, refused}
use Rattle.fields.specs.Reading.{read}
use Rattle.fields.proofs.Bools.{not_got}
use Rattle.fields.specs.Writing.{Bytes}
use Rattle.narrowed_question.specs.declared.Members.{Members}
use Rattle.narrowed_question.specs.Form.{Flat, narrowed_form}
use Rattle.narrowed_question.specs.Writing.{encode}
use Rattle.narrowed_question.specs.ArrayMembers.{given}
use Rattle.narrowed_question.specs.Contract.{Packed}
use Rattle.narrowed_question.proofs.MembersInArrays.{packed_given}
use Rattle.narrowed_question.proofs.ReadThenWritten.{encode_read, accepted_formed}
use Rattle.narrowed_writer.specs.Verdict.{verdict}
use Rattle.narrowed_writer.specs.Outcome.{written, area_after, file_of, judgement}
use Rattle.narrowed_writer.proofs.Verdict.{Whole, verdict_is, given_normal}

-- ---- written and read: the members that were given
judged_given : (q : Members) (v : List Flat) → judgement q ≡ got v → v ≡ given q
unfolding judgement file_of
judged_given q v e = by_verdict (verdict (given q)) (verdict_is (given q) (given_normal q))
  where
    by_verdict : (a : Result ℕ) → Whole (encode (given q)) (read narrowed_form (encode (given q))) (given q) a → v ≡ given q
    by_verdict (got n) w = let z : got v ≡ got (given q) = sym e ∙ w.0 in cc
    by_verdict (refused i j) w = absurd (not_got i j v (sym w ∙ e))

read_file : (q : Members) → read narrowed_form (file_of q) ≡ judgement q
unfolding judgement
read_file q = refl

-- the part of the area that was written
front : (area bytes : List ℕ) → length bytes ≤ length area → take (length bytes) (sets area 0 bytes) ≡ bytes
front area bytes h =
    let z : 0 + length bytes ≤ length area = omega arith in
    ap (take (length bytes)) (sets-eq bytes area 0 z) ∙ take-append_seam bytes (drop (0 + length bytes) area)

pub written_read : (q : Members) (area : List ℕ) (n : ℕ) → written (judgement q) (file_of q) (length area) ≡ got n
    → read narrowed_form (take n (area_after (judgement q) (file_of q) area)) ≡ got (given q)
written_read q area n e = by_judgement (judgement q) refl e
  where
    by_room : (b : Bool) (v : List Flat) → leb (length (file_of q)) (length area) ≡ b → judgement q ≡ got v → cond b (got (length (file_of q))) (refused 14 (length (file_of q))) ≡ got n
        → read narrowed_form (take n (cond b (sets area 0 (file_of q)) area)) ≡ got (given q)
    by_room false v t j e = absurd (not_got 14 (length (file_of q)) n e)
    by_room true v t j e =
        let z : length (file_of q) ≡ n = cc in
        ap (λ (m : ℕ). read narrowed_form (take m (sets area 0 (file_of q)))) (sym z)
        ∙ ap (read narrowed_form) (front area (file_of q) (leb-true (length (file_of q)) (length area) t))
        ∙ read_file q ∙ j ∙ ap got (judged_given q v j)

    by_judgement : (a : Result (List Flat)) → judgement q ≡ a → written a (file_of q) (length area) ≡ got n
        → read narrowed_form (take n (area_after a (file_of q) area)) ≡ got (given q)
    by_judgement (refused i j) h e = absurd (not_got i j n e)
    by_judgement (got v) h e = by_room (leb (length (file_of q)) (length area)) v refl h e

-- ---- read and written: the bytes that were read
module _ (s : List ℕ) (h : Bytes s) (v : List Flat) (e : read narrowed_form s ≡ got v) (q : Members) (p : Packed v q) where
  pub file_back : file_of q ≡ s
  unfolding file_of
  file_back = ap encode (packed_given q v (accepted_formed s h v e) p) ∙ encode_read s h v e

  judged_back : judgement q ≡ got v
  judged_back = sym (read_file q) ∙ ap (read narrowed_form) file_back ∙ e

  pub read_written : (area : List ℕ) → length s ≤ length area
      → (written (judgement q) (file_of q) (length area) ≡ got (length s)) × (take (length s) (area_after (judgement q) (file_of q) area) ≡ s)
  read_written area l = (rw (judged_back, file_back, le-leb (length s) (length area) l) refl, rw (judged_back, file_back, le-leb (length s) (length area) l) (front area s l))
