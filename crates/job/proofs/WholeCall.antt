-- The call as a whole: 14 for the answer before the result of narrowing, 15 before that, the files before all.
-- Assumes nothing.
use mathlib.Core.Path.{◌≡◌, sym, ap, ◌∙◌}
use mathlib.Core.List.{List}
use Prim.Native.Nat.{ℕ, ◌*◌, ◌<◌, ◌≤◌}
use native.Mathlib.Omega.{arith}
use lib.ListN.{length, take}
use borrow.Author.Tests.{lt-ltb, le-ltb}
use Rattle.std.specs.Prelude as std
use Rattle.std.specs.Prelude.{Ok, Err}
use Rattle.theory.specs.Sheet.{Sheet}
use Rattle.theory.specs.Words.{row_words}
use Rattle.theory.specs.Result.{got, refused}
use Rattle.fields.specs.declared.Failure.{Failure}
use Rattle.fields.specs.declared.Refusal.{Refusal}
use Rattle.fields.specs.declared.Refusal.TheVariants.{AreaShort, WorkShort}
use Rattle.fields.specs.declared.Size.{Size}
use Rattle.fields.specs.declared.Source.TheVariants as source
use Rattle.fields.specs.Reading.{read}
use Rattle.fields.specs.Call.{refuses, Returns}
use Rattle.fields.specs.Contract.{about_of, written_said}
use Rattle.fields.proofs.Calls.{about_said, performed_15, performed_done}
use Rattle.sheet.specs.declared.Sheet as declared·Sheet
use Rattle.sheet.specs.Form.{sheet_form}
use Rattle.sheet.proofs.Ranges.{accepted_sheet}
use Rattle.sheet.proofs.ReaderOutcome.{Told}
use Rattle.question.specs.declared.codes.Question.{Question}
use Rattle.question.specs.Form.{question_form}
use Rattle.question.proofs.ReaderOutcome as question
use Rattle.register.specs.Form.{register_form, register_in}
use Rattle.evaluation.specs.declared.ground.Ground.{Ground}
use Rattle.evaluation.specs.Standing.{register_on, size}
use Rattle.evaluation.proofs.Grounds.{grounded}
use Rattle.rows.specs.Kept.{Wrote}
use Rattle.rows.proofs.Words.{kept_refl}
use Rattle.rows.proofs.Areas.{zero_words}
use Rattle.narrowing.specs.Call.{narrow_need}
use Rattle.narrowing.proofs.FromReaders.{handed, ready}
use Rattle.answer.specs.Calls.{answer_need}
use Rattle.job.specs.Call.{results, larger, job_need, filled, job_task, job_call}
use Rattle.job.specs.Internal.{due, TellsSheet, Asked, Roomy, Completes, JobFills, Settles}
use Rattle.job.proofs.Needs.{larger_both}

module _ (g : Ground) where
  -- the need is enough for both halves
  pub roomy : {work : List ℕ} {need : ℕ} → need ≡ larger narrow_need (28 * size g) → need ≤ length work → Roomy g work
  roomy e l =
      let (a, b) = larger_both narrow_need (28 * size g) in
      record { narrowing = omega (arith, a, e, l); answering = omega (arith, b, e, l) }

  room_is : answer_need (register_on g) ≡ size g
  room_is = ap (λ (k : ℕ). k * row_words k) (grounded g).count ∙ ap (λ (k : ℕ). g.register.records * k) g.wide

  need_is : {need : ℕ} → need ≡ larger narrow_need (28 * size g) → need ≡ job_need (register_on g)
  need_is e = e ∙ ap (λ (k : ℕ). larger narrow_need (28 * k)) (sym room_is)

  module _ {qs : List ℕ} {x : declared·Sheet.Sheet} {work answer area : List ℕ} where
    -- ---- 14
    pub fills_14 : length answer < size g → JobFills qs x g work work answer answer area area (Err (AreaShort (size g)))
    unfolding filled
    fills_14 l =
        let e = lt-ltb (length answer) (answer_need (register_on g)) (omega (arith, room_is)) in
        record { kept = kept_refl 0 (larger narrow_need (28 * size g)) work; gives = λ S d. record { is = rw (e, room_is) } }

    module _ {work₁ answer₁ area₁ : List ℕ} {r : std.Result Size Refusal} where
      pub fills_rest : size g ≤ length answer → Completes qs x g work work₁ answer answer₁ area area₁ r → JobFills qs x g work work₁ answer answer₁ area area₁ r
      unfolding filled
      fills_rest l c =
          let e = le-ltb (length answer) (answer_need (register_on g)) (omega (arith, room_is)) in
          record { kept = c.kept; gives = λ S d. record { is = rw e (c.gives S d).is } }

    -- ---- 15, and the work words
    module _ {need : ℕ} (k : need ≡ larger narrow_need (28 * size g)) where
      pub settles_15 : length work < need → Settles qs x g work work answer answer area area (Err (WorkShort need))
      unfolding job_task
      settles_15 l = record { returns = λ S d. performed_15 (job_task (register_on g) (due S qs g)) work (results answer area) (need_is k) l }

      pub settles_rest : {work₁ work₂ answer₁ area₁ : List ℕ} {r : std.Result Size Refusal} → need ≤ length work → JobFills qs x g work work₁ answer answer₁ area area₁ r
          → Wrote 0 need (λ j. 0) work₁ work₂
          → Settles qs x g work work₂ answer answer₁ area area₁ r
      unfolding job_task
      settles_rest l c w =
          let m = need_is k in
          let z = zero_words (job_need (register_on g)) (rw (← k, m) at c.kept) (rw m at w) (rw m at l) in
          record { returns = λ S d. performed_done (job_task (register_on g) (due S qs g)) work (results answer area) (rw m at l) (c.gives S d) z }

-- ---- the files
module _ (s q g work answer area : List ℕ) where
  pub sheet_refused : {n p : ℕ} → read sheet_form s ≡ refused n p → Returns (job_call s q g work answer area) (refuses source.Sheet n p) work (results answer area)
  unfolding job_call
  sheet_refused e = record { is = rw e }

  module _ (S : Sheet) (e : read sheet_form s ≡ got S) where
    pub question_refused : {n p : ℕ} → read question_form q ≡ refused n p → Returns (job_call s q g work answer area) (refuses source.Question n p) work (results answer area)
    unfolding job_call
    question_refused f = record { is = rw (e, f) }

    module _ (cs : List ℕ) (f : read question_form q ≡ got cs) where
      pub register_refused : {n p : ℕ} → read register_form g ≡ refused n p → Returns (job_call s q g work answer area) (refuses source.Register n p) work (results answer area)
      unfolding job_call
      register_refused h = record { is = rw (e, f, h) }

      pub files_read : {x : declared·Sheet.Sheet} → TellsSheet x S → {b : Ground} → b.register.file.now ≡ g → {r : std.Result Size Refusal} {o : std.Result Size Failure} → o ≡ about_of source.Work r
          → {work' answer' area' : List ℕ} → Settles cs x b work work' answer answer' area area' r → Returns (job_call s q g work answer area) (written_said o) work' (results answer' area')
      unfolding job_call
      files_read d {b} k {r} h y =
          let w : read register_form g ≡ got (register_in g) = rw k at b.register.accepted in
          rw h (record { is = rw (e, f, w, about_said source.Work r (λ z. z)) (rw k at (y.returns S d).is) })

-- what the readers hand on is what the job asks
module _ {s : List ℕ} {x : declared·Sheet.Sheet} {S : Sheet} (h : Told s x.table x.kinds x.links S) where
  pub tells : TellsSheet x S
  tells = record { handed = handed h; valid = accepted_sheet s S h.reads }

  pub asked : {q : List ℕ} (y : Question) {cs : List ℕ} → question.Told q y.codes y.count cs → Asked (take y.count y.codes) x
  asked y g = record { ready = ready h g; sheet = S; tells = tells }
