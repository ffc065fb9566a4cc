-- What the job's outcome and areas say of the text that is printed.
-- Assumes nothing.
use mathlib.Core.Path.{◌≡◌, refl, sym, ap, ap₂, ◌∙◌}
use mathlib.Core.Bool.{Bool, true, false}
use mathlib.Core.List.{List}
use Prim.Native.Nat.{ℕ, ◌+◌, ◌*◌, ◌≤◌}
use native.Mathlib.Nat.{mul-le-mul}
use native.Mathlib.Omega.{arith}
use lib.Dec.{leb}
use lib.ListN.{length, take, drop, length-replicate}
use lib.Seq.{sets-eq, take_at, length-sets}
use borrow.Author.Tests.{leb-true, leb-false}
use Rattle.theory.specs.Register.{records}
use Rattle.theory.specs.Words.{row_words, answer_words}
use Rattle.theory.specs.Evaluation.{narrowed_answer}
use Rattle.fields.specs.declared.Source.{Source}
use Rattle.fields.specs.declared.Refusal.{Refusal}
use Rattle.std.specs.Prelude as std
use Rattle.std.specs.Prelude.{Ok, Err}
use Rattle.fields.specs.declared.Failure.{Failure}
use Rattle.fields.specs.declared.Size.{Size}
use Rattle.theory.specs.Result.{got, refused}
use Rattle.fields.specs.Call.{Outcome, accepts, Returns}
use Rattle.fields.specs.Reading.{read}
use Rattle.fields.specs.Contract.{number_of, place_of, read_said, written_said}
use Rattle.register.specs.declared.Register as declared·Register
use Rattle.register.specs.Contract.{RegisterSizes, sizes, sized}
use Rattle.register.proofs.ReaderOutcome.{refused_file, accepted_records}
use Rattle.register.specs.Form.{register_form, register_in, value_of}
use Rattle.relation.specs.Pairs.{pair_at}
use Rattle.encode.specs.BytesWritten.{BytesWritten}
use Rattle.narrowing.specs.Call.{narrow_need}
use Rattle.answer.specs.Calls.{work_need}
use Rattle.job.specs.Call.{Results, results, job_call}
use Rattle.job.proofs.Needs.{larger_both}
use Rattle.job.proofs.Accepted as job·Accepted
use Rattle.printing.specs.Text.{answer_text, refusal_text}
use Rattle.printing.proofs.Room.{answer_most, refusal_most}
use Rattle.paths_main.specs.Output.{zeros, copies, job_of, printed, Prints, Printable, answer_of}

-- ---- the area
prints : {o out : List ℕ} {n : ℕ} {text : List ℕ} → BytesWritten o out 0 n text → length text ≤ length o → Prints text n out
prints {o} {out} {n} {text} w h = record {
  within = omega (arith, w.next_is, ap length w.area, length-sets o 0 text);
  bytes = ap₂ take n_is (w.area ∙ sets-eq text o 0 (omega arith)) ∙ take_at text (drop (0 + length text) o) (length text) refl;
}
  where
    n_is : n ≡ length text
    n_is = omega (arith, w.next_is)

-- ---- the register of an accepted job
zeros_length : (n : ℕ) → length (zeros n) ≡ n
unfolding zeros
zeros_length n = length-replicate n 0

small : (n : ℕ) → 28 * (n * row_words n) ≤ 8192 → n ≤ 128
small n h = go (leb n 128) refl
  where
    go : (b : Bool) → leb n 128 ≡ b → n ≤ 128
    go true e = leb-true n 128 e
    go false e =
        let many : 129 ≤ n = leb-false n 128 e in
        let rows : 3 ≤ row_words n = omega arith in
        absurd (omega (arith, mul-le-mul many rows))

pub accepted_job : (s q g : List ℕ) (z : Size) → (job_of s q g).outcome ≡ accepts z
    → job·Accepted.Accepted s q g (zeros 8192) (zeros 256) (job_of s q g).areas.answer (zeros 65536) (job_of s q g).areas.area z
unfolding job_of
accepted_job s q g z e = job·Accepted.accepted s q g (zeros 8192) (zeros 256) (zeros 65536) z e

pub job_register : (s q g : List ℕ) (z : Size) (e : (job_of s q g).outcome ≡ accepts z) → register_in g ≡ (accepted_job s q g z e).register
unfolding register_in
job_register s q g z e = ap value_of (accepted_job s q g z e).register_reads

module _ (s q g : List ℕ) {o : std.Result Size Failure} {work answer area : List ℕ} (j : Returns (job_of s q g) (written_said o) work (results answer area)) where
  printed_refused : (f : Failure) → o ≡ Err f → printed s q g ≡ refusal_text f.source (number_of f.refusal) (place_of f.refusal)
  unfolding printed
  printed_refused f e = rw (← j.is, e)

  module _ (z : Size) (e : o ≡ Ok z) where
    printed_accepted : printed s q g ≡ answer_of z.count answer (register_in g)
    unfolding printed
    printed_accepted = rw (← j.is, e)

    abbrev told : (job_of s q g).outcome ≡ accepts z
    told = sym (ap (λ x. x.outcome) j.is) ∙ ap written_said e

    abbrev job : job·Accepted.Accepted s q g (zeros 8192) (zeros 256) (job_of s q g).areas.answer (zeros 65536) (job_of s q g).areas.area z
    job = accepted_job s q g z told

    abbrev is_register : register_in g ≡ job.register
    is_register = job_register s q g z told

    fits : Printable g answer
    fits = record {
      accepted = job.register_reads ∙ ap got (sym is_register);
      few = rw is_register (small (records job.register) (omega (arith, (larger_both narrow_need (work_need job.register)).1, job.enough, zeros_length 8192)));
      room = rw is_register (omega (
        arith,
        job.room,
        zeros_length 256,
        ap length (ap (λ x. x.areas.answer) j.is ∙ job.words),
        length-sets (zeros 256) 0
            (answer_words (records job.register) (narrowed_answer job.register job.narrowing.members)),
      ));
    }

-- ---- the code's call, with the areas as it lends them
copies_zeros : (n : ℕ) → copies 0 n ≡ zeros n
unfolding copies zeros
copies_zeros n = refl

as_lent : (s q g : List ℕ) {work answer file : List ℕ} → work ≡ copies 0 8192 → answer ≡ copies 0 256 → file ≡ copies 0 65536
    → {o : Outcome Size} {work' : List ℕ} {to : Results} → Returns (job_call s q g work answer file) o work' to → Returns (job_of s q g) o work' to
unfolding job_of
as_lent s q g ew ea ef j = rw (ew ∙ copies_zeros 8192, ea ∙ copies_zeros 256, ef ∙ copies_zeros 65536) at j

module _ (s q g : List ℕ) {work answer file : List ℕ} (ew : work ≡ copies 0 8192) (ea : answer ≡ copies 0 256) (ef : file ≡ copies 0 65536)
    {o : std.Result Size Failure} {work' answer' file' : List ℕ} (j : Returns (job_call s q g work answer file) (written_said o) work' (results answer' file')) where
  pub job_fits : (z : Size) → o ≡ Ok z → Printable g answer'
  job_fits z e = fits s q g (as_lent s q g ew ea ef j) z e

  module _ {out out' : List ℕ} {n : ℕ} (room : 131128 ≤ length out) where
    pub prints_refused : (f : Failure) → o ≡ Err f → BytesWritten out out' 0 n (refusal_text f.source (number_of f.refusal) (place_of f.refusal)) → Prints (printed s q g) n out'
    prints_refused f e w =
        rw (printed_refused s q g (as_lent s q g ew ea ef j) f e) (prints w (omega (arith, refusal_most f.source (number_of f.refusal) (place_of f.refusal))))

    pub prints_accepted : (z : Size) → o ≡ Ok z → BytesWritten out out' 0 n (answer_of z.count answer' (register_in g)) → Prints (printed s q g) n out'
    prints_accepted z e w =
        rw (printed_accepted s q g (as_lent s q g ew ea ef j) z e)
        (prints w (omega (arith, answer_most z.count (pair_at answer' 0 (row_words (records (register_in g)))) (records (register_in g)) (job_fits z e).few)))

pub refusal_room : (f : Source) (n p room : ℕ) → 131128 ≤ room → 0 + length (refusal_text f n p) ≤ room
refusal_room f n p room h = omega (arith, refusal_most f n p)

-- ---- its number of records
-- what a register's reader says
abbrev said : declared·Register.Register → RegisterSizes
said r = sizes r.records r.links

module _ (g ws : List ℕ) (o : std.Result declared·Register.Register Refusal) (h : read_said said o ≡ sized (read register_form g)) (f : Printable g ws) where
  pub never_refused : (r : Refusal) → o ≡ Err r → ⊥
  never_refused r e =
      let same : got (register_in g) ≡ refused (number_of r) (place_of r) = sym f.accepted ∙ refused_file said g o h r e in
      let z : ◌≡◌ {A = ℕ} 0 1 = cc in
      omega arith

  module _ (r : declared·Register.Register) (w : ℕ) (e : o ≡ Ok r) (u : w ≡ row_words r.records) where
    is_records : r.records ≡ records (register_in g)
    is_records = accepted_records said g o h r e

    pub few_records : r.records ≤ 128
    few_records = omega (arith, is_records, f.few)

    pub words_room : r.records * w ≤ length ws
    words_room = rw (u, is_records) f.room

    pub is_answer : (m : ℕ) → answer_text m (pair_at ws 0 w) r.records ≡ answer_of m ws (register_in g)
    is_answer m = rw (u, is_records)

    pub answer_room : (m room : ℕ) → 131128 ≤ room → 0 + length (answer_text m (pair_at ws 0 w) r.records) ≤ room
    answer_room m room k = omega (arith, answer_most m (pair_at ws 0 w) r.records few_records)
