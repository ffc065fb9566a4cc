-- What is printed of an accepted job is the number of its members, and the pairs of their answer on the register.
-- Assumes nothing.
use mathlib.Core.Path.{◌≡◌, ap, ◌∙◌}
use mathlib.Core.Bool.{Bool, ◌&&◌}
use mathlib.Core.List.{List}
use Prim.Native.Nat.{ℕ, ◌+◌, ◌*◌, ◌/◌, ◌%◌, ◌<◌, ◌≤◌}
use native.Mathlib.Omega.{arith}
use lib.ListN.{length, get_or, drop, get_or-append}
use lib.Seq.{sets, sets-eq}
use borrow.Author.Tests.{lt-ltb}
use Rattle.bits.specs.Bit.{bit_of}
use Rattle.theory.specs.Register.{records}
use Rattle.theory.specs.Evaluation.{narrowed_answer}
use Rattle.theory.specs.Words.{row_words, answer_words}
use Rattle.theory.proofs.Words.{words_length, answer_bit}
use Rattle.fields.specs.declared.Size.{Size}
use Rattle.fields.specs.Call.{Outcome, accepts}
use Rattle.register.specs.Form.{register_in}
use Rattle.rows.specs.Row.{row_bit}
use Rattle.relation.specs.Pairs.{pair_at}
use Rattle.relation.proofs.Making.{row_le}
use Rattle.job.proofs.Accepted as job·Accepted
use Rattle.printing.specs.Text.{answer_text, text_of}
use Rattle.printing.proofs.Same.{answer_same}
use Rattle.paths_main.specs.Output.{zeros, job_of, printed}
use Rattle.paths_main.proofs.Printing.{accepted_job, job_register}

-- ---- the pairs of an area that begins with the words of f
module _ (area : List ℕ) (n : ℕ) (f : ℕ → ℕ → Bool) (room : n * row_words n ≤ length area) where
  area_word : (k : ℕ) → k < n * row_words n → get_or (sets area 0 (answer_words n f)) k 0 ≡ get_or (answer_words n f) k 0
  area_word k h =
      let us = answer_words n f in
      let size = words_length n f in
      ap (λ (ws : List ℕ). get_or ws k 0) (sets-eq us area 0 (omega (arith, size)))
      ∙ get_or-append us (drop (0 + length us) area) 0 k (omega (arith, size))

  area_pair : (s t : ℕ) → s < n → t < n → pair_at (sets area 0 (answer_words n f)) 0 (row_words n) s t ≡ f s t
  unfolding row_bit
  area_pair s t h l =
      let w = row_words n in
      let at : 0 + s * w + t / 64 ≡ s * w + t / 64 = omega arith in
      ap (λ (k : ℕ). bit_of (get_or (sets area 0 (answer_words n f)) k 0) (t % 64)) at
      ∙ ap (λ (x : ℕ). bit_of x (t % 64)) (area_word (s * w + t / 64) (omega (arith, row_le w h)))
      ∙ answer_bit n f s t h (omega arith)
      ∙ ap (λ (b : Bool). b && f s t) (lt-ltb t n l)

  area_text : (z : Size) (o : Outcome Size) (k : ℕ) (ws : List ℕ) → o ≡ accepts z → k ≡ n → ws ≡ sets area 0 (answer_words n f) → text_of o k ws ≡ answer_text z.count f n
  area_text z o k ws e d w = rw (e, d, w) (answer_same (pair_at (sets area 0 (answer_words n f)) 0 (row_words n)) f n area_pair z.count)

-- ---- of the files' bytes
module _ (s q g : List ℕ) (z : Size) (e : (job_of s q g).outcome ≡ accepts z) where
  abbrev job : job·Accepted.Accepted s q g (zeros 8192) (zeros 256) (job_of s q g).areas.answer (zeros 65536) (job_of s q g).areas.area z
  job = accepted_job s q g z e

  pub printed_pairs : printed s q g ≡ answer_text z.count (narrowed_answer job.register job.narrowing.members) (records job.register)
  unfolding printed
  printed_pairs =
      area_text (zeros 256) (records job.register) (narrowed_answer job.register job.narrowing.members) job.room
      z (job_of s q g).outcome (records (register_in g)) (job_of s q g).areas.answer e (ap records (job_register s q g z e)) job.words
