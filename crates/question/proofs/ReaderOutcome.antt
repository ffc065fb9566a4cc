-- What the reader's outcome says of the question in the file.
-- Assumes nothing.
use mathlib.Core.Path.{◌≡◌, sym, ap, ◌∙◌}
use mathlib.Core.List.{List}
use Prim.Native.Nat.{ℕ, ◌-◌}
use lib.ListN.{length, take, replicate}
use lib.Seq.{take-append_seam}
use Rattle.std.specs.Prelude as std
use Rattle.std.specs.Prelude.{Ok, Err}
use Rattle.fields.specs.declared.Refusal.{Refusal}
use Rattle.theory.specs.Result.{got, refused}
use Rattle.fields.specs.Padded.{padded}
use Rattle.fields.specs.Reading.{read}
use Rattle.fields.specs.Contract.{number_of, place_of, read_said}
use Rattle.fields.proofs.Bools.{onward_got, told_refused}
use Rattle.question.specs.declared.codes.Question.{Question}
use Rattle.question.specs.Form.{question_form}
use Rattle.question.specs.Contract.{ReadsQuestion, codes_in}

-- the file's codes are cs, which were handed on
pub record Told (s codes : List ℕ) (count : ℕ) (cs : List ℕ) : Type 0 where
  pub reads : read question_form s ≡ got cs
  pub many : length cs ≡ count
  pub array : codes ≡ padded 32 cs

-- they are the array's first ones
pub told_front : {s codes cs : List ℕ} {count : ℕ} → Told s codes count cs → take count codes ≡ cs
unfolding padded
told_front {codes = codes} {cs = cs} t =
    ap (λ (n : ℕ). take n codes) (sym t.many) ∙ ap (take (length cs)) t.array ∙ take-append_seam cs (replicate (32 - length cs) 0)

module _ (s : List ℕ) (r : std.Result Question Refusal) (h : ReadsQuestion (read question_form s) r) where
  pub refused_question : (x : Refusal) → r ≡ Err x → read question_form s ≡ refused (number_of x) (place_of x)
  refused_question x e = told_refused _ (read question_form s) (number_of x) (place_of x) (sym (ap (read_said (λ q. q.count)) e) ∙ h.outcome)

  pub told_question : (q : Question) → r ≡ Ok q → (cs : List ℕ) × Told s q.codes q.count cs
  told_question q e =
      let (cs, a, b) = onward_got (λ cs. got (length cs)) (read question_form s) q.count (sym h.outcome ∙ ap (read_said (λ q. q.count)) e) in
      (cs, record { reads = a; many = cc; array = (rw e at h.codes) ∙ ap codes_in a })
