-- How a file is judged, by what its reader gives.
-- Assumes nothing.
use mathlib.Core.Path.{◌≡◌, refl, sym, ap, ◌∙◌}
use mathlib.Core.List.{List}
use Prim.Native.Nat.{ℕ}
use Rattle.std.specs.Prelude as std
use Rattle.std.specs.Prelude.{Ok, Err}
use Rattle.fields.specs.declared.Refusal.{Refusal}
use Rattle.fields.specs.declared.Source.{Source}
use Rattle.theory.specs.Result.{Result, got, refused}
use Rattle.fields.specs.Contract.{number_of, place_of, read_said}
use Rattle.fields.specs.Reading.{read}
use Rattle.fields.proofs.Bools.{onward_got, told_refused}
use Rattle.narrowed_question.specs.declared.Members.{Members}
use Rattle.narrowed_question.specs.Form.{Flat, narrowed_form}
use Rattle.narrowed_question.specs.Contract.{ReadsNarrowed}
use lib.ListN.{length}
use Rattle.paths.specs.OutcomeNumbers.{judged, judged_by}

-- the reader refuses where the form does, with its number and place, and what it accepts the form reads
pub judged_is : {A B : Type 0} (s : Source) (a : Result A) (o : std.Result B Refusal)
    → ((x : Refusal) → o ≡ Err x → a ≡ refused (number_of x) (place_of x)) → ((x : B) → o ≡ Ok x → (v : A) × (a ≡ got v)) → judged_by s o ≡ judged s a
judged_is s a (Ok x) err ok = sym (ap (judged s) (ok x refl).1)
judged_is s a (Err r) err ok = sym (ap (judged s) (err r refl))

-- a narrowed question's file
module _ (s : List ℕ) (o : std.Result Members Refusal) (h : ReadsNarrowed (read narrowed_form s) o) where
  pub refused_narrowed : (x : Refusal) → o ≡ Err x → read narrowed_form s ≡ refused (number_of x) (place_of x)
  refused_narrowed x e = told_refused _ (read narrowed_form s) (number_of x) (place_of x) (sym (ap (read_said (λ q. q.count)) e) ∙ h.outcome)

  pub told_narrowed : (q : Members) → o ≡ Ok q → (ms : List Flat) × (read narrowed_form s ≡ got ms)
  told_narrowed q e =
      let (ms, a, b) = onward_got (λ ms. got (length ms)) (read narrowed_form s) q.count (sym h.outcome ∙ ap (read_said (λ q. q.count)) e) in
      (ms, a)
