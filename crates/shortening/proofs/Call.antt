-- The call, put together: from the codes that are left to the file, and from the question's file to its codes.
-- Assumes nothing.
use mathlib.Core.Path.{◌≡◌, sym, ap, ◌∙◌, subst}
use mathlib.Core.List.{List}
use Prim.Native.Nat.{ℕ}
use native.Mathlib.Omega.{arith}
use lib.ListN.{length, take}
use Rattle.theory.specs.PathExpr.{PathExpr, codes}
use Rattle.theory.specs.Simplification.{normal_form}
use Rattle.fields.specs.declared.Source.TheVariants as source
use Rattle.theory.specs.Result.{refused}
use Rattle.fields.specs.Call.{Outcome, refuses, Gives, file_in}
use Rattle.fields.specs.declared.Size.{Size}
use Rattle.fields.specs.Reading.{read}
use Rattle.question.specs.Form.{question_form}
use Rattle.question.specs.Writing.{question_bytes}
use Rattle.question.proofs.Paths.{accepted_question}
use Rattle.question.proofs.WrittenThenRead.{codes_path}
use Rattle.question.proofs.ReaderOutcome.{Told, told_front}
use Rattle.shortening.specs.Call.{codes_of, shortened_codes, shortened_in, shorten_call}
use Rattle.shortening.specs.Pass.{CodesOf, OfQuestion}

-- ---- the codes that are left are the shortened ones
pub leaves : {qs short : List ℕ} (p : PathExpr) → CodesOf qs p → short ≡ codes (normal_form p) → short ≡ shortened_codes qs
unfolding shortened_codes
leaves p a e = e ∙ ap codes_of (sym (codes_path p a.plain a.links)) ∙ ap shortened_codes a.are

-- ---- their file
pub puts : (cs : List ℕ) {short : List ℕ} (file : List ℕ) {file' : List ℕ} {o : Outcome Size} → short ≡ shortened_codes cs
    → Gives (file_in (length short) (question_bytes short) file) o file' → Gives (shortened_in cs file) o file'
unfolding shortened_in
puts cs file {file'} {o} e f = subst (λ (xs : List ℕ). Gives (file_in (length xs) (question_bytes xs) file) o file') e f

-- ---- the question's file: its codes xs were handed on
module _ {s qs : List ℕ} {count : ℕ} {cs : List ℕ} (t : Told s qs count cs) {xs : List ℕ} (e : xs ≡ take count qs) where
  are : xs ≡ cs
  are = e ∙ told_front t

  pub asked : OfQuestion xs
  asked =
      let (p, a) = accepted_question s cs t.reads in
      (p, record { are = a.same_codes ∙ sym are; few = omega (arith, ap length are, a.few, a.count); plain = a.plain; links = a.links })

  pub shortened : (file : List ℕ) {file' : List ℕ} {o : Outcome Size} → Gives (shortened_in xs file) o file' → Gives (shorten_call s file) o file'
  unfolding shorten_call
  shortened file {file'} {o} f = record { is = rw t.reads (subst (λ (ys : List ℕ). Gives (shortened_in ys file) o file') are f).is }

pub question_refused : (s file : List ℕ) {n p : ℕ} → read question_form s ≡ refused n p → Gives (shorten_call s file) (refuses source.Question n p) file
unfolding shorten_call
question_refused s file e = record { is = rw e }
