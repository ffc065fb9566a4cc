-- What is told, number by number; and 0 is told of acceptance alone.
-- Assumes nothing.
use mathlib.Core.Path.{◌≡◌, refl, sym, ap, subst, ◌∙◌}
use mathlib.Core.List.{List}
use Prim.Native.Nat.{ℕ}
use native.Mathlib.Omega.{arith}
use Rattle.fields.specs.declared.Refusal.{Refusal}
use Rattle.fields.specs.declared.Refusal.TheVariants.{Truncated, Unexpected, OutOfRange, NotAscending, WrongEnd, Operands, UnnamedLink, TooMany, TooLong, AreaShort, WorkShort, Breach}
use Rattle.fields.specs.declared.Source.{Source}
use Rattle.std.specs.Prelude as std
use Rattle.std.specs.Prelude.{Ok, Err}
use Rattle.fields.specs.declared.Failure.{Failure}
use Rattle.fields.specs.declared.Size.{Size}
use Rattle.fields.specs.Call.{Outcome, refuses, Output, Gives, Returned, Returns}
use Rattle.fields.specs.Contract.{number_of, place_of, source_number, outcome_said, written_said}
use Rattle.paths.specs.OutcomeNumbers.{Told, tells, no_more, of_size, Tells, TellsOutput, TellsCall}

pub tells_same : {a b c a' b' c' : ℕ} → a ≡ a' → b ≡ b' → c ≡ c' → tells a b c ≡ tells a' b' c'
tells_same e f g = cc

-- no refusal has number 0
numbered : (r : Refusal) → number_of r ≡ 0 → ⊥
numbered (Truncated p) e = omega arith
numbered (Unexpected p) e = omega arith
numbered (OutOfRange p) e = omega arith
numbered (NotAscending p) e = omega arith
numbered (WrongEnd p) e = omega arith
numbered (Operands p) e = omega arith
numbered (UnnamedLink p) e = omega arith
numbered (TooMany p) e = omega arith
numbered (TooLong p) e = omega arith
numbered (AreaShort p) e = omega arith
numbered (WorkShort p) e = omega arith
numbered (Breach p) e = omega arith

-- nor is one told by 0
untold : (r : Refusal) {t : Told} {p f : ℕ} → t ≡ tells (number_of r) p f → t.number ≡ 0 → ⊥
untold r e z = numbered r (sym (ap (λ x. x.number) e) ∙ z)

-- ---- of each outcome
pub tells_written : {o : std.Result Size Failure} {z : Size} → o ≡ Ok z → Tells of_size (written_said o) (tells 0 z.count z.bytes)
tells_written {z = z} e = rw e (record { is = refl; only = λ x. (z, refl) })

pub tells_unwritten : {o : std.Result Size Failure} {f : Failure} {t : Told} → o ≡ Err f → t ≡ tells (number_of f.refusal) (place_of f.refusal) (source_number f.source)
    → Tells of_size (written_said o) t
tells_unwritten {f = f} e w = rw e (record { is = w; only = λ z. absurd (untold f.refusal w z) })

-- where nothing more is told, two zeros stand for the size
pub tells_nothing : {o : std.Result (Unit {0}) Failure} {t : Told} → o ≡ Ok tt → Tells of_size (written_said (Ok (record { count = 0; bytes = 0 }))) t → Tells no_more (outcome_said o) t
tells_nothing e h = rw e (record { is = h.is; only = λ z. (tt, refl) })

pub tells_refused : {o : std.Result (Unit {0}) Failure} {f : Failure} {t : Told} → o ≡ Err f → t ≡ tells (number_of f.refusal) (place_of f.refusal) (source_number f.source)
    → Tells no_more (outcome_said o) t
tells_refused {f = f} e w = rw e (record { is = w; only = λ z. absurd (untold f.refusal w z) })

-- ---- of a call, by what it returns
module _ {A R : Type 0} {f : A → Told} {o : Outcome A} {t : Told} (h : Tells f o t) where
  pub tells_output : {areas : R} {due : Output A R} → Gives due o areas → TellsOutput f due t areas
  tells_output g = record { outcome = subst (λ (x : Output A R). Tells f x.outcome t) g.is h; areas_are = ap (λ (x : Output A R). x.areas) g.is }

  pub tells_call : {work : List ℕ} {areas : R} {due : Returned A R} → Returns due o work areas → TellsCall f due t work areas
  tells_call g =
      record {
        outcome = subst (λ (x : Returned A R). Tells f x.outcome t) g.is h;
        work_is = ap (λ (x : Returned A R). x.work) g.is;
        areas_are = ap (λ (x : Returned A R). x.areas) g.is;
      }
