-- A step of a reader in a loop: what lies where it stood, and where it stands then. `s` is the file, `e` what is due there.
-- Assumes nothing.
use Rattle.std.specs.Prelude as std
use Rattle.std.specs.Prelude.{◌≡◌, ℕ, List, Option, Some, Ok, IfOk, IfSome}
use mathlib.Core.Path.{◌∙◌, ap, subst}
use Rattle.fields.specs.declared.Due.{Due}
use Rattle.fields.specs.declared.Found.{Found}
use Rattle.fields.specs.declared.Refusal.{Refusal}
use Rattle.fields.specs.Reading.{field_at}
use Rattle.fields.specs.Contract.{field_said, FoundAt}
use Rattle.fields.proofs.Fields.{Handed, seen_at, handed}
use Rattle.field_reader.specs.declared.Reader.{Reader}
use Rattle.field_reader.specs.Reader.{next_place}

-- a field was handed out, and the reader stands past it
pub record Stepped (e : Due) (s : List ℕ) (at : ℕ) (f : Found) (r : Reader) : Type 0 where
  pub field : Handed e s at f
  pub file : r.src.now ≡ s
  pub place : r.at ≡ f.next

module _ (s : List ℕ) (r : Reader) {d e : Due} {a : std.Result (Option Found) Refusal} (k : r.src.now ≡ s) (p : d ≡ e) (q : field_said a ≡ field_at d r.src.now r.at) where
  pub seen_next : {x : std.Result (Option Found) Refusal} → a ≡ x → field_at e s r.at ≡ field_said x
  seen_next u = seen_at s r.at p (q ∙ ap (λ (l : List ℕ). field_at d l r.at) k) u

  pub stepped : IfOk a (λ x. IfSome x (FoundAt r.src.now r.at)) → {r' : Reader} → r'.src ≡ r.src → r'.at ≡ next_place r.at a → {f : Found} → a ≡ Ok (Some f) → Stepped e s r.at f r'
  stepped h m n u = record {
    field = handed s r.at p (q ∙ ap (λ (l : List ℕ). field_at d l r.at) k) (subst (λ (l : List ℕ). IfOk a (λ x. IfSome x (FoundAt l r.at))) k h) u;
    file = ap (λ b. b.now) m ∙ k;
    place = n ∙ ap (next_place r.at) u;
  }
