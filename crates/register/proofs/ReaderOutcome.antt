-- What the reader's result says of the register in the file.
-- Assumes nothing.
use mathlib.Core.Path.{◌≡◌, sym, ap, ◌∙◌}
use mathlib.Core.List.{List}
use Prim.Native.Nat.{ℕ}
use Rattle.std.specs.Prelude as std
use Rattle.std.specs.Prelude.{Ok, Err}
use Rattle.theory.specs.Register.{records}
use Rattle.fields.specs.declared.Refusal.{Refusal}
use Rattle.theory.specs.Result.{refused}
use Rattle.fields.specs.Reading.{read}
use Rattle.fields.specs.Contract.{number_of, place_of, read_said}
use Rattle.fields.proofs.Bools.{told_refused}
use Rattle.register.specs.Form.{register_form, register_in}
use Rattle.register.specs.Contract.{RegisterSizes, sized}
use Rattle.register.specs.LinksAhead.{Accepted}
use Rattle.register.proofs.AcceptedRegister.{accepted_sizes}

-- f says the numbers of what was read
module _ {A : Type 0} (f : A → RegisterSizes) (s : List ℕ) (o : std.Result A Refusal) (h : read_said f o ≡ sized (read register_form s)) where
  pub refused_file : (x : Refusal) → o ≡ Err x → read register_form s ≡ refused (number_of x) (place_of x)
  refused_file x e = told_refused _ (read register_form s) (number_of x) (place_of x) (sym (ap (read_said f) e) ∙ h)

  module _ (x : A) (e : o ≡ Ok x) where
    pub accepted_file : Accepted s
    accepted_file = (accepted_sizes s (f x).records (f x).links (sym (ap (read_said f) e) ∙ h)).0

    pub accepted_records : (f x).records ≡ records (register_in s)
    accepted_records = sym (accepted_sizes s (f x).records (f x).links (sym (ap (read_said f) e) ∙ h)).1
