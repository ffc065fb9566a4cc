-- What the check yields, from what the readers and the search say.
-- Assumes nothing.
use Rattle.std.specs.Prelude as std
use Rattle.std.specs.Prelude.{Ok, Err}
use mathlib.Core.Path.{◌≡◌, ap}
use mathlib.Core.List.{List}
use Prim.Native.Nat.{ℕ, ◌<◌}
use lib.Dec.{T}
use Rattle.theory.specs.Register.{Edge, Register, records, kind}
use Rattle.theory.specs.Sheet.{Sheet, sheet?, permits?, link_permitted?, breach, or_else}
use Rattle.fields.specs.declared.Refusal.{Refusal}
use Rattle.fields.specs.declared.Source.TheVariants as source
use Rattle.fields.specs.Call.{refuses}
use Rattle.fields.specs.Contract.{number_of, place_of, read_said}
use Rattle.fields.specs.Reading.{read}
use Rattle.sheet.specs.declared.Sheet.{Sheet as Sheet·code}
use Rattle.sheet.specs.Form.{sheet_form}
use Rattle.sheet.specs.Table.{tabled?, table_of}
use Rattle.sheet.specs.Contract.{ReadsInto}
use Rattle.sheet.proofs.Ranges.{accepted_sheet}
use Rattle.sheet.proofs.Tables.{table_permits}
use Rattle.sheet.proofs.ReaderOutcome.{refused_into, told_into}
use Rattle.register.specs.Form.{register_form, register_in}
use Rattle.register.specs.Contract.{RegisterSizes, sized}
use Rattle.register.proofs.AcceptedRegister.{accepted_register, Limits}
use Rattle.register.proofs.ReaderOutcome.{refused_file, accepted_file}
use Rattle.conformance.specs.Check.{obeying, check_of}
use Rattle.conformance.specs.Contract.{failing_said, link_tabled?, first_unknown, first_forbidden, first_breach}
use Rattle.conformance.proofs.Search.{same_failing}

-- the search by a table that permits what the sheet permits is the search by the sheet
pub breach_is : (S : Sheet) (t : List ℕ) (r : Register) → ((a l b : ℕ) → a < 64 → tabled? t a l b ≡ permits? S a l b) → Limits r → first_breach S.kinds t r ≡ breach S r
unfolding breach first_unknown first_forbidden
breach_is S t r same l =
    ap (or_else (first_unknown S.kinds r))
    (same_failing (link_tabled? t r) (link_permitted? S r) (records r) r.links
    (λ (e : Edge) m. same (kind r e.from) e.label (kind r e.to) (l.kinds e.from)))

-- a sheet's own table
own_table : (S : Sheet) → T (sheet? S) → (a l b : ℕ) → a < 64 → tabled? (table_of S.permitted) a l b ≡ permits? S a l b
unfolding tabled?
own_table S ok = table_permits S ok

module _ (s g : List ℕ) {a : std.Result (Unit {0}) Refusal} {x : Sheet·code} (h : ReadsInto (read sheet_form s) a x) where
  pub sheet_refused : {y : Refusal} → a ≡ Err y → refuses source.Sheet (number_of y) (place_of y) ≡ check_of s g
  unfolding check_of
  sheet_refused {y} w = rw (refused_into s h y w)

  module _ (w : a ≡ Ok tt) {A : Type 0} (f : A → RegisterSizes) {b : std.Result A Refusal} (z : read_said f b ≡ sized (read register_form g)) where
    pub register_refused : {y : Refusal} → b ≡ Err y → refuses source.Register (number_of y) (place_of y) ≡ check_of s g
    unfolding check_of
    register_refused {y} u = rw ((told_into s h w).1.reads, refused_file f g b z y u)

    pub checked : {y : A} → b ≡ Ok y → (o : std.Option ℕ) → failing_said o ≡ first_breach x.kinds x.table (register_in g) → obeying (failing_said o) ≡ check_of s g
    unfolding check_of
    checked {y} u o j =
        let (S, d) = told_into s h w in
        let r = accepted_file f g b z y u in
        let i = d.table in
        let k = breach_is S (table_of S.permitted) (register_in g) (own_table S (accepted_sheet s S d.reads)) (accepted_register g (register_in g) r) in
        rw (d.reads, r, ← k, d.kinds, ← i) (ap obeying j)
