-- What the reader's outcome says of the sheet in the file.
-- Assumes nothing.
use Rattle.std.specs.Prelude as std
use Rattle.std.specs.Prelude.{Ok, Err}
use mathlib.Core.Path.{◌≡◌, sym, ap, ◌∙◌}
use mathlib.Core.List.{List}
use Prim.Native.Nat.{ℕ}
use Rattle.theory.specs.Sheet.{Sheet}
use Rattle.fields.specs.declared.Refusal.{Refusal}
use Rattle.theory.specs.Result.{got, refused}
use Rattle.fields.specs.Reading.{read}
use Rattle.fields.specs.Contract.{number_of, place_of}
use Rattle.fields.proofs.Bools.{onward_got, told_refused}
use Rattle.sheet.specs.declared.Sheet as declared·Sheet
use Rattle.sheet.specs.Form.{sheet_form}
use Rattle.sheet.specs.Table.{table_of, table_in}
use Rattle.sheet.specs.Contract.{ReadsSheet, SheetSizes, outcome_said, by_value, ReadsInto}

-- the file is the sheet S, whose numbers and table were handed on
pub record Told (s t : List ℕ) (k e : ℕ) (S : Sheet) : Type 0 where
  pub reads : read sheet_form s ≡ got S
  pub kinds : S.kinds ≡ k
  pub links : S.link_names ≡ e
  pub table : t ≡ table_of S.permitted

module _ (s : List ℕ) (a : std.Result declared·Sheet.Sheet Refusal) (h : ReadsSheet (read sheet_form s) a) where
  pub refused_sheet : (x : Refusal) → a ≡ Err x → read sheet_form s ≡ refused (number_of x) (place_of x)
  refused_sheet x w = told_refused _ (read sheet_form s) (number_of x) (place_of x) (sym (ap outcome_said w) ∙ h.outcome)

  pub told_sheet : (x : declared·Sheet.Sheet) → a ≡ Ok x → (S : Sheet) × Told s x.table x.kinds x.links S
  told_sheet x w =
      let (S, r, b) = onward_got (λ S. got (record { kinds = S.kinds; links = S.link_names })) (read sheet_form s) _ (sym h.outcome ∙ ap outcome_said w) in
      let c : ◌≡◌ {A = SheetSizes} (record { kinds = S.kinds; links = S.link_names }) (record { kinds = x.kinds; links = x.links }) = cc b in
      let t : x.table ≡ table_in (read sheet_form s) = rw w at h.table in
      (S, record { reads = r; kinds = ap (λ (p : SheetSizes). p.kinds) c; links = ap (λ (p : SheetSizes). p.links) c; table = t ∙ ap table_in r })

-- the same of a struct that was lent
module _ (s : List ℕ) {a : std.Result (Unit {0}) Refusal} {x : declared·Sheet.Sheet} (h : ReadsInto (read sheet_form s) a x) where
  pub refused_into : (f : Refusal) → a ≡ Err f → read sheet_form s ≡ refused (number_of f) (place_of f)
  refused_into f w = refused_sheet s (by_value a x) h.reads f (ap (λ (b : std.Result (Unit {0}) Refusal). by_value b x) w)

  pub told_into : a ≡ Ok tt → (S : Sheet) × Told s x.table x.kinds x.links S
  told_into w = told_sheet s (by_value a x) h.reads x (ap (λ (b : std.Result (Unit {0}) Refusal). by_value b x) w)
