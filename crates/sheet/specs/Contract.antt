-- What the code says of the reading of a sheet.
-- Assumes nothing.
use Rattle.std.specs.Prelude as std
use Rattle.std.specs.Prelude.{◌≡◌, [], ℕ, IfOk, Ok, Err}
use Rattle.theory.specs.Sheet.{Sheet}
use Rattle.theory.specs.Result.{Result, got, onward}
use Rattle.fields.specs.declared.Refusal.{Refusal}
use Rattle.fields.specs.Contract.{read_said}
use Rattle.sheet.specs.declared.Sheet as declared·Sheet
use Rattle.sheet.specs.Table.{table_of, table_in}

-- ---- the numbers of kinds and of links
pub record SheetSizes : Type 0 where
  pub kinds : ℕ
  pub links : ℕ

abbrev pub outcome_said : std.Result declared·Sheet.Sheet Refusal → Result SheetSizes
outcome_said r = read_said (λ (x : declared·Sheet.Sheet). record { kinds = x.kinds; links = x.links }) r

abbrev pub sizes : Result Sheet → Result SheetSizes
sizes a = onward (λ S. got (record { kinds = S.kinds; links = S.link_names })) a

-- the outcome, and every word of the table
pub record ReadsSheet (a : Result Sheet) (r : std.Result declared·Sheet.Sheet Refusal) : Type 0 where
  pub outcome : outcome_said r ≡ sizes a
  pub table : IfOk r (λ (x : declared·Sheet.Sheet). x.table ≡ table_in a)

-- ---- the same, into a struct that is lent
-- no kinds, no links, nothing permitted
pub record Blank (x : declared·Sheet.Sheet) : Type 0 where
  pub kinds : x.kinds ≡ 0
  pub links : x.links ≡ 0
  pub table : x.table ≡ table_of []

-- by value that is the struct, or the refusal alone
abbrev pub by_value : std.Result (Unit {0}) Refusal → declared·Sheet.Sheet → std.Result declared·Sheet.Sheet Refusal
by_value (Ok u) x = Ok x
by_value (Err r) x = Err r

-- of a refused file nothing is said of the struct
pub record ReadsInto (a : Result Sheet) (r : std.Result (Unit {0}) Refusal) (x : declared·Sheet.Sheet) : Type 0 where
  pub reads : ReadsSheet a (by_value r x)
