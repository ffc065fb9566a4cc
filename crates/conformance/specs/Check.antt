-- The check: does a register obey a sheet.
-- SPECIFICATION, Words (obeys); Refusals, 16; The calls: sheet, register, 16.
-- Assumes nothing.
use Rattle.std.specs.Prelude.{List, ℕ}
use Rattle.std.proofs.Math.Option.{Option, none, some}
use Rattle.theory.specs.Sheet.{breach}
use Rattle.fields.specs.declared.Source.TheVariants as source
use Rattle.fields.specs.Call.{Outcome, accepts, refuses, and_then, file}
use Rattle.sheet.specs.Form.{sheet_form}
use Rattle.register.specs.Form.{register_form}

abbrev pub obeying : Option ℕ → Outcome (Unit {0})
obeying none = accepts tt
obeying (some i) = refuses source.Work 16 i

unfoldable pub check_of : List ℕ → List ℕ → Outcome (Unit {0})
check_of sheet register =
    and_then (file source.Sheet sheet_form sheet) (λ S.
    and_then (file source.Register register_form register) (λ r.
    obeying (breach S r)))
