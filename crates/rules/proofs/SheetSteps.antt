-- By a sheet's own table the rule of a step has the triples of the sheet's step.
-- Assumes nothing.
use mathlib.Core.Path.{◌≡◌, sym, ◌∙◌}
use mathlib.Core.List.{List}
use Prim.Native.Nat.{ℕ, ◌<◌}
use native.Mathlib.Omega.{arith}
use lib.Dec.{T}
use Rattle.theory.specs.PathExpr.{Direction, forward, reverse, named, step}
use Rattle.theory.specs.Inference.{stepped?, of_step}
use Rattle.theory.specs.Sheet.{Sheet, sheet?}
use Rattle.theory.proofs.Sheet.{kinds_fit}
use Rattle.theory.proofs.Labels.{stepped_forward, stepped_reverse}
use Rattle.sheet.specs.Table.{tabled?, table_of}
use Rattle.sheet.proofs.Tables.{table_permits}
use Rattle.rules.specs.StepTriples.{marked?, of_marks, Tabled}
use Rattle.rules.proofs.Between.{between_same}

pub tabled_sheet : (S : Sheet) → T (sheet? S) → Tabled (table_of S.permitted) S
unfolding tabled?
tabled_sheet S ok = record { bits = λ a l b h. table_permits S ok a l b h; valid = ok }

module _ {t : List ℕ} {S : Sheet} (h : Tabled t S) where
  marked_is : (d : Direction) (l a b : ℕ) → a < 64 → b < 64 → marked? t d l a b ≡ stepped? S d (named l) a b
  unfolding marked?
  marked_is forward l a b ha hb = h.bits a l b ha ∙ sym (stepped_forward S h.valid l a b)
  marked_is reverse l a b ha hb = h.bits b l a hb ∙ sym (stepped_reverse S h.valid l a b)

  pub marks_step : (d : Direction) (l : ℕ) → of_marks t S.kinds d l ≡ of_step S d (named l)
  unfolding of_marks
  marks_step d l =
      let k = kinds_fit S h.valid in
      between_same S.kinds (step d (named l)) (marked? t d l) (stepped? S d (named l)) (λ a b ha hb. marked_is d l a b (omega (arith, k)) (omega (arith, k)))
