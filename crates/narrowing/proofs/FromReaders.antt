-- What the two readers hand on is what narrowing asks.
-- Assumes nothing.
use mathlib.Core.Path.{sym, subst}
use mathlib.Core.List.{List}
use Prim.Native.Nat.{ℕ}
use native.Mathlib.Omega.{arith}
use lib.Dec.{T}
use lib.ListN.{take}
use Rattle.theory.specs.Sheet.{Sheet, sheet?}
use Rattle.theory.proofs.Sheet.{kinds_fit}
use Rattle.sheet.proofs.Ranges.{accepted_sheet}
use Rattle.sheet.proofs.ReaderOutcome as sheet
use Rattle.question.proofs.Paths.{accepted_question}
use Rattle.question.proofs.ReaderOutcome as question
use Rattle.rules.specs.StepTriples.{Tabled}
use Rattle.rules.proofs.SheetSteps.{tabled_sheet}
use Rattle.inference.proofs.Accepted.{asks}
use Rattle.narrowing.specs.Contract.{Handed, Narrowable}

module _ {s t : List ℕ} {k e : ℕ} {S : Sheet} (h : sheet.Told s t k e S) where
  valid : T (sheet? S)
  valid = accepted_sheet s S h.reads

  pub handed : Handed t k e S
  handed = record { sheeted = record { tabled = subst (λ (x : List ℕ). Tabled x S) (sym h.table) (tabled_sheet S valid); kinds = h.kinds }; named = h.links }

  pub ready : {q codes : List ℕ} {count : ℕ} {cs : List ℕ} → question.Told q codes count cs → Narrowable (take count codes) t k
  ready {q} {cs = cs} g =
      let (p, a) = accepted_question q cs g.reads in
      rw (question.told_front g) (record {
        asking = λ ws l. asks q cs g.reads ws k l (omega (arith, kinds_fit S valid, h.kinds));
        path = p;
        is = a.path;
        plain = a.plain;
        linked = a.links;
        sheet = S;
        sheeted = handed.sheeted;
      })
