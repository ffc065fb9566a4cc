-- No pair of a path leads past the records.
-- Assumes nothing.
use mathlib.Core.Path.{◌≡◌}
use mathlib.Core.Bool.{false}
use Prim.Native.Nat.{ℕ, ◌≤◌}
use native.Mathlib.Omega.{arith}
use lib.Dec.{T}
use Rattle.theory.specs.TransitiveClosure.{look}
use Rattle.theory.specs.PathExpr.{Direction, forward, reverse, Label, PathExpr, step}
use Rattle.theory.specs.Register.{Register, records, well_formed?, Holds}
use Rattle.theory.specs.Evaluation.{step?, evaluate}
use Rattle.theory.proofs.Tests.{never}
use Rattle.theory.proofs.Labels.{find_linked}
use Rattle.theory.proofs.Evaluation.{holds_bounds, evaluated}

module _ (r : Register) (formed : T (well_formed? r)) where
  pub evaluate_past : (p : PathExpr) (s t : ℕ) → records r ≤ t → look (evaluate r p) s t ≡ false
  evaluate_past p s t h = never _ (λ x. let b = (holds_bounds r formed p s t ((evaluated r formed p s t).0 x)).1 in absurd (omega arith))

  step_holds : (d : Direction) (l : Label) (s t : ℕ) → T (step? r d l s t) → Holds r (step d l) s t
  step_holds forward l s t x = find_linked r l s t x
  step_holds reverse l s t x = find_linked r l t s x

  pub step_past : (d : Direction) (l : Label) (s t : ℕ) → records r ≤ t → step? r d l s t ≡ false
  step_past d l s t h = never _ (λ x. let b = (holds_bounds r formed (step d l) s t (step_holds d l s t x)).1 in absurd (omega arith))
