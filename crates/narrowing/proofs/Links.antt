-- Refusal 11: the first symbol whose link the sheet does not name.
-- Assumes nothing.
use mathlib.Core.Path.{◌≡◌, refl, ap, ◌∙◌}
use mathlib.Core.Bool.{true, false}
use mathlib.Core.List.{List, [], ◌∷◌}
use Prim.Native.Nat.{ℕ, zero, suc, ◌+◌, ◌<◌}
use native.Mathlib.Omega.{arith}
use lib.ListN.{length}
use Rattle.std.specs.Prelude.{Option, Some, None}
use Rattle.std.specs.Option.{MatchOption}
use Rattle.std.specs.List.{AllWithin, HoldsAt}
use Rattle.theory.specs.Narrowing.{Narrowing, refuse, unless, link_fault}
use Rattle.theory.specs.Result.{refused}
use Rattle.symbols.specs.Symbols.{symbol_numbered}
use Rattle.question.specs.Form.{question_symbols}
use Rattle.narrowing.specs.Contract.{FirstUnnamed}
use Rattle.narrowing.specs.Internal.{TellsUnnamed}

module _ (E : ℕ) where
  -- the link of the code has no name, or it has one or there is none
  abbrev pub Lacks : ℕ → Type 0
  Lacks c = TellsUnnamed E c true

  abbrev pub Has : ℕ → Type 0
  Has c = TellsUnnamed E c false

  passed : (c i : ℕ) (o : Narrowing) → Has c → unless (link_fault E (symbol_numbered c 0)) i o ≡ o
  passed c i o h = rw h.is

  none : (cs : List ℕ) (i : ℕ) (o : Narrowing) → AllWithin Has cs 0 (length cs) → refuse (link_fault E) i (question_symbols cs) o ≡ o
  none [] i o h = refl
  none (c ∷ cs) i o h =
      passed c i (refuse (link_fault E) (suc i) (question_symbols cs) o) (h 0 0 (omega arith) (omega arith))
      ∙ none cs (suc i) o (λ k d l m. h (suc k) d (omega arith) (omega arith))

  first : (cs : List ℕ) (i k : ℕ) (o : Narrowing) → k < length cs → HoldsAt Lacks cs k → AllWithin Has cs 0 k
      → refuse (link_fault E) i (question_symbols cs) o ≡ refused 11 (i + k)
  first [] i k o l u h = absurd (omega arith)
  first (c ∷ cs) i zero o l u h = let e : i ≡ i + 0 = omega arith in rw (u 0).is (ap (refused 11) e)
  first (c ∷ cs) i (suc k) o l u h =
      let e : suc i + k ≡ i + suc k = omega arith in
      passed c i (refuse (link_fault E) (suc i) (question_symbols cs) o) (h 0 0 (omega arith) (omega arith))
      ∙ first cs (suc i) k o (omega arith) u (λ j d m n. h (suc j) d (omega arith) (omega arith))
      ∙ ap (refused 11) e

  pub searched : (cs : List ℕ) (r : Option ℕ) → MatchOption r (AllWithin Has cs 0 (length cs)) (λ i. (i < length cs) × HoldsAt Lacks cs i × AllWithin Has cs 0 i)
      → FirstUnnamed E cs r
  searched cs None h = record {
    within = λ i e. let z : ◌≡◌ {A = ℕ} 0 1 = cc in absurd (omega arith);
    here = λ i e o. let z : ◌≡◌ {A = ℕ} 0 1 = cc in absurd (omega arith);
    nowhere = λ e o. none cs 0 o h;
  }
  searched cs (Some k) h = record {
    within = λ i e. let z : k ≡ i = cc in rw (← z) h.0;
    here = λ i e o. let y : k ≡ i = cc in let z : 0 + k ≡ i = omega (arith, y) in first cs 0 k o h.0 h.1 h.2 ∙ ap (refused 11) z;
    nowhere = λ e o. let z : ◌≡◌ {A = ℕ} 0 1 = cc in absurd (omega arith);
  }
