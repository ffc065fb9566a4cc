-- A stack of relations in the work words: the pairs of the paths that the symbols so far have made.
-- Assumes nothing.
use Rattle.std.specs.Prelude.{◌≡◌, Bool, false, List, [], ◌∷◌, ℕ, ◌-◌, ◌*◌, ◌/◌, ◌≤◌, ◌<◌, length}
use Rattle.std.proofs.Math.Option.{some}
use Rattle.theory.specs.TransitiveClosure.{look}
use Rattle.theory.specs.PathExpr.{PathExpr, Symbol, s_step, s_join, s_op, s_closure}
use Rattle.theory.specs.Postfix.{Stack, push}
use Rattle.theory.specs.Register.{Register, records}
use Rattle.theory.specs.Evaluation.{passes?, join?, op?, evaluate}
use Rattle.rows.specs.Kept.{Kept}
use Rattle.relation.specs.Pairs.{pair_at}

-- the relation at b is f
pub record Stored (xs : List ℕ) (b n w : ℕ) (f : ℕ → ℕ → Bool) : Type 0 where
  pub pair : (s t : ℕ) → s < n → t / 64 < w → pair_at xs b w s t ≡ f s t

-- the relations of the paths of a stack lie one after the other, the top's last, and end at word b
abbrev pub Stacked : Register → List ℕ → ℕ → ℕ → ℕ → Stack → Type 0
Stacked r xs n w b [] = b ≡ 0
Stacked r xs n w b (p ∷ st) = (n * w ≤ b) × Stored xs (b - n * w) n w (look (evaluate r p)) × Stacked r xs n w (b - n * w) st

-- the pairs of an operator of two operands
abbrev pub binary? : Register → Symbol → (ℕ → ℕ → Bool) → (ℕ → ℕ → Bool) → ℕ → ℕ → Bool
binary? r (s_step d l) f g s t = false
binary? r (s_join v) f g s t = join? (records r) (passes? r v) f g s t
binary? r (s_op o) f g s t = op? (records r) o f g s t
binary? r s_closure f g s t = false

-- the symbol finds its operands on the stack that ends at b, and there is room for what it leaves
pub record Applicable (r : Register) (xs : List ℕ) (n w b : ℕ) (x : Symbol) : Type 0 where
  pub before : Stack
  pub after : Stack
  pub stacked : Stacked r xs n w b before
  pub pushes : push x before ≡ some after
  pub room : length before * (n * w) ≤ length xs
  pub more : length after * (n * w) ≤ length xs

-- the symbol was applied: from a stack that ends at b to one that ends at c; no word changed outside the relation on top, which receives
-- the symbol's pairs
pub record Applied (r : Register) (n w b : ℕ) (x : Symbol) (c : ℕ) (xs ys : List ℕ) : Type 0 where
  pub kept : Kept (c - n * w) c xs ys
  pub next : (st st' : Stack) → Stacked r xs n w b st → push x st ≡ some st' → Stacked r ys n w c st'

-- the symbols were evaluated into the relation at 0, and no word past 24 relations changed
pub record Evaluated (r : Register) (n w : ℕ) (xs ys : List ℕ) (p : PathExpr) : Type 0 where
  pub kept : Kept 0 (24 * (n * w)) xs ys
  pub pairs : Stored ys 0 n w (look (evaluate r p))
