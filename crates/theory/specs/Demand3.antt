-- The pairs of a narrowed question, and what narrowing promises of them: demand 3, over the definitions.
-- SPECIFICATION, Answers, Promises.
-- Assumes nothing.
use Rattle.std.specs.Prelude.{◌≡◌, ◌↔◌, ℕ, T}
use mathlib.Core.List.{List, [], Memᴰ as In}
use Rattle.theory.specs.KindSet.{has}
use Rattle.theory.specs.PathExpr.{PathExpr}
use Rattle.theory.specs.Register.{Register, kind, well_formed?, Holds}
use Rattle.theory.specs.Sheet.{Sheet, conforms?}
use Rattle.theory.specs.Merging.{Member}

-- a member's pair: of its path, with ends whose kinds are in its from set and to set
pub record Pair (r : Register) (m : Member) (s t : ℕ) : Type 0 where
  pub holds : Holds r m.path s t
  pub from_kind : T (has m.from (kind r s))
  pub to_kind : T (has m.to (kind r t))

-- a narrowed question's pair: of some member
abbrev pub Answer : Register → List Member → ℕ → ℕ → Type 0
Answer r ms s t = (m : Member) × In m ms × Pair r m s t

-- some register that conforms to the sheet gives the question a pair, of which the kinds of the two ends are so
pub record Witness (S : Sheet) (q : PathExpr) (P : ℕ → ℕ → Type 0) : Type 0 where
  pub register : Register
  pub well_formed : T (well_formed? register)
  pub conforms : T (conforms? S register)
  pub from : ℕ
  pub to : ℕ
  pub holds : Holds register q from to
  pub kinds : P (kind register from) (kind register to)

-- q is the question as read, ms the members that it is narrowed to; registers have any number of records and links
pub record Demand3 (S : Sheet) (q : PathExpr) (ms : List Member) : Type 0 where
  -- on every register the members have no pair that the question lacks
  pub sound : (r : Register) (s t : ℕ) → Answer r ms s t → Holds r q s t
  -- on a register that conforms they lack none
  pub complete : (r : Register) → T (conforms? S r) → (s t : ℕ) → Holds r q s t → Answer r ms s t
  -- the sets at the ends are exact
  pub from_ends : (k : ℕ) → ((m : Member) × In m ms × T (has m.from k)) ↔ Witness S q (λ a b. a ≡ k)
  pub to_ends : (k : ℕ) → ((m : Member) × In m ms × T (has m.to k)) ↔ Witness S q (λ a b. b ≡ k)
  -- there are no members exactly where no register that conforms gives a pair
  pub no_members : (ms ≡ []) ↔ ¬ Witness S q (λ a b. Unit {0})
