-- No idle kind at a join: each kind in a member's join set matters on some register that conforms to the sheet.
-- SPECIFICATION, Promises.
-- Assumes nothing.
use mathlib.Core.List.{List, Memᴰ as In}
use Rattle.std.specs.Prelude.{ℕ, T}
use Rattle.theory.specs.KindSet.{has, singleton}
use Rattle.theory.specs.PathExpr.{Via, through, Op, PathExpr, join, op, closure}
use Rattle.theory.specs.Sheet.{Sheet}
use Rattle.theory.specs.Merging.{Member, member}
use Rattle.theory.specs.Demand3.{Witness}

-- the second path is the first with one join "cut to this kind alone": a set in which k is becomes the set of k
pub data Cut (k : ℕ) : PathExpr → PathExpr → Type 0 where
  at_join : {m : ℕ} {p q : PathExpr} → T (has m k) → Cut k (join (through m) p q) (join (through (singleton k)) p q)
  join_left : {v : Via} {p q c : PathExpr} → Cut k p c → Cut k (join v p q) (join v c q)
  join_right : {v : Via} {p q c : PathExpr} → Cut k q c → Cut k (join v p q) (join v p c)
  op_left : {o : Op} {p q c : PathExpr} → Cut k p c → Cut k (op o p q) (op o c q)
  op_right : {o : Op} {p q c : PathExpr} → Cut k q c → Cut k (op o p q) (op o p c)
  -- "Joins below a kept chain have no set": of what narrowing gives, nothing is cut there
  below : {p c : PathExpr} → Cut k p c → Cut k (closure p) (closure c)

-- "some register that obeys the sheet must give the member an answer": a pair of its path, with ends whose kinds are in its from set and to set
abbrev pub Given : Sheet → Member → Type 0
Given S m = Witness S m.path (λ a b. T (has m.from a) × T (has m.to b))

-- "For each member and each kind in one of its join sets"
abbrev pub NoIdle : Sheet → List Member → Type 0
NoIdle S ms = (m : Member) → In m ms → (k : ℕ) (c : PathExpr) → Cut k m.path c → Given S (member m.from c m.to)
