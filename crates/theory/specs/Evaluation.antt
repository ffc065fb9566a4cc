-- The pairs of a path on a register, computed: a table of N rows of N. proofs/Evaluation.antt: they are those of `Holds`.
-- SPECIFICATION, The meaning of a path.
-- Assumes nothing.
use Rattle.std.specs.Prelude.{Bool, true, ◌&&◌, ◌||◌, List, ℕ, eqb}
use Rattle.theory.specs.Lists.{some?, range}
use Rattle.theory.specs.KindSet.{has}
use Rattle.theory.specs.TransitiveClosure.{Table, table, look, closure?}
use Rattle.theory.specs.PathExpr.{Direction, forward, reverse, Label, follows?, Via, any, through, Op, union, conjunction, branch_right, branch_left, PathExpr, step, join, op, closure}
use Rattle.theory.specs.Register.{Edge, Register, records, kind}
use Rattle.theory.specs.Merging.{Member}

-- e is a link from s to t that a step with label l follows
abbrev pub follows_link? : Label → ℕ → ℕ → Edge → Bool
follows_link? l s t e = eqb s e.from && follows? l e.label && eqb t e.to

abbrev pub linked? : Register → Label → ℕ → ℕ → Bool
linked? r l s t = some? (follows_link? l s t) r.links

abbrev pub step? : Register → Direction → Label → ℕ → ℕ → Bool
step? r forward l s t = linked? r l s t
step? r reverse l s t = linked? r l t s

abbrev pub passes? : Register → Via → ℕ → Bool
passes? r any z = true
passes? r (through m) z = has m (kind r z)

-- pairs joined at one of n records that passes
abbrev pub join? : ℕ → (ℕ → Bool) → (ℕ → ℕ → Bool) → (ℕ → ℕ → Bool) → ℕ → ℕ → Bool
join? n pass f g s t = some? (λ z. f s z && (g z t && pass z)) (range n)

abbrev pub op? : ℕ → Op → (ℕ → ℕ → Bool) → (ℕ → ℕ → Bool) → ℕ → ℕ → Bool
op? n union f g s t = f s t || g s t
op? n conjunction f g s t = f s t && g s t
op? n branch_right f g s t = f s t && some? (g t) (range n)
op? n branch_left f g s t = g s t && some? (f s) (range n)

abbrev pub evaluate : Register → PathExpr → Table
evaluate r (step d l) = table (records r) (step? r d l)
evaluate r (join v p q) = let x = evaluate r p in let y = evaluate r q in table (records r) (join? (records r) (passes? r v) (look x) (look y))
evaluate r (op o p q) = let x = evaluate r p in let y = evaluate r q in table (records r) (op? (records r) o (look x) (look y))
evaluate r (closure p) = let x = evaluate r p in closure? (records r) (look x)

-- a plain answer's pair
unfoldable pub plain_answer : Register → PathExpr → ℕ → ℕ → Bool
plain_answer r q s t = look (evaluate r q) s t

-- a member's pair: of its path, with ends whose kinds are in its from set and to set
abbrev pub member_answer : Register → ℕ → ℕ → Member → Bool
member_answer r s t m = look (evaluate r m.path) s t && (has m.from (kind r s) && has m.to (kind r t))

-- a narrowed answer's pair: of some member
unfoldable pub narrowed_answer : Register → List Member → ℕ → ℕ → Bool
narrowed_answer r ms s t = some? (member_answer r s t) ms
