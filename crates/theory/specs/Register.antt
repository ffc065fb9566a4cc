-- Registers of any size, and the meaning of a path on one.
-- SPECIFICATION, Words (record, link), The meaning of a path.
-- Assumes nothing.
use Rattle.std.specs.Prelude.{◌⊎◌, Bool, ◌&&◌, ℕ, T, ltb, eqb, length, get_or}
use mathlib.Core.List.{List, Memᴰ as In}
use Rattle.theory.specs.Lists.{every?}
use Rattle.theory.specs.KindSet.{has}
use Rattle.theory.specs.TransitiveClosure.{TransitiveClosure}
use Rattle.theory.specs.PathExpr.{forward, reverse, Label, follows?, Via, any, through, union, conjunction, branch_right, branch_left, PathExpr, step, join, op, closure}

-- a labelled edge: a link of a register (between records), or a permitted triple of a sheet (between kinds)
pub record Edge : Type 0 where
  pub from : ℕ
  pub label : ℕ
  pub to : ℕ

abbrev pub edge : ℕ → ℕ → ℕ → Edge
edge a l b = record { from = a; label = l; to = b }

unfoldable pub same_edge? : Edge → Edge → Bool
same_edge? a b = eqb a.from b.from && eqb a.label b.label && eqb a.to b.to

-- record i has the i-th kind
pub record Register : Type 0 where
  pub kinds : List ℕ
  pub links : List Edge

abbrev pub records : Register → ℕ
records r = length r.kinds

abbrev pub kind : Register → ℕ → ℕ
kind r s = get_or r.kinds s 0

-- each link is from a record to a record
unfoldable pub well_formed? : Register → Bool
well_formed? r = every? (λ e. ltb e.from (records r) && ltb e.to (records r)) r.links

-- a link of the register from s to t, of a name m that a step with label l follows
abbrev pub Linked : Register → Label → ℕ → ℕ → Type 0
Linked r l s t = (m : ℕ) × T (follows? l m) × In (edge s m t) r.links

abbrev pub PassesThrough : Register → Via → ℕ → Type 0
PassesThrough r any z = Unit {0}
PassesThrough r (through m) z = T (has m (kind r z))

-- the pairs (s, t) of a path
abbrev pub Holds : Register → PathExpr → ℕ → ℕ → Type 0
Holds r (step forward l) s t = Linked r l s t
Holds r (step reverse l) s t = Linked r l t s
Holds r (join v p q) s t = (z : ℕ) × Holds r p s z × Holds r q z t × PassesThrough r v z
Holds r (op union p q) s t = Holds r p s t ⊎ Holds r q s t
Holds r (op conjunction p q) s t = Holds r p s t × Holds r q s t
Holds r (op branch_right p q) s t = Holds r p s t × ((z : ℕ) × Holds r q t z)
Holds r (op branch_left p q) s t = Holds r q s t × ((z : ℕ) × Holds r p s z)
Holds r (closure p) s t = TransitiveClosure (Holds r p) s t
