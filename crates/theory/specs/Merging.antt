-- Members: triples whose paths differ only in join sets become one, in the order of their codes.
-- SPECIFICATION, Merging, Order of members.
-- Assumes nothing.
use Rattle.std.specs.Prelude.{Bool, cond, ℕ, T}
use mathlib.Core.List.{List, [], ◌∷◌, Memᴰ as In}
use Rattle.theory.specs.KindSet.{singleton, set_union}
use Rattle.theory.specs.PathExpr.{Via, any, through, PathExpr, step, join, op, closure, codes, before?, erase, same?}
use Rattle.theory.specs.Inference.{Triple}

-- from set, path, to set
pub record Member : Type 0 where
  pub from : ℕ
  pub path : PathExpr
  pub to : ℕ

abbrev pub member : ℕ → PathExpr → ℕ → Member
member a p b = record { from = a; path = p; to = b }

abbrev pub of_triple : Triple → Member
of_triple t = member (singleton t.from) t.path (singleton t.to)

-- the paths differ only in join sets
unfoldable pub same_shape? : PathExpr → PathExpr → Bool
same_shape? p q = same? (erase p) (erase q)

abbrev pub merge_via : Via → Via → Via
merge_via any w = any
merge_via (through a) any = any
merge_via (through a) (through b) = through (set_union a b)

-- of two paths of one shape: each join set is the union. (Paths of two shapes are never merged; the first stands for such clauses.)
abbrev pub merge : PathExpr → PathExpr → PathExpr
merge (step d l) q = step d l
merge (join v p q) (step d l) = join v p q
merge (join v p q) (join w p' q') = join (merge_via v w) (merge p p') (merge q q')
merge (join v p q) (op o p' q') = join v p q
merge (join v p q) (closure p') = join v p q
merge (op o p q) (step d l) = op o p q
merge (op o p q) (join w p' q') = op o p q
merge (op o p q) (op o' p' q') = op o (merge p p') (merge q q')
merge (op o p q) (closure p') = op o p q
merge (closure p) (step d l) = closure p
merge (closure p) (join w p' q') = closure p
merge (closure p) (op o' p' q') = closure p
merge (closure p) (closure p') = closure (merge p p')

-- "from set, to set and each join set are the unions"
abbrev pub merged : Member → Member → Member
merged m n = member (set_union m.from n.from) (merge m.path n.path) (set_union m.to n.to)

abbrev pub insert : Member → List Member → List Member
insert m [] = m ∷ []
insert m (n ∷ ns) =
    cond (same_shape? m.path n.path)
    (merged m n ∷ ns)
    (cond (before? (codes m.path) (codes n.path)) (m ∷ n ∷ ns) (n ∷ insert m ns))

abbrev pub members : List Triple → List Member
members [] = []
members (t ∷ ts) = insert (of_triple t) (members ts)

-- "Members ascend strictly by their codes": each stands before all that follow
abbrev pub Ascending : List Member → Type 0
Ascending [] = Unit {0}
Ascending (m ∷ ms) = ((n : Member) → In n ms → T (before? (codes m.path) (codes n.path))) × Ascending ms
