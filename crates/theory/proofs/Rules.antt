-- Derivations: each rule keeps inclusion of the triples that it is applied to, and what the rules keep holds of every derivation.
-- Assumes nothing.
use mathlib.Core.List.{List}
use Prim.Native.Nat.{ℕ}
use Rattle.theory.specs.PathExpr.{Direction, Label, Via, Op, PathExpr, step, join, op, closure}
use Rattle.theory.specs.Sheet.{Sheet}
use Rattle.theory.specs.Derivation.{Triples, Step, Join, joins, Operate, union_left, union_right, conjoins, branches_right, branches_left, Walk, first, then, Cyclic, Closure, kept}
use Rattle.theory.specs.Derivation.{unrolled, Derives}

abbrev pub Sub : Triples → Triples → Type 0
Sub P Q = (a : ℕ) (p : PathExpr) (b : ℕ) → P a p b → Q a p b

pub join_map : {P P' Q Q' : Triples} → Sub P P' → Sub Q Q' → {a b : ℕ} {p : PathExpr} → Join P Q a p b → Join P' Q' a p b
join_map f g (joins {a} {b} {c} {p} {q} x y) = joins (f a p b x) (g b q c y)

pub op_map : {P P' Q Q' : Triples} → Sub P P' → Sub Q Q' → {o : Op} {a b : ℕ} {p : PathExpr} → Operate P Q o a p b → Operate P' Q' o a p b
op_map f g (union_left {a} {b} {p} x) = union_left (f a p b x)
op_map f g (union_right {a} {b} {q} y) = union_right (g a q b y)
op_map f g (conjoins {a} {b} {p} {q} x y) = conjoins (f a p b x) (g a q b y)
op_map f g (branches_right {a} {b} {c} {p} {q} x y) = branches_right (f a p b x) (g b q c y)
op_map f g (branches_left {a} {b} {c} {p} {q} x y) = branches_left (f a p c x) (g a q b y)

pub walk_map : {P Q : Triples} → Sub P Q → {a b : ℕ} {p : PathExpr} {ks : List ℕ} → Walk P a p b ks → Walk Q a p b ks
walk_map f (first {a} {b} {p} x) = first (f a p b x)
walk_map f (then {b = b} {c = c} {q = q} w x) = then (walk_map f w) (f b q c x)

pub cyclic_map : {P Q : Triples} → Sub P Q → {k : ℕ} → Cyclic P k → Cyclic Q k
cyclic_map f r = record { path = r.path; met = r.met; walk = walk_map f r.walk }

pub closure_rule_map : {P Q : Triples} {o : PathExpr} → Sub P Q → Sub Q P → {a b : ℕ} {p : PathExpr} → Closure P o a p b → Closure Q o a p b
closure_rule_map f g (kept w i r) = kept (walk_map f w) i (cyclic_map f r)
closure_rule_map f g (unrolled w un) = unrolled (walk_map f w) (λ k i r. un k i (cyclic_map g r))

-- ---- induction on derivations: C o is a set of triples for each question o, to which each rule leads from such sets
pub record Closed (S : Sheet) (C : PathExpr → Triples) : Type 0 where
  pub steps : (d : Direction) (l : Label) (a : ℕ) (p : PathExpr) (b : ℕ) → Step S d l a p b → C (step d l) a p b
  pub joins : (v : Via) (o₁ o₂ : PathExpr) (a : ℕ) (p : PathExpr) (b : ℕ) → Join (C o₁) (C o₂) a p b → C (join v o₁ o₂) a p b
  pub ops : (o : Op) (o₁ o₂ : PathExpr) (a : ℕ) (p : PathExpr) (b : ℕ) → Operate (C o₁) (C o₂) o a p b → C (op o o₁ o₂) a p b
  pub keeps : (o : PathExpr) (a : ℕ) (p : PathExpr) (b : ℕ) (ks : List ℕ) → Walk (C o) a p b ks → C (closure o) a (closure o) b
  pub unrolls : (o : PathExpr) (a : ℕ) (p : PathExpr) (b : ℕ) (ks : List ℕ) → Walk (C o) a p b ks → C (closure o) a p b

module _ (S : Sheet) (C : PathExpr → Triples) (c : Closed S C) where
  closure_closed : (o : PathExpr) → Sub (Derives S o) (C o) → {a b : ℕ} {p : PathExpr} → Closure (Derives S o) o a p b → C (closure o) a p b
  closure_closed o f (kept {a} {b} {p = p} {ks = ks} w i r) = c.keeps o a p b ks (walk_map f w)
  closure_closed o f (unrolled {a} {b} {p} {ks} w un) = c.unrolls o a p b ks (walk_map f w)

  pub induction : (o : PathExpr) → Sub (Derives S o) (C o)
  induction (step d l) a p b x = c.steps d l a p b x
  induction (join v o₁ o₂) a p b x = c.joins v o₁ o₂ a p b (join_map (induction o₁) (induction o₂) x)
  induction (op o o₁ o₂) a p b x = c.ops o o₁ o₂ a p b (op_map (induction o₁) (induction o₂) x)
  induction (closure o) a p b x = closure_closed o (induction o) x
