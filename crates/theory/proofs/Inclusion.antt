-- Inclusion of pairs: one path holds what another holds, on every register; and each operator keeps it.
-- Assumes nothing.
use mathlib.Core.Logic.{inl, inr}
use Prim.Native.Nat.{ℕ}
use Rattle.theory.specs.PathExpr.{Via, Op, union, conjunction, branch_right, branch_left, PathExpr, join, op, closure}
use Rattle.theory.specs.Register.{Register, PassesThrough, Holds}
use Rattle.theory.proofs.TransitiveClosure.{closure_map}

-- q holds what p holds
pub record Under (p q : PathExpr) : Type 0 where
  pub holds : (r : Register) (s t : ℕ) → Holds r p s t → Holds r q s t

-- and w lets pass what v does
pub record Passing (v w : Via) : Type 0 where
  pub passing : (r : Register) (z : ℕ) → PassesThrough r v z → PassesThrough r w z

pub under_refl : {p : PathExpr} → Under p p
under_refl = record { holds = λ r s t h. h }

pub under_trans : {p q x : PathExpr} → Under p q → Under q x → Under p x
under_trans f g = record { holds = λ r s t h. g.holds r s t (f.holds r s t h) }

pub passing_refl : {v : Via} → Passing v v
passing_refl = record { passing = λ r z h. h }

pub join_under : {v w : Via} {p q p' q' : PathExpr} → Passing v w → Under p p' → Under q q' → Under (join v p q) (join w p' q')
join_under e f g = record { holds = λ r s t h. (h.0, f.holds r s h.0 h.1, g.holds r h.0 t h.2, e.passing r h.0 h.3) }

op_holds : (o : Op) {p q p' q' : PathExpr} → Under p p' → Under q q' → (r : Register) (s t : ℕ) → Holds r (op o p q) s t → Holds r (op o p' q') s t
op_holds union f g r s t (inl h) = inl (f.holds r s t h)
op_holds union f g r s t (inr h) = inr (g.holds r s t h)
op_holds conjunction f g r s t h = (f.holds r s t h.0, g.holds r s t h.1)
op_holds branch_right f g r s t h = (f.holds r s t h.0, (h.1.0, g.holds r t h.1.0 h.1.1))
op_holds branch_left f g r s t h = (g.holds r s t h.0, (h.1.0, f.holds r s h.1.0 h.1.1))

pub op_under : {o : Op} {p q p' q' : PathExpr} → Under p p' → Under q q' → Under (op o p q) (op o p' q')
op_under {o} f g = record { holds = op_holds o f g }

pub closure_under : {p p' : PathExpr} → Under p p' → Under (closure p) (closure p')
closure_under f = record { holds = λ r s t h. closure_map (f.holds r) h }
