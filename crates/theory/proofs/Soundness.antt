-- On every register, a pair of a triple's path is a pair of the question, its join sets aside.
-- Assumes nothing.
use mathlib.Core.Path.{◌≡◌, refl, ap, ap₂, subst}
use mathlib.Core.Logic.{inl, inr}
use mathlib.Core.List.{List}
use Prim.Native.Nat.{ℕ}
use lib.Dec.{T}
use Rattle.theory.specs.TransitiveClosure.{single, extend}
use Rattle.theory.specs.PathExpr.{Direction, Label, Via, any, through, Op, union, conjunction, branch_right, branch_left, PathExpr, step, join, op, closure, erase, plain?}
use Rattle.theory.specs.Register.{Register, Holds}
use Rattle.theory.specs.Sheet.{Sheet}
use Rattle.theory.specs.Derivation.{Triples, Step, along, back, Join, joins, Operate, union_left, union_right, conjoins, branches_right, branches_left, Walk, first, then, Derives}
use Rattle.theory.proofs.Tests.{tests}
use Rattle.theory.proofs.TransitiveClosure.{closure_map}
use Rattle.theory.proofs.Rules.{Sub, induction}

pub erase_plain : (p : PathExpr) → T (plain? p) → erase p ≡ p
erase_plain (step d l) t = refl
erase_plain (join any p q) t =
    ap₂ (λ x y. join any x y) (erase_plain p (search tests)) (erase_plain q (search tests))
erase_plain (join (through m) p q) t = absurd t
erase_plain (op o p q) t = ap₂ (λ x y. op o x y) (erase_plain p (search tests)) (erase_plain q (search tests))
erase_plain (closure p) t = ap closure (erase_plain p t)

module _ (r : Register) where
  -- a join set only takes pairs away
  pub erase_holds : (p : PathExpr) (s t : ℕ) → Holds r p s t → Holds r (erase p) s t
  erase_holds (step d l) s t h = h
  erase_holds (join v p q) s t h = (h.0, erase_holds p s h.0 h.1, erase_holds q h.0 t h.2, tt)
  erase_holds (op union p q) s t (inl h) = inl (erase_holds p s t h)
  erase_holds (op union p q) s t (inr h) = inr (erase_holds q s t h)
  erase_holds (op conjunction p q) s t h = (erase_holds p s t h.0, erase_holds q s t h.1)
  erase_holds (op branch_right p q) s t h = (erase_holds p s t h.0, (h.1.0, erase_holds q t h.1.0 h.1.1))
  erase_holds (op branch_left p q) s t h = (erase_holds q s t h.0, (h.1.0, erase_holds p s h.1.0 h.1.1))
  erase_holds (closure p) s t h = closure_map (erase_holds p) h

  -- the question holds what the path holds, its join sets aside
  abbrev Sound : PathExpr → Triples
  Sound o a p b = T (plain? o) → (s t : ℕ) → Holds r (erase p) s t → Holds r o s t

  steps : {S : Sheet} (d : Direction) (l : Label) (a : ℕ) (p : PathExpr) (b : ℕ) → Step S d l a p b → Sound (step d l) a p b
  steps d l a p b (along m f x) e s t h = h
  steps d l a p b (back m f x) e s t h = h

  join_sound : (v : Via) (o₁ o₂ : PathExpr) (a : ℕ) (p : PathExpr) (b : ℕ) → Join (Sound o₁) (Sound o₂) a p b → Sound (join v o₁ o₂) a p b
  join_sound any o₁ o₂ a p b (joins x y) e s t h =
      (h.0, x (search tests) s h.0 h.1, y (search tests) h.0 t h.2, tt)
  join_sound (through m) o₁ o₂ a p b x e s t h = absurd e

  op_sound : (o : Op) (o₁ o₂ : PathExpr) (a : ℕ) (p : PathExpr) (b : ℕ) → Operate (Sound o₁) (Sound o₂) o a p b → Sound (op o o₁ o₂) a p b
  op_sound o o₁ o₂ a p b x e = go x
    where
      e₁ : T (plain? o₁)
      e₁ = search tests

      e₂ : T (plain? o₂)
      e₂ = search tests

      go : {o : Op} {a b : ℕ} {p : PathExpr} → Operate (Sound o₁) (Sound o₂) o a p b → (s t : ℕ) → Holds r (erase p) s t → Holds r (op o o₁ o₂) s t
      go (union_left x) s t h = inl (x e₁ s t h)
      go (union_right y) s t h = inr (y e₂ s t h)
      go (conjoins x y) s t h = (x e₁ s t h.0, y e₂ s t h.1)
      go (branches_right x y) s t h = (x e₁ s t h.0, (h.1.0, y e₂ t h.1.0 h.1.1))
      go (branches_left x y) s t h = (y e₂ s t h.0, (h.1.0, x e₁ s h.1.0 h.1.1))

  pub walk_sound : (o : PathExpr) (a : ℕ) (p : PathExpr) (b : ℕ) (ks : List ℕ) → Walk (Sound o) a p b ks → Sound (closure o) a p b
  walk_sound o a p b ks (first x) e s t h = single (x e s t h)
  walk_sound o a p b ks (then {b = z} {p = q} {ks = ls} w x) e s t h = extend (walk_sound o a q z ls w e s h.0 h.1) (x e h.0 t h.2)

  kept_sound : (o : PathExpr) (a : ℕ) (p : PathExpr) (b : ℕ) (ks : List ℕ) → Walk (Sound o) a p b ks → Sound (closure o) a (closure o) b
  kept_sound o a p b ks w e s t h = subst (λ x. Holds r (closure x) s t) (erase_plain o e) h

  pub derives_sound : (S : Sheet) (o : PathExpr) → Sub (Derives S o) (Sound o)
  derives_sound S = induction S Sound (record { steps = steps; joins = join_sound; ops = op_sound; keeps = kept_sound; unrolls = walk_sound })
