-- On a register that obeys, a pair of the question is a pair of the path of a triple from the kind of its one end to the kind of the other.
-- Assumes nothing.
use mathlib.Core.Logic.{◌⊎◌, inl, inr}
use mathlib.Core.List.{List, [], ◌∷◌, Memᴰ as In}
use Prim.Native.Nat.{ℕ}
use lib.Dec.{T}
use Rattle.theory.specs.KindSet.{singleton}
use Rattle.theory.specs.TransitiveClosure.{TransitiveClosure, single, extend}
use Rattle.theory.specs.PathExpr.{Direction, forward, reverse, Label, Via, through, Op, union, conjunction, branch_right, branch_left, PathExpr, step, join, op, closure}
use Rattle.theory.specs.Register.{Register, kind, Holds}
use Rattle.theory.specs.Sheet.{Sheet, sheet?, conforms?}
use Rattle.theory.specs.Derivation.{along, back, joins, union_left, union_right, conjoins, branches_right, branches_left, Walk, first, then, Cyclic, kept, unrolled, Derives}
use Rattle.theory.specs.Inference.{triples}
use Rattle.theory.proofs.Sheet.{conforming}
use Rattle.theory.proofs.KindSet.{has_singleton}
use Rattle.theory.proofs.Triples.{Of, Same}
use Rattle.theory.proofs.Reach.{cyclic_met}
use Rattle.theory.proofs.Rules.{cyclic_map}
use Rattle.theory.proofs.Inference.{Short, short_join_left, short_join_right, short_op_left, short_op_right, short_part, to_sub, from_sub, inside, exact}

module _ (S : Sheet) (ok : T (sheet? S)) (r : Register) (conforms : T (conforms? S r)) where
  abbrev Found : PathExpr → ℕ → ℕ → Type 0
  Found o s t = (p : PathExpr) × Derives S o (kind r s) p (kind r t) × Holds r p s t

  abbrev Complete : PathExpr → Type 0
  Complete o = (s t : ℕ) → Holds r o s t → Found o s t

  step_complete : (d : Direction) (l : Label) → Complete (step d l)
  step_complete forward l s t h = (step forward l, along h.0 h.1 (conforming S r conforms h.2), h)
  step_complete reverse l s t h = (step reverse l, back h.0 h.1 (conforming S r conforms h.2), h)

  join_complete : (v : Via) (o₁ o₂ : PathExpr) → Complete o₁ → Complete o₂ → Complete (join v o₁ o₂)
  join_complete v o₁ o₂ f g s t h =
      let z = h.0 in
      let x = f s z h.1 in
      let y = g z t h.2 in
      (join (through (singleton (kind r z))) x.0 y.0, joins x.1 y.1, (z, x.2, y.2, has_singleton (kind r z)))

  op_complete : (o : Op) (o₁ o₂ : PathExpr) → Complete o₁ → Complete o₂ → Complete (op o o₁ o₂)
  op_complete union o₁ o₂ f g s t (inl h) = let x = f s t h in (x.0, union_left x.1, x.2)
  op_complete union o₁ o₂ f g s t (inr h) = let y = g s t h in (y.0, union_right y.1, y.2)
  op_complete conjunction o₁ o₂ f g s t h =
      let x = f s t h.0 in
      let y = g s t h.1 in
      (op conjunction x.0 y.0, conjoins x.1 y.1, (x.2, y.2))
  op_complete branch_right o₁ o₂ f g s t h =
      let x = f s t h.0 in
      let y = g t h.1.0 h.1.1 in
      (op branch_right x.0 y.0, branches_right x.1 y.1, (x.2, (h.1.0, y.2)))
  op_complete branch_left o₁ o₂ f g s t h =
      let x = f s h.1.0 h.1.1 in
      let y = g s t h.0 in
      (op branch_left x.0 y.0, branches_left x.1 y.1, (y.2, (h.1.0, x.2)))

  -- a walk on the register is a walk between kinds
  walk_complete : (o : PathExpr) → Complete o → {s t : ℕ} → TransitiveClosure (Holds r o) s t
      → (p : PathExpr) × (ks : List ℕ) × Walk (Derives S o) (kind r s) p (kind r t) ks × Holds r p s t
  walk_complete o f (single {a = s} {b = t} h) = let x = f s t h in (x.0, kind r t ∷ kind r s ∷ [], first x.1, x.2)
  walk_complete o f (extend {b = z} {c = t} w h) =
      let v = walk_complete o f w in
      let x = f z t h in
      (join (through (singleton (kind r z))) v.0 x.0, kind r t ∷ v.1, then v.2 x.1, (z, v.3, x.2, has_singleton (kind r z)))

  closure_complete : (o : PathExpr) → Same (Of (triples S o)) (Derives S o) → Complete o → Complete (closure o)
  closure_complete o e f s t h = let v = walk_complete o f h in go v (cyclic_met S.kinds (triples S o) (inside S ok o e) v.1)
    where
      go : (v : (p : PathExpr) × (ks : List ℕ) × Walk (Derives S o) (kind r s) p (kind r t) ks × Holds r p s t)
          → ((k : ℕ) × In k v.1 × Cyclic (Of (triples S o)) k) ⊎ ((k : ℕ) → In k v.1 → ¬ Cyclic (Of (triples S o)) k) → Found (closure o) s t
      go v (inl k) = (closure o, kept v.2 k.1 (cyclic_map (to_sub e) k.2), h)
      go v (inr un) = (v.0, unrolled v.2 (λ k i g. un k i (cyclic_map (from_sub e) g)), v.3)

  pub derives_complete : (o : PathExpr) → Short S o → Complete o
  derives_complete (step d l) h = step_complete d l
  derives_complete (join v o₁ o₂) h = join_complete v o₁ o₂ (derives_complete o₁ (short_join_left S v o₁ o₂ h)) (derives_complete o₂ (short_join_right S v o₁ o₂ h))
  derives_complete (op o o₁ o₂) h = op_complete o o₁ o₂ (derives_complete o₁ (short_op_left S o o₁ o₂ h)) (derives_complete o₂ (short_op_right S o o₁ o₂ h))
  derives_complete (closure o) h = closure_complete o (exact S ok o (short_part S o h)) (derives_complete o (short_part S o h))
