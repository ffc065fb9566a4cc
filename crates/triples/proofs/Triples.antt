-- The triple of a node depends on the words up to it only; its path by its last symbol.
-- Assumes nothing.
use mathlib.Core.Path.{◌≡◌, refl, ap, ap₂, ◌∙◌}
use mathlib.Core.Bool.{Bool, true, false, cond}
use mathlib.Core.List.{List}
use Prim.Native.Nat.{ℕ, zero, suc, ◌<◌, ◌≤◌}
use native.Mathlib.Omega.{arith}
use lib.Dec.{T, ltb, ltb→lt}
use lib.ListN.{get_or}
use borrow.Author.Tests.{lt-ltb}
use Rattle.theory.specs.KindSet.{singleton}
use Rattle.theory.specs.PathExpr.{Direction, Label, through, Via, Op, step, join, op, closure, Symbol, s_step, s_join, s_op, s_closure}
use Rattle.theory.specs.Inference.{Triple}
use Rattle.symbols.specs.Symbols.{symbol_numbered}
use Rattle.rows.specs.Kept.{Kept}
use Rattle.triples.specs.Table.{node_at}
use Rattle.triples.specs.Paths.{original, built, of_node, triple_at, triple_of}
use Rattle.algorithms.specs.Growth.{no_triple}

cond_same : {A : Type 0} (b : Bool) (x y z : A) → (T b → x ≡ y) → cond b x z ≡ cond b y z
cond_same true x y z e = e tt
cond_same false x y z e = refl

-- the words up to i decide the triple at i, and so does any fuel past i
triple_same : (f g : ℕ) (qs xs ys : List ℕ) (i : ℕ) → i < f → i < g → ((k : ℕ) → k ≤ i → get_or xs k 0 ≡ get_or ys k 0) → triple_at f qs xs i ≡ triple_at g qs ys i
unfolding triple_at
triple_same zero g qs xs ys i h l e = absurd (omega arith)
triple_same (suc f) zero qs xs ys i h l e = absurd (omega arith)
triple_same (suc f) (suc g) qs xs ys i h l e =
    let operand : (j : ℕ) → cond (ltb j i) (triple_at f qs xs j) no_triple ≡ cond (ltb j i) (triple_at g qs ys j) no_triple
    = λ j. cond_same (ltb j i) (triple_at f qs xs j) (triple_at g qs ys j) no_triple (λ t. let m = ltb→lt j i t in triple_same f g qs xs ys j (omega arith) (omega arith) (λ k n. e k (omega arith))) in
    rw (e i (omega arith)) (ap₂ (of_node qs (node_at ys i)) (operand (node_at ys i).left) (operand (node_at ys i).right))

pub triple_kept : {u hi : ℕ} {xs ys : List ℕ} → Kept u hi xs ys → (qs : List ℕ) (k : ℕ) → k < u → triple_of qs ys k ≡ triple_of qs xs k
unfolding triple_of
triple_kept {xs = xs} {ys} h qs k l = triple_same (suc k) (suc k) qs ys xs k (omega arith) (omega arith) (λ j m. h.below j (omega arith))

-- a node whose operands stand below it
pub triple_two : (qs ws : List ℕ) (i : ℕ) → (node_at ws i).left < i → (node_at ws i).right < i
    → triple_of qs ws i ≡ of_node qs (node_at ws i) (triple_of qs ws (node_at ws i).left) (triple_of qs ws (node_at ws i).right)
unfolding triple_of triple_at
triple_two qs ws i l r =
    rw (lt-ltb (node_at ws i).left i l, lt-ltb (node_at ws i).right i r)
    (ap₂ (of_node qs (node_at ws i))
    (triple_same i (suc (node_at ws i).left) qs ws ws (node_at ws i).left l (omega arith) (λ k h. refl))
    (triple_same i (suc (node_at ws i).right) qs ws ws (node_at ws i).right r (omega arith) (λ k h. refl)))

module _ (qs ws : List ℕ) (i : ℕ) where
  pub triple_from : (triple_of qs ws i).from ≡ (node_at ws i).from.0
  unfolding triple_of triple_at
  triple_from = refl

  pub triple_to : (triple_of qs ws i).to ≡ (node_at ws i).to.0
  unfolding triple_of triple_at
  triple_to = refl

  -- ---- by the last symbol
  -- some triples x and y of operands make the path
  pub path_built : (x : Triple) × (y : Triple) × ((triple_of qs ws i).path ≡ built qs (node_at ws i) x y (symbol_numbered (node_at ws i).made 0))
  unfolding triple_of triple_at
  path_built = (
    cond (ltb (node_at ws i).left i) (triple_at i qs ws (node_at ws i).left) no_triple,
    cond (ltb (node_at ws i).right i) (triple_at i qs ws (node_at ws i).right) no_triple,
    refl,
  )

  pub path_step : (d : Direction) (l : Label) → symbol_numbered (node_at ws i).made 0 ≡ s_step d l → (triple_of qs ws i).path ≡ step d l
  path_step d l s = let b = path_built in b.2 ∙ ap (built qs (node_at ws i) b.0 b.1) s

  pub path_kept : symbol_numbered (node_at ws i).made 0 ≡ s_closure → (triple_of qs ws i).path ≡ closure (original qs (node_at ws i).left (node_at ws i).right)
  path_kept s = let b = path_built in b.2 ∙ ap (built qs (node_at ws i) b.0 b.1) s

  module _ (l : (node_at ws i).left < i) (r : (node_at ws i).right < i) where
    by_symbol : (s : Symbol) → symbol_numbered (node_at ws i).made 0 ≡ s
        → (triple_of qs ws i).path ≡ built qs (node_at ws i) (triple_of qs ws (node_at ws i).left) (triple_of qs ws (node_at ws i).right) s
    by_symbol s e = ap (λ (t : Triple). t.path) (triple_two qs ws i l r) ∙ ap (built qs (node_at ws i) (triple_of qs ws (node_at ws i).left) (triple_of qs ws (node_at ws i).right)) e

    pub path_join : (v : Via) → symbol_numbered (node_at ws i).made 0 ≡ s_join v
        → (triple_of qs ws i).path ≡ join (through (singleton (triple_of qs ws (node_at ws i).left).to)) (triple_of qs ws (node_at ws i).left).path (triple_of qs ws (node_at ws i).right).path
    path_join v e = by_symbol (s_join v) e

    pub path_op : (o : Op) → symbol_numbered (node_at ws i).made 0 ≡ s_op o → (triple_of qs ws i).path ≡ op o (triple_of qs ws (node_at ws i).left).path (triple_of qs ws (node_at ws i).right).path
    path_op o e = by_symbol (s_op o) e
