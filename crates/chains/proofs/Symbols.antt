-- A chain's symbols make its path.
-- Assumes nothing.
use mathlib.Core.Path.{◌≡◌, refl, sym, ap, subst, ◌∙◌}
use mathlib.Core.Bool.{cond}
use mathlib.Core.List.{List, [], ◌∷◌}
use mathlib.Core.Option.{some}
use Prim.Native.Nat.{ℕ, zero, suc, ◌+◌, ◌*◌}
use native.Mathlib.Omega.{arith}
use lib.Dec.{eqb}
use lib.ListN.{get_or}
use borrow.Author.Count.{below_more}
use borrow.Author.Tests.{ne_eqb}
use native.Mathlib.Decide.{ℕ_discrete}
use Rattle.theory.specs.PathExpr.{through, PathExpr, join, Symbol, s_step}
use Rattle.theory.specs.Postfix.{Stack, push, go_on, read, single_path, path_of}
use Rattle.symbols.specs.Symbols.{symbol_numbered}
use Rattle.symbols.proofs.Numbers.{through_number, given_symbol}
use Rattle.evaluation.specs.Grounded.{symbols_in}
use Rattle.chains.specs.Chain.{IsStep, step_numbered, Chained, chain_path}
use Rattle.chains.proofs.Holding.{no_step, step_is}

-- a step has no set
step_symbol : (c m : ℕ) (x : IsStep c) → symbol_numbered c m ≡ s_step x.0 x.1
step_symbol c m x = go (ℕ_discrete c 255)
  where
    go : Dec (c ≡ 255) → symbol_numbered c m ≡ s_step x.0 x.1
    go (yes e) = absurd (no_step c e x)
    go (no n) = sym (given_symbol c m) ∙ rw (ne_eqb c 255 n) x.2

-- a step's number pushes its step
push_step : (c m : ℕ) (st : Stack) → IsStep c → push (symbol_numbered c m) st ≡ some (step_numbered c ∷ st)
push_step c m st x = ap (λ (y : Symbol). push y st) (step_symbol c m x) ∙ ap (λ (p : PathExpr). some (p ∷ st)) (sym (step_is c x))

-- a join through a set takes two paths
push_joint : (c m : ℕ) (p q : PathExpr) (st : Stack) → c ≡ 255 → push (symbol_numbered c m) (q ∷ p ∷ st) ≡ some (join (through m) p q ∷ st)
push_joint c m p q st e = ap (λ (x : Symbol). push x (q ∷ p ∷ st)) (through_number c m (omega arith) e)

module _ (ns ms : List ℕ) where
  abbrev symbol_at : ℕ → Symbol
  symbol_at i = symbol_numbered (get_or ns i 0) (cond (eqb (get_or ns i 0) 255) (get_or ms i 0) 0)

  same_symbol : (i : ℕ) → symbol_at i ≡ symbol_numbered (get_or ns i 0) (get_or ms i 0)
  same_symbol i = given_symbol (get_or ns i 0) (get_or ms i 0)

  twice : ℕ → ℕ
  twice zero = zero
  twice (suc d) = suc (suc (twice d))

  twice_is : (d : ℕ) → twice d ≡ 2 * d
  unfolding twice
  twice_is zero = refl
  twice_is (suc d) = let e = twice_is d in omega arith

  -- d links more
  along : (d j m : ℕ) → j + d ≡ m → Chained ns m → read (symbols_in ns ms (twice d) (2 * j + 1)) (chain_path ns ms j ∷ []) ≡ some (chain_path ns ms m ∷ [])
  unfolding twice
  along zero j m e c = let z : j ≡ m = omega arith in ap (λ (k : ℕ). some (chain_path ns ms k ∷ [])) z
  along (suc d) j m e c =
      let a : 2 * j + 1 + 1 ≡ 2 * j + 2 = omega arith in
      let b : suc (suc (2 * j + 1)) ≡ 2 * suc j + 1 = omega arith in
      let k : suc (2 * j + 1) ≡ 2 * j + 2 = omega arith in
      let p = chain_path ns ms j in
      let q = step_numbered (get_or ns (2 * j + 1) 0) in
      ap (λ o. go_on o (read (symbols_in ns ms (suc (twice d)) (suc (2 * j + 1)))))
      (ap (λ (x : Symbol). push x (p ∷ [])) (same_symbol (2 * j + 1)) ∙ push_step (get_or ns (2 * j + 1) 0) (get_or ms (2 * j + 1) 0) (p ∷ []) (c.link j (omega arith)))
      ∙ ap (λ o. go_on o (read (symbols_in ns ms (twice d) (suc (suc (2 * j + 1))))))
      (ap (λ (i : ℕ). push (symbol_at i) (q ∷ p ∷ [])) k ∙ ap (λ (x : Symbol). push x (q ∷ p ∷ [])) (same_symbol (2 * j + 2))
      ∙ push_joint (get_or ns (2 * j + 2) 0) (get_or ms (2 * j + 2) 0) p q [] (c.joint j (omega arith)))
      ∙ ap (λ (i : ℕ). read (symbols_in ns ms (twice d) i) (chain_path ns ms (suc j) ∷ [])) b
      ∙ along d (suc j) m (omega arith) c

  pub chain_reads : (m size : ℕ) → size ≡ 2 * m + 1 → Chained ns m → path_of (symbols_in ns ms size 0) ≡ some (chain_path ns ms m)
  chain_reads m size e c =
      let z : size ≡ suc (twice m) = omega (arith, twice_is m) in
      let a : suc 0 ≡ 2 * 0 + 1 = omega arith in
      ap single_path
      (ap (λ (k : ℕ). read (symbols_in ns ms k 0) []) z
      ∙ ap (λ o. go_on o (read (symbols_in ns ms (twice m) (suc 0))))
      (ap (λ (x : Symbol). push x []) (same_symbol 0) ∙ push_step (get_or ns 0 0) (get_or ms 0 0) [] c.start)
      ∙ ap (λ (i : ℕ). read (symbols_in ns ms (twice m) i) (chain_path ns ms 0 ∷ [])) a
      ∙ along m 0 m (omega arith) c)

-- ---- the loop that tells a chain
pub chained_none : (ns : List ℕ) → IsStep (get_or ns 0 0) → Chained ns 0
chained_none ns h = record { start = h; link = λ j l. absurd (omega arith); joint = λ j l. absurd (omega arith) }

pub chained_more : {ns : List ℕ} (j : ℕ) → Chained ns j → IsStep (get_or ns (2 * j + 1) 0) → get_or ns (2 * j + 2) 0 ≡ 255 → Chained ns (j + 1)
chained_more {ns} j c a b =
    record {
      start = c.start;
      link = below_more (λ i. IsStep (get_or ns (2 * i + 1) 0)) j c.link a;
      joint = below_more (λ i. get_or ns (2 * i + 2) 0 ≡ 255) j c.joint b;
    }

pub chained_all : {ns : List ℕ} {j m : ℕ} → Chained ns j → j ≡ m → Chained ns m
chained_all {ns} c e = subst (Chained ns) e c
