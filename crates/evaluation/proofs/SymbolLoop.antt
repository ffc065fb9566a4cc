-- All symbols, one after the other: what holds at the loop's head, and how it goes on.
-- Assumes nothing.
use mathlib.Core.Path.{◌≡◌, refl, sym, ap, subst, ◌∙◌}
use mathlib.Core.List.{List, [], ◌∷◌}
use mathlib.Core.Option.{some}
use Prim.Native.Nat.{ℕ, zero, suc, ◌+◌, ◌-◌, ◌*◌, ◌≤◌, ◌<◌}
use native.Mathlib.Nat.{mul-le-mul_right}
use native.Mathlib.Omega.{arith}
use lib.ListN.{length, get_or}
use Rattle.theory.specs.PathExpr.{PathExpr, step, join, op, closure, Symbol, s_step, s_join, s_op, s_closure}
use Rattle.theory.specs.Postfix.{Stack, push, read, path_of}
use Rattle.theory.specs.TransitiveClosure.{look}
use Rattle.theory.specs.Evaluation.{evaluate}
use Rattle.theory.proofs.Postfix.{none_some, single, Step, read_step}
use Rattle.symbols.specs.Symbols.{symbol_numbered}
use Rattle.rows.specs.Kept.{Kept}
use Rattle.rows.proofs.Words.{kept_refl, kept_trans, kept_in}
use Rattle.evaluation.specs.Grounded.{symbols_in}
use Rattle.theory.specs.Register.{Register}
use Rattle.evaluation.specs.Stack.{Stored, Stacked, Applicable, Applied, Evaluated}
use Rattle.symbols.proofs.Numbers.{given_symbol}
use Rattle.evaluation.proofs.Relations.{stacked_length}

-- ---- a symbol changes the length of the stack by one at most
record Near (st st' : Stack) : Type 0 where
  up : length st' ≤ length st + 1
  down : length st ≤ length st' + 1

push_near : (x : Symbol) (st st' : Stack) → push x st ≡ some st' → Near st st'
push_near (s_step d l) st st' e = let k : step d l ∷ st ≡ st' = cc in let m = ap length k in record { up = omega arith; down = omega arith }
push_near (s_join v) [] st' e = none_some e
push_near (s_join v) (q ∷ []) st' e = none_some e
push_near (s_join v) (q ∷ p ∷ st) st' e = let k : join v p q ∷ st ≡ st' = cc in let m = ap length k in record { up = omega arith; down = omega arith }
push_near (s_op o) [] st' e = none_some e
push_near (s_op o) (q ∷ []) st' e = none_some e
push_near (s_op o) (q ∷ p ∷ st) st' e = let k : op o p q ∷ st ≡ st' = cc in let m = ap length k in record { up = omega arith; down = omega arith }
push_near s_closure [] st' e = none_some e
push_near s_closure (p ∷ st) st' e = let k : closure p ∷ st ≡ st' = cc in let m = ap length k in record { up = omega arith; down = omega arith }

-- a stack is no higher than the symbols that take it down to one path
read_height : (ss : List Symbol) (st : Stack) (p : PathExpr) → read ss st ≡ some (p ∷ []) → length st ≤ length ss + 1
read_height [] st p e = let k : st ≡ p ∷ [] = cc in let m = ap length k in omega arith
read_height (x ∷ ss) st p e = let r = read_step x ss st p e in let h = read_height ss r.next p r.reads in omega (arith, (push_near x st r.next r.pushes).down, h)

-- ---- the symbols in the arrays
symbols_length : (ns ms : List ℕ) (k i : ℕ) → length (symbols_in ns ms k i) ≡ k
symbols_length ns ms zero i = refl
symbols_length ns ms (suc k) i = ap suc (symbols_length ns ms k (suc i))

symbols_next : (ns ms : List ℕ) (count i : ℕ) → i < count
    → symbols_in ns ms (count - i) i ≡ symbol_numbered (get_or ns i 0) (get_or ms i 0) ∷ symbols_in ns ms (count - (i + 1)) (i + 1)
symbols_next ns ms count i h =
    let a : count - i ≡ suc (count - (i + 1)) = omega arith in
    let b : suc i ≡ i + 1 = omega arith in
    ap (λ (k : ℕ). symbols_in ns ms k i) a
    ∙ ap (λ (y : Symbol). y ∷ symbols_in ns ms (count - (i + 1)) (suc i)) (given_symbol (get_or ns i 0) (get_or ms i 0))
    ∙ ap (λ (k : ℕ). symbol_numbered (get_or ns i 0) (get_or ms i 0) ∷ symbols_in ns ms (count - (i + 1)) k) b

-- ---- the loop
module _ (r : Register) (n w : ℕ) (ns ms : List ℕ) (count : ℕ) where
  abbrev pub Makes : PathExpr → Type 0
  Makes p = path_of (symbols_in ns ms count 0) ≡ some p

  -- the stack after i symbols, from which the rest makes the path
  pub record At (ys : List ℕ) (b i : ℕ) (p : PathExpr) : Type 0 where
    pub stack : Stack
    pub stacked : Stacked r ys n w b stack
    pub rest : read (symbols_in ns ms (count - i) i) stack ≡ some (p ∷ [])
    pub height : length stack ≤ i

  pub record Going (xs ys : List ℕ) (b i : ℕ) : Type 0 where
    pub kept : Kept 0 (24 * (n * w)) xs ys
    pub at : (p : PathExpr) → Makes p → At ys b i p

  pub going_start : (xs : List ℕ) → Going xs xs 0 0
  going_start xs = record {
    kept = kept_refl 0 (24 * (n * w)) xs;
    at = λ p e. record {
      stack = [];
      stacked = refl;
      rest = whole ∙ single (read (symbols_in ns ms count 0) []) p e;
      height = omega arith;
    };
  }
    where
      whole : read (symbols_in ns ms (count - 0) 0) [] ≡ read (symbols_in ns ms count 0) []
      whole = let a : count - 0 ≡ count = omega arith in ap (λ (k : ℕ). read (symbols_in ns ms k 0) []) a

  module _ (few : count ≤ 48) {ys : List ℕ} {b i : ℕ} (h : i < count) (p : PathExpr) (a : At ys b i p) where
    abbrev x : Symbol
    x = symbol_numbered (get_or ns i 0) (get_or ms i 0)

    abbrev ss : List Symbol
    ss = symbols_in ns ms (count - (i + 1)) (i + 1)

    one : Step x ss a.stack p
    one = read_step x ss a.stack p (ap (λ l. read l a.stack) (sym (symbols_next ns ms count i h)) ∙ a.rest)

    near : Near a.stack one.next
    near = push_near x a.stack one.next one.pushes

    low : length a.stack ≤ 24
    low =
        let e = read_height (symbols_in ns ms (count - i) i) a.stack p a.rest in
        let l = symbols_length ns ms (count - i) i in
        omega (arith, a.height, e, l)

    low_next : length one.next ≤ 24
    low_next =
        let e = read_height ss one.next p one.reads in
        let l = symbols_length ns ms (count - (i + 1)) (i + 1) in
        omega (arith, a.height, e, l, near.up)

    pub fits : 24 * (n * w) ≤ length ys → Applicable r ys n w b x
    fits room = record {
      before = a.stack;
      after = one.next;
      stacked = a.stacked;
      pushes = one.pushes;
      room = omega (arith, mul-le-mul_right (n * w) low);
      more = omega (arith, mul-le-mul_right (n * w) low_next);
    }

    module _ {c : ℕ} {zs : List ℕ} (d : Applied r n w b x c ys zs) where
      pub at_more : At zs c (i + 1) p
      at_more = record { stack = one.next; stacked = d.next a.stack one.next a.stacked one.pushes; rest = one.reads; height = omega (arith, a.height, near.up) }

      pub kept_more : Kept 0 (24 * (n * w)) ys zs
      kept_more =
          kept_in d.kept (omega arith)
          (omega (arith, stacked_length r n w zs c one.next (d.next a.stack one.next a.stacked one.pushes), mul-le-mul_right (n * w) low_next))

  pub going_more : {xs ys zs : List ℕ} {b c i : ℕ} → count ≤ 48 → i < count → (p : PathExpr) → Makes p → Going xs ys b i
      → Applied r n w b (symbol_numbered (get_or ns i 0) (get_or ms i 0)) c ys zs → Going xs zs c (i + 1)
  going_more few h p e g d = record {
    kept = kept_trans g.kept (kept_more few h p (g.at p e) d) (omega arith) (omega arith) (omega arith) (omega arith);
    at = λ p e. at_more few h p (g.at p e) d;
  }

  pub going_end : {xs ys : List ℕ} {b i : ℕ} → i ≡ count → Going xs ys b i → (p : PathExpr) → Makes p → Evaluated r n w xs ys p
  going_end {xs} {ys} {b} {i} q g p e = record { kept = g.kept; pairs = go a.stack a.stacked rest }
    where
      a : At ys b i p
      a = g.at p e

      rest : some a.stack ≡ some (p ∷ [])
      rest = ap (λ (k : ℕ). read (symbols_in ns ms k i) a.stack) (let z : 0 ≡ count - i = omega arith in z) ∙ a.rest

      go : (st : Stack) → Stacked r ys n w b st → some st ≡ some (p ∷ []) → Stored ys 0 n w (look (evaluate r p))
      go st k m =
          let z : st ≡ p ∷ [] = cc in
          let t = subst (Stacked r ys n w b) z k in
          subst (λ (i : ℕ). Stored ys i n w (look (evaluate r p))) t.2 t.1
