-- The symbols of a path and their numbers in a file: codes, ranges and operands are the same, and each comes back from the other.
-- Assumes nothing.
use Prim.Native.Nat.{ℕ, suc, zero, ◌+◌, ◌-◌, ◌<◌, ◌≤◌}
use mathlib.Core.Path.{◌≡◌, refl, sym, ap, ap₂, ◌∙◌, subst}
use mathlib.Core.Logic.{inl, inr}
use mathlib.Core.Bool.{true, false}
use mathlib.Core.List.{List, [], ◌∷◌, ◌++◌, map}
use lib.Dec.{T, ltb→lt, lt→ltb}
use lib.ListN.{length, length-append, length-map}
use native.Mathlib.Decide.{dec_le, ℕ_discrete}
use native.Mathlib.Omega.{arith}
use borrow.Author.Tests.{lt-ltb, le-ltb, eq-eqb, ne_eqb}
use Rattle.theory.specs.KindSet.{IsSet}
use Rattle.theory.specs.PathExpr.{Direction, forward, reverse, Label, named, below?, any, through, union, conjunction, branch_right, branch_left, PathExpr, step, join, op, closure}
use Rattle.theory.specs.PathExpr.{Symbol, s_step, s_join, s_op, s_closure, postfix, size, code, codes, links?}
use Rattle.theory.specs.Narrowing.{ViaFits, SetsFit}
use Rattle.theory.proofs.Tests.{tests}
use Rattle.symbols.specs.declared.Symbol as declared·Symbol
use Rattle.symbols.specs.declared.Symbol.TheVariants as symbol
use Rattle.symbols.specs.Contract.{direction_said, symbol_said, LinkFits}
use Rattle.symbols.specs.Symbols.{Numbered, numbered, symbol_of, operands, order_code, arity, operator_numbered, symbol_numbered, symbol?, Fine, number_symbol, symbol_given, symbols_given}

-- a file can hold the symbol
abbrev pub Held : Symbol → Type 0
Held (s_step d l) = T (below? l 64)
Held (s_join v) = ViaFits v
Held (s_op o) = Unit {0}
Held s_closure = Unit {0}

-- ---- from the symbol to its number
pub record Number (s : Symbol) : Type 0 where
  pub fine : Fine (number_symbol s)
  pub same_code : order_code (number_symbol s).number ≡ code s
  pub takes : arity (number_symbol s).number ≡ operands s
  pub back : symbol_of (number_symbol s) ≡ s

plain_code : (c : ℕ) → c < 255 → order_code c ≡ c
unfolding order_code
plain_code c h = rw (ne_eqb c 255 (omega arith))

pub number_of : (s : Symbol) → Held s → Number s
unfolding order_code arity symbol_numbered
number_of (s_step forward (named l)) t =
    let h = ltb→lt l 64 t in
    let e : symbol_numbered l 0 ≡ s_step forward (named l) = rw (lt-ltb l 64 h) in
    record { fine = inl (omega arith, refl); same_code = plain_code l (omega arith); takes = ap operands e; back = e }
number_of (s_step reverse (named l)) t =
    let h = ltb→lt l 64 t in
    let i : 64 + l - 64 ≡ l = omega arith in
    let e : symbol_numbered (64 + l) 0 ≡ s_step reverse (named l) = rw (le-ltb (64 + l) 64 (omega arith), lt-ltb (64 + l) 128 (omega arith), i) in
    record { fine = inl (omega arith, refl); same_code = plain_code (64 + l) (omega arith); takes = ap operands e; back = e }
number_of (s_join any) h = record { fine = inl (omega arith, refl); same_code = refl; takes = refl; back = refl }
number_of (s_join (through m)) h = record { fine = inr (refl, h); same_code = refl; takes = refl; back = refl }
number_of (s_op union) h = record { fine = inl (omega arith, refl); same_code = refl; takes = refl; back = refl }
number_of (s_op conjunction) h = record { fine = inl (omega arith, refl); same_code = refl; takes = refl; back = refl }
number_of (s_op branch_right) h = record { fine = inl (omega arith, refl); same_code = refl; takes = refl; back = refl }
number_of (s_op branch_left) h = record { fine = inl (omega arith, refl); same_code = refl; takes = refl; back = refl }
number_of s_closure h = record { fine = inl (omega arith, refl); same_code = refl; takes = refl; back = refl }

-- ---- from the number to its symbol
abbrev Comes : Numbered → Type 0
Comes x = Held (symbol_of x) × (number_symbol (symbol_of x) ≡ x)

operator_comes : (k : ℕ) → k < 6 → Comes (numbered (128 + k) 0)
unfolding symbol_numbered
operator_comes zero h = (tt, refl)
operator_comes (suc zero) h = (tt, refl)
operator_comes (suc (suc zero)) h = (tt, refl)
operator_comes (suc (suc (suc zero))) h = (tt, refl)
operator_comes (suc (suc (suc (suc zero)))) h = (tt, refl)
operator_comes (suc (suc (suc (suc (suc zero))))) h = (tt, refl)
operator_comes (suc (suc (suc (suc (suc (suc k)))))) h = absurd (omega arith)

plain_comes : (c : ℕ) → c < 134 → Comes (numbered c 0)
unfolding symbol_numbered
plain_comes c h = go (dec_le 64 c) (dec_le 128 c)
  where
    go : Dec (64 ≤ c) → Dec (128 ≤ c) → Comes (numbered c 0)
    go (no a) b = rw (lt-ltb c 64 (omega arith)) (lt→ltb c 64 (omega arith), refl)
    go (yes a) (no b) = let e : 64 + (c - 64) ≡ c = omega arith in rw (le-ltb c 64 a, lt-ltb c 128 (omega arith)) (lt→ltb (c - 64) 64 (omega arith), ap (λ (k : ℕ). numbered k 0) e)
    go (yes a) (yes b) = let e : 128 + (c - 128) ≡ c = omega arith in subst (λ (k : ℕ). Comes (numbered k 0)) e (operator_comes (c - 128) (omega arith))

via_comes : (m : ℕ) → IsSet m → Comes (numbered 255 m)
unfolding symbol_numbered
via_comes m h = (h, refl)

pub symbol_comes : (x : Numbered) → Fine x → Comes x
symbol_comes x (inl (h, z)) =
    let e : numbered x.number 0 ≡ x = ap (λ (m : ℕ). numbered x.number m) (sym z) in
    subst Comes e (plain_comes x.number h)
symbol_comes x (inr (n, h)) =
    let e : numbered 255 x.set ≡ x = ap (λ (c : ℕ). numbered c x.set) (sym n) in
    subst Comes e (via_comes x.set h)

-- ---- the symbol of a number
pub forward_number : (c m : ℕ) → c < 64 → symbol_numbered c m ≡ s_step forward (named c)
unfolding symbol_numbered
forward_number c m h = simp (lt-ltb c 64 h)

pub reverse_number : (c m : ℕ) → 64 ≤ c → c < 128 → symbol_numbered c m ≡ s_step reverse (named (c - 64))
unfolding symbol_numbered
reverse_number c m l h = simp (le-ltb c 64 l, lt-ltb c 128 h)

from_133 : {c : ℕ} → 133 ≤ c → 5 ≤ c - 128
from_133 h = omega arith

last_operator : (k : ℕ) → 5 ≤ k → operator_numbered k ≡ s_closure
last_operator k h = let e : k ≡ suc (suc (suc (suc (suc (k - 5))))) = omega arith in ap operator_numbered e

module _ (c m : ℕ) (l : 128 ≤ c) where
  pub operator_number : (c ≡ 255 → ⊥) → symbol_numbered c m ≡ operator_numbered (c - 128)
  unfolding symbol_numbered
  operator_number n = simp (le-ltb c 64 (omega arith), le-ltb c 128 l, ne_eqb c 255 n)

  pub through_number : c ≡ 255 → symbol_numbered c m ≡ s_join (through m)
  unfolding symbol_numbered
  through_number e = simp (le-ltb c 64 (omega arith), le-ltb c 128 l, eq-eqb c 255 e)

pub code_number : (c : ℕ) → c < 134 → code (symbol_numbered c 0) ≡ c
code_number c h =
    let k = symbol_comes (numbered c 0) (inl (h, refl)) in
    sym (number_of (symbol_numbered c 0) k.0).same_code ∙ ap (λ (x : Numbered). order_code x.number) k.1 ∙ plain_code c (omega arith)

-- ---- which numbers are a symbol's: those below 134, and 255
pub known_below : (c : ℕ) → c < 134 → symbol? c ≡ true
unfolding symbol?
known_below c h = eq-eqb (number_symbol (symbol_numbered c 0)).number c (ap (λ (x : Numbered). x.number) (plain_comes c h).1)

pub known_through : (c : ℕ) → c ≡ 255 → symbol? c ≡ true
unfolding symbol? symbol_numbered
known_through c e = rw e refl

pub closure_above : (c m : ℕ) → 134 ≤ c → ¬ (c ≡ 255) → symbol_numbered c m ≡ s_closure
closure_above c m l n = operator_number c m (omega arith) n ∙ last_operator (c - 128) (from_133 (omega arith))

pub unknown : (c : ℕ) → 134 ≤ c → ¬ (c ≡ 255) → symbol? c ≡ false
unfolding symbol?
unknown c l n = rw (closure_above c 0 l n) (ne_eqb 133 c (omega arith))

-- ---- a symbol of two arrays, in which only a join through a set has one
without_set : (c m : ℕ) → ¬ (c ≡ 255) → symbol_numbered c 0 ≡ symbol_numbered c m
unfolding symbol_numbered
without_set c m n = rw (ne_eqb c 255 n)

pub given_symbol : (c m : ℕ) → symbol_of (symbol_given c m) ≡ symbol_numbered c m
given_symbol c m = go (ℕ_discrete c 255)
  where
    go : Dec (c ≡ 255) → symbol_of (symbol_given c m) ≡ symbol_numbered c m
    go (yes e) = rw (eq-eqb c 255 e) refl
    go (no n) = rw (ne_eqb c 255 n) (without_set c m n)

-- ---- what is known of a step's link
pub step_below : (c m : ℕ) (d : Direction) (l : Label) → symbol_numbered c m ≡ s_step d l → T (below? l 64)
step_below c m d l e = go (dec_le 64 c) (dec_le 128 c) (ℕ_discrete c 255)
  where
    Low : Symbol → Type 0
    Low (s_step d l) = T (below? l 64)
    Low (s_join v) = Unit {0}
    Low (s_op o) = Unit {0}
    Low s_closure = Unit {0}

    operator_low : (k : ℕ) → Low (operator_numbered k)
    operator_low zero = tt
    operator_low (suc zero) = tt
    operator_low (suc (suc zero)) = tt
    operator_low (suc (suc (suc zero))) = tt
    operator_low (suc (suc (suc (suc zero)))) = tt
    operator_low (suc (suc (suc (suc (suc k))))) = tt

    go : Dec (64 ≤ c) → Dec (128 ≤ c) → Dec (c ≡ 255) → T (below? l 64)
    go (no a) b x = subst Low (sym (forward_number c m (omega arith)) ∙ e) (lt→ltb c 64 (omega arith))
    go (yes a) (no b) x = subst Low (sym (reverse_number c m a (omega arith)) ∙ e) (lt→ltb (c - 64) 64 (omega arith))
    go (yes a) (yes b) (yes x) = subst Low (sym (through_number c m b x) ∙ e) tt
    go (yes a) (yes b) (no x) = subst Low (sym (operator_number c m b x) ∙ e) (operator_low (c - 128))

-- ---- the symbols of a path
abbrev pub AllHeld : List Symbol → Type 0
AllHeld [] = Unit {0}
AllHeld (s ∷ ss) = Held s × AllHeld ss

held_append : (xs ys : List Symbol) → AllHeld xs → AllHeld ys → AllHeld (xs ++ ys)
held_append [] ys f g = g
held_append (x ∷ xs) ys f g = (f.0, held_append xs ys f.1 g)

pub held_postfix : (p : PathExpr) → T (links? 64 p) → SetsFit p → AllHeld (postfix p)
held_postfix (step d l) t f = (t, tt)
held_postfix (join v p q) t f =
    held_append (postfix p) (postfix q ++ (s_join v ∷ [])) (held_postfix p (search tests) f.1) (held_append (postfix q) (s_join v ∷ []) (held_postfix q (search tests) f.2) (f.0, tt))
held_postfix (op o p q) t f =
    held_append (postfix p) (postfix q ++ (s_op o ∷ [])) (held_postfix p (search tests) f.0) (held_append (postfix q) (s_op o ∷ []) (held_postfix q (search tests) f.1) (tt, tt))
held_postfix (closure p) t f = held_append (postfix p) (s_closure ∷ []) (held_postfix p t f) (tt, tt)

-- they come back from their numbers
pub numbered_symbols : (ss : List Symbol) → AllHeld ss → map symbol_of (map number_symbol ss) ≡ ss
numbered_symbols [] h = refl
numbered_symbols (s ∷ ss) h = ap₂ (λ (x : Symbol) (xs : List Symbol). x ∷ xs) (number_of s h.0).back (numbered_symbols ss h.1)

pub length_postfix : (p : PathExpr) → length (postfix p) ≡ size p
length_postfix (step d l) = refl
length_postfix (join v p q) = simp (length-append, length_postfix p, length_postfix q) (omega arith)
length_postfix (op o p q) = simp (length-append, length_postfix p, length_postfix q) (omega arith)
length_postfix (closure p) = simp (length-append, length_postfix p) (omega arith)

pub length_codes : (p : PathExpr) → length (codes p) ≡ size p
length_codes p = length-map (postfix p) code ∙ length_postfix p

-- symbols in two arrays are as many as are asked for
pub length_given : (numbers masks : List ℕ) (n k : ℕ) → length (symbols_given numbers masks n k) ≡ n
length_given numbers masks zero k = refl
length_given numbers masks (suc n) k = ap suc (length_given numbers masks n (suc k))

-- what is decoded has a number
pub decoded_fits : (x : declared·Symbol.Symbol) (c m : ℕ) → symbol_said x ≡ symbol_numbered c m → LinkFits x
decoded_fits (symbol.Step d l) c m e = ltb→lt l.0 64 (step_below c m (direction_said d) (named l.0) (sym e))
decoded_fits (symbol.Join v) c m e = tt
decoded_fits (symbol.Op o) c m e = tt
decoded_fits symbol.Closure c m e = tt

-- in an arm of a match on what was decoded: the symbol of the number
pub decoded : {r x : declared·Symbol.Symbol} {s : Symbol} → symbol_said r ≡ s → r ≡ x → s ≡ symbol_said x
decoded e t = sym e ∙ ap symbol_said t
