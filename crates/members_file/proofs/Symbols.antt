-- Codes and sets made numbers: symbol by symbol, and in an array.
-- Assumes nothing.
use mathlib.Core.Path.{◌≡◌, refl, sym, ap, ap₂, ◌∙◌}
use mathlib.Core.Bool.{Bool, true, false, cond}
use mathlib.Core.Logic.{⊎_elim}
use mathlib.Core.List.{List, ◌∷◌, map, zip_with}
use Prim.Native.Nat.{ℕ, zero, suc, ◌+◌, ◌-◌, ◌*◌, ◌<◌, ◌≤◌}
use native.Mathlib.Nat.{eq-or-lt_of_le, zero-add}
use native.Mathlib.Numerals.{add-one}
use native.Mathlib.Omega.{arith}
use lib.Dec.{eqb}
use lib.ListN.{length, get_or, set, length-set, length-append}
use lib.Seq.{get_or-set_same, get_or-set_other}
use borrow.Author.Tests.{ne_eqb}
use Rattle.theory.specs.Lists.{tabulate}
use Rattle.theory.specs.PathExpr.{Via, any, through, PathExpr, Symbol, s_step, s_join, s_op, s_closure, postfix, code, codes}
use Rattle.theory.specs.JoinSets.{set_of, sets_of, Inferred, Marked}
use Rattle.theory.proofs.JoinSets.{symbols_by, inferred_marked}
use Rattle.symbols.specs.declared.Symbol as symbol
use Rattle.symbols.specs.declared.Symbol.TheVariants as variants
use Rattle.symbols.specs.declared.Via as via
use Rattle.symbols.specs.Contract.{symbol_said}
use Rattle.symbols.specs.Symbols.{Numbered, numbered, symbol_numbered, number_symbol, symbol_given, symbols_given}
use Rattle.symbols.specs.Writing.{symbol_bytes, symbols_bytes}
use Rattle.merge.specs.Arrays.{segment}
use Rattle.encode.specs.Size.{symbol_size}
use Rattle.encode.proofs.Parts.{size_is}
use Rattle.members_file.specs.Files.{number_by, number_of, renumbered, Numbering}

-- ---- a symbol's number
pub by_symbol : (c m : ℕ) {s : Symbol} → symbol_numbered c 0 ≡ s → number_by c m s ≡ number_of c m
unfolding number_of
by_symbol c m e = ap (number_by c m) (sym e)

pub plain_join : (c m : ℕ) {v : Via} → symbol_numbered c 0 ≡ s_join v → m ≡ 0 → c ≡ number_of c m
plain_join c m e z = sym (ap (λ (k : ℕ). cond (eqb k 0) c 255) z) ∙ by_symbol c m e

pub set_join : (c m : ℕ) {v : Via} → symbol_numbered c 0 ≡ s_join v → ¬ (m ≡ 0) → 255 ≡ number_of c m
set_join c m e z = sym (ap (λ (b : Bool). cond b c 255) (ne_eqb m 0 z)) ∙ by_symbol c m e

-- a symbol that is no join, or a join without a set
pub kept_code : (c m : ℕ) (x : symbol.Symbol) → symbol_said x ≡ symbol_numbered c 0 → ((v : via.Via) → x ≡ variants.Join v → m ≡ 0) → c ≡ number_of c m
kept_code c m (variants.Step d l) e h = by_symbol c m (sym e)
kept_code c m (variants.Join v) e h = plain_join c m (sym e) (h v refl)
kept_code c m (variants.Op o) e h = by_symbol c m (sym e)
kept_code c m variants.Closure e h = by_symbol c m (sym e)

-- without a set it is the code
plain_number : (c : ℕ) → number_of c 0 ≡ c
unfolding number_of
plain_number c = go (symbol_numbered c 0)
  where
    go : (s : Symbol) → number_by c 0 s ≡ c
    go (s_step d l) = refl
    go (s_join v) = refl
    go (s_op o) = refl
    go s_closure = refl

no_set : (c : ℕ) → numbered c 0 ≡ symbol_given (number_of c 0) 0
no_set c = rw (plain_number c) (ap (numbered c) (none (eqb c 255)))
  where
    none : (b : Bool) → ◌≡◌ {A = ℕ} 0 (cond b 0 0)
    none true = refl
    none false = refl

marked_number : (s : Symbol) → Marked s → number_symbol s ≡ symbol_given (number_of (code s) (set_of s)) (set_of s)
unfolding number_of symbol_numbered
marked_number (s_step d l) x = no_set (code (s_step d l))
marked_number (s_join any) x = refl
marked_number (s_join (through m)) x = rw (ne_eqb m 0 (omega arith))
marked_number (s_op o) x = no_set (code (s_op o))
marked_number s_closure x = refl

-- ---- the symbols of a path, by its codes and sets in two arrays
renumbered_segments : (cs ss : List ℕ) (k n : ℕ)
    → zip_with (λ c m. symbol_given (number_of c m) m) (tabulate (λ i. get_or cs i 0) k n) (tabulate (λ i. get_or ss i 0) k n) ≡ renumbered cs ss n k
unfolding zip_with
renumbered_segments cs ss k zero = refl
renumbered_segments cs ss k (suc n) =
    ap {B = List Numbered} (λ xs. symbol_given (number_of (get_or cs k 0) (get_or ss k 0)) (get_or ss k 0) ∷ xs) (renumbered_segments cs ss (suc k) n)

pub path_numbered : (p : PathExpr) → Inferred p → (cs ss : List ℕ) (n : ℕ) → segment cs 0 n ≡ codes p → segment ss 0 n ≡ sets_of p → map number_symbol (postfix p) ≡ renumbered cs ss n 0
unfolding segment
path_numbered p h cs ss n e f =
    let q : n - 0 ≡ n = omega arith in
    symbols_by number_symbol (λ c m. symbol_given (number_of c m) m) marked_number (postfix p) (inferred_marked p h)
    ∙ ap₂ (zip_with (λ c m. symbol_given (number_of c m) m)) (sym e) (sym f)
    ∙ renumbered_segments cs ss 0 (n - 0)
    ∙ ap (λ (k : ℕ). renumbered cs ss k 0) q

-- ---- the loop: the numbers up to j are made, and the bytes of the rest are still to be counted
pub record Going (cs ss ys : List ℕ) (n j total : ℕ) : Type 0 where
  pub within : j ≤ n
  pub same_length : length ys ≡ length cs
  pub done : (k : ℕ) → k < j → get_or ys k 0 ≡ number_of (get_or cs k 0) (get_or ss k 0)
  pub rest : (k : ℕ) → j ≤ k → get_or ys k 0 ≡ get_or cs k 0
  pub left : total + length (symbols_bytes (renumbered cs ss (n - j) j)) ≡ length (symbols_bytes (renumbered cs ss n 0))
  pub at_most : total ≤ 11 * j

pub going_start : (cs ss : List ℕ) (n : ℕ) → Going cs ss cs n 0 0
going_start cs ss n =
    let q : n - 0 ≡ n = omega arith in
    record {
      within = omega arith;
      same_length = refl;
      done = λ k l. absurd (omega arith);
      rest = λ k l. refl;
      left = zero-add (length (symbols_bytes (renumbered cs ss (n - 0) 0))) ∙ ap (λ (m : ℕ). length (symbols_bytes (renumbered cs ss m 0))) q;
      at_most = omega arith;
    }

module _ {cs ss ys : List ℕ} {n j total : ℕ} (g : Going cs ss ys n j total) where
  pub going_turn : {c w : ℕ} → j < n → n ≤ length cs → c ≡ number_of (get_or ys j 0) (get_or ss j 0) → w ≡ symbol_size c → w ≤ 11 → Going cs ss (set ys j c) n (j + 1) (total + w)
  going_turn {c} {w} l h e v small =
      let q : n - j ≡ suc (n - (j + 1)) = omega arith in
      let x : c ≡ number_of (get_or cs j 0) (get_or ss j 0) = e ∙ ap (λ (y : ℕ). number_of y (get_or ss j 0)) (g.rest j (omega arith)) in
      let f : List Numbered = renumbered cs ss (n - (j + 1)) (j + 1) in
      let b : renumbered cs ss (n - j) j ≡ symbol_given c (get_or ss j 0) ∷ f = rw (q, x, add-one j) in
      let a : length (symbols_bytes (renumbered cs ss (n - j) j)) ≡ w + length (symbols_bytes f)
      = ap (λ (l : List Numbered). length (symbols_bytes l)) b ∙ length-append (symbol_bytes (symbol_given c (get_or ss j 0))) (symbols_bytes f)
      ∙ ap (λ (k : ℕ). k + length (symbols_bytes f)) (sym (v ∙ size_is c (get_or ss j 0))) in
      record {
        within = omega arith;
        same_length = length-set ys j c ∙ g.same_length;
        done = λ k m. ⊎_elim
            (λ (z : k ≡ j). rw z (get_or-set_same ys j c 0 (omega (arith, g.same_length)) ∙ x))
            (λ (z : k < j). get_or-set_other ys j k c 0 (omega arith) ∙ g.done k z)
            (eq-or-lt_of_le (omega arith));
        rest = λ k m. get_or-set_other ys j k c 0 (omega arith) ∙ g.rest k (omega arith);
        left = omega (arith, g.left, a);
        at_most = omega (arith, g.at_most);
      }

  pub going_over : n ≤ j → Numbering cs ss ys n total
  going_over l =
      let e : j ≡ n = omega (arith, g.within) in
      let z : n - j ≡ 0 = omega arith in
      let k : length (symbols_bytes (renumbered cs ss (n - j) j)) ≡ 0 = rw z in
      record {
        same_length = g.same_length;
        symbols_are = given_numbers n 0 (λ k a b. g.done k (omega arith));
        bytes_are = omega (arith, g.left, k);
        at_most = omega (arith, g.at_most);
      }
    where
      given_numbers : (n s : ℕ) → ((k : ℕ) → s ≤ k → k < s + n → get_or ys k 0 ≡ number_of (get_or cs k 0) (get_or ss k 0)) → symbols_given ys ss n s ≡ renumbered cs ss n s
      given_numbers zero s f = refl
      given_numbers (suc n) s f =
          ap₂ {C = List Numbered} (λ c xs. symbol_given c (get_or ss s 0) ∷ xs) (f s (omega arith) (omega arith)) (given_numbers n (suc s) (λ k a b. f k (omega arith) (omega arith)))
