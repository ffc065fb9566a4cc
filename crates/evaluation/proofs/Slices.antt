-- The symbols of a part of two arrays are those from its start on.
-- Assumes nothing.
use mathlib.Core.Path.{◌≡◌, refl, sym, ap, ap₂, ◌∙◌}
use mathlib.Core.List.{List, ◌∷◌, map}
use Prim.Native.Nat.{ℕ, zero, suc, ◌+◌, ◌≤◌, ◌<◌}
use native.Mathlib.Omega.{arith}
use lib.ListN.{length, get_or, take, drop}
use Rattle.std.proofs.lemmas.List.{get_or-take, get_or-drop, length-take-le, length-drop}
use Rattle.symbols.specs.Symbols.{Numbered, symbol_numbered, symbol_given, symbols_given}
use Rattle.evaluation.specs.Grounded.{symbols_in, symbols_of}

-- what stands at the same k places is the same symbols
given_same : (ns ms ns' ms' : List ℕ) (k i j : ℕ) → ((d : ℕ) → d < k → get_or ns (i + d) 0 ≡ get_or ns' (j + d) 0)
    → ((d : ℕ) → d < k → get_or ms (i + d) 0 ≡ get_or ms' (j + d) 0) → symbols_given ns ms k i ≡ symbols_given ns' ms' k j
given_same ns ms ns' ms' zero i j a b = refl
given_same ns ms ns' ms' (suc k) i j a b =
    ap₂ (λ (x : Numbered) (l : List Numbered). x ∷ l)
    (ap₂ symbol_given (at ns ns' 0 (a 0 (omega arith)) (omega arith) (omega arith)) (at ms ms' 0 (b 0 (omega arith)) (omega arith) (omega arith)))
    (given_same ns ms ns' ms' k (suc i) (suc j) (λ d h. later ns ns' d (a (suc d) (omega arith))) (λ d h. later ms ms' d (b (suc d) (omega arith))))
  where
    at : (xs ys : List ℕ) (d : ℕ) → get_or xs (i + d) 0 ≡ get_or ys (j + d) 0 → i + d ≡ i → j + d ≡ j → get_or xs i 0 ≡ get_or ys j 0
    at xs ys d e p q = ap (λ (z : ℕ). get_or xs z 0) (sym p) ∙ e ∙ ap (λ (z : ℕ). get_or ys z 0) q

    later : (xs ys : List ℕ) (d : ℕ) → get_or xs (i + suc d) 0 ≡ get_or ys (j + suc d) 0 → get_or xs (suc i + d) 0 ≡ get_or ys (suc j + d) 0
    later xs ys d e =
        let p : suc i + d ≡ i + suc d = omega arith in
        let q : j + suc d ≡ suc j + d = omega arith in
        ap (λ (z : ℕ). get_or xs z 0) p ∙ e ∙ ap (λ (z : ℕ). get_or ys z 0) q

pub symbols_slice : (ns ms : List ℕ) (k i : ℕ) → symbols_given (take k (drop i ns)) (take k (drop i ms)) k 0 ≡ symbols_given ns ms k i
symbols_slice ns ms k i = given_same (take k (drop i ns)) (take k (drop i ms)) ns ms k 0 i (part ns) (part ms)
  where
    part : (xs : List ℕ) (d : ℕ) → d < k → get_or (take k (drop i xs)) (0 + d) 0 ≡ get_or xs (i + d) 0
    part xs d h =
        let e : 0 + d ≡ d = omega arith in
        ap (λ (z : ℕ). get_or (take k (drop i xs)) z 0) e ∙ get_or-take k (drop i xs) d 0 h ∙ get_or-drop i xs d 0

pub part_length : (xs : List ℕ) (k i : ℕ) → i + k ≤ length xs → length (take k (drop i xs)) ≡ k
part_length xs k i h = length-take-le k (drop i xs) (omega (arith, length-drop i xs))

pub symbols_part : (ns ms : List ℕ) (k i : ℕ) → i + k ≤ length ns → symbols_of (take k (drop i ns)) (take k (drop i ms)) ≡ symbols_in ns ms k i
symbols_part ns ms k i h =
    ap (λ (n : ℕ). symbols_in (take k (drop i ns)) (take k (drop i ms)) n 0) (part_length ns k i h)
    ∙ ap (map (λ x. symbol_numbered x.number x.set)) (symbols_slice ns ms k i)
