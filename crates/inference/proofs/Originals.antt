-- The part on top of the stack, read back from the question's codes.
-- Assumes nothing.
use mathlib.Core.Path.{◌≡◌, refl, sym, ap, ap₂, ◌∙◌, subst}
use mathlib.Core.List.{List, [], ◌∷◌, ◌++◌, map, map-append}
use Prim.Native.Nat.{ℕ, suc, ◌+◌, ◌-◌, ◌<◌, ◌≤◌}
use native.Mathlib.Omega.{arith}
use lib.ListN.{length, get_or, take, drop, replicate, length-append, length-drop, length-map}
use lib.Seq.{length-take-le, take-add, drop_at, get_or-take, get_or-drop}
use Rattle.theory.specs.PathExpr.{any, through, PathExpr, Symbol, s_step, s_join, s_op, s_closure, postfix, code}
use Rattle.theory.specs.Postfix.{Stack}
use Rattle.theory.specs.JoinSets.{set_of, sets_of}
use Rattle.theory.proofs.Postfix.{path_of_postfix, symbols}
use Rattle.symbols.specs.Symbols.{symbol_numbered}
use Rattle.question.specs.Form.{question_symbols}
use Rattle.triples.specs.Paths.{original, Coded, Copied}
use Rattle.inference.specs.Questions.{symbols_of}

pub symbols_length : (qs : List ℕ) (i : ℕ) → i ≤ length qs → length (symbols_of qs i) ≡ i
symbols_length qs i h = length-map (take i qs) (λ c. _) ∙ length-take-le i qs h

-- ---- the codes of symbols: they come back, and no symbol has a set
abbrev pub AllCoded : List ℕ → Type 0
AllCoded cs = (k : ℕ) → k < length cs → Coded (get_or cs k 0)

back_codes : (cs : List ℕ) → AllCoded cs → map code (question_symbols cs) ≡ cs
back_codes [] h = refl
back_codes (c ∷ cs) h = ap₂ (λ (x : ℕ) (l : List ℕ). x ∷ l) (h 0 (omega arith)).is (back_codes cs (λ k l. h (suc k) (omega arith)))

no_set : (c : ℕ) → Coded c → set_of (symbol_numbered c 0) ≡ 0
unfolding symbol_numbered
no_set c h = go (symbol_numbered c 0) refl h.is
  where
    go : (s : Symbol) → symbol_numbered c 0 ≡ s → code s ≡ c → set_of s ≡ 0
    go (s_step d l) e k = refl
    go (s_join any) e k = refl
    go (s_join (through m)) e k = sym (ap set_of (subst (λ (n : ℕ). symbol_numbered n 0 ≡ s_join (through m)) (sym k) e))
    go (s_op o) e k = refl
    go s_closure e k = refl

no_sets : (cs : List ℕ) → AllCoded cs → map set_of (question_symbols cs) ≡ replicate (length cs) 0
no_sets [] h = refl
no_sets (c ∷ cs) h = ap₂ (λ (x : ℕ) (l : List ℕ). x ∷ l) (no_set c (h 0 (omega arith))) (no_sets cs (λ k l. h (suc k) (omega arith)))

-- the first i symbols are those of a stack, and those of its top start at o
module _ (qs : List ℕ) (p : PathExpr) (st : Stack) (o i : ℕ) (h : i ≤ length qs) (is : symbols (p ∷ st) ≡ symbols_of qs i) (at : o ≡ length (symbols st)) where
  pub top_back : o ≤ i
  top_back = omega (arith, at, length-append (symbols st) (postfix p), ap length is, symbols_length qs i h)

  abbrev cs : List ℕ
  cs = take (i - o) (drop o qs)

  cs_length : length cs ≡ i - o
  cs_length = length-take-le (i - o) (drop o qs) (omega (arith, length-drop o qs, top_back))

  split : symbols_of qs i ≡ symbols_of qs o ++ question_symbols cs
  split =
      let e : i ≡ o + (i - o) = omega (arith, top_back) in
      ap (symbols_of qs) e ∙ ap question_symbols (take-add o (i - o) qs) ∙ map-append _ (take o qs) cs

  top_symbols : postfix p ≡ question_symbols cs
  top_symbols =
      sym (drop_at (symbols st) (postfix p) o (sym at))
      ∙ ap (drop o) (is ∙ split)
      ∙ drop_at (symbols_of qs o) (question_symbols cs) o (symbols_length qs o (omega (arith, top_back)))

  pub top_original : original qs o (i - o) ≡ p
  unfolding original
  top_original = rw (← top_symbols, path_of_postfix p)

  pub top_copied : ((k : ℕ) → k < i → Coded (get_or qs k 0)) → Copied qs o (i - o)
  top_copied known =
      record {
        inside = omega (arith, top_back);
        same_codes = ap (λ (r : PathExpr). map code (postfix r)) top_original ∙ ap (map code) top_symbols ∙ back_codes cs known_cs;
        no_sets =
            ap (λ (r : PathExpr). sets_of r) top_original ∙ ap (map set_of) top_symbols ∙ no_sets cs known_cs
            ∙ ap (λ (n : ℕ). replicate n 0) cs_length;
      }
    where
      known_cs : AllCoded cs
      known_cs k l =
          let m : k < i - o = omega (arith, cs_length, l) in
          rw (get_or-take (i - o) (drop o qs) k 0 m, get_or-drop o qs k 0) (known (o + k) (omega (arith, top_back)))
