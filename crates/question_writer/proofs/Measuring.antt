-- The bytes of a question's file, counted symbol by symbol.
-- Assumes nothing.
use mathlib.Core.Path.{◌≡◌, refl, sym, ap, ap₂, ◌∙◌}
use mathlib.Core.Bool.{Bool, true, false, cond}
use mathlib.Core.List.{List, [], ◌∷◌}
use Prim.Native.Nat.{ℕ, ◌+◌, ◌*◌, ◌≤◌}
use native.Mathlib.Omega.{arith}
use lib.Dec.{eqb}
use lib.ListN.{length, length-append}
use Rattle.std.specs.Prelude.{sum_by}
use Rattle.std.proofs.lemmas.List.Sums.{sum_by-cons}
use Rattle.fields.specs.Writing.{field_bytes}
use Rattle.symbols.specs.Symbols.{Numbered, numbered, symbol_given}
use Rattle.symbols.specs.Writing.{symbol_bytes, symbols_bytes}
use Rattle.encode.specs.Size.{symbol_size}
use Rattle.encode.proofs.Parts.{size_is, size_few}
use Rattle.question.specs.Writing.{numbered_codes, question_bytes}

-- a symbol that is lent no set
pub given_plain : (c : ℕ) → symbol_given c 0 ≡ numbered c 0
given_plain c = ap (numbered c) (go (eqb c 255))
  where
    go : (b : Bool) → ◌≡◌ {A = ℕ} (cond b 0 0) 0
    go true = refl
    go false = refl

pub question_length : (cs : List ℕ) → length (question_bytes cs) ≡ 4 + length (symbols_bytes (numbered_codes cs))
unfolding question_bytes
question_length cs = length-append (field_bytes 0x21 (length cs ∷ [])) (symbols_bytes (numbered_codes cs))

symbols_sized : (cs : List ℕ) → sum_by symbol_size cs ≡ length (symbols_bytes (numbered_codes cs))
symbols_sized [] = refl
symbols_sized (c ∷ cs) =
    sum_by-cons symbol_size c cs ∙ ap₂ (λ (i j : ℕ). i + j) (size_is c 0 ∙ ap (λ (x : Numbered). length (symbol_bytes x)) (given_plain c)) (symbols_sized cs)
    ∙ sym (length-append (symbol_bytes (numbered c 0)) (symbols_bytes (numbered_codes cs)))

few_bytes : (cs : List ℕ) → sum_by symbol_size cs ≤ 11 * length cs
few_bytes [] = omega arith
few_bytes (c ∷ cs) = omega (arith, few_bytes cs, size_few c, sum_by-cons symbol_size c cs)

-- the head and the symbols, and that there are few
pub sized : (cs : List ℕ) → 4 + sum_by symbol_size cs ≡ length (question_bytes cs)
sized cs = ap (λ (n : ℕ). 4 + n) (symbols_sized cs) ∙ sym (question_length cs)

pub small : (cs : List ℕ) → length cs ≤ 32 → sum_by symbol_size cs ≤ 352
small cs h = omega (arith, few_bytes cs)
