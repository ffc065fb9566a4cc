-- An answer as 64-bit words.
-- SPECIFICATION, Areas and words: W is N divided by 64, rounded up; bit t mod 64 of word s × W + t div 64 of an answer is the pair (s, t),
-- and bits for t of N or more are 0.
-- Assumes nothing.
use Rattle.std.specs.Prelude.{Bool, cond, ◌&&◌, List, ℕ, zero, suc, ◌+◌, ◌*◌, ◌/◌, T, ltb, get_or}
use Rattle.bits.specs.Bit.{bit_of}
use Rattle.theory.specs.Lists.{concat_map, tabulate, range}

-- W, for N records
abbrev pub row_words : ℕ → ℕ
row_words n = (n + 63) / 64

-- the number whose bits are f at i, i + 1, .., k of them, the first at value 1
abbrev pub packed : (ℕ → Bool) → ℕ → ℕ → ℕ
packed f i zero = 0
packed f i (suc k) = cond (f i) 1 0 + 2 * packed f (suc i) k

-- the pairs (s, t) for t below n, in W words
abbrev pub row_of : ℕ → (ℕ → Bool) → List ℕ
row_of n f = tabulate (λ w. packed (λ t. ltb t n && f t) (64 * w) 64) 0 (row_words n)

unfoldable pub answer_words : ℕ → (ℕ → ℕ → Bool) → List ℕ
answer_words n f = concat_map (λ s. row_of n (f s)) (range n)

-- each bit that is set in the one is set in the other
abbrev pub Subset : List ℕ → List ℕ → Type 0
Subset xs ys = (k j : ℕ) → T (bit_of (get_or xs k 0) j) → T (bit_of (get_or ys k 0) j)
