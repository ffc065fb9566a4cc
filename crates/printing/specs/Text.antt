-- What the program prints, as bytes.
-- SPECIFICATION, The program: `members 2 pairs 5`, then `0 3`, .., a line each (from and to record, ascending). A refusal
-- prints, for example, `refused 4 in sheet at 11`: number, file (`work` for 11 to 16), place.
-- Assumes nothing.
use Rattle.std.specs.Prelude.{Bool, cond, List, [], ◌∷◌, ◌++◌, ℕ, zero, suc, ◌+◌, ◌/◌, ◌%◌, ltb, length}
use Rattle.theory.specs.Lists.{filter, concat_map, range}
use Rattle.theory.specs.Words.{row_words}
use Rattle.relation.specs.Pairs.{pair_at}
use Rattle.fields.specs.declared.Source.{Source}
use Rattle.fields.specs.declared.Source.TheVariants.{Sheet, Question, Narrowed, Register, Work}
use Rattle.fields.specs.declared.Size.{Size}
use Rattle.fields.specs.Call.{Outcome, accepts, refuses}

-- ---- numbers
-- the last digits of n, at most the given number of them, without a 0 in front
abbrev pub last_digits : ℕ → ℕ → List ℕ
last_digits zero n = []
last_digits (suc k) n = cond (ltb n 10) ((48 + n) ∷ []) (last_digits k (n / 10) ++ ((48 + n % 10) ∷ []))

-- the decimal digits of a number of 64 bits, of which it has at most 20
unfoldable pub decimal : ℕ → List ℕ
decimal n = last_digits 20 n

-- ---- pairs
-- `s t`
unfoldable pub line : ℕ → ℕ → List ℕ
line s t = decimal s ++ (32 ∷ (decimal t ++ (10 ∷ [])))

-- a line for each pair (s, t) with t below n of which f holds, ascending
unfoldable pub row_lines : (ℕ → Bool) → ℕ → ℕ → List ℕ
row_lines f s n = concat_map (line s) (filter f (range n))

-- the same for each s below n
unfoldable pub lines : (ℕ → ℕ → Bool) → ℕ → List ℕ
lines f n = concat_map (λ s. row_lines (f s) s n) (range n)

-- how many pairs that are
unfoldable pub count : (ℕ → ℕ → Bool) → ℕ → ℕ
count f n = length (concat_map (λ s. filter (f s) (range n)) (range n))

-- ---- words, in ASCII
-- `members `
abbrev pub members_word : List ℕ
members_word = 109 ∷ 101 ∷ 109 ∷ 98 ∷ 101 ∷ 114 ∷ 115 ∷ 32 ∷ []

-- ` pairs `
abbrev pub pairs_word : List ℕ
pairs_word = 32 ∷ 112 ∷ 97 ∷ 105 ∷ 114 ∷ 115 ∷ 32 ∷ []

-- `refused `
abbrev pub refused_word : List ℕ
refused_word = 114 ∷ 101 ∷ 102 ∷ 117 ∷ 115 ∷ 101 ∷ 100 ∷ 32 ∷ []

-- ` at `
abbrev pub at_word : List ℕ
at_word = 32 ∷ 97 ∷ 116 ∷ 32 ∷ []

-- `sheet`, `question`, `narrowed`, `register`, `work`
abbrev pub name_of : Source → List ℕ
name_of Sheet = 115 ∷ 104 ∷ 101 ∷ 101 ∷ 116 ∷ []
name_of Question = 113 ∷ 117 ∷ 101 ∷ 115 ∷ 116 ∷ 105 ∷ 111 ∷ 110 ∷ []
name_of Narrowed = 110 ∷ 97 ∷ 114 ∷ 114 ∷ 111 ∷ 119 ∷ 101 ∷ 100 ∷ []
name_of Register = 114 ∷ 101 ∷ 103 ∷ 105 ∷ 115 ∷ 116 ∷ 101 ∷ 114 ∷ []
name_of Work = 119 ∷ 111 ∷ 114 ∷ 107 ∷ []

-- ` in `, and the name
abbrev pub in_source : Source → List ℕ
in_source f = 32 ∷ 105 ∷ 110 ∷ 32 ∷ name_of f

-- ---- the whole text
-- `members m pairs p`, and the pairs
unfoldable pub answer_text : ℕ → (ℕ → ℕ → Bool) → ℕ → List ℕ
answer_text m f n = (members_word ++ decimal m) ++ ((pairs_word ++ decimal (count f n)) ++ ((10 ∷ []) ++ lines f n))

-- `refused n in f at p`
unfoldable pub refusal_text : Source → ℕ → ℕ → List ℕ
refusal_text f n p = (refused_word ++ decimal n) ++ (in_source f ++ ((at_word ++ decimal p) ++ (10 ∷ [])))

-- of a call's outcome, and the words of its answer on n records
abbrev pub text_of : Outcome Size → ℕ → List ℕ → List ℕ
text_of (accepts z) n ws = answer_text z.count (pair_at ws 0 (row_words n)) n
text_of (refuses f p q) n ws = refusal_text f p q
