-- Numbers as bytes, both ways.
-- Assumes nothing.
use Prim.Native.Nat.{ℕ, suc, zero, ◌+◌, ◌*◌, ◌/◌, ◌%◌, ◌<◌}
use mathlib.Core.Path.{◌≡◌, refl, ap, ap₂, ◌∙◌, sym, subst}
use mathlib.Core.List.{List, [], ◌∷◌, ◌++◌}
use lib.ListN.{length, get_or, take, drop}
use lib.Seq.{get_or-drop}
use native.Mathlib.Omega.{arith}
use Rattle.theory.specs.KindSet.{IsSet}
use Rattle.fields.specs.Reading.{word, eight}
use Rattle.fields.specs.Writing.{Bytes, two_bytes, eight_bytes}

pub bytes_take : (n : ℕ) (l : List ℕ) → Bytes l → Bytes (take n l)
bytes_take zero l h i = omega arith
bytes_take (suc n) [] h i = omega arith
bytes_take (suc n) (x ∷ l) h zero = h 0
bytes_take (suc n) (x ∷ l) h (suc i) = bytes_take n l (λ j. h (suc j)) i

pub bytes_drop : (n : ℕ) (l : List ℕ) → Bytes l → Bytes (drop n l)
bytes_drop n l h i = subst (λ (x : ℕ). x < 256) (sym (get_or-drop n l i 0)) (h (n + i))

-- n elements from i on
abbrev gets : List ℕ → ℕ → ℕ → List ℕ
gets b i zero = []
gets b i (suc n) = get_or b i 0 ∷ gets b (suc i) n

gets_cons : (x : ℕ) (b : List ℕ) (i n : ℕ) → gets (x ∷ b) (suc i) n ≡ gets b i n
gets_cons x b i zero = refl
gets_cons x b i (suc n) = ap (λ (l : List ℕ). get_or b i 0 ∷ l) (gets_cons x b (suc i) n)

gets_all : (b : List ℕ) → gets b 0 (length b) ≡ b
gets_all [] = refl
gets_all (x ∷ b) = ap (λ (l : List ℕ). x ∷ l) (gets_cons x b 0 (length b) ∙ gets_all b)

-- a list of a known length is its elements
pub listed : (n : ℕ) (b : List ℕ) → length b ≡ n → b ≡ gets b 0 n
listed n b e = sym (gets_all b) ∙ ap (gets b 0) e

-- ---- numbers
pub two_word : (a b : ℕ) → a < 256 → b < 256 → two_bytes (a * 256 + b) ≡ a ∷ b ∷ []
two_word a b ha hb =
    let p : (a * 256 + b) / 256 ≡ a = omega arith in
    let q : (a * 256 + b) % 256 ≡ b = omega arith in
    ap₂ (λ (x y : ℕ). x ∷ y ∷ []) p q

abbrev beside : List ℕ → List ℕ → List ℕ
beside x y = x ++ y

-- four words
words : (a b c d : ℕ) → a < 65536 → b < 65536 → c < 65536 → d < 65536
    → eight_bytes (((a * 65536 + b) * 65536 + c) * 65536 + d) ≡ two_bytes a ++ (two_bytes b ++ (two_bytes c ++ two_bytes d))
words a b c d ha hb hc hd =
    let n = ((a * 65536 + b) * 65536 + c) * 65536 + d in
    let p : n / 281474976710656 ≡ a = omega arith in
    let q : n / 4294967296 % 65536 ≡ b = omega arith in
    let r : n / 65536 % 65536 ≡ c = omega arith in
    let t : n % 65536 ≡ d = omega arith in
    ap₂ beside (ap two_bytes p) (ap₂ beside (ap two_bytes q) (ap₂ beside (ap two_bytes r) (ap two_bytes t)))

module _ (b : List ℕ) (h : Bytes b) where
  word_small : (i : ℕ) → word b i < 65536
  word_small i = omega (arith, h i, h (i + 1))

  two_of : (i : ℕ) → two_bytes (word b i) ≡ get_or b i 0 ∷ get_or b (i + 1) 0 ∷ []
  two_of i = two_word (get_or b i 0) (get_or b (i + 1) 0) (h i) (h (i + 1))

  -- the number in eight bytes, written, is these bytes
  pub eight_of : (i : ℕ) → eight_bytes (eight b i)
      ≡ get_or b i 0 ∷ get_or b (i + 1) 0 ∷ get_or b (i + 2) 0 ∷ get_or b (i + 2 + 1) 0 ∷ get_or b (i + 4) 0 ∷ get_or b (i + 4 + 1) 0 ∷ get_or b (i + 6) 0 ∷ get_or b (i + 6 + 1) 0 ∷ []
  unfolding eight
  eight_of i =
      words (word b i) (word b (i + 2)) (word b (i + 4)) (word b (i + 6)) (word_small i) (word_small (i + 2)) (word_small (i + 4)) (word_small (i + 6))
      ∙ ap₂ beside (two_of i) (ap₂ beside (two_of (i + 2)) (ap₂ beside (two_of (i + 4)) (two_of (i + 6))))

  -- and is a set
  pub eight_set : (i : ℕ) → IsSet (eight b i)
  unfolding eight
  eight_set i = omega (arith, word_small i, word_small (i + 2), word_small (i + 4), word_small (i + 6))

-- ---- numbers that were written come back
halves : (x : ℕ) → x / 256 * 256 + x % 256 ≡ x
halves x = omega arith

pub word_back : (n : ℕ) → word (two_bytes n) 0 ≡ n
word_back n = halves n

digit_1 : (n : ℕ) → n / 65536 * 65536 + n % 65536 ≡ n
digit_1 n = omega arith

digit_2 : (n : ℕ) → n / 4294967296 * 65536 + n / 65536 % 65536 ≡ n / 65536
digit_2 n = omega arith

digit_3 : (n : ℕ) → n / 281474976710656 * 65536 + n / 4294967296 % 65536 ≡ n / 4294967296
digit_3 n = omega arith

abbrev joined : ℕ → ℕ → ℕ
joined x y = x * 65536 + y

pub eight_back : (n : ℕ) → eight (eight_bytes n) 0 ≡ n
unfolding eight
eight_back n =
    ap₂ joined (ap₂ joined (ap₂ joined (halves (n / 281474976710656)) (halves (n / 4294967296 % 65536)) ∙ digit_3 n) (halves (n / 65536 % 65536)) ∙ digit_2 n) (halves (n % 65536)) ∙ digit_1 n
