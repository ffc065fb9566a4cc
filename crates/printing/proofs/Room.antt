-- How long a text can be.
-- Assumes nothing.
use mathlib.Core.Path.{◌≡◌}
use mathlib.Core.Bool.{Bool, true, false, cond}
use mathlib.Core.List.{List, [], ◌∷◌, ◌++◌}
use Prim.Native.Nat.{ℕ, zero, suc, ◌+◌, ◌*◌, ◌/◌, ◌%◌, ◌<◌, ◌≤◌}
use native.Mathlib.Nat.{mul-suc, mul-le-mul}
use native.Mathlib.Omega.{arith}
use lib.Dec.{ltb}
use lib.ListN.{length, length-append}
use borrow.Author.Tests.{lt-ltb}
use Rattle.theory.specs.Lists.{guard, concat_map, tabulate, range}
use Rattle.fields.specs.declared.Source.{Source}
use Rattle.fields.specs.declared.Source.TheVariants.{Sheet, Question, Narrowed, Register, Work}
use Rattle.printing.specs.Text.{last_digits, decimal, line, row_lines, lines, count, answer_text, name_of, refusal_text}
use Rattle.printing.proofs.Lines.{row_pieces, lines_pieces}

-- ---- numbers
-- one digit more
digits_next : (k n m : ℕ) → length (last_digits k (n / 10)) ≤ m → length (last_digits (suc k) n) ≤ suc m
digits_next k n m h = go (ltb n 10)
  where
    go : (b : Bool) → length (cond b ((48 + n) ∷ []) (last_digits k (n / 10) ++ ((48 + n % 10) ∷ []))) ≤ suc m
    go true = omega arith
    go false = omega (arith, length-append (last_digits k (n / 10)) ((48 + n % 10) ∷ []))

digits_most : (k n : ℕ) → length (last_digits k n) ≤ k
digits_most zero n = omega arith
digits_most (suc k) n = digits_next k n k (digits_most k (n / 10))

decimal_most : (n : ℕ) → length (decimal n) ≤ 20
unfolding decimal
decimal_most n = digits_most 20 n

one_digit : (k n : ℕ) → n < 10 → length (last_digits (suc k) n) ≡ 1
one_digit k n h = rw (lt-ltb n 10 h)

decimal_three : (n : ℕ) → n < 1000 → length (decimal n) ≤ 3
unfolding decimal
decimal_three n h = digits_next 19 n 2 (digits_next 18 (n / 10) 1 (omega (arith, one_digit 17 (n / 10 / 10) (omega arith))))

-- ---- pieces of at most b each
pub pieces_most : (g : ℕ → List ℕ) (b i k : ℕ) → ((x : ℕ) → x < i + k → length (g x) ≤ b) → length (concat_map g (tabulate (λ x. x) i k)) ≤ b * k
pieces_most g b i zero h = omega arith
pieces_most g b i (suc k) h =
    let rest : length (concat_map g (tabulate (λ x. x) (suc i) k)) ≤ b * k = pieces_most g b (suc i) k (λ x l. h x (omega arith)) in
    omega (arith, h i (omega arith), length-append (g i) (concat_map g (tabulate (λ x. x) (suc i) k)), mul-suc b k)

guard_most : (b : Bool) (xs : List ℕ) → length (guard b xs) ≤ length xs
guard_most true xs = omega arith
guard_most false xs = omega arith

line_most : (s t : ℕ) → s < 1000 → t < 1000 → length (line s t) ≤ 8
unfolding line
line_most s t h l =
    omega (arith, length-append (decimal s) (32 ∷ (decimal t ++ (10 ∷ []))), length-append (decimal t) (10 ∷ []), decimal_three s h, decimal_three t l)

row_most : (f : ℕ → Bool) (s n : ℕ) → s < 1000 → n < 1000 → length (row_lines f s n) ≤ 8 * n
row_most f s n h l =
    rw (row_pieces f s n)
    (pieces_most (λ t. guard (f t) (line s t)) 8 0 n (λ t m. omega (arith, guard_most (f t) (line s t), line_most s t h (omega arith))))

-- ---- the whole text, of up to 128 records
lines_most : (f : ℕ → ℕ → Bool) (n : ℕ) → n ≤ 128 → length (lines f n) ≤ 131072
lines_most f n h =
    let most : length (concat_map (λ s. row_lines (f s) s n) (range n)) ≤ 8 * n * n =
    pieces_most (λ s. row_lines (f s) s n) (8 * n) 0 n (λ s m. row_most (f s) s n (omega arith) (omega arith)) in
    let eight : 8 * n ≤ 1024 = omega arith in
    let few : 8 * n * n ≤ 1024 * 128 = mul-le-mul eight h in
    rw (lines_pieces f n) (omega arith)

pub answer_most : (m : ℕ) (f : ℕ → ℕ → Bool) (n : ℕ) → n ≤ 128 → length (answer_text m f n) ≤ 131128
unfolding answer_text
answer_most m f n h = simp length-append (omega (arith, decimal_most m, decimal_most (count f n), lines_most f n h))

name_most : (f : Source) → length (name_of f) ≤ 8
name_most Sheet = omega arith
name_most Question = omega arith
name_most Narrowed = omega arith
name_most Register = omega arith
name_most Work = omega arith

pub refusal_most : (f : Source) (n p : ℕ) → length (refusal_text f n p) ≤ 131128
unfolding refusal_text
refusal_most f n p = simp length-append (omega (arith, decimal_most n, decimal_most p, name_most f))
