-- A loop over the numbers below n, of which each has its piece of a list: a list that is written, or one that is counted.
-- Assumes nothing.
use mathlib.Core.Path.{◌≡◌, refl, ap, ◌∙◌, subst}
use mathlib.Core.Bool.{Bool, true, false, cond}
use mathlib.Core.List.{List, [], ◌∷◌, ◌++◌}
use Prim.Native.Nat.{ℕ, ◌+◌, ◌-◌, ◌<◌, ◌≤◌}
use native.Mathlib.Nat.{sub-zero}
use native.Mathlib.Omega.{arith}
use lib.ListN.{length, length-append}
use Rattle.theory.specs.Lists.{guard, filter, concat_map, tabulate, range}
use Rattle.theory.proofs.Lists.{tabulate_next}
use Rattle.encode.specs.BytesWritten.{BytesWritten}
use Rattle.printing.proofs.Filling.{Filling, filling_start, filling_room, filling_next, filling_end}

-- the pieces from the j-th on
unfoldable pub rest_of : (ℕ → List ℕ) → ℕ → ℕ → List ℕ
rest_of g n j = concat_map g (tabulate (λ k. k) j (n - j))

module _ (g : ℕ → List ℕ) (n : ℕ) where
  pub all_left : concat_map g (range n) ≡ rest_of g n 0
  unfolding rest_of
  all_left = rw (sub-zero n)

  pub next_left : (j : ℕ) → j < n → rest_of g n j ≡ g j ++ rest_of g n (j + 1)
  unfolding rest_of
  next_left j h = rw (tabulate_next (λ (k : ℕ). k) j n h)

  pub none_left : (j : ℕ) → n ≤ j → rest_of g n j ≡ []
  unfolding rest_of
  none_left j h = let e : n - j ≡ 0 = omega arith in rw e

-- ---- written
pub record Pieces (g : ℕ → List ℕ) (n : ℕ) (o : List ℕ) (at : ℕ) (whole out : List ℕ) (a j : ℕ) : Type 0 where
  pub within : j ≤ n
  pub filling : Filling o at whole out a (rest_of g n j)

pub pieces_start : (g : ℕ → List ℕ) (n : ℕ) (o : List ℕ) (at : ℕ) {whole : List ℕ} → whole ≡ concat_map g (range n) → at + length whole ≤ length o → Pieces g n o at whole o at 0
pieces_start g n o at {whole} e h = record {
  within = omega arith;
  filling = subst (λ (r : List ℕ). Filling o at whole o at r) (e ∙ all_left g n) (filling_start o at whole h);
}

module _ {g : ℕ → List ℕ} {n : ℕ} {o : List ℕ} {at : ℕ} {whole out : List ℕ} {a j : ℕ} (p : Pieces g n o at whole out a j) where
  pub pieces_room : {u : List ℕ} → u ≡ g j → j < n → a + length u ≤ length out
  pieces_room e h = rw e (filling_room p.filling (g j) (rest_of g n (j + 1)) (next_left g n j h))

  pub pieces_next : {u b : List ℕ} {y : ℕ} → u ≡ g j → j < n → BytesWritten out b a y u → Pieces g n o at whole b y (j + 1)
  pieces_next e h w = record { within = omega arith; filling = filling_next p.filling (g j) (rest_of g n (j + 1)) (next_left g n j h) (rw e at w) }

  pub pieces_end : n ≤ j → BytesWritten o out at a whole
  pieces_end h = filling_end p.filling (none_left g n j h)

-- ---- counted
pub record Counted (g : ℕ → List ℕ) (n k j : ℕ) : Type 0 where
  pub within : j ≤ n
  pub left : k + length (rest_of g n j) ≡ length (concat_map g (range n))

pub counted_start : (g : ℕ → List ℕ) (n : ℕ) → Counted g n 0 0
counted_start g n = record { within = omega arith; left = omega (arith, ap length (all_left g n)) }

module _ {g : ℕ → List ℕ} {n k j : ℕ} (c : Counted g n k j) where
  pub counted_next : {i : ℕ} → i ≡ length (g j) → j < n → Counted g n (k + i) (j + 1)
  counted_next {i} e h = record {
    within = omega arith;
    left = omega (arith, c.left, ap length (next_left g n j h), length-append (g j) (rest_of g n (j + 1)));
  }

  pub counted_end : n ≤ j → k ≡ length (concat_map g (range n))
  counted_end h = omega (arith, c.left, ap length (none_left g n j h))

-- ---- the elements that pass a test
module _ (f : ℕ → Bool) where
  pub filtered_pieces : (g : ℕ → List ℕ) (xs : List ℕ) → concat_map g (filter f xs) ≡ concat_map (λ x. guard (f x) (g x)) xs
  filtered_pieces g [] = refl
  filtered_pieces g (x ∷ xs) = go (f x) ∙ ap (λ (r : List ℕ). guard (f x) (g x) ++ r) (filtered_pieces g xs)
    where
      go : (b : Bool) → concat_map g (cond b (x ∷ filter f xs) (filter f xs)) ≡ guard b (g x) ++ concat_map g (filter f xs)
      go true = refl
      go false = refl

  pub filter_pieces : (xs : List ℕ) → filter f xs ≡ concat_map (λ x. guard (f x) (x ∷ [])) xs
  filter_pieces [] = refl
  filter_pieces (x ∷ xs) = go (f x) ∙ ap (λ (r : List ℕ). guard (f x) (x ∷ []) ++ r) (filter_pieces xs)
    where
      go : (b : Bool) → cond b (x ∷ filter f xs) (filter f xs) ≡ guard b (x ∷ []) ++ filter f xs
      go true = refl
      go false = refl
