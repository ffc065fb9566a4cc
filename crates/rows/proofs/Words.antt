-- Loops that write a range of words: what holds at the loop's head, and how it goes on.
-- Assumes nothing.
use mathlib.Core.Path.{◌≡◌, refl, ◌∙◌, subst}
use mathlib.Core.List.{List}
use mathlib.Core.Logic.{◌⊎◌, inl, inr, ⊎_elim}
use Prim.Native.Nat.{ℕ, zero, suc, ◌+◌, ◌-◌, ◌≤◌, ◌<◌, zero-le, suc-le-suc}
use native.Mathlib.Nat.{eq-or-lt_of_le}
use native.Mathlib.Omega.{arith}
use lib.ListN.{length, get_or, set, drop, length-set}
use lib.Seq.{get_or-set_same, get_or-set_other, get_or-drop}
use borrow.Rule.Slice.PartMut.{mid_of}
use Rattle.std.proofs.lemmas.List.{get_or-take}
use Rattle.rows.specs.Kept.{Kept, Wrote}

-- which of two numbers is larger, for a proof by cases
pub le_or_lt : (a b : ℕ) → (a ≤ b) ⊎ (b < a)
le_or_lt zero b = inl zero-le
le_or_lt (suc a) zero = inr (suc-le-suc zero-le)
le_or_lt (suc a) (suc b) = ⊎_elim (λ p. inl (suc-le-suc p)) (λ q. inr (suc-le-suc q)) (le_or_lt a b)

pub kept_refl : (lo hi : ℕ) (xs : List ℕ) → Kept lo hi xs xs
kept_refl lo hi xs = record { len = refl; below = λ k l. refl; above = λ k l. refl }

-- one change after another, both within lo and hi
pub kept_trans : {lo hi a b c d : ℕ} {xs ys zs : List ℕ} → Kept a b xs ys → Kept c d ys zs → lo ≤ a → lo ≤ c → b ≤ hi → d ≤ hi → Kept lo hi xs zs
kept_trans p q la lc bh dh =
    record {
      len = q.len ∙ p.len;
      below = λ k l. q.below k (omega arith) ∙ p.below k (omega arith);
      above = λ k l. q.above k (omega arith) ∙ p.above k (omega arith);
    }

pub kept_in : {lo hi a b : ℕ} {xs ys : List ℕ} → Kept a b xs ys → lo ≤ a → b ≤ hi → Kept lo hi xs ys
kept_in p la bh = record { len = p.len; below = λ k l. p.below k (omega arith); above = λ k l. p.above k (omega arith) }

pub kept_set : (xs : List ℕ) (i v : ℕ) → Kept i (i + 1) xs (set xs i v)
kept_set xs i v =
    record {
      len = length-set xs i v;
      below = λ k l. get_or-set_other xs i k v 0 (omega arith);
      above = λ k l. get_or-set_other xs i k v 0 (omega arith);
    }

pub wrote_none : (d : ℕ) (f : ℕ → ℕ) (xs : List ℕ) → Wrote d 0 f xs xs
wrote_none d f xs = record { kept = kept_refl d (d + 0) xs; word = λ j l. absurd (omega arith) }

-- a turn of such a loop
pub wrote_more : {d n v : ℕ} {f : ℕ → ℕ} {xs ys : List ℕ} → Wrote d n f xs ys → d + n < length ys → v ≡ f n → Wrote d (n + 1) f xs (set ys (d + n) v)
wrote_more {d} {n} {v} {f} {xs} {ys} p l e =
    record {
      kept = kept_trans p.kept (kept_set ys (d + n) v) (omega arith) (omega arith) (omega arith) (omega arith);
      word = λ j h. ⊎_elim (λ q. rw q (get_or-set_same ys (d + n) v 0 l ∙ e)) (λ q. get_or-set_other ys (d + n) (d + j) v 0 (omega arith) ∙ p.word j q) (upto j n h);
    }
  where
    upto : (j n : ℕ) → j < n + 1 → (j ≡ n) ⊎ (j < n)
    upto j n h = eq-or-lt_of_le (omega arith)

-- at the end
pub wrote_all : {d n m : ℕ} {f : ℕ → ℕ} {xs ys : List ℕ} → Wrote d n f xs ys → n ≡ m → Wrote d m f xs ys
wrote_all {d} {f = f} {xs} {ys} p e = subst (λ (k : ℕ). Wrote d k f xs ys) e p

-- ---- a part of the words, read as a whole
pub part_word : (d n i : ℕ) (xs : List ℕ) → i < n → get_or (mid_of d (d + n - d) xs) i 0 ≡ get_or xs (d + i) 0
part_word d n i xs h = get_or-take (d + n - d) (drop d xs) i 0 (omega arith) ∙ get_or-drop d xs i 0
