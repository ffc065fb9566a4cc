-- Walks by their number of steps.
-- Assumes nothing.
use mathlib.Core.Path.{◌≡◌, sym, ◌∙◌, subst}
use mathlib.Core.Logic.{◌⊎◌, inl, inr}
use mathlib.Core.List.Memᴰ.{append_cases as in-append}
use mathlib.Core.List.Memᴰ.{append_left as in_left}
use mathlib.Core.List.Memᴰ.{append_right as in_right}
use mathlib.Core.List.{List, Memᴰ as In}
use Prim.Native.Nat.{ℕ, zero, suc, ◌+◌, ◌≤◌, ◌<◌}
use native.Mathlib.Nat.{add-zero, zero-add, add-suc, suc-add, le_of_suc-le-suc, eq-or-lt_of_le}
use native.Mathlib.Decide.{dec_le}
use native.Mathlib.Omega.{arith}
use Rattle.theory.specs.PathExpr.{PathExpr, step, join, op, closure, size}
use Rattle.theory.specs.Inference.{Triple, of_join, end_to_end?, joined, walks}
use Rattle.theory.proofs.Triples.{in_pairs}

-- level n has the walks of n + 1 triples of fs
abbrev pub level : List Triple → ℕ → List Triple
level fs zero = fs
level fs (suc n) = of_join (level fs n) fs

pub size_pos : (p : PathExpr) → 1 ≤ size p
size_pos (step d l) = omega arith
size_pos (join v p q) = omega arith
size_pos (op o p q) = omega arith
size_pos (closure p) = omega arith

module _ (fs : List Triple) where
  pub level_size : (n : ℕ) {t : Triple} → In t (level fs n) → suc (n + n) ≤ size t.path
  level_size zero {t} m = size_pos t.path
  level_size (suc n) m =
      let r = in_pairs end_to_end? joined (level fs n) fs m in
      subst (λ u. suc (suc n + suc n) ≤ size u.path) (sym r.given)
      (omega (arith, level_size n r.in_xs, size_pos r.snd.path))

  level_down : (n j : ℕ) → n ≤ j → {t : Triple} → In t (level fs j) → (u : Triple) × In u (level fs n)
  level_down n zero h {t} m = let e : 0 ≡ n = omega arith in (t, subst (λ x. In t (level fs x)) e m)
  level_down n (suc j) h {t} m = go (eq-or-lt_of_le h) (λ l. level_down n j l (in_pairs end_to_end? joined (level fs j) fs m).in_xs)
    where
      go : (n ≡ suc j) ⊎ (n < suc j) → (n ≤ j → (u : Triple) × In u (level fs n)) → (u : Triple) × In u (level fs n)
      go (inl e) rest = (t, subst (λ x. In t (level fs x)) (sym e) m)
      go (inr l) rest = rest (omega arith)

  pub walks_in : (n i j : ℕ) → j ≤ n → {t : Triple} → In t (level fs (j + i)) → In t (walks n (level fs i) fs)
  walks_in zero i j h {t} m = let e : j + i ≡ i = omega arith in subst (λ x. In t (level fs x)) e m
  walks_in (suc n) i zero h {t} m = in_left (walks n (level fs (suc i)) fs) (subst (λ x. In t (level fs x)) (zero-add i) m)
  walks_in (suc n) i (suc j) h {t} m =
      in_right (level fs i) (walks_in n (suc i) j (le_of_suc-le-suc h) (subst (λ x. In t (level fs x)) (suc-add j i ∙ sym (add-suc j i)) m))

  pub in_walks : (n i : ℕ) {t : Triple} → In t (walks n (level fs i) fs) → (j : ℕ) × In t (level fs j)
  in_walks zero i m = (i, m)
  in_walks (suc n) i {t} m = go (in-append (level fs i) m) (λ k. in_walks n (suc i) k)
    where
      go : In t (level fs i) ⊎ In t (walks n (level fs (suc i)) fs) → (In t (walks n (level fs (suc i)) fs) → (j : ℕ) × In t (level fs j))
          → (j : ℕ) × In t (level fs j)
      go (inl k) rest = (i, k)
      go (inr k) rest = rest k

  -- where no walk of up to 25 steps has over 48 symbols, there is none of more steps
  pub all_walks : ((t : Triple) → In t (walks 24 fs fs) → size t.path ≤ 48) → (j : ℕ) {t : Triple} → In t (level fs j) → In t (walks 24 fs fs)
  all_walks short j {t} m = go (dec_le j 24)
    where
      go : Dec (j ≤ 24) → In t (walks 24 fs fs)
      go (yes h) = walks_in 24 0 j h (subst (λ x. In t (level fs x)) (sym (add-zero j)) m)
      go (no h) =
          let d = level_down 24 j (omega arith) m in
          absurd (omega (arith, level_size 24 d.1, short d.0 (walks_in 24 0 24 (omega arith) d.1)))
