-- Refusal 13 of a closure without a list of its walks: the largest path of a walk of n + 1 triples to a kind, by the largest of n.
-- Assumes nothing.
use mathlib.Core.Path.{◌≡◌, refl, sym, ap, ◌∙◌, subst}
use mathlib.Core.Bool.{Bool, true, false, cond}
use mathlib.Core.Logic.{⊎_elim}
use mathlib.Core.List.Memᴰ.{head as here}
use mathlib.Core.List.Memᴰ.{tail as there}
use mathlib.Core.List.{List, [], ◌∷◌, Memᴰ as In}
use Prim.Native.Nat.{ℕ, zero, suc, ◌+◌, ◌≤◌, ◌<◌, max}
use native.Mathlib.Nat.{add-zero, eq-or-lt_of_le}
use native.Mathlib.Omega.{arith}
use native.Mathlib.Decide.{dec_le}
use lib.Dec.{eqb, eqb→eq, eqb_refl, leb, leb→le, le→leb}
use Rattle.theory.specs.PathExpr.{size}
use Rattle.theory.specs.Inference.{Triple, end_to_end?, joined, walks}
use Rattle.theory.specs.Narrowing.{short?}
use Rattle.theory.proofs.Tests.{to_true, of_true, eq→eqb}
use Rattle.theory.proofs.Lists.{every_in, in_every}
use Rattle.theory.proofs.Triples.{in_pairs, pairs_in}
use Rattle.theory.proofs.Walks.{level, size_pos, level_size, walks_in, in_walks}
use Rattle.kind_graph.specs.Sizes.{largest, to_kind, extended, size_of}

-- ---- the largest of a list
largest_ge : (w : Triple → ℕ) {t : Triple} {ts : List Triple} → In t ts → w t ≤ largest w ts
largest_ge w (here {x = u} {xs = us} e) = omega (arith, ap w e)
largest_ge w (there m) = omega (arith, largest_ge w m)

largest_at : (w : Triple → ℕ) (ts : List Triple) → 0 < largest w ts → (t : Triple) × In t ts × (w t ≡ largest w ts)
largest_at w [] h = absurd (omega arith)
largest_at w (t ∷ ts) h = go (dec_le (largest w ts) (w t)) (λ k. largest_at w ts k)
  where
    go : Dec (largest w ts ≤ w t) → (0 < largest w ts → (u : Triple) × In u ts × (w u ≡ largest w ts)) → (u : Triple) × In u (t ∷ ts) × (w u ≡ max (w t) (largest w ts))
    go (yes k) rest = (t, here refl, omega arith)
    go (no k) rest = let r = rest (omega arith) in (r.0, there r.1, omega (arith, r.2))

largest_none : (w : Triple → ℕ) (ts : List Triple) → ((t : Triple) → w t ≡ 0) → largest w ts ≡ 0
largest_none w [] e = refl
largest_none w (t ∷ ts) e = omega (arith, e t, largest_none w ts e)

to_kind_at : (w : Triple → ℕ) (t : Triple) → to_kind t.to w t ≡ w t
to_kind_at w t = ap (λ b. cond b (w t) 0) (to_true (eqb t.to t.to) (eqb_refl t.to))

to_kind_none : (k : ℕ) (w : Triple → ℕ) (t : Triple) → w t ≡ 0 → to_kind k w t ≡ 0
to_kind_none k w t e = ap (λ (n : ℕ). cond (eqb t.to k) n 0) e ∙ go (eqb t.to k)
  where
    go : (b : Bool) → ◌≡◌ {A = ℕ} (cond b 0 0) 0
    go true = refl
    go false = refl

to_kind_pos : (k : ℕ) (w : Triple → ℕ) (t : Triple) → 0 < to_kind k w t → (t.to ≡ k) × (to_kind k w t ≡ w t)
to_kind_pos k w t h = go (eqb t.to k) refl h
  where
    go : (b : Bool) → eqb t.to k ≡ b → 0 < cond b (w t) 0 → (t.to ≡ k) × (to_kind k w t ≡ w t)
    go true e p = (eqb→eq t.to k (of_true (eqb t.to k) e), ap (λ b. cond b (w t) 0) e)
    go false e p = absurd (omega arith)

extended_ge : (m s x : ℕ) → 1 ≤ x → x ≤ m → suc (x + s) ≤ extended m s
extended_ge zero s x h k = absurd (omega arith)
extended_ge (suc m) s x h k = omega arith

extended_pos : (m s : ℕ) → 0 < extended m s → (0 < m) × (extended m s ≡ suc (m + s))
extended_pos zero s h = absurd (omega arith)
extended_pos (suc m) s h = (omega arith, refl)

-- ---- the largest walk of n + 1 triples that ends in kind k
abbrev pub best : List Triple → ℕ → ℕ → ℕ
best fs zero k = largest (to_kind k size_of) fs
best fs (suc n) k = largest (to_kind k (λ t. extended (best fs n t.from) (size t.path))) fs

module _ (fs : List Triple) where
  -- no walk is larger
  best_ge : (n : ℕ) (t : Triple) → In t (level fs n) → size t.path ≤ best fs n t.to
  best_ge zero t m = omega (arith, largest_ge (to_kind t.to size_of) m, to_kind_at size_of t)
  best_ge (suc n) t m =
      let r = in_pairs end_to_end? joined (level fs n) fs m in
      let x = r.fst in
      let y = r.snd in
      let e = eqb→eq x.to y.from r.fit in
      let h : size x.path ≤ best fs n y.from = subst (λ k. size x.path ≤ best fs n k) e (best_ge n x r.in_xs) in
      let w : Triple → ℕ = λ u. extended (best fs n u.from) (size u.path) in
      let g = extended_ge (best fs n y.from) (size y.path) (size x.path) (size_pos x.path) h in
      subst (λ u. size u.path ≤ best fs (suc n) u.to) (sym r.given) (omega (arith, g, largest_ge (to_kind y.to w) r.in_ys, to_kind_at w y))

  -- and one is as large
  best_at : (n k : ℕ) → 0 < best fs n k → (t : Triple) × In t (level fs n) × (t.to ≡ k) × (size t.path ≡ best fs n k)
  best_at zero k h =
      let r = largest_at (to_kind k size_of) fs h in
      let p = to_kind_pos k size_of r.0 (omega (arith, r.2)) in
      (r.0, r.1, p.0, sym p.1 ∙ r.2)
  best_at (suc n) k h =
      let w : Triple → ℕ = λ u. extended (best fs n u.from) (size u.path) in
      let r = largest_at (to_kind k w) fs h in
      let y = r.0 in
      let p = to_kind_pos k w y (omega (arith, r.2)) in
      let q = extended_pos (best fs n y.from) (size y.path) (omega (arith, r.2, p.1)) in
      let x = best_at n y.from q.0 in
      (joined x.0 y, pairs_in end_to_end? joined x.1 r.1 (eq→eqb x.0.to y.from x.2), p.0, omega (arith, x.3, q.1, p.1, r.2))

  -- without a walk of n + 1 triples there is none of more
  pub best_none : (n : ℕ) → ((k : ℕ) → best fs n k ≡ 0) → (m k : ℕ) → n ≤ m → best fs m k ≡ 0
  best_none n e zero k l = let q : n ≡ 0 = omega arith in subst (λ (i : ℕ). best fs i k ≡ 0) q (e k)
  best_none n e (suc m) k l =
      let w : Triple → ℕ = λ u. extended (best fs m u.from) (size u.path) in
      ⊎_elim
      (λ (q : n ≡ suc m). subst (λ (i : ℕ). best fs i k ≡ 0) q (e k))
      (λ (h : n < suc m). largest_none (to_kind k w) fs (λ t. to_kind_none k w t (ap (λ (b : ℕ). extended b (size t.path)) (best_none n e m t.from (omega arith)))))
      (eq-or-lt_of_le l)

  -- ---- all walks are short where those of up to 25 triples are
  level_short : ((n k : ℕ) → n ≤ 24 → best fs n k ≤ 48) → (n : ℕ) {t : Triple} → In t (level fs n) → (n ≤ 24) × (size t.path ≤ 48)
  level_short h zero {t} m = (omega arith, omega (arith, h 0 t.to (omega arith), best_ge 0 t m))
  level_short h (suc n) {t} m =
      let r = in_pairs end_to_end? joined (level fs n) fs m in
      let i = level_short h n r.in_xs in
      let l : suc n ≤ 24 = omega (arith, i.0, i.1, level_size fs n r.in_xs) in
      (l, omega (arith, h (suc n) t.to l, best_ge (suc n) t m))

  pub rounds_short : ((n k : ℕ) → n ≤ 24 → best fs n k ≤ 48) → short? (walks 24 fs fs) ≡ true
  rounds_short h =
      to_true (short? (walks 24 fs fs))
      (in_every (λ t. leb (size t.path) 48) (walks 24 fs fs) (λ t m. let j = in_walks fs 24 0 m in le→leb (size t.path) 48 (level_short h j.0 j.1).1))

  pub round_long : (n k : ℕ) → n ≤ 24 → 48 < best fs n k → short? (walks 24 fs fs) ≡ false
  round_long n k h l = go (short? (walks 24 fs fs)) refl
    where
      go : (b : Bool) → short? (walks 24 fs fs) ≡ b → short? (walks 24 fs fs) ≡ false
      go false e = e
      go true e =
          let r = best_at n k (omega arith) in
          let m : In r.0 (walks 24 fs fs) = walks_in fs 24 0 n h (subst (λ x. In r.0 (level fs x)) (sym (add-zero n)) r.1) in
          absurd (omega (arith, leb→le (size r.0.path) 48 (every_in (λ t. leb (size t.path) 48) (of_true (short? (walks 24 fs fs)) e) m), r.3))
