-- The closure of a relation on the numbers below n: one link, two walks joined, and induction along a walk.
-- Assumes nothing.
use mathlib.Core.Path.{◌≡◌, sym, ◌∙◌}
use mathlib.Core.Bool.{Bool, true, ◌&&◌}
use Prim.Native.Nat.{ℕ, ◌<◌}
use lib.Dec.{T, ltb, ltb→lt}
use borrow.Author.Tests.{lt-ltb}
use Rattle.theory.specs.TransitiveClosure.{TransitiveClosure, single, extend, look, closure?}
use Rattle.theory.proofs.Tests.{and_left, and_right, of_true, to_true}
use Rattle.theory.proofs.TransitiveClosure.{closure_append, closure_sound, closure_complete, closure_same}

module _ (n : ℕ) (f : ℕ → ℕ → Bool) where
  inner : ℕ → ℕ → Bool
  inner a c = ltb a n && (ltb c n && f a c)

  abbrev closed : ℕ → ℕ → Bool
  closed a c = look (closure? n f) a c

  abbrev Walk : ℕ → ℕ → Type 0
  Walk = TransitiveClosure (λ a c. T (inner a c))

  inner_in : (a c : ℕ) → T (inner a c) → (a < n) × (c < n)
  unfolding inner
  inner_in a c t = (ltb→lt a n (and_left (ltb a n) (ltb c n && f a c) t), ltb→lt c n (and_left (ltb c n) (f a c) (and_right (ltb a n) (ltb c n && f a c) t)))

  inner_edge : (a c : ℕ) → T (inner a c) → f a c ≡ true
  unfolding inner
  inner_edge a c t = to_true (f a c) (and_right (ltb c n) (f a c) (and_right (ltb a n) (ltb c n && f a c) t))

  inner_at : (a c : ℕ) → a < n → c < n → inner a c ≡ f a c
  unfolding inner
  inner_at a c h k = rw (lt-ltb a n h, lt-ltb c n k)

  same_table : closure? n f ≡ closure? n inner
  same_table = closure_same n f inner (λ a c h k. sym (inner_at a c h k))

  walk : (a c : ℕ) → closed a c ≡ true → Walk a c
  walk a c e = closure_sound n inner (of_true (look (closure? n inner) a c) (rw same_table at e))

  unwalk : {a c : ℕ} → Walk a c → closed a c ≡ true
  unwalk {a} {c} p = rw same_table (to_true (look (closure? n inner) a c) (closure_complete n inner inner_in p))

  walk_in : {a c : ℕ} → Walk a c → (a < n) × (c < n)
  walk_in (single {a} {b} t) = inner_in a b t
  walk_in (extend {b = b} {c = c} p t) = ((walk_in p).0, (inner_in b c t).1)

  pub closure_in : (a c : ℕ) → closed a c ≡ true → (a < n) × (c < n)
  closure_in a c e = walk_in (walk a c e)

  pub closure_edge : {a c : ℕ} → a < n → c < n → f a c ≡ true → closed a c ≡ true
  closure_edge {a} {c} h k e = unwalk (single (of_true (inner a c) (inner_at a c h k ∙ e)))

  pub closure_trans : (a b c : ℕ) → closed a b ≡ true → closed b c ≡ true → closed a c ≡ true
  closure_trans a b c p q = unwalk (closure_append (walk a b p) (walk b c q))

  -- what holds of the successors of s, and of a successor of each record of which it holds, holds of all of row s
  module _ (s : ℕ) (P : ℕ → Type 0) (base : (t : ℕ) → s < n → t < n → f s t ≡ true → P t) (step : (k t : ℕ) → k < n → t < n → P k → f k t ≡ true → P t) where
    along : {t : ℕ} → Walk s t → P t
    along (single {b = t} e) = base t (inner_in s t e).0 (inner_in s t e).1 (inner_edge s t e)
    along (extend {b = k} {c = t} p e) = step k t (inner_in k t e).0 (inner_in k t e).1 (along p) (inner_edge k t e)

    pub closure_ind : (t : ℕ) → closed s t ≡ true → P t
    closure_ind t e = along (walk s t e)
