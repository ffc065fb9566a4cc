-- The place of 16 is that of the first breach.
-- Assumes nothing.
use mathlib.Core.Path.{◌≡◌, sym, ap, ap₂, ◌∙◌, subst}
use mathlib.Core.Logic.{◌⊎◌, inl, inr, ◌↔◌}
use mathlib.Core.List.{Memᴰ as In}
use mathlib.Core.Option.{Option, none, some}
use Prim.Native.Nat.{ℕ, ◌≤◌, ◌<◌}
use native.Mathlib.Nat.{zero-add}
use native.Mathlib.Omega.{arith}
use lib.Dec.{T_not, not_T, ltb, ltb→lt, lt→ltb, nltb→le}
use Rattle.theory.specs.Lists.{every?, first_failing, First}
use Rattle.theory.specs.Register.{Edge, Register, records}
use Rattle.theory.specs.Sheet.{Sheet, kind_known?, link_permitted?, conforms?, or_else, breach, Breached, conforming, unknown_kind, forbidden_link}
use Rattle.theory.proofs.Tests.{and_left, and_right, and_both, of_true}
use Rattle.theory.proofs.Lists.{every_in, in_every}
use Rattle.theory.proofs.FirstFailing.{first_map, scan, Fails, fails?, holds_not, first_fails, none_fails}

module _ (S : Sheet) (r : Register) where
  known : (k : ℕ) → Fails (kind_known? S) k → S.kinds ≤ k
  known k t = nltb→le k S.kinds t

  unknown : (k : ℕ) → S.kinds ≤ k → Fails (kind_known? S) k
  unknown k h = not_T (ltb k S.kinds) (λ t. over (ltb→lt k S.kinds t))
    where
      over : k < S.kinds → ⊥
      over l = omega arith

  of_breached : {o : Option ℕ} → Breached S r o → breach S r ≡ o
  unfolding breach conforms?
  of_breached (conforming t) =
      ap₂ or_else
      (none_fails (kind_known? S) r.kinds (λ k m u. T_not (kind_known? S k) u
      (every_in (kind_known? S) (and_left (every? (kind_known? S) r.kinds) (every? (link_permitted? S r) r.links) t) m)) 0)
      (none_fails (link_permitted? S r) r.links (λ e m u. T_not (link_permitted? S r e) u
      (every_in (link_permitted? S r) (and_right (every? (kind_known? S) r.kinds) (every? (link_permitted? S r) r.links) t) m)) (records r))
  of_breached (unknown_kind {i = i} f) =
      ap (λ o. or_else o (first_failing (link_permitted? S r) (records r) r.links))
      (first_fails (kind_known? S) (first_map unknown known f) 0 ∙ ap some (zero-add i))
  of_breached (forbidden_link h f) =
      ap₂ or_else
      (none_fails (kind_known? S) r.kinds (λ k m u. T_not (kind_known? S k) u (lt→ltb k S.kinds (h k m))) 0)
      (first_fails (link_permitted? S r) (first_map (λ e n. not_T (link_permitted? S r e) n) (λ e t. T_not (link_permitted? S r e) t) f) (records r))

  breached : (o : Option ℕ) × Breached S r o
  unfolding conforms?
  breached = go (scan (fails? (kind_known? S)) r.kinds) (scan (fails? (link_permitted? S r)) r.links)
    where
      go : ((i : ℕ) × (k : ℕ) × First (Fails (kind_known? S)) r.kinds i k) ⊎ ((k : ℕ) → In k r.kinds → ¬ Fails (kind_known? S) k)
          → ((j : ℕ) × (e : Edge) × First (Fails (link_permitted? S r)) r.links j e) ⊎ ((e : Edge) → In e r.links → ¬ Fails (link_permitted? S r) e)
          → (o : Option ℕ) × Breached S r o
      go (inl f) rest = (some f.0, unknown_kind (first_map known unknown f.2))
      go (inr h) (inl f) = (
        _,
        forbidden_link (λ k m. ltb→lt k S.kinds (of_true (kind_known? S k) (holds_not (kind_known? S) k (h k m))))
            (first_map (λ e t. T_not (link_permitted? S r e) t) (λ e n. not_T (link_permitted? S r e) n) f.2),
      )
      go (inr h) (inr g) = (
        none,
        conforming (and_both (every? (kind_known? S) r.kinds) (every? (link_permitted? S r) r.links)
            (in_every (kind_known? S) r.kinds (λ k m. of_true (kind_known? S k) (holds_not (kind_known? S) k (h k m))))
            (in_every (link_permitted? S r) r.links (λ e m. of_true (link_permitted? S r e) (holds_not (link_permitted? S r) e (g e m))))),
      )

  pub breach_exact : (o : Option ℕ) → (breach S r ≡ o) ↔ Breached S r o
  breach_exact o = (λ e. let b = breached in subst (Breached S r) (sym (of_breached b.1) ∙ e) b.1, λ b. of_breached b)
