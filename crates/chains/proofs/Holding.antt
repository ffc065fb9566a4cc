-- Steps that are held, past the relations of a stack.
-- Assumes nothing.
use mathlib.Core.Path.{◌≡◌, refl, sym, ap, subst, ◌∙◌}
use mathlib.Core.List.{List}
use mathlib.Core.Logic.{inl, inr, ⊎_elim}
use Prim.Native.Nat.{ℕ, ◌+◌, ◌*◌, ◌≤◌, ◌<◌}
use native.Mathlib.Nat.{mul-le-mul_right}
use native.Mathlib.Omega.{arith}
use lib.ListN.{get_or, set, length-set, replicate, get_or-replicate}
use Rattle.std.specs.Prelude.{Option, Some, None}
use lib.Seq.{get_or-set_same, get_or-set_other}
use Rattle.theory.specs.PathExpr.{Direction, Label, through, step, s_step, s_join}
use Rattle.symbols.specs.Symbols.{symbol_numbered}
use Rattle.theory.specs.Register.{Register}
use Rattle.theory.specs.Evaluation.{step?}
use Rattle.register.specs.Form.{register_in}
use Rattle.rows.specs.Kept.{Kept}
use Rattle.rows.proofs.Words.{le_or_lt}
use Rattle.rows.proofs.Rows.{eq_or_ne}
use Rattle.relation.specs.Pairs.{Made}
use Rattle.relation.proofs.Making.{row_le}
use Rattle.evaluation.specs.Grounded.{Grounded}
use Rattle.evaluation.proofs.Grounds.{limits, rows_hold}
use Rattle.evaluation.proofs.Relations.{stored_kept, stored_step}
use Rattle.chains.specs.Chain.{IsStep, step_path, step_numbered, Held, StillHeld}

-- the place of what is held lies past a stack, and before the end
pub past : (k z : ℕ) → 24 * z ≤ (24 + k) * z
past k z = mul-le-mul_right z (let h : 24 ≤ 24 + k = omega arith in h)

pub before_end : (k z : ℕ) → k < 4 → (24 + k) * z + z ≤ 28 * z
before_end k z h = row_le z (let l : 24 + k < 28 = omega arith in l)

-- a step's path, by its number
pub step_is : (c : ℕ) (x : IsStep c) → step_numbered c ≡ step x.0 x.1
unfolding step_numbered
step_is c x = ap step_path x.2

-- 255, which stands where none is held, is no step's number
pub no_step : (c : ℕ) → c ≡ 255 → ¬ IsStep c
unfolding symbol_numbered
no_step c e x = let y : s_join (through 0) ≡ s_step x.0 x.1 = subst (λ (k : ℕ). symbol_numbered k 0 ≡ s_step x.0 x.1) e x.2 in let z : ◌≡◌ {A = ℕ} 0 1 = cc in omega arith

-- no place has a step and none
none_some : {c : ℕ} → None ≡ Some c → ⊥
none_some e = let z : ◌≡◌ {A = ℕ} 0 1 = cc in omega arith

module _ {s : List ℕ} {n w : ℕ} (ground : Grounded s n w) where
  abbrev r : Register
  r = register_in s

  -- ---- what is held
  pub held_more : {held : List (Option ℕ)} {xs ys : List ℕ} (k c : ℕ) {d : Direction} {l : Label} → Held (register_in s) n w held xs
      → Made ((24 + k) * (n * w)) n w (step? (register_in s) d l) xs ys → symbol_numbered c 0 ≡ s_step d l → k < 4 → Held (register_in s) n w (set held k (Some c)) ys
  held_more {held} {xs} {ys} k c {d} {l} h m e hk =
      record {
        few = length-set held k (Some c) ∙ h.few;
        stored = λ i x hi q hx. ⊎_elim
            (λ (o : i ≡ k). let y : Some c ≡ Some x = sym (get_or-set_same held k (Some c) None (omega (arith, h.few))) ∙ ap (λ (j : ℕ). get_or (set held k (Some c)) j None) (sym o) ∙ q in
            let z : c ≡ x = cc in
            rw (o, ← z, step_is c (d, l, e)) (stored_step (register_in s) (limits ground).formed n w ground.count (rows_hold ground) d l m))
            (λ (o : i ≡ k → ⊥). stored_kept (h.stored i x hi (sym (get_or-set_other held k i (Some c) None o) ∙ q) hx) m.kept
            (⊎_elim (λ (a : i ≤ k). inl (row_le (n * w) (let y : 24 + i < 24 + k = omega arith in y)))
            (λ (a : k < i). inr (row_le (n * w) (let y : 24 + k < 24 + i = omega arith in y))) (le_or_lt i k)))
            (eq_or_ne i k);
      }

  -- what changes below it leaves it be
  pub held_kept : {held : List (Option ℕ)} {xs ys : List ℕ} {lo hi : ℕ} → Held (register_in s) n w held xs → Kept lo hi xs ys → hi ≤ 24 * (n * w) → Held (register_in s) n w held ys
  held_kept h k l = record { few = h.few; stored = λ i x hi q hx. stored_kept (h.stored i x hi q hx) k (inr (omega (arith, past i (n * w)))) }

  -- none is held
  pub held_none : (xs : List ℕ) → Held (register_in s) n w (replicate 4 None) xs
  held_none xs = record { few = refl; stored = λ k c h e hc. let z : None ≡ Some c = sym (get_or-replicate 4 k None None h) ∙ e in absurd (none_some z) }

-- what is held stays so
pub holds_same : (held : List (Option ℕ)) → StillHeld held held
holds_same held = record { more = λ k c h e. e }

pub holds_more : (held : List (Option ℕ)) (f c : ℕ) → get_or held f None ≡ None → StillHeld held (set held f (Some c))
holds_more held f c e = record { more = λ k x h l. get_or-set_other held f k (Some c) None (λ q. none_some (sym e ∙ ap (λ (j : ℕ). get_or held j None) (sym q) ∙ l)) ∙ l }
