-- The rule of union: copies of one part, then of the other.
-- Assumes nothing.
use mathlib.Core.Path.{◌≡◌, refl, sym, ap₂, ◌∙◌}
use mathlib.Core.Bool.{true, ◌&&◌}
use mathlib.Core.List.{List, [], append-nil}
use Prim.Native.Nat.{ℕ, ◌-◌, ◌<◌, ◌≤◌}
use native.Mathlib.Omega.{arith}
use Rattle.theory.specs.PathExpr.{union}
use Rattle.theory.specs.Inference.{Triple, distinct}
use Rattle.theory.specs.Narrowing.{short?}
use Rattle.triples.proofs.Growing.{part_kept}
use Rattle.triples.specs.Parts.{span}
use Rattle.std.specs.Prelude.{Err}
use Rattle.rules.specs.declared.Excess.TheVariants.{Many}
use Rattle.rules.specs.Outcome.{few_of, Ruled, Adds}
use Rattle.rules.specs.Requirements.{part, op_in, Unite, AddCopies}
use Rattle.rules.proofs.Short.{short_append, short_distinct}
use Rattle.rules.proofs.Grows.{Growing, rule_starts, grows_room, grows_over, grows_turn, grows_many}
use Rattle.rules.proofs.RuleOutcome.{ruled_many, ruled_made, ruled_by}

module _ {qs ws : List ℕ} {s p d q e : ℕ} (h : Unite qs ws s (span p d) (span q e)) where
  abbrev xs : List Triple
  xs = part qs ws p d

  abbrev ys : List Triple
  ys = part qs ws q e

  short : short? (distinct (op_in qs ws union (span p d) (span q e))) ≡ true
  short = short_distinct (op_in qs ws union (span p d) (span q e)) ∙ short_append xs ys ∙ ap₂ ◌&&◌ h.left_short h.right_short

  start : Growing qs ws ws s s 0 (distinct (op_in qs ws union (span p d) (span q e))) (op_in qs ws union (span p d) (span q e))
  start = rule_starts (op_in qs ws union (span p d) (span q e)) h.two.room

  pub first_asks : AddCopies qs ws s 0 (span p d)
  first_asks = record { room = h.two.room; lies = record { ordered = h.two.left.ordered; below = omega (arith, h.two.left.below) } }

  module _ {ws₁ : List ℕ} {a : ℕ} (f : Adds qs ws ws₁ s 0 a (part qs ws p d)) where
    pub first_many : 128 < a → Ruled qs ws ws₁ s (distinct (op_in qs ws union (span p d) (span q e))) (Err Many)
    first_many m = ruled_many short (grows_many start xs xs ys f refl refl m) m

    module _ (m : a ≤ 128) where
      grown : Growing qs ws ws₁ s s a (distinct (op_in qs ws union (span p d) (span q e))) (part qs ws q e)
      grown = grows_turn start xs xs ys f refl refl m

      pub second_asks : AddCopies qs ws₁ s a (span q e)
      second_asks = record { room = grows_room grown h.two.room; lies = record { ordered = h.two.right.ordered; below = omega (arith, h.two.right.below) } }

      module _ {ws₂ : List ℕ} {b : ℕ} (g : Adds qs ws₁ ws₂ s a b (part qs ws₁ q e)) where
        here : part qs ws₁ q e ≡ part qs ws q e
        here = part_kept grown.kept qs q (e - q) (omega (arith, h.two.right.below, h.two.right.ordered))

        pub union_told : Ruled qs ws ws₂ s (distinct (op_in qs ws union (span p d) (span q e))) (few_of b)
        union_told =
            ruled_by b (λ l. ruled_made short (grows_over (grows_turn grown (part qs ws₁ q e) ys [] g here (sym (append-nil ys)) l) refl) l)
            (λ l. ruled_many short (grows_many grown (part qs ws₁ q e) ys [] g here (sym (append-nil ys)) l) l)
