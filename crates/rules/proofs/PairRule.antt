-- The rule of an operator of pairs: the sizes of all candidates, then the triples row by row.
-- Assumes nothing.
use mathlib.Core.Path.{◌≡◌, sym, ap, ap₂, subst, ◌∙◌}
use mathlib.Core.Bool.{true, false}
use mathlib.Core.Logic.{⊎_elim}
use mathlib.Core.List.{List, ◌∷◌, [], ◌++◌, Memᴰ as In}
use Prim.Native.Nat.{ℕ, ◌+◌, ◌-◌, ◌<◌, ◌≤◌}
use native.Mathlib.Nat.{eq-or-lt_of_le}
use native.Mathlib.Omega.{arith}
use Rattle.theory.specs.Inference.{Triple, triple?, distinct}
use Rattle.theory.specs.Narrowing.{short?}
use Rattle.theory.proofs.Distinct.{adjoin_all_old, adjoin_all_new}
use Rattle.theory.proofs.Triples.{triple_eq}
use Rattle.rows.proofs.Words.{kept_refl}
use Rattle.triples.specs.Parts.{part_of, span}
use Rattle.triples.proofs.Triples.{triple_kept}
use Rattle.triples.proofs.Growing.{part_kept}
use Rattle.std.specs.Prelude.{Ok, Err}
use Rattle.rules.specs.declared.Excess.TheVariants.{Many, Long}
use Rattle.rules.specs.declared.PairOperator.{PairOperator}
use Rattle.rules.specs.PairRules.{of_two}
use Rattle.rules.specs.Outcome.{Ruled, Adds}
use Rattle.rules.specs.Requirements.{Lies, row_of, rows_of, Pairing, AddRow, AddNewRow, TwoParts}
use Rattle.rules.proofs.Short.{short_left, short_right, short_distinct}
use Rattle.rules.proofs.Grows.{Growing, rule_starts, grows_room, grows_over, grows_turn, grows_many}
use Rattle.rules.proofs.Rows.{rows_next, rows_end}
use Rattle.rules.proofs.RuleOutcome.{ruled_long, ruled_many, ruled_made}

-- what is left; and all that the nodes p to i give stands in the part
pub record RowsGrowing (qs ws₀ ws : List ℕ) (o : PairOperator) (s count p d q e i : ℕ) : Type 0 where
  pub from : p ≤ i
  pub to : i ≤ d
  pub grows : Growing qs ws₀ ws s s count (distinct (rows_of qs ws₀ o p d q e)) (rows_of qs ws₀ o i d q e)
  pub short : short? (rows_of qs ws₀ o i d q e) ≡ true
  pub stand : (j : ℕ) → p ≤ j → j < i → (t : Triple) → In t (row_of qs ws₀ o j q e) → In t (part_of qs ws s count)

module _ {qs ws₀ : List ℕ} (o : PairOperator) {s p d q e : ℕ} (h : TwoParts qs ws₀ s (span p d) (span q e)) where
  abbrev cs : List Triple
  cs = rows_of qs ws₀ o p d q e

  pub rule_table : Pairing qs ws₀ s × Lies s (span p d) × Lies s (span q e)
  rule_table =
      let z : s + 0 ≡ s = omega arith in
      (record { sound = rw z at h.room.sound; in_table = omega (arith, h.room.room) }, h.left, h.right)

  pub rule_long : short? (rows_of qs ws₀ o p d q e) ≡ false → Ruled qs ws₀ ws₀ s (distinct (rows_of qs ws₀ o p d q e)) (Err Long)
  rule_long f = ruled_long (distinct cs) (short_distinct cs ∙ f) (kept_refl s (s + 129) ws₀)

  pub rule_start : short? (rows_of qs ws₀ o p d q e) ≡ true → RowsGrowing qs ws₀ ws₀ o s 0 p d q e p
  rule_start f = record { from = omega arith; to = h.left.ordered; grows = rule_starts cs h.room; short = f; stand = λ j a l. absurd (omega arith) }

  module _ {ws : List ℕ} {count i : ℕ} (g : RowsGrowing qs ws₀ ws o s count p d q e i) where
    -- a row over the words as they stand is that over those of the start
    same_row : (j : ℕ) → j < d → row_of qs ws o j q e ≡ row_of qs ws₀ o j q e
    same_row j l =
        ap₂ (λ (x : Triple) (ys : List Triple). of_two o (x ∷ []) ys) (triple_kept g.grows.kept qs j (omega (arith, h.left.below)))
        (part_kept g.grows.kept qs q (e - q) (omega (arith, h.right.below, h.right.ordered)))

    module _ (l : i < d) where
      next : rows_of qs ws₀ o i d q e ≡ row_of qs ws₀ o i q e ++ rows_of qs ws₀ o (i + 1) d q e
      next = rows_next qs ws₀ o i d q e l

      split : short? (row_of qs ws₀ o i q e ++ rows_of qs ws₀ o (i + 1) d q e) ≡ true
      split = ap short? (sym next) ∙ g.short

      here : row_of qs ws o i q e ≡ row_of qs ws₀ o i q e
      here = same_row i l

      asks_row : AddRow qs ws o s count i (span q e)
      asks_row =
          record {
            room = grows_room g.grows h.room;
            i_below = omega (arith, h.left.below);
            lies = record { ordered = h.right.ordered; below = omega (arith, h.right.below) };
            short = ap short? here ∙ short_left (row_of qs ws₀ o i q e) (rows_of qs ws₀ o (i + 1) d q e) split;
          }

      pub rule_asks : AddNewRow qs ws o s count p i (span q e)
      rule_asks =
          record {
            row = asks_row;
            from = g.from;
            stand = λ j a b t m. g.stand j a b t (subst (λ (xs : List Triple). In t xs) (same_row j (omega arith)) m);
          }

      module _ {ws' : List ℕ} {r : ℕ} (f : Adds qs ws ws' s count r (row_of qs ws o i q e)) where
        -- the rows before stay, and the row of node i is added
        stand_more : r ≤ 128 → (j : ℕ) → p ≤ j → j < i + 1 → (t : Triple) → In t (row_of qs ws₀ o j q e) → In t (part_of qs ws' s r)
        stand_more m j a b t n =
            rw (f.few m)
            (⊎_elim (λ (z : j ≡ i). adjoin_all_new triple? triple_eq (part_of qs ws s count)
            (subst (λ (xs : List Triple). In t xs) (sym here) (subst (λ (k : ℕ). In t (row_of qs ws₀ o k q e)) z n)))
            (λ (z : j < i). adjoin_all_old triple? (part_of qs ws s count) (row_of qs ws o i q e) (g.stand j a z t n)) (eq-or-lt_of_le (omega arith)))

        pub rule_turn : r ≤ 128 → RowsGrowing qs ws₀ ws' o s r p d q e (i + 1)
        rule_turn m =
            record {
              from = omega (arith, g.from);
              to = omega arith;
              grows = grows_turn g.grows (row_of qs ws o i q e) (row_of qs ws₀ o i q e) (rows_of qs ws₀ o (i + 1) d q e) f here next m;
              short = short_right (row_of qs ws₀ o i q e) (rows_of qs ws₀ o (i + 1) d q e) split;
              stand = stand_more m;
            }

        pub rule_many : short? (rows_of qs ws₀ o p d q e) ≡ true → 128 < r → Ruled qs ws₀ ws' s (distinct (rows_of qs ws₀ o p d q e)) (Err Many)
        rule_many a m =
            ruled_many (short_distinct cs ∙ a) (grows_many g.grows (row_of qs ws o i q e) (row_of qs ws₀ o i q e) (rows_of qs ws₀ o (i + 1) d q e) f here next m) m

    pub rule_over : short? (rows_of qs ws₀ o p d q e) ≡ true → d ≤ i → Ruled qs ws₀ ws s (distinct (rows_of qs ws₀ o p d q e)) (Ok count)
    rule_over a l = ruled_made (short_distinct cs ∙ a) (grows_over g.grows (rows_end qs ws₀ o i d q e l)) g.grows.few
