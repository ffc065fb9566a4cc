-- The loops over pairs of nodes: sizes first, then the triples.
-- Assumes nothing.
use mathlib.Core.Path.{◌≡◌, refl, sym, ap, ◌∙◌}
use mathlib.Core.Bool.{Bool, true, false, ◌&&◌}
use mathlib.Core.List.{List, [], ◌∷◌, ◌++◌}
use Prim.Native.Nat.{ℕ, ◌+◌, ◌-◌, ◌<◌, ◌≤◌}
use native.Mathlib.Omega.{arith}
use lib.ListN.{get_or}
use Rattle.theory.specs.Lists.{adjoin_all}
use Rattle.theory.specs.Inference.{Triple, triple?, of_join}
use Rattle.algorithms.specs.Growth.{no_triple, grown}
use Rattle.theory.specs.Narrowing.{short?}
use Rattle.theory.proofs.Lists.{tabulate_at}
use Rattle.triples.specs.declared.Node.{Node}
use Rattle.triples.specs.Table.{Loaded}
use Rattle.triples.specs.Paths.{triple_of}
use Rattle.triples.specs.Parts.{part_of, span}
use Rattle.triples.proofs.Triples.{triple_kept}
use Rattle.triples.proofs.Growing.{part_next, part_over}
use Rattle.rules.specs.declared.PairOperator.{PairOperator}
use Rattle.rules.specs.declared.PairOperator.TheVariants.{Join}
use Rattle.rules.specs.PairRules.{of_two, pair_short?}
use Rattle.rules.specs.Outcome.{Adds, with_new}
use Rattle.rules.specs.Requirements.{Lies, part, pair_of, row_of, rows_of, Pairing, AddPair, AddRow}
use Rattle.rules.proofs.TwoLists.{two_join, two_next, two_row, two_none, row_none}
use Rattle.rules.proofs.Short.{short_append, short_left, short_right}
use Rattle.rules.proofs.Pairs.{pair_short_is}
use Rattle.rules.proofs.Grows.{Growing, grows_start, grows_room, grows_over, grows_turn, grows_many}

-- ---- the next of a row, and of the rows
module _ (qs ws : List ℕ) (o : PairOperator) where
  row_next : (i j e : ℕ) → j < e → row_of qs ws o i j e ≡ pair_of qs ws o i j ++ row_of qs ws o i (j + 1) e
  row_next i j e l = ap (of_two o (triple_of qs ws i ∷ [])) (part_next qs ws j e l) ∙ two_row o (triple_of qs ws i) (triple_of qs ws j) (part qs ws (j + 1) e)

  row_end : (i j e : ℕ) → e ≤ j → row_of qs ws o i j e ≡ []
  row_end i j e l = ap (of_two o (triple_of qs ws i ∷ [])) (part_over qs ws j e l) ∙ row_none o (triple_of qs ws i)

  module _ (i d q e : ℕ) where
    pub rows_next : i < d → rows_of qs ws o i d q e ≡ row_of qs ws o i q e ++ rows_of qs ws o (i + 1) d q e
    rows_next l = ap (λ (xs : List Triple). of_two o xs (part qs ws q e)) (part_next qs ws i d l) ∙ two_next o (triple_of qs ws i) (part qs ws (i + 1) d) (part qs ws q e)

    pub rows_end : d ≤ i → rows_of qs ws o i d q e ≡ []
    rows_end l = ap (λ (xs : List Triple). of_two o xs (part qs ws q e)) (part_over qs ws i d l) ∙ two_none o (part qs ws q e)

-- ---- sizes
split_fails : (all here later : List Triple) {r : Bool} → all ≡ here ++ later → r ≡ short? here → r ≡ false → short? all ≡ false
split_fails all here later e d f = ap short? e ∙ short_append here later ∙ ap (λ (b : Bool). b && short? later) (sym d ∙ f)

split_goes : (all here later : List Triple) {r : Bool} → all ≡ here ++ later → r ≡ short? here → r ≡ true → short? all ≡ short? later
split_goes all here later e d f = ap short? e ∙ short_append here later ∙ ap (λ (b : Bool). b && short? later) (sym d ∙ f)

-- all is short if and only if what is left is
pub record RowLeft (qs ws : List ℕ) (o : PairOperator) (i q e j : ℕ) : Type 0 where
  pub from : q ≤ j
  pub to : j ≤ e
  pub left : short? (row_of qs ws o i q e) ≡ short? (row_of qs ws o i j e)

pub row_left : (qs ws : List ℕ) (o : PairOperator) (i q e : ℕ) → q ≤ e → RowLeft qs ws o i q e q
row_left qs ws o i q e l = record { from = omega arith; to = l; left = refl }

module _ {qs ws : List ℕ} {o : PairOperator} {s i q e j : ℕ} (h : Pairing qs ws s) (g : RowLeft qs ws o i q e j) where
  pub row_shorter : e ≤ j → true ≡ short? (row_of qs ws o i q e)
  row_shorter l = sym (g.left ∙ ap short? (row_end qs ws o i j e l))

  module _ (b : i < s) (p : Lies s (span q e)) (l : j < e) {x y : Node} (lx : Loaded ws i x) (ly : Loaded ws j y) {r : Bool} (d : r ≡ pair_short? o x y) where
    is_short : r ≡ short? (pair_of qs ws o i j)
    is_short = d ∙ pair_short_is o h.sound b (omega (arith, p.below)) lx ly

    pub row_long : r ≡ false → false ≡ short? (row_of qs ws o i q e)
    row_long f = sym (g.left ∙ split_fails (row_of qs ws o i j e) (pair_of qs ws o i j) (row_of qs ws o i (j + 1) e) (row_next qs ws o i j e l) is_short f)

    pub row_goes : r ≡ true → RowLeft qs ws o i q e (j + 1)
    row_goes f =
        record {
          from = omega (arith, g.from);
          to = omega arith;
          left = g.left ∙ split_goes (row_of qs ws o i j e) (pair_of qs ws o i j) (row_of qs ws o i (j + 1) e) (row_next qs ws o i j e l) is_short f;
        }

pub record RowsLeft (qs ws : List ℕ) (o : PairOperator) (p d q e i : ℕ) : Type 0 where
  pub from : p ≤ i
  pub to : i ≤ d
  pub left : short? (rows_of qs ws o p d q e) ≡ short? (rows_of qs ws o i d q e)

pub rows_left : (qs ws : List ℕ) (o : PairOperator) (p d q e : ℕ) → p ≤ d → RowsLeft qs ws o p d q e p
rows_left qs ws o p d q e l = record { from = omega arith; to = l; left = refl }

module _ {qs ws : List ℕ} {o : PairOperator} {s p d q e i : ℕ} (h : Pairing qs ws s) (g : RowsLeft qs ws o p d q e i) where
  pub rows_shorter : d ≤ i → true ≡ short? (rows_of qs ws o p d q e)
  rows_shorter l = sym (g.left ∙ ap short? (rows_end qs ws o i d q e l))

  module _ (l : i < d) {r : Bool} (k : r ≡ short? (row_of qs ws o i q e)) where
    pub rows_long : r ≡ false → false ≡ short? (rows_of qs ws o p d q e)
    rows_long f = sym (g.left ∙ split_fails (rows_of qs ws o i d q e) (row_of qs ws o i q e) (rows_of qs ws o (i + 1) d q e) (rows_next qs ws o i d q e l) k f)

    pub rows_go : r ≡ true → RowsLeft qs ws o p d q e (i + 1)
    rows_go f =
        record {
          from = omega (arith, g.from);
          to = omega arith;
          left = g.left ∙ split_goes (rows_of qs ws o i d q e) (row_of qs ws o i q e) (rows_of qs ws o (i + 1) d q e) (rows_next qs ws o i d q e l) k f;
        }

-- ---- the triples of a row
pub record RowGrowing (qs ws₀ ws : List ℕ) (o : PairOperator) (s start count i q e j : ℕ) : Type 0 where
  pub to : j ≤ e
  pub grows : Growing qs ws₀ ws (s + start) s count (with_new qs ws₀ s start (row_of qs ws₀ o i q e)) (row_of qs ws₀ o i j e)
  pub short : short? (row_of qs ws₀ o i j e) ≡ true

module _ {qs ws₀ : List ℕ} {o : PairOperator} {s start i q e : ℕ} (h : AddRow qs ws₀ o s start i (span q e)) where
  pub row_start : RowGrowing qs ws₀ ws₀ o s start start i q e q
  row_start = record { to = h.lies.ordered; grows = grows_start (row_of qs ws₀ o i q e) h.room; short = h.short }

  module _ {ws : List ℕ} {count j : ℕ} (g : RowGrowing qs ws₀ ws o s start count i q e j) where
    pub row_over : e ≤ j → Adds qs ws₀ ws s start count (row_of qs ws₀ o i q e)
    row_over l = grows_over g.grows (row_end qs ws₀ o i j e l)

    module _ (l : j < e) where
      next : row_of qs ws₀ o i j e ≡ pair_of qs ws₀ o i j ++ row_of qs ws₀ o i (j + 1) e
      next = row_next qs ws₀ o i j e l

      split : short? (pair_of qs ws₀ o i j ++ row_of qs ws₀ o i (j + 1) e) ≡ true
      split = ap short? (sym next) ∙ g.short

      here : pair_of qs ws o i j ≡ pair_of qs ws₀ o i j
      here = rw (triple_kept g.grows.kept qs i h.i_below, triple_kept g.grows.kept qs j (omega (arith, h.lies.below)))

      pub row_asks : AddPair qs ws o s count i j
      row_asks =
          record {
            room = grows_room g.grows h.room;
            i_below = omega (arith, h.i_below, g.grows.more);
            j_below = omega (arith, h.lies.below, g.grows.more);
            short = ap short? here ∙ short_left (pair_of qs ws₀ o i j) (row_of qs ws₀ o i (j + 1) e) split;
          }

      module _ {ws' : List ℕ} {r : ℕ} (d : Adds qs ws ws' s count r (pair_of qs ws o i j)) where
        pub row_turn : r ≤ 128 → RowGrowing qs ws₀ ws' o s start r i q e (j + 1)
        row_turn m =
            record {
              to = omega arith;
              grows = grows_turn g.grows (pair_of qs ws o i j) (pair_of qs ws₀ o i j) (row_of qs ws₀ o i (j + 1) e) d here next m;
              short = short_right (pair_of qs ws₀ o i j) (row_of qs ws₀ o i (j + 1) e) split;
            }

        pub row_many : 128 < r → Adds qs ws₀ ws' s start r (row_of qs ws₀ o i q e)
        row_many m = grows_many g.grows (pair_of qs ws o i j) (pair_of qs ws₀ o i j) (row_of qs ws₀ o i (j + 1) e) d here next m

-- ---- a row of joins is one turn of the growth of a closure's walks
pub row_grown : (qs ws : List ℕ) (s count i q e : ℕ) → s ≤ i → i < s + count
    → with_new qs ws s count (row_of qs ws Join i q e) ≡ grown (part qs ws q e) (part_of qs ws s count) (i - s)
unfolding part_of
row_grown qs ws s count i q e a b =
    let z : s + (i - s) ≡ i = omega arith in
    let t : get_or (part_of qs ws s count) (i - s) no_triple ≡ triple_of qs ws i = tabulate_at (triple_of qs ws) s count (i - s) no_triple (omega arith) ∙ ap (triple_of qs ws) z in
    ap (adjoin_all triple? (part_of qs ws s count)) (two_join (triple_of qs ws i ∷ []) (part qs ws q e) ∙ ap (λ (x : Triple). of_join (x ∷ []) (part qs ws q e)) (sym t))
