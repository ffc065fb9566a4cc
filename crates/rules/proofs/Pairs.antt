-- Two nodes of the table under an operator: the node of the pair stands for what their triples give.
-- Assumes nothing.
use mathlib.Core.Path.{◌≡◌, sym, ap, ◌∙◌, subst}
use mathlib.Core.Bool.{Bool, true, false}
use mathlib.Core.List.{List}
use Prim.Native.Nat.{ℕ, ◌+◌, ◌<◌, ◌≤◌}
use native.Mathlib.Omega.{arith}
use lib.ListN.{length, set}
use borrow.Author.Tests.{leb-true}
use Rattle.theory.specs.PathExpr.{size}
use Rattle.theory.specs.Inference.{Triple}
use Rattle.theory.specs.Narrowing.{short?}
use Rattle.symbols.specs.Symbols.{symbol_numbered}
use Rattle.rows.specs.Kept.{Kept}
use Rattle.rows.proofs.Words.{kept_set}
use Rattle.triples.specs.declared.Node.{Node}
use Rattle.triples.specs.Table.{word_of, InRange, Loaded, node_at}
use Rattle.triples.specs.Paths.{triple_of, Founded, Sound}
use Rattle.triples.specs.Parts.{Candidate, Added}
use Rattle.triples.proofs.Words.{node_new}
use Rattle.triples.proofs.Triples.{triple_two, triple_from, triple_to, triple_kept}
use Rattle.rules.specs.declared.PairOperator.{PairOperator}
use Rattle.rules.specs.PairRules.{fitting, giving, ends_of, pair_node, pair_short?}
use Rattle.rules.specs.Outcome.{Adds}
use Rattle.rules.specs.Requirements.{pair_of, AddPair}
use Rattle.rules.proofs.TwoLists.{two_one, giving_size, node_gives, fitting_ends, giving_small, pair_fits, pair_coded, pair_founded}
use Rattle.rules.proofs.Short.{short_guard}
use Rattle.rules.proofs.Grows.{none_added, one_added}

-- ---- a loaded node has its triple's ends and size
module _ (qs : List ℕ) {ws : List ℕ} {i : ℕ} {x : Node} (l : Loaded ws i x) where
  pub from_is : x.from.0 ≡ (triple_of qs ws i).from
  from_is = ap (λ (m : Node). m.from.0) l.is ∙ sym (triple_from qs ws i)

  to_is : x.to.0 ≡ (triple_of qs ws i).to
  to_is = ap (λ (m : Node). m.to.0) l.is ∙ sym (triple_to qs ws i)

  size_is : {u : ℕ} → Sound qs ws u → i < u → size (triple_of qs ws i).path ≡ x.size
  size_is h b = (h.good i b).sized ∙ ap (λ (m : Node). m.size) (sym l.is)

-- ---- two loaded nodes
module _ {qs ws : List ℕ} (o : PairOperator) {u i j : ℕ} {x y : Node} (h : Sound qs ws u) (bi : i < u) (bj : j < u) (lx : Loaded ws i x) (ly : Loaded ws j y) where
  abbrev X : Triple
  X = triple_of qs ws i

  abbrev Y : Triple
  Y = triple_of qs ws j

  fits_is : fitting o (ends_of x) (ends_of y) ≡ fitting o X Y
  fits_is = fitting_ends o x y X Y (from_is qs lx) (to_is qs lx) (from_is qs ly) (to_is qs ly)

  giving_is : size (giving o X Y).path ≡ x.size + y.size + 1
  giving_is = giving_size o X Y ∙ omega (arith, size_is qs lx h bi, size_is qs ly h bj)

  pub pair_short_is : pair_short? o x y ≡ short? (pair_of qs ws o i j)
  pair_short_is = rw (two_one o X Y, fits_is, ← giving_is) (short_guard (fitting o X Y) (giving o X Y))

-- ---- the pair's node at the end
module _ {qs ws : List ℕ} {o : PairOperator} {s count i j : ℕ} {x y : Node} (h : AddPair qs ws o s count i j) (lx : Loaded ws i x) (ly : Loaded ws j y) {r : Bool}
    (d : r ≡ fitting o (ends_of x) (ends_of y)) where
  abbrev A : Triple
  A = triple_of qs ws i

  abbrev B : Triple
  B = triple_of qs ws j

  fit : r ≡ fitting o A B
  fit = d ∙ fits_is o h.room.sound h.i_below h.j_below lx ly

  pub pair_skipped : r ≡ false → Adds qs ws ws s count count (pair_of qs ws o i j)
  pair_skipped f = none_added (pair_of qs ws o i j) h.room (two_one o A B ∙ rw (sym fit ∙ f))

  module _ (f : r ≡ true) where
    abbrev n : Node
    n = pair_node o i j x y

    abbrev ws' : List ℕ
    ws' = set ws (s + count) (word_of n)

    short : x.size + y.size + 1 ≤ 48
    short = leb-true (x.size + y.size + 1) 48 (rw (sym d ∙ f) at (pair_short_is o h.room.sound h.i_below h.j_below lx ly ∙ h.short))

    in_range : InRange n
    in_range =
        record {
          made_fits = pair_fits o;
          left_fits = omega (arith, h.i_below, h.room.numbers, h.room.few);
          right_fits = omega (arith, h.j_below, h.room.numbers, h.room.few);
          size_fits = omega (arith, short);
          from_fits = lx.from_small;
          to_fits = giving_small o (ends_of x) (ends_of y) lx.to_small ly.to_small;
        }

    in_table : s + count < length ws
    in_table = omega (arith, h.room.room, h.room.few)

    new : node_at ws' (s + count) ≡ n
    new = node_new ws (s + count) n in_table in_range

    kept : Kept (s + count) (s + count + 1) ws ws'
    kept = kept_set ws (s + count) (word_of n)

    pair_triple : triple_of qs ws' (s + count) ≡ giving o A B
    pair_triple =
        triple_two qs ws' (s + count) (rw new h.i_below) (rw new h.j_below)
        ∙ rw (new, triple_kept kept qs i h.i_below, triple_kept kept qs j h.j_below) (node_gives qs o i j x y A B (from_is qs lx) (to_is qs lx) (to_is qs ly))

    pub pair_candidate : Candidate qs ws s count (pair_node o i j x y)
    pair_candidate =
        record {
          in_table = in_table;
          in_range = in_range;
          sound = h.room.sound;
          good = record {
            known = rw new (pair_coded o);
            sized = rw (pair_triple, new) (giving_is o h.room.sound h.i_below h.j_below lx ly);
            founded = subst (λ (m : Node). Founded qs (s + count) m (symbol_numbered m.made 0)) (sym new) (pair_founded qs o (record { left_below = h.i_below; right_below = h.j_below }));
          };
        }

    pub pair_added : {zs : List ℕ} {c : ℕ} → Added qs ws zs s count (pair_node o i j x y) c → Adds qs ws zs s count c (pair_of qs ws o i j)
    pair_added a = one_added (giving o A B) (pair_of qs ws o i j) h.room a (rw a.words_are pair_triple) (two_one o A B ∙ rw (sym fit ∙ f))
