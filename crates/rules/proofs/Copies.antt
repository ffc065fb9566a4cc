-- A copy of a node at the end has the node's triple; a run of copies adds a part.
-- Assumes nothing.
use mathlib.Core.Path.{◌≡◌, refl, sym, ap, ◌∙◌, subst}
use mathlib.Core.List.{List, [], ◌∷◌}
use Prim.Native.Nat.{ℕ, ◌+◌, ◌<◌, ◌≤◌}
use native.Mathlib.Omega.{arith}
use lib.ListN.{length, set}
use Rattle.theory.specs.PathExpr.{closure, Symbol, s_step, s_join, s_op, s_closure}
use Rattle.theory.specs.Inference.{Triple}
use Rattle.symbols.specs.Symbols.{symbol_numbered}
use Rattle.rows.specs.Kept.{Kept}
use Rattle.rows.proofs.Words.{kept_set}
use Rattle.triples.specs.declared.Node.{Node}
use Rattle.triples.specs.Table.{word_of, InRange, Loaded, node_at}
use Rattle.triples.specs.Paths.{original, triple_of, Two, Founded, Good, Has}
use Rattle.triples.specs.Parts.{Candidate, Added, span}
use Rattle.triples.proofs.Words.{node_new}
use Rattle.triples.proofs.Triples.{triple_two, triple_from, triple_to, triple_kept, path_step, path_kept}
use Rattle.triples.proofs.NodePaths.{founded, step_path, kept_path}
use Rattle.triples.proofs.Growing.{part_next, part_over}
use Rattle.rules.specs.Outcome.{Adds, with_new}
use Rattle.rules.specs.Requirements.{Room, part, AddCopies}
use Rattle.rules.proofs.Grows.{Growing, grows_start, grows_room, grows_over, grows_turn, grows_many, one_added}

-- ---- one copy
module _ {qs ws : List ℕ} {s count i : ℕ} {n : Node} (h : Room qs ws s count) (b : i < s + count) (l : Loaded ws i n) where
  abbrev u : ℕ
  u = s + count

  abbrev ws' : List ℕ
  ws' = set ws (s + count) (word_of n)

  in_table : s + count < length ws
  in_table = omega (arith, h.room, h.few)

  has : Has qs ws (s + count) i
  has = record { in_use = b; in_table = omega (arith, in_table); sound = h.sound }

  in_range : InRange n
  in_range =
      record {
        made_fits = l.made_small;
        left_fits = l.left_small;
        right_fits = l.right_small;
        size_fits = l.size_small;
        from_fits = l.from_small;
        to_fits = l.to_small;
      }

  new : node_at ws' u ≡ n
  new = node_new ws u n in_table in_range

  kept : Kept u (u + 1) ws ws'
  kept = kept_set ws u (word_of n)

  -- equal ends and equal paths
  whole : (triple_of qs ws' u).path ≡ (triple_of qs ws i).path → triple_of qs ws' u ≡ triple_of qs ws i
  whole p =
      let a : (triple_of qs ws' u).from ≡ (triple_of qs ws i).from = triple_from qs ws' u ∙ ap (λ (m : Node). m.from.0) (new ∙ l.is) ∙ sym (triple_from qs ws i) in
      let b : (triple_of qs ws' u).to ≡ (triple_of qs ws i).to = triple_to qs ws' u ∙ ap (λ (m : Node). m.to.0) (new ∙ l.is) ∙ sym (triple_to qs ws i) in
      λ j. record { from = a j; path = p j; to = b j }

  two_same : Two i n → triple_of qs ws' u ≡ triple_of qs ws i
  two_same t =
      let e = l.is in
      let a = t.left_below in
      let c = t.right_below in
      triple_two qs ws' u (rw new (omega (arith, b))) (rw new (omega (arith, b)))
      ∙ rw (new, triple_kept kept qs n.left (omega (arith, b)), triple_kept kept qs n.right (omega (arith, b))) (rw e (sym (triple_two qs ws i (rw e at a) (rw e at c))))

  -- by the last symbol
  copy_as : (k : Symbol) → symbol_numbered n.made 0 ≡ k → Founded qs i n k → triple_of qs ws' u ≡ triple_of qs ws i
  copy_as (s_step d j) m f = whole (path_step qs ws' u d j (rw new m) ∙ sym (step_path has n l.is d j m))
  copy_as (s_join v) m f = two_same f
  copy_as (s_op o) m f = two_same f
  copy_as s_closure m f = whole (path_kept qs ws' u (rw new m) ∙ ap (λ (x : Node). closure (original qs x.left x.right)) new ∙ sym (kept_path has n l.is m))

  copy_triple : triple_of qs ws' u ≡ triple_of qs ws i
  copy_triple = copy_as (symbol_numbered n.made 0) refl (founded has n l.is (symbol_numbered n.made 0) refl)

  -- operands below node i are below the copy
  founded_on : (k : Symbol) → Founded qs i n k → Founded qs u n k
  founded_on (s_step d j) f = tt
  founded_on (s_join v) f = record { left_below = omega (arith, b, f.left_below); right_below = omega (arith, b, f.right_below) }
  founded_on (s_op o) f = record { left_below = omega (arith, b, f.left_below); right_below = omega (arith, b, f.right_below) }
  founded_on s_closure f = f

  good : Good qs ws i
  good = h.sound.good i b

  pub copy_candidate : Candidate qs ws s count n
  copy_candidate =
      let e = l.is in
      record {
        in_table = in_table;
        in_range = in_range;
        sound = h.sound;
        good = record {
          known = rw (new, e) good.known;
          sized = rw (copy_triple, new, e) good.sized;
          founded = subst (λ (m : Node). Founded qs u m (symbol_numbered m.made 0)) (sym new)
              (founded_on (symbol_numbered n.made 0) (founded has n l.is (symbol_numbered n.made 0) refl));
        };
      }

  pub copy_added : {zs : List ℕ} {r : ℕ} → Added qs ws zs s count n r → Adds qs ws zs s count r (triple_of qs ws i ∷ [])
  copy_added a = one_added (triple_of qs ws i) (triple_of qs ws i ∷ []) h a (rw a.words_are copy_triple) (λ j. triple_of qs ws i ∷ [])

-- ---- a run of copies
pub record CopiesGrowing (qs ws₀ ws : List ℕ) (s start count q e j : ℕ) : Type 0 where
  pub to : j ≤ e
  pub grows : Growing qs ws₀ ws (s + start) s count (with_new qs ws₀ s start (part qs ws₀ q e)) (part qs ws₀ j e)

module _ {qs ws₀ : List ℕ} {s start q e : ℕ} (h : AddCopies qs ws₀ s start (span q e)) where
  pub copies_start : CopiesGrowing qs ws₀ ws₀ s start start q e q
  copies_start = record { to = h.lies.ordered; grows = grows_start (part qs ws₀ q e) h.room }

  module _ {ws : List ℕ} {count j : ℕ} (g : CopiesGrowing qs ws₀ ws s start count q e j) where
    pub copies_over : e ≤ j → Adds qs ws₀ ws s start count (part qs ws₀ q e)
    copies_over l = grows_over g.grows (part_over qs ws₀ j e l)

    module _ (l : j < e) where
      room : Room qs ws s count
      room = grows_room g.grows h.room

      below : j < s + count
      below = omega (arith, h.lies.below, g.grows.more)

      pub copies_load : j < length ws
      copies_load = omega (arith, room.room, room.few, below)

      module _ {n : Node} (x : Loaded ws j n) where
        pub copies_asks : Candidate qs ws s count n
        copies_asks = copy_candidate room below x

        module _ {ws' : List ℕ} {r : ℕ} (a : Added qs ws ws' s count n r) where
          here : triple_of qs ws j ∷ [] ≡ triple_of qs ws₀ j ∷ []
          here = ap (λ (t : Triple). t ∷ []) (triple_kept g.grows.kept qs j (omega (arith, h.lies.below)))

          pub copies_turn : r ≤ 128 → CopiesGrowing qs ws₀ ws' s start r q e (j + 1)
          copies_turn m =
              record {
                to = omega arith;
                grows = grows_turn g.grows (triple_of qs ws j ∷ []) (triple_of qs ws₀ j ∷ []) (part qs ws₀ (j + 1) e) (copy_added room below x a) here (part_next qs ws₀ j e l) m;
              }

          pub copies_many : 128 < r → Adds qs ws₀ ws' s start r (part qs ws₀ q e)
          copies_many m = grows_many g.grows (triple_of qs ws j ∷ []) (triple_of qs ws₀ j ∷ []) (part qs ws₀ (j + 1) e) (copy_added room below x a) here (part_next qs ws₀ j e l) m
