-- The triples of a matrix of kinds, added kind by kind, by a node that needs no other.
-- Assumes nothing.
use mathlib.Core.Path.{◌≡◌, refl, sym, ap, ◌∙◌, subst}
use mathlib.Core.Bool.{Bool, true, false}
use mathlib.Core.List.{List, []}
use Prim.Native.Nat.{ℕ, ◌+◌, ◌/◌, ◌%◌, ◌<◌}
use native.Mathlib.Omega.{arith}
use lib.ListN.{length, get_or, set}
use Rattle.bits.specs.Bit.{bit_of}
use Rattle.bits.proofs.Bits.{bit_zero}
use Rattle.theory.specs.PathExpr.{PathExpr, size, Symbol, s_step, s_join, s_op, s_closure}
use Rattle.theory.specs.Inference.{Triple, triple, between}
use Rattle.algorithms.specs.Growth.{no_triple}
use Rattle.symbols.specs.Symbols.{symbol_numbered}
use Rattle.rows.specs.Row.{row_bit}
use Rattle.triples.specs.declared.Node.{Node}
use Rattle.triples.specs.Table.{word_of, InRange, node_at}
use Rattle.triples.specs.Paths.{built, triple_of, Founded}
use Rattle.triples.specs.Parts.{Candidate, Added}
use Rattle.triples.proofs.Words.{node_new}
use Rattle.triples.proofs.Triples.{triple_from, triple_to, path_built}
use Rattle.rules.specs.Outcome.{Adds, with_new}
use Rattle.rules.specs.EdgeTriples.{edge_at, edges_from, edges_of, edge_node, leaf_path, Alone, Leaf, AddEdge, AddEdges}
use Rattle.rules.proofs.Grows.{none_added, one_added}
use Rattle.rules.proofs.Ranging.{Ranging, ranging_start, ranging_room}
use Rattle.rules.proofs.Between.{none_below, between_same}

-- a word of the matrix has the bits of its row
pub row_word : (xs : List ℕ) (a b : ℕ) → b < 64 → row_bit xs a b ≡ bit_of (get_or xs a 0) b
unfolding row_bit
row_word xs a b h =
    let q : a + b / 64 ≡ a = omega arith in
    let r : b % 64 ≡ b = omega arith in
    rw (q, r)

-- ---- one edge
-- neither the kinds nor other nodes matter to the path
leaf_same : {qs : List ℕ} {n : Node} → Leaf qs n → (a b : ℕ) (x y : Triple) → built qs (edge_node n a b) x y (symbol_numbered n.made 0) ≡ leaf_path qs n
unfolding leaf_path
leaf_same {qs} {n} h a b x y = go (symbol_numbered n.made 0) h.alone
  where
    go : (s : Symbol) → Alone qs n s → built qs (edge_node n a b) x y s ≡ built qs (edge_node n 0 0) no_triple no_triple s
    go (s_step d l) f = refl
    go (s_join v) f = absurd f
    go (s_op o) f = absurd f
    go s_closure f = refl

alone_founded : (qs : List ℕ) (n : Node) (i a b : ℕ) (s : Symbol) → Alone qs n s → Founded qs i (edge_node n a b) s
alone_founded qs n i a b (s_step d l) f = tt
alone_founded qs n i a b (s_join v) f = absurd f
alone_founded qs n i a b (s_op o) f = absurd f
alone_founded qs n i a b s_closure f = f

module _ {qs ws xs : List ℕ} {n : Node} {s count a b : ℕ} (h : AddEdge qs ws xs n s count a b) where
  abbrev node : Node
  node = edge_node n a b

  abbrev ws' : List ℕ
  ws' = set ws (s + count) (word_of node)

  in_range : InRange node
  in_range =
      record {
        made_fits = h.leaf.made_fits;
        left_fits = h.leaf.left_fits;
        right_fits = h.leaf.right_fits;
        size_fits = h.leaf.size_fits;
        from_fits = h.from_kind;
        to_fits = h.to_kind;
      }

  in_table : s + count < length ws
  in_table = omega (arith, h.room.room, h.room.few)

  new : node_at ws' (s + count) ≡ node
  new = node_new ws (s + count) node in_table in_range

  path_is : (triple_of qs ws' (s + count)).path ≡ leaf_path qs n
  path_is =
      let (x, y, e) = path_built qs ws' (s + count) in
      e ∙ ap (λ (m : Node). built qs m x y (symbol_numbered m.made 0)) new ∙ leaf_same h.leaf a b x y

  triple_is : triple_of qs ws' (s + count) ≡ triple a (leaf_path qs n) b
  triple_is =
      let e : (triple_of qs ws' (s + count)).from ≡ a = triple_from qs ws' (s + count) ∙ ap (λ (m : Node). m.from.0) new in
      let f : (triple_of qs ws' (s + count)).to ≡ b = triple_to qs ws' (s + count) ∙ ap (λ (m : Node). m.to.0) new in
      λ i. record { from = e i; path = path_is i; to = f i }

  pub edge_candidate : Candidate qs ws s count (edge_node n a b)
  edge_candidate =
      record {
        in_table = in_table;
        in_range = in_range;
        sound = h.room.sound;
        good = record {
          known = rw new h.leaf.known;
          sized = ap size path_is ∙ h.leaf.sized ∙ ap (λ (m : Node). m.size) (sym new);
          founded = subst (λ (m : Node). Founded qs (s + count) m (symbol_numbered m.made 0)) (sym new) (alone_founded qs n (s + count) a b (symbol_numbered n.made 0) h.leaf.alone);
        };
      }

  module _ {r : Bool} (d : r ≡ row_bit xs a b) where
    pub edge_skipped : r ≡ false → Adds qs ws ws s count count (edge_at xs (leaf_path qs n) a b)
    unfolding edge_at
    edge_skipped f = none_added (edge_at xs (leaf_path qs n) a b) h.room (rw (sym d ∙ f))

    pub edge_added : r ≡ true → {zs : List ℕ} {k : ℕ} → Added qs ws zs s count (edge_node n a b) k → Adds qs ws zs s count k (edge_at xs (leaf_path qs n) a b)
    unfolding edge_at
    edge_added f x = one_added (triple a (leaf_path qs n) b) (edge_at xs (leaf_path qs n) a b) h.room x (rw x.words_are triple_is) (rw (sym d ∙ f))

-- ---- from one kind, and from each
module _ {qs ws₀ xs : List ℕ} {K : ℕ} {n : Node} {s start : ℕ} (h : AddEdges qs ws₀ xs K n s start) where
  abbrev p : PathExpr
  p = leaf_path qs n

  from_none : (a : ℕ) → get_or xs a 0 ≡ 0 → edges_from xs p K a ≡ []
  unfolding edges_from edge_at
  from_none a e = none_below K (edge_at xs p a) (λ b l. rw (row_word xs a b (omega (arith, h.kinds)), e, bit_zero b))

  -- the word is 0
  pub from_skipped : (a : ℕ) → get_or xs a 0 ≡ 0 → Adds qs ws₀ ws₀ s start start (edges_from xs (leaf_path qs n) K a)
  from_skipped a e = none_added (edges_from xs p K a) h.room (from_none a e)

  pub from_start : (a : ℕ) → Ranging qs ws₀ ws₀ (s + start) s start (with_new qs ws₀ s start (edges_from xs (leaf_path qs n) K a)) (edge_at xs (leaf_path qs n) a) 0 K
  unfolding edges_from
  from_start a = ranging_start (edge_at xs p a) K h.room

  pub edges_start : Ranging qs ws₀ ws₀ (s + start) s start (with_new qs ws₀ s start (edges_of xs (leaf_path qs n) K)) (edges_from xs (leaf_path qs n) K) 0 K
  unfolding edges_of edges_from edge_at
  edges_start = ranging_start (edges_from xs p K) K h.room

  module _ {ws : List ℕ} {u count j : ℕ} {all : List Triple} {f : ℕ → List Triple} (g : Ranging qs ws₀ ws u s count all f j K) where
    pub from_asks : AddEdges qs ws xs K n s count
    from_asks = record { leaf = h.leaf; room = ranging_room g h.room; rows = h.rows; kinds = h.kinds }

    pub edge_asks : {a : ℕ} → a < K → j < K → AddEdge qs ws xs n s count a j
    edge_asks l m =
        record { leaf = h.leaf; room = ranging_room g h.room; row = omega (arith, h.rows); from_kind = omega (arith, h.kinds); to_kind = omega (arith, h.kinds) }

-- ---- all of them, where the matrix has the bits of a test
pub edges_are : (xs : List ℕ) {p q : PathExpr} (K : ℕ) (f : ℕ → ℕ → Bool) → p ≡ q → ((a b : ℕ) → a < K → b < K → row_bit xs a b ≡ f a b) → edges_of xs p K ≡ between K q f
unfolding edges_of
edges_are xs {q = q} K f e h = rw e (between_same K q (row_bit xs) f h)
