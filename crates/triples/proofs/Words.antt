-- A node comes back from its word; words that agree below u hold the same nodes there.
-- Assumes nothing.
use mathlib.Core.Path.{◌≡◌, ap, ◌∙◌}
use mathlib.Core.List.{List}
use Prim.Native.Nat.{ℕ, ◌<◌}
use native.Mathlib.Nat.{mod-eq_of_lt}
use lib.Arith.{digits_div, digits_mod}
use lib.ListN.{length, set}
use lib.Seq.{get_or-set_same}
use Rattle.rows.specs.Kept.{Kept}
use Rattle.triples.specs.declared.Node.{Node}
use Rattle.triples.specs.Table.{word_of, unpacked, InRange, node_at}

pub unpacked_word : (n : Node) → InRange n → unpacked (word_of n) ≡ n
unfolding unpacked
unpacked_word n h =
    rw (
      digits_mod _ h.to_fits,
      digits_div _ h.to_fits,
      digits_mod _ h.from_fits,
      digits_div _ h.from_fits,
      digits_mod _ h.size_fits,
      digits_div _ h.size_fits,
      digits_mod _
          h.right_fits,
      digits_div _ h.right_fits,
      digits_mod _ h.left_fits,
      digits_div _ h.left_fits,
      mod-eq_of_lt h.made_fits,
    )

pub node_new : (ws : List ℕ) (u : ℕ) (n : Node) → u < length ws → InRange n → node_at (set ws u (word_of n)) u ≡ n
node_new ws u n l h = ap unpacked (get_or-set_same ws u (word_of n) 0 l) ∙ unpacked_word n h

pub node_kept : {u hi : ℕ} {xs ys : List ℕ} → Kept u hi xs ys → (k : ℕ) → k < u → node_at ys k ≡ node_at xs k
node_kept h k l = ap unpacked (h.below k l)
