-- The lines of pairs and their number, as pieces.
-- Assumes nothing.
use mathlib.Core.Path.{◌≡◌, refl, ap, ◌∙◌, sym}
use mathlib.Core.Bool.{Bool}
use mathlib.Core.List.{List}
use Prim.Native.Nat.{ℕ, ◌*◌}
use native.Mathlib.Nat.{zero-add}
use lib.ListN.{length}
use Rattle.theory.specs.Lists.{guard, filter, concat_map, range}
use Rattle.rows.specs.Row.{row_bit}
use Rattle.relation.specs.Pairs.{pair_at}
use Rattle.printing.specs.Text.{line, row_lines, lines, count}
use Rattle.printing.proofs.Pieces.{filtered_pieces}

pub row_pieces : (f : ℕ → Bool) (s n : ℕ) → row_lines f s n ≡ concat_map (λ t. guard (f t) (line s t)) (range n)
unfolding row_lines
row_pieces f s n = filtered_pieces f (line s) (range n)

pub lines_pieces : (f : ℕ → ℕ → Bool) (n : ℕ) → lines f n ≡ concat_map (λ s. row_lines (f s) s n) (range n)
unfolding lines
lines_pieces f n = refl

pub count_pieces : (f : ℕ → ℕ → Bool) (n : ℕ) → count f n ≡ length (concat_map (λ s. filter (f s) (range n)) (range n))
unfolding count
count_pieces f n = refl

-- row s of an answer
pub row_of : (ws : List ℕ) (w s : ℕ) → row_bit ws (s * w) ≡ pair_at ws 0 w s
row_of ws w s = ap (λ (r : ℕ). row_bit ws r) (sym (zero-add (s * w)))

-- the pairs from s, and how many a count of row s tells
abbrev pub row : (ws : List ℕ) (w n s : ℕ) → List ℕ
row ws w n s = filter (pair_at ws 0 w s) (range n)

pub row_told : (ws : List ℕ) (w n s : ℕ) {r : ℕ} → r ≡ length (filter (row_bit ws (s * w)) (range n)) → r ≡ length (row ws w n s)
row_told ws w n s e = e ∙ ap (λ (f : ℕ → Bool). length (filter f (range n))) (row_of ws w s)
