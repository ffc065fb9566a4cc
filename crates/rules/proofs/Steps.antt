-- The rule of a step: its matrix of kinds, by a sheet's table, and the triples of that matrix.
-- Assumes nothing.
use mathlib.Core.Path.{◌≡◌, sym, ap, ◌∙◌, subst}
use mathlib.Core.Bool.{Bool, true, false}
use mathlib.Core.Logic.{⊎_elim}
use mathlib.Core.List.{List}
use Prim.Native.Nat.{ℕ, ◌+◌, ◌<◌, ◌≤◌}
use native.Mathlib.Nat.{eq-or-lt_of_le}
use native.Mathlib.Omega.{arith}
use lib.Dec.{T, le→leb, lt→ltb}
use lib.ListN.{length, get_or, set, length-set}
use lib.Seq.{get_or-set_same, get_or-set_other}
use Rattle.bits.specs.Bit.{bit_of, with_bit}
use Rattle.theory.specs.PathExpr.{named, s_step, size, Direction, forward, reverse, step, step_code, code}
use Rattle.theory.specs.Inference.{Triple, distinct}
use Rattle.theory.specs.Narrowing.{short?}
use Rattle.theory.proofs.Tests.{to_true}
use Rattle.theory.proofs.Lists.{in_every}
use Rattle.theory.proofs.Triples.{in_between}
use Rattle.algorithms.specs.Growth.{no_triple}
use Rattle.symbols.specs.Symbols.{symbol_numbered}
use Rattle.symbols.proofs.Numbers.{number_of}
use Rattle.sheet.specs.Table.{cell, tabled?}
use Rattle.rows.specs.Row.{Word}
use Rattle.rows.proofs.Masks.{word_yes, word_no, mask_at}
use Rattle.triples.specs.declared.Node.{Node}
use Rattle.triples.specs.Paths.{built}
use Rattle.rules.specs.Outcome.{few_of, Ruled, Done, Adds}
use Rattle.rules.specs.EdgeTriples.{edges_of, leaf_path, Alone, Leaf, AddEdges}
use Rattle.rules.specs.StepTriples.{marked?, of_marks, StepRow, StepMatrix, Stepping}
use Rattle.rules.proofs.Short.{short_path?, short_distinct}
use Rattle.rules.proofs.Grows.{rule_added}
use Rattle.rules.proofs.Edges.{row_word, edges_are}
use Rattle.rules.proofs.RuleOutcome.{ruled_few}

-- ---- one word of its matrix
pub forward_row : (t : List ℕ) (l a K : ℕ) {i : ℕ} → i ≡ cell a l → StepRow t forward l a K (get_or t i 0)
unfolding marked? tabled?
forward_row t l a K e = record { bit = λ b m. rw e }

module _ (t : List ℕ) (l a b : ℕ) {r : Bool} (d : r ≡ tabled? t b l a) where
  reverse_marked : marked? t reverse l a b ≡ r
  unfolding marked?
  reverse_marked = sym d

  pub row_yes : {v : ℕ} → Word (marked? t reverse l a) b v → r ≡ true → Word (marked? t reverse l a) (b + 1) (with_bit v b)
  row_yes w f = word_yes w (reverse_marked ∙ f)

  pub row_no : {v : ℕ} → Word (marked? t reverse l a) b v → r ≡ false → Word (marked? t reverse l a) (b + 1) v
  row_no w f = word_no w (reverse_marked ∙ f)

pub row_over : {t : List ℕ} {d : Direction} {l a K b v : ℕ} → Word (marked? t d l a) b v → K ≤ b → StepRow t d l a K v
row_over {t} {d} {l} {a} {b = b} w h = record { bit = λ j m. w.bit j ∙ mask_at (marked? t d l a) b j (omega arith) }

-- ---- word by word
pub matrix_none : (t : List ℕ) (d : Direction) (l K : ℕ) {xs : List ℕ} → length xs ≡ 64 → StepMatrix t d l K 0 xs
matrix_none t d l K e = record { long = e; bit = λ a b k m. absurd (omega arith) }

pub matrix_more : {t : List ℕ} {d : Direction} {l K a v : ℕ} {xs : List ℕ} → StepMatrix t d l K a xs → StepRow t d l a K v → a < K → K ≤ 64 → StepMatrix t d l K (a + 1) (set xs a v)
matrix_more {K = K} {a} {v} {xs} g r l h =
    record {
      long = length-set xs a v ∙ g.long;
      bit = λ i b m n.
          row_word (set xs a v) i b (omega arith)
          ∙ ⊎_elim
          (λ (e : i ≡ a). rw e (ap (λ (w : ℕ). bit_of w b) (get_or-set_same xs a v 0 (omega (arith, g.long))) ∙ r.bit b n))
          (λ (k : i < a). ap (λ (w : ℕ). bit_of w b) (get_or-set_other xs a i v 0 (λ z. omega arith)) ∙ sym (row_word xs i b (omega arith)) ∙ g.bit i b k n)
          (eq-or-lt_of_le (omega arith));
    }

-- ---- the rule
abbrev pub step_node : Direction → ℕ → Node
step_node d l = record { made = step_code d (named l); left = 0; right = 0; size = 1; from = record { 0 = 0 }; to = record { 0 = 0 } }

module _ (qs : List ℕ) (d : Direction) (l : ℕ) (h : l < 64) where
  step_numbered : symbol_numbered (step_code d (named l)) 0 ≡ s_step d (named l)
  step_numbered = (number_of (s_step d (named l)) (lt→ltb l 64 h)).back

  step_path : leaf_path qs (step_node d l) ≡ step d (named l)
  unfolding leaf_path
  step_path = ap (built qs (step_node d l) no_triple no_triple) step_numbered

  step_fits : (d : Direction) → step_code d (named l) < 256
  step_fits forward = omega arith
  step_fits reverse = omega arith

  step_leaf : Leaf qs (step_node d l)
  step_leaf =
      record {
        known = record { is = ap code step_numbered };
        alone = subst (Alone qs (step_node d l)) (sym step_numbered) tt;
        sized = ap size step_path;
        made_fits = step_fits d;
        left_fits = omega arith;
        right_fits = omega arith;
        size_fits = omega arith;
      }

marks_short : (t : List ℕ) (d : Direction) (l K : ℕ) → short? (distinct (of_marks t K d l)) ≡ true
unfolding of_marks
marks_short t d l K =
    short_distinct (of_marks t K d l)
    ∙ to_true (short? (of_marks t K d l))
    (in_every short_path? (of_marks t K d l)
    (λ u m. subst (λ (v : Triple). T (short_path? v)) (sym (in_between K (step d (named l)) (marked? t d l) m).3) (le→leb 1 48 (omega arith))))

module _ {qs ws : List ℕ} {d : Direction} {K l s : ℕ} (h : Stepping qs ws K l s) {t xs : List ℕ} (m : StepMatrix t d l K K xs) where
  pub step_asks : AddEdges qs ws xs K (step_node d l) s 0
  step_asks = record { leaf = step_leaf qs d l h.link; room = h.room; rows = omega (arith, m.long, h.kinds); kinds = h.kinds }

  marks_are : edges_of xs (leaf_path qs (step_node d l)) K ≡ of_marks t K d l
  unfolding of_marks
  marks_are = edges_are xs K (marked? t d l) (step_path qs d l h.link) m.bit

  module _ {ws' : List ℕ} {r : ℕ} (a : Adds qs ws ws' s 0 r (edges_of xs (leaf_path qs (step_node d l)) K)) where
    done : Done qs ws ws' s s r (distinct (of_marks t K d l))
    done = subst (λ (ts : List Triple). Done qs ws ws' s s r (distinct ts)) marks_are (rule_added (edges_of xs (leaf_path qs (step_node d l)) K) a)

    pub step_told : Ruled qs ws ws' s (distinct (of_marks t K d l)) (few_of r)
    step_told = ruled_few (marks_short t d l K) done
