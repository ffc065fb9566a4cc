-- What the rules ask: a sound table, room for 129 nodes, and parts that lie below.
-- Assumes nothing.
use Rattle.std.specs.Prelude.{◌≡◌, true, ℕ, ◌+◌, ◌-◌, ◌<◌, ◌≤◌, length}
use mathlib.Core.List.{List, [], ◌∷◌, Memᴰ as In}
use Rattle.theory.specs.PathExpr.{Op}
use Rattle.theory.specs.Inference.{Triple, of_op}
use Rattle.theory.specs.Narrowing.{short?}
use Rattle.triples.specs.Paths.{triple_of, Sound}
use Rattle.triples.specs.declared.Span.{Span}
use Rattle.triples.specs.Parts.{part_of, triples_in}
use Rattle.rules.specs.declared.PairOperator.{PairOperator}
use Rattle.rules.specs.PairRules.{of_two}

-- the nodes xs lie below u
pub record Lies (u : ℕ) (xs : Span) : Type 0 where
  pub ordered : xs.start ≤ xs.end
  pub below : xs.end ≤ u

-- a part of `count` nodes grows from s on, with room for a 129th
pub record Room (qs ws : List ℕ) (s count : ℕ) : Type 0 where
  pub room : s + 129 ≤ length ws
  pub numbers : s + 128 ≤ 4096
  pub sound : Sound qs ws (s + count)
  pub few : count ≤ 128

-- the triples of nodes p to d
abbrev pub part : List ℕ → List ℕ → ℕ → ℕ → List Triple
part qs ws p d = part_of qs ws p (d - p)

-- what node i gives with node j, with the nodes q to e or ys; what the nodes p to d or xs give with them
abbrev pub pair_of : List ℕ → List ℕ → PairOperator → ℕ → ℕ → List Triple
pair_of qs ws o i j = of_two o (triple_of qs ws i ∷ []) (triple_of qs ws j ∷ [])

abbrev pub row_of : List ℕ → List ℕ → PairOperator → ℕ → ℕ → ℕ → List Triple
row_of qs ws o i q e = of_two o (triple_of qs ws i ∷ []) (part qs ws q e)

abbrev pub rows_of : List ℕ → List ℕ → PairOperator → ℕ → ℕ → ℕ → ℕ → List Triple
rows_of qs ws o p d q e = of_two o (part qs ws p d) (part qs ws q e)

abbrev pub row_in : List ℕ → List ℕ → PairOperator → ℕ → Span → List Triple
row_in qs ws o i ys = row_of qs ws o i ys.start ys.end

abbrev pub rows_in : List ℕ → List ℕ → PairOperator → Span → Span → List Triple
rows_in qs ws o xs ys = rows_of qs ws o xs.start xs.end ys.start ys.end

-- the triples of two parts under an operator other than join
abbrev pub op_in : List ℕ → List ℕ → Op → Span → Span → List Triple
op_in qs ws o xs ys = of_op o (triples_in qs ws xs) (triples_in qs ws ys)

-- ---- the pass over the sizes
-- a sound table of s nodes
pub record Pairing (qs ws : List ℕ) (s : ℕ) : Type 0 where
  pub sound : Sound qs ws s
  pub in_table : s ≤ length ws

-- ---- the pass over the triples
pub record AddPair (qs ws : List ℕ) (o : PairOperator) (s count i j : ℕ) : Type 0 where
  pub room : Room qs ws s count
  pub i_below : i < s + count
  pub j_below : j < s + count
  pub short : short? (pair_of qs ws o i j) ≡ true

pub record AddRow (qs ws : List ℕ) (o : PairOperator) (s count i : ℕ) (ys : Span) : Type 0 where
  pub room : Room qs ws s count
  pub i_below : i < s + count
  pub lies : Lies (s + count) ys
  pub short : short? (row_in qs ws o i ys) ≡ true

-- all that the nodes p to i give with the nodes ys stands in the part
pub record AddNewRow (qs ws : List ℕ) (o : PairOperator) (s count p i : ℕ) (ys : Span) : Type 0 where
  pub row : AddRow qs ws o s count i ys
  pub from : p ≤ i
  pub stand : (j : ℕ) → p ≤ j → j < i → (t : Triple) → In t (row_in qs ws o j ys) → In t (part_of qs ws s count)

-- two parts below s
pub record TwoParts (qs ws : List ℕ) (s : ℕ) (xs ys : Span) : Type 0 where
  pub room : Room qs ws s 0
  pub left : Lies s xs
  pub right : Lies s ys

-- two parts of short paths
pub record Unite (qs ws : List ℕ) (s : ℕ) (xs ys : Span) : Type 0 where
  pub two : TwoParts qs ws s xs ys
  pub left_short : short? (triples_in qs ws xs) ≡ true
  pub right_short : short? (triples_in qs ws ys) ≡ true

pub record AddCopies (qs ws : List ℕ) (s count : ℕ) (ys : Span) : Type 0 where
  pub room : Room qs ws s count
  pub lies : Lies (s + count) ys
