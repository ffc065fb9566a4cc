-- Parts of the table as lists of triples, and a part that grows at its end.
-- SPECIFICATION, Inference: triples equal in all three places are one.
-- Assumes nothing.
use Rattle.std.specs.Prelude.{◌≡◌, List, ℕ, ◌+◌, ◌-◌, ◌<◌, ◌≤◌, length, set}
use Rattle.theory.specs.Lists.{adjoin, tabulate}
use Rattle.theory.specs.Inference.{Triple, triple?}
use Rattle.triples.specs.declared.Node.{Node}
use Rattle.triples.specs.declared.Span.{Span}
use Rattle.triples.specs.Table.{word_of, InRange}
use Rattle.triples.specs.Paths.{triple_of, Good, Sound}

-- the triples of n nodes from s on
unfoldable pub part_of : List ℕ → List ℕ → ℕ → ℕ → List Triple
part_of qs ws s n = tabulate (triple_of qs ws) s n

-- the nodes s to e; the triples of a span of nodes
abbrev pub span : ℕ → ℕ → Span
span s e = record { start = s; end = e }

abbrev pub triples_in : List ℕ → List ℕ → Span → List Triple
triples_in qs ws x = part_of qs ws x.start (x.end - x.start)

-- node n may be put at the end of the part of `count` nodes from s on
pub record Candidate (qs ws : List ℕ) (s count : ℕ) (n : Node) : Type 0 where
  pub in_table : s + count < length ws
  pub in_range : InRange n
  pub sound : Sound qs ws (s + count)
  pub good : Good qs (set ws (s + count) (word_of n)) (s + count)

-- its word was stored, and the part of r nodes has its triple, once
pub record Added (qs ws ws' : List ℕ) (s count : ℕ) (n : Node) (r : ℕ) : Type 0 where
  pub words_are : ws' ≡ set ws (s + count) (word_of n)
  pub part_is : part_of qs ws' s r ≡ adjoin triple? (part_of qs ws s count) (triple_of qs ws' (s + count))
  pub sound : Sound qs ws' (s + r)
  pub at_least : count ≤ r
  pub at_most : r ≤ count + 1
  pub same_length : length ws' ≡ length ws
