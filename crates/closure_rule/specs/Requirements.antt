-- What the rule of a closure asks, and what its pieces ask.
-- SPECIFICATION, Chains in inference.
-- Assumes nothing.
use Rattle.std.specs.Prelude.{◌≡◌, true, List, ℕ, ◌+◌, ◌<◌, ◌≤◌}
use Rattle.theory.specs.Lists.{NoRepeat}
use Rattle.theory.specs.PathExpr.{s_closure, code}
use Rattle.theory.specs.Inference.{Triple, of_closure}
use Rattle.theory.specs.Narrowing.{short?}
use Rattle.triples.specs.declared.Node.{Node}
use Rattle.triples.specs.declared.Span.{Span}
use Rattle.triples.specs.Paths.{original, Copied}
use Rattle.triples.specs.Parts.{part_of, triples_in}
use Rattle.rules.specs.Requirements.{Lies, Room}
use Rattle.kind_graph.specs.Kinds.{KindGraph}
use Rattle.kind_graph.specs.Sizes.{all_walks}

-- a part of at most 128 triples, each once, whose original part is n symbols of the question from o on
pub record Closing (qs ws : List ℕ) (s : ℕ) (xs : Span) (o n : ℕ) : Type 0 where
  pub room : Room qs ws s 0
  pub lies : Lies s xs
  pub few : xs.end ≤ xs.start + 128
  pub norepeat : NoRepeat (triples_in qs ws xs)
  pub copied : Copied qs o n
  pub place : o < 4096
  pub symbols : n ≤ 47

-- gs is the graph of the part that is copied
pub record CopyAcyclic (qs ws gs : List ℕ) (s : ℕ) (xs : Span) : Type 0 where
  pub room : Room qs ws s 0
  pub lies : Lies s xs
  pub few : xs.end ≤ xs.start + 128
  pub linked : KindGraph (triples_in qs ws xs) gs

-- the walks go over f triples, each once, and none is over 48 symbols long
pub record GrowWalks (qs ws : List ℕ) (s f : ℕ) : Type 0 where
  pub room : Room qs ws s f
  pub norepeat : NoRepeat (part_of qs ws s f)
  pub short : short? (all_walks (part_of qs ws s f)) ≡ true

-- the triples of the closure of the nodes xs, whose original part is n symbols of the question from o on
abbrev pub closed_in : List ℕ → List ℕ → Span → ℕ → ℕ → List Triple
closed_in qs ws xs o n = of_closure 64 (original qs o n) (triples_in qs ws xs)

-- the node of a kept closure of n symbols of the question from o on; its kinds are still to come
abbrev pub kept_node : ℕ → ℕ → Node
kept_node o n = record { made = code s_closure; left = o; right = n; size = n + 1; from = record { 0 = 0 }; to = record { 0 = 0 } }
