-- One symbol of a question: what its rule asks of the parts that it takes, and the triples of the part that it ends.
-- SPECIFICATION, Inference: each symbol ends a part, and each part has a set of triples.
-- Assumes nothing.
use Rattle.std.specs.Prelude.{Result, List, ℕ, ◌-◌, ◌<◌, ◌≤◌}
use Rattle.theory.specs.PathExpr.{named, PathExpr, Symbol, s_step, s_join, s_op, s_closure}
use Rattle.theory.specs.Inference.{Triple, distinct, of_join, of_op, of_closure}
use Rattle.triples.specs.Paths.{original}
use Rattle.triples.specs.Parts.{triples_in}
use Rattle.rules.specs.declared.Excess.{Excess}
use Rattle.rules.specs.Outcome.{Ruled}
use Rattle.rules.specs.Requirements.{Room, Unite}
use Rattle.rules.specs.StepTriples.{of_marks}
use Rattle.closure_rule.specs.Requirements.{Closing}
use Rattle.inference.specs.declared.Operand.{Operand}

-- the triples that a symbol gives: a step by a table of K kinds; an operator of two parts; the closure of p, whose triples are xs
abbrev pub of_symbol : List ℕ → ℕ → Symbol → PathExpr → List Triple → List Triple → List Triple
of_symbol t K (s_step d (named l)) p xs ys = of_marks t K d l
of_symbol t K (s_join v) p xs ys = of_join xs ys
of_symbol t K (s_op o) p xs ys = of_op o xs ys
of_symbol t K s_closure p xs ys = of_closure 64 p xs

-- the part that symbol i ends, where it takes the parts x and y (a closure x alone)
abbrev pub made_of : List ℕ → List ℕ → List ℕ → ℕ → Symbol → ℕ → Operand → Operand → List Triple
made_of qs ws t K k i x y = distinct (of_symbol t K k (original qs x.from (i - x.from)) (triples_in qs ws x.nodes) (triples_in qs ws y.nodes))

-- where the symbols of the part start that symbol i ends: a step's there, an operator's where those of its first operand do
abbrev pub origin_of : Symbol → ℕ → Operand → ℕ
origin_of (s_step d l) i x = i
origin_of (s_join v) i x = x.from
origin_of (s_op o) i x = x.from
origin_of s_closure i x = x.from

-- what its rule asks of the parts
abbrev pub AsksOf : List ℕ → List ℕ → ℕ → ℕ → Operand → Operand → Symbol → Type 0
AsksOf qs ws used i x y (s_step d (named l)) = l < 64
AsksOf qs ws used i x y (s_join v) = Unite qs ws used x.nodes y.nodes
AsksOf qs ws used i x y (s_op o) = Unite qs ws used x.nodes y.nodes
AsksOf qs ws used i x y s_closure = (x.from ≤ i) × Closing qs ws used x.nodes x.from (i - x.from)

pub record TurnAsks (qs ws : List ℕ) (K : ℕ) (k : Symbol) (used i : ℕ) (x y : Operand) : Type 0 where
  pub kinds : K ≤ 64
  pub room : Room qs ws used 0
  pub parts : AsksOf qs ws used i x y k

-- what it leaves
abbrev pub TurnMakes : List ℕ → List ℕ → List ℕ → List ℕ → ℕ → Symbol → ℕ → ℕ → Operand → Operand → Result ℕ Excess → Type 0
TurnMakes qs ws ws' t K k used i x y r = Ruled qs ws ws' used (made_of qs ws t K k i x y) r
