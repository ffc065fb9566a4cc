-- The triples of two parts under an operator of pairs, and how the code makes them: which pairs fit, and what a pair gives.
-- SPECIFICATION, Inference.
-- Assumes nothing.
use Rattle.std.specs.Prelude.{Bool, true, cond, List, ℕ, ◌+◌, leb}
use Rattle.theory.specs.PathExpr.{forward, named, step, Symbol, s_join, s_op, any, conjunction, branch_right, branch_left, code}
use Rattle.theory.specs.Inference.{Triple, triple, end_to_end?, same_ends?, same_start?, joined, conjoined, branched_right, branched_left, of_join, of_op}
use Rattle.triples.specs.declared.Node.{Node}
use Rattle.rules.specs.declared.PairOperator.{PairOperator}
use Rattle.rules.specs.declared.PairOperator.TheVariants.{Join, Conjunction, BranchRight, BranchLeft}

-- the operator's symbol, and its code
abbrev pub pair_symbol : PairOperator → Symbol
pair_symbol Join = s_join any
pair_symbol Conjunction = s_op conjunction
pair_symbol BranchRight = s_op branch_right
pair_symbol BranchLeft = s_op branch_left

abbrev pub pair_code : PairOperator → ℕ
pair_code o = code (pair_symbol o)

-- the triples of two parts
unfoldable pub of_two : PairOperator → List Triple → List Triple → List Triple
of_two Join xs ys = of_join xs ys
of_two Conjunction xs ys = of_op conjunction xs ys
of_two BranchRight xs ys = of_op branch_right xs ys
of_two BranchLeft xs ys = of_op branch_left xs ys

-- ---- a pair
unfoldable pub fitting : PairOperator → Triple → Triple → Bool
fitting Join x y = end_to_end? x y
fitting Conjunction x y = same_ends? x y
fitting BranchRight x y = end_to_end? x y
fitting BranchLeft x y = same_start? x y

unfoldable pub giving : PairOperator → Triple → Triple → Triple
giving Join x y = joined x y
giving Conjunction x y = conjoined x y
giving BranchRight x y = branched_right x y
giving BranchLeft x y = branched_left x y

-- a node's two ends, as a triple
abbrev pub ends_of : Node → Triple
ends_of n = triple n.from.0 (step forward (named 0)) n.to.0

-- the node of a pair of nodes x and y, which stand at i and j
abbrev pub pair_node : PairOperator → ℕ → ℕ → Node → Node → Node
pair_node o i j x y =
    record { made = pair_code o; left = i; right = j; size = x.size + y.size + 1; from = x.from; to = record { 0 = (giving o (ends_of x) (ends_of y)).to } }

-- where they fit, the pair's path has at most 48 symbols
abbrev pub pair_short? : PairOperator → Node → Node → Bool
pair_short? o x y = cond (fitting o (ends_of x) (ends_of y)) (leb (x.size + y.size + 1) 48) true
