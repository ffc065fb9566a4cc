-- Questions shortened beforehand: the five simplifications R1 to R5, each anywhere in a path; and the path to which they lead.
-- SPECIFICATION, Shortening.
-- Assumes nothing.
use Rattle.theory.specs.PathExpr.{Via, any, through, Op, union, conjunction, branch_right, branch_left, PathExpr, step, join, op, closure}

-- ---- one simplification
-- (a question's joins are plain; one through a set says more than a branch does, and stays)
pub data Simplifies : PathExpr → PathExpr → Type 0 where
  -- R1: "chain of chain is chain"
  closure_closure : {p : PathExpr} → Simplifies (closure (closure p)) (closure p)
  -- R2, R4: "a chain directly inside a branch's test is its operand, on either side"
  closure_right : {p q : PathExpr} → Simplifies (op branch_right p (closure q)) (op branch_right p q)
  closure_left : {p q : PathExpr} → Simplifies (op branch_left (closure p) q) (op branch_left p q)
  -- R3, R5: "a test 'p join q' becomes 'p branch right q', on either side"
  join_right : {p q r : PathExpr} → Simplifies (op branch_right p (join any q r)) (op branch_right p (op branch_right q r))
  join_left : {p q r : PathExpr} → Simplifies (op branch_left (join any p q) r) (op branch_left (op branch_right p q) r)
  -- in an operand
  in_join_first : {v : Via} {p p' q : PathExpr} → Simplifies p p' → Simplifies (join v p q) (join v p' q)
  in_join_second : {v : Via} {p q q' : PathExpr} → Simplifies q q' → Simplifies (join v p q) (join v p q')
  in_op_first : {o : Op} {p p' q : PathExpr} → Simplifies p p' → Simplifies (op o p q) (op o p' q)
  in_op_second : {o : Op} {p q q' : PathExpr} → Simplifies q q' → Simplifies (op o p q) (op o p q')
  in_closure : {p p' : PathExpr} → Simplifies p p' → Simplifies (closure p) (closure p')

-- any number of them, one after the other
pub data Reduces : PathExpr → PathExpr → Type 0 where
  done : {p : PathExpr} → Reduces p p
  next : {p q r : PathExpr} → Simplifies p q → Reduces q r → Reduces p r

-- "until none fits"
abbrev pub Irreducible : PathExpr → Type 0
Irreducible p = (q : PathExpr) → ¬ Simplifies p q

-- ---- the path that none fits, from the operands up
-- the closure of such a path
abbrev pub closed : PathExpr → PathExpr
closed (step d l) = closure (step d l)
closed (join v p q) = closure (join v p q)
closed (op o p q) = closure (op o p q)
closed (closure p) = closure p

-- such a path as a branch's test
abbrev pub tested : PathExpr → PathExpr
tested (step d l) = step d l
tested (join any p q) = op branch_right p (tested q)
tested (join (through m) p q) = join (through m) p q
tested (op o p q) = op o p q
tested (closure p) = tested p

-- an operator on two such paths
abbrev pub operated : Op → PathExpr → PathExpr → PathExpr
operated union p q = op union p q
operated conjunction p q = op conjunction p q
operated branch_right p q = op branch_right p (tested q)
operated branch_left p q = op branch_left (tested p) q

abbrev pub normal_form : PathExpr → PathExpr
normal_form (step d l) = step d l
normal_form (join v p q) = join v (normal_form p) (normal_form q)
normal_form (op o p q) = operated o (normal_form p) (normal_form q)
normal_form (closure p) = closed (normal_form p)
