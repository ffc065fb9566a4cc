-- Symbols in postfix order, read onto a stack of paths.
-- SPECIFICATION, Paths and symbols: postfix order, the operands of each symbol; Refusals, 6; Inference: each symbol ends a part.
-- Assumes nothing.
use Rattle.std.specs.Prelude.{List, [], ◌∷◌}
use Rattle.std.proofs.Math.Option.{Option, none, some}
use Rattle.theory.specs.PathExpr.{PathExpr, step, join, op, closure, Symbol, s_step, s_join, s_op, s_closure}

abbrev pub Stack : Type 0
Stack = List PathExpr

abbrev pub two_operands : (PathExpr → PathExpr → PathExpr) → Stack → Option Stack
two_operands f [] = none
two_operands f (q ∷ []) = none
two_operands f (q ∷ p ∷ st) = some (f p q ∷ st)

abbrev pub one_operand : (PathExpr → PathExpr) → Stack → Option Stack
one_operand f [] = none
one_operand f (p ∷ st) = some (f p ∷ st)

-- none: an operand is lacking
abbrev pub push : Symbol → Stack → Option Stack
push (s_step d l) st = some (step d l ∷ st)
push (s_join v) st = two_operands (join v) st
push (s_op o) st = two_operands (op o) st
push s_closure st = one_operand closure st

-- `read` hands itself on as the continuation, so that it stops at the first lack
abbrev pub go_on : Option Stack → (Stack → Option Stack) → Option Stack
go_on none f = none
go_on (some st) f = f st

abbrev pub read : List Symbol → Stack → Option Stack
read [] st = some st
read (s ∷ ss) st = go_on (push s st) (read ss)

abbrev pub single_path : Option Stack → Option PathExpr
single_path none = none
single_path (some []) = none
single_path (some (p ∷ [])) = some p
single_path (some (p ∷ q ∷ st)) = none

-- the path of a sequence of symbols; none is refusal 6
abbrev pub path_of : List Symbol → Option PathExpr
path_of ss = single_path (read ss [])

-- ---- the part that each symbol ends: the top of the stack after it
abbrev pub top_and : Option Stack → (Stack → List PathExpr) → List PathExpr
top_and none f = []
top_and (some []) f = []
top_and (some (p ∷ st)) f = p ∷ f (p ∷ st)

abbrev pub ended : List Symbol → Stack → List PathExpr
ended [] st = []
ended (s ∷ ss) st = top_and (push s st) (ended ss)
