-- What the code does at a symbol, when it goes over a question's codes from the last to the first: an operator comes before its operands, the second one first,
-- so what becomes of an operand is known by where it stands.
-- Nothing that is handed on rests on this: specs/Call.antt has the result.
-- Assumes nothing.
use Rattle.std.specs.Prelude.{◌≡◌, List, ℕ, ◌≤◌, T, length}
use Rattle.theory.specs.PathExpr.{any, through, Op, union, conjunction, branch_right, branch_left, PathExpr, Symbol, s_step, s_join, s_op, s_closure, codes, plain?, links?}
use Rattle.shortening.specs.declared.Context.{Context}
use Rattle.shortening.specs.declared.Context.TheVariants.{Elsewhere, Closure, Test}

-- what a symbol becomes: as a test a join is a branch right
abbrev pub tested_symbol : Symbol → Symbol
tested_symbol (s_step d l) = s_step d l
tested_symbol (s_join any) = s_op branch_right
tested_symbol (s_join (through m)) = s_join (through m)
tested_symbol (s_op o) = s_op o
tested_symbol s_closure = s_closure

abbrev pub turned : Context → Symbol → Symbol
turned Elsewhere x = x
turned Closure x = x
turned Test x = tested_symbol x

-- how many codes are left of a closure, which goes right under a closure and as a test; and of any symbol
abbrev pub closure_kept : Context → ℕ
closure_kept Elsewhere = 1
closure_kept Closure = 0
closure_kept Test = 0

abbrev pub kept : Context → Symbol → ℕ
kept k (s_step d l) = 1
kept k (s_join v) = 1
kept k (s_op o) = 1
kept k s_closure = closure_kept k

-- where a closure's operand stands: right under it, or, if the closure goes, where it stood itself
abbrev pub closure_context : Context → Context
closure_context Elsewhere = Closure
closure_context Closure = Closure
closure_context Test = Test

-- where the operands of an operator stand: a branch has a test
abbrev pub first_of : Op → Context
first_of union = Elsewhere
first_of conjunction = Elsewhere
first_of branch_right = Elsewhere
first_of branch_left = Test

abbrev pub second_of : Op → Context
second_of union = Elsewhere
second_of conjunction = Elsewhere
second_of branch_right = Test
second_of branch_left = Elsewhere

-- where the first operand of any symbol stands, and the second
abbrev pub first_context : Context → Symbol → Context
first_context k (s_step d l) = Elsewhere
first_context k (s_join v) = Elsewhere
first_context k (s_op o) = first_of o
first_context k s_closure = closure_context k

abbrev pub second_context : Symbol → Context
second_context (s_step d l) = Elsewhere
second_context (s_join v) = Elsewhere
second_context (s_op o) = second_of o
second_context s_closure = Elsewhere

-- the codes are those of a question's path
pub record CodesOf (qs : List ℕ) (p : PathExpr) : Type 0 where
  pub are : codes p ≡ qs
  pub few : length qs ≤ 32
  pub plain : T (plain? p)
  pub links : T (links? 64 p)

abbrev pub OfQuestion : List ℕ → Type 0
OfQuestion qs = (p : PathExpr) × CodesOf qs p
