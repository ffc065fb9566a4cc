-- Path expressions, their symbols in postfix order, the symbols' codes and the order of codes.
-- SPECIFICATION, Paths and symbols, Order of members.
-- Assumes nothing.
use Rattle.std.specs.Prelude.{Bool, true, false, ◌&&◌, ◌||◌, List, [], ◌∷◌, ◌++◌, map, ℕ, suc, ◌+◌, ltb, eqb}
use Rattle.std.proofs.Math.Decide.{ℕ_discrete}
use Rattle.theory.specs.Lists.{decided}

pub data Direction : Type 0 where
  forward reverse : Direction
  deriving Discrete as Direction-discrete

-- what a step follows: the links of one name
pub data Label : Type 0 where
  named : ℕ → Label
  deriving Discrete as Label-discrete

-- whether a step with this label follows a link of name m
abbrev pub follows? : Label → ℕ → Bool
follows? (named l) m = eqb l m

-- whether what it names is one of n names, 0 to n - 1
abbrev pub below? : Label → ℕ → Bool
below? (named l) n = ltb l n

-- what a join passes through: any record (a plain join), or one whose kind is in a set (field 45)
pub data Via : Type 0 where
  any : Via
  through : ℕ → Via
  deriving Discrete as Via-discrete

-- the operators of two operands but join; conjunction is "both" of SPECIFICATION
pub data Op : Type 0 where
  union conjunction branch_right branch_left : Op
  deriving Discrete as Op-discrete

-- a step along a link; the transitive closure is "chain" of SPECIFICATION
pub data PathExpr : Type 0 where
  step : Direction → Label → PathExpr
  join : Via → PathExpr → PathExpr → PathExpr
  op : Op → PathExpr → PathExpr → PathExpr
  closure : PathExpr → PathExpr
  deriving Discrete as PathExpr-discrete

abbrev pub path_discrete : Discrete PathExpr
path_discrete = PathExpr-discrete Direction-discrete (Label-discrete ℕ_discrete) (Via-discrete ℕ_discrete) Op-discrete

unfoldable pub same? : PathExpr → PathExpr → Bool
same? p q = decided (path_discrete p q)

-- ---- symbols in postfix order
pub data Symbol : Type 0 where
  s_step : Direction → Label → Symbol
  s_join : Via → Symbol
  s_op : Op → Symbol
  s_closure : Symbol

abbrev pub postfix : PathExpr → List Symbol
postfix (step d l) = s_step d l ∷ []
postfix (join v p q) = postfix p ++ (postfix q ++ (s_join v ∷ []))
postfix (op o p q) = postfix p ++ (postfix q ++ (s_op o ∷ []))
postfix (closure p) = postfix p ++ (s_closure ∷ [])

-- the number of symbols
abbrev pub size : PathExpr → ℕ
size (step d l) = 1
size (join v p q) = suc (size p + size q)
size (op o p q) = suc (size p + size q)
size (closure p) = suc (size p)

-- the parts of a path, in the order of the symbols that end them
abbrev pub parts : PathExpr → List PathExpr
parts (step d l) = step d l ∷ []
parts (join v p q) = parts p ++ (parts q ++ (join v p q ∷ []))
parts (op o p q) = parts p ++ (parts q ++ (op o p q ∷ []))
parts (closure p) = parts p ++ (closure p ∷ [])

-- ---- codes, and their order
abbrev pub op_code : Op → ℕ
op_code union = 129
op_code conjunction = 130
op_code branch_right = 131
op_code branch_left = 132

abbrev pub step_code : Direction → Label → ℕ
step_code forward (named l) = l
step_code reverse (named l) = 64 + l

abbrev pub code : Symbol → ℕ
code (s_step d l) = step_code d l
code (s_join v) = 128
code (s_op o) = op_code o
code s_closure = 133

abbrev pub codes : PathExpr → List ℕ
codes p = map code (postfix p)

-- compared from the first; a sequence that is the start of another comes before it
abbrev pub before? : List ℕ → List ℕ → Bool
before? [] [] = false
before? [] (y ∷ ys) = true
before? (x ∷ xs) [] = false
before? (x ∷ xs) (y ∷ ys) = ltb x y || (eqb x y && before? xs ys)

-- ---- what a question is made of
-- the path with each join plain
abbrev pub erase : PathExpr → PathExpr
erase (step d l) = step d l
erase (join v p q) = join any (erase p) (erase q)
erase (op o p q) = op o (erase p) (erase q)
erase (closure p) = closure (erase p)

-- no join has a set: a question, for 45 stands in members only
abbrev pub plain? : PathExpr → Bool
plain? (step d l) = true
plain? (join any p q) = plain? p && plain? q
plain? (join (through m) p q) = false
plain? (op o p q) = plain? p && plain? q
plain? (closure p) = plain? p

-- each step's label is below n
abbrev pub links? : ℕ → PathExpr → Bool
links? n (step d l) = below? l n
links? n (join v p q) = links? n p && links? n q
links? n (op o p q) = links? n p && links? n q
links? n (closure p) = links? n p
