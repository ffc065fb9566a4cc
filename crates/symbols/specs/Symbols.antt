-- The symbols of a path: a symbol as a number, what its field holds, and the counting of operands.
-- SPECIFICATION, Paths and symbols; Refusals, 3 and 6.
-- Assumes nothing.
use Rattle.std.specs.Prelude.{◌≡◌, ◌⊎◌, Bool, cond, not, ◌&&◌, List, [], ◌∷◌, ℕ, ◌+◌, ◌-◌, ◌<◌, zero, suc, leb, ltb, eqb, get_or}
use Rattle.theory.specs.PathExpr.{Direction, forward, reverse, Label, named, any, through, union, conjunction, branch_right, branch_left, Symbol, s_step, s_join, s_op, s_closure, code}
use Rattle.theory.specs.KindSet.{IsSet}
use Rattle.fields.specs.declared.File.{File}
use Rattle.fields.specs.declared.Due.{Due}
use Rattle.symbols.specs.declared.Stack.{Stack}
use Rattle.symbols.specs.declared.Numbered as declared·Numbered
use Rattle.fields.specs.Table.{tag_length}
use Rattle.theory.specs.Result.{Result, got, refused}
use Rattle.fields.specs.Reading.{eight, tags_due}

-- ---- a symbol as a number: its code, and 255 for a join through the set beside it
abbrev pub operator_numbered : ℕ → Symbol
operator_numbered zero = s_join any
operator_numbered (suc zero) = s_op union
operator_numbered (suc (suc zero)) = s_op conjunction
operator_numbered (suc (suc (suc zero))) = s_op branch_right
operator_numbered (suc (suc (suc (suc zero)))) = s_op branch_left
operator_numbered (suc (suc (suc (suc (suc n))))) = s_closure

unfoldable pub symbol_numbered : ℕ → ℕ → Symbol
symbol_numbered c m =
    cond (ltb c 64) (s_step forward (named c))
    (cond (ltb c 128) (s_step reverse (named (c - 64)))
    (cond (eqb c 255) (s_join (through m)) (operator_numbered (c - 128))))

-- number and set
abbrev pub Numbered : Type 0
Numbered = declared·Numbered.Numbered

abbrev pub numbered : ℕ → ℕ → Numbered
numbered c m = record { number = c; set = m }

-- the symbol of a number, and back
abbrev pub symbol_of : Numbered → Symbol
symbol_of x = symbol_numbered x.number x.set

abbrev pub number_symbol : Symbol → Numbered
number_symbol (s_step d l) = numbered (code (s_step d l)) 0
number_symbol (s_join any) = numbered 128 0
number_symbol (s_join (through m)) = numbered 255 m
number_symbol (s_op o) = numbered (code (s_op o)) 0
number_symbol s_closure = numbered 133 0

-- it is the number of a symbol: the one that the symbol has
unfoldable pub symbol? : ℕ → Bool
symbol? c = eqb (number_symbol (symbol_numbered c 0)).number c

-- the code by which members are compared: "45 is a join and has code 128"
unfoldable pub order_code : ℕ → ℕ
order_code c = cond (eqb c 255) 128 c

-- ---- how many paths a symbol takes
abbrev pub operands : Symbol → ℕ
operands (s_step d l) = 0
operands (s_join v) = 2
operands (s_op o) = 2
operands s_closure = 1

-- by its number
unfoldable pub arity : ℕ → ℕ
arity c = operands (symbol_numbered c 0)

-- ---- a symbol's field
-- the length of its body: that of a step, of an operator, of a join through a set
abbrev pub symbol_length : ℕ → ℕ
symbol_length t = cond (eqb t 0x43) (tag_length 0x43) (cond (eqb t 0x44) (tag_length 0x44) (tag_length 0x45))

-- direction: 0 forward, 1 reverse; link: its name
abbrev pub direction_numbered : ℕ → Direction
direction_numbered zero = forward
direction_numbered (suc n) = reverse

abbrev pub label_numbered : ℕ → Label
label_numbered l = named l

-- 43: direction and link; refusal 3
unfoldable pub step_of : ℕ → List ℕ → Result Numbered
step_of at b = cond (ltb (get_or b 0 0) 2 && ltb (get_or b 1 0) 64) (got (number_symbol (s_step (direction_numbered (get_or b 0 0)) (label_numbered (get_or b 1 0))))) (refused 3 at)

-- 44: an operator; refusal 3
unfoldable pub operator_of : ℕ → List ℕ → Result Numbered
operator_of at b = cond (leb 128 (get_or b 0 0) && leb (get_or b 0 0) 133) (got (numbered (get_or b 0 0) 0)) (refused 3 at)

-- the symbol of a field at a place, by its tag: 43, 44 or 45
unfoldable pub symbol_in : ℕ → ℕ → List ℕ → Result Numbered
symbol_in at t b = cond (eqb t 0x43) (step_of at b) (cond (eqb t 0x44) (operator_of at b) (got (number_symbol (s_join (through (eight b 0))))))

-- ---- operands: `left` symbols are still due, `depth` paths stand on the stack
-- one symbol more, that takes k paths; its field is at a place, with the place after it: refusal 6
unfoldable pub push : Stack → ℕ → ℕ → ℕ → Result Stack
push q at next k =
    cond (ltb q.depth k) (refused 6 at)
    (cond (eqb q.left 1 && not (eqb (q.depth - k + 1) 1)) (refused 6 next)
    (got (record { left = q.left - 1; depth = q.depth - k + 1 })))

-- what is due within a path: its symbols, and nothing after them
abbrev pub due_symbols : File → Stack → Due
due_symbols f q =
    let full = eqb q.left 0 in
    tags_due f (0x43 ∷ 0x44 ∷ 0x45 ∷ []) full full

-- ---- symbols in two arrays: their numbers, and their sets
-- a symbol; only a join through a set has one
abbrev pub symbol_given : ℕ → ℕ → Numbered
symbol_given c m = numbered c (cond (eqb c 255) m 0)

-- n symbols from the k-th on
abbrev pub symbols_given : List ℕ → List ℕ → ℕ → ℕ → List Numbered
symbols_given numbers masks zero k = []
symbols_given numbers masks (suc n) k = symbol_given (get_or numbers k 0) (get_or masks k 0) ∷ symbols_given numbers masks n (suc k)

-- ---- symbols that make a path
-- a step or an operator, without a set
abbrev pub PlainSymbol : Numbered → Type 0
PlainSymbol x = (x.number < 134) × (x.set ≡ 0)

-- or a join through a set
abbrev pub Fine : Numbered → Type 0
Fine x = PlainSymbol x ⊎ ((x.number ≡ 255) × IsSet x.set)

-- each symbol is fine and finds its operands, and they come to an end as the path does (the places do not matter here)
abbrev pub Runs : Stack → List Numbered → Type 0
Runs q [] = q.left ≡ 0
Runs q (x ∷ xs) = Fine x × ((q' : Stack) × (push q 0 0 (arity x.number) ≡ got q') × Runs q' xs)
