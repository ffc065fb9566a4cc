-- What the code's enums say, in the words of theory and in the numbers of SPECIFICATION.
-- Assumes nothing.
use Rattle.std.specs.Prelude.{◌≡◌, ◌<◌, ℕ, MatchResult}
use Rattle.std.specs.Prelude as std
use Rattle.fields.specs.declared.Refusal.{Refusal}
use Rattle.symbols.specs.declared.NoDirection.{NoDirection}
use Rattle.symbols.specs.Writing.{direction_number}
use Rattle.theory.specs.PathExpr.{Direction, forward, reverse, named, Via, any, through, Op, union, conjunction, branch_right, branch_left, Symbol, s_step, s_join, s_op, s_closure}
use Rattle.theory.specs.Result.{Result}
use Rattle.fields.specs.Contract.{read_said}
use Rattle.symbols.specs.declared.Direction as declared·Direction
use Rattle.symbols.specs.declared.Direction.TheVariants as direction
use Rattle.symbols.specs.declared.Via as declared·Via
use Rattle.symbols.specs.declared.Via.TheVariants as via
use Rattle.symbols.specs.declared.Operator as declared·Operator
use Rattle.symbols.specs.declared.Operator.TheVariants as operator
use Rattle.symbols.specs.declared.Symbol as declared·Symbol
use Rattle.symbols.specs.declared.Symbol.TheVariants as symbol
use Rattle.symbols.specs.declared.Stack.{Stack}
use Rattle.symbols.specs.declared.Numbered.{Numbered}

abbrev pub direction_said : declared·Direction.Direction → Direction
direction_said direction.Forward = forward
direction_said direction.Reverse = reverse

-- the direction of a number, or none has it
abbrev pub DirectionOf : ℕ → std.Result declared·Direction.Direction NoDirection → Type 0
DirectionOf n r = MatchResult r (λ d. direction_number (direction_said d) ≡ n) (λ e. 1 < n)

abbrev pub via_said : declared·Via.Via → Via
via_said via.Any = any
via_said (via.Through m) = through m

abbrev pub operator_said : declared·Operator.Operator → Op
operator_said operator.Union = union
operator_said operator.Conjunction = conjunction
operator_said operator.BranchRight = branch_right
operator_said operator.BranchLeft = branch_left

abbrev pub symbol_said : declared·Symbol.Symbol → Symbol
symbol_said (symbol.Step d l) = s_step (direction_said d) (named l.0)
symbol_said (symbol.Join v) = s_join (via_said v)
symbol_said (symbol.Op o) = s_op (operator_said o)
symbol_said symbol.Closure = s_closure

-- a step's link has a number
abbrev pub LinkFits : declared·Symbol.Symbol → Type 0
LinkFits (symbol.Step d l) = l.0 < 64
LinkFits (symbol.Join v) = Unit {0}
LinkFits (symbol.Op o) = Unit {0}
LinkFits symbol.Closure = Unit {0}

-- what reading a symbol gives, and a push
abbrev pub numbered_said : std.Result Numbered Refusal → Result Numbered
numbered_said a = read_said (λ x. x) a

abbrev pub push_said : std.Result Stack Refusal → Result Stack
push_said a = read_said (λ q. q) a
