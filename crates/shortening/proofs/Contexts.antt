-- What becomes of a question's symbols: the number of one, and that a turned step has its link.
-- Assumes nothing.
use mathlib.Core.Path.{◌≡◌, refl, sym}
use Prim.Native.Nat.{ℕ, ◌≤◌}
use native.Mathlib.Omega.{arith}
use lib.Dec.{ltb→lt}
use Rattle.theory.specs.PathExpr.{Direction, Label, named, any, through, Symbol, s_step, s_join, s_op, s_closure, code}
use Rattle.symbols.specs.declared.Symbol as declared·Symbol
use Rattle.symbols.specs.declared.Symbol.TheVariants as symbol
use Rattle.symbols.specs.Contract.{direction_said, symbol_said, LinkFits}
use Rattle.symbols.specs.Symbols.{symbol_numbered, number_symbol, operands}
use Rattle.symbols.proofs.Numbers.{step_below}
use Rattle.shortening.specs.declared.Context.{Context}
use Rattle.shortening.specs.declared.Context.TheVariants.{Elsewhere, Closure, Test}
use Rattle.shortening.specs.Pass.{turned, kept}

-- only a join becomes another symbol
abbrev pub Stays : Symbol → Type 0
Stays (s_step d l) = Unit {0}
Stays (s_join v) = ⊥
Stays (s_op o) = Unit {0}
Stays s_closure = Unit {0}

pub turned_same : (k : Context) (x : Symbol) → Stays x → x ≡ turned k x
turned_same Elsewhere x h = refl
turned_same Closure x h = refl
turned_same Test (s_step d l) h = refl
turned_same Test (s_join v) h = absurd h
turned_same Test (s_op o) h = refl
turned_same Test s_closure h = refl

-- a step was one before
turned_step : (k : Context) (x : Symbol) (d : Direction) (l : Label) → turned k x ≡ s_step d l → x ≡ s_step d l
turned_step Elsewhere x d l e = e
turned_step Closure x d l e = e
turned_step Test (s_step c m) d l e = e
turned_step Test (s_join any) d l e = absurd (let z : ◌≡◌ {A = ℕ} 0 1 = cc in omega arith)
turned_step Test (s_join (through m)) d l e = e
turned_step Test (s_op o) d l e = e
turned_step Test s_closure d l e = e

-- so its link has a number
pub turned_fits : (y : declared·Symbol.Symbol) (k : Context) (c : ℕ) → symbol_said y ≡ turned k (symbol_numbered c 0) → LinkFits y
turned_fits (symbol.Step d l) k c e =
    ltb→lt l.0 64 (step_below c 0 (direction_said d) (named l.0) (turned_step k (symbol_numbered c 0) (direction_said d) (named l.0) (sym e)))
turned_fits (symbol.Join v) k c e = tt
turned_fits (symbol.Op o) k c e = tt
turned_fits symbol.Closure k c e = tt

-- a symbol without a set has its code as number
abbrev pub NoSet : Symbol → Type 0
NoSet (s_step d l) = Unit {0}
NoSet (s_join any) = Unit {0}
NoSet (s_join (through m)) = ⊥
NoSet (s_op o) = Unit {0}
NoSet s_closure = Unit {0}

pub plain_number : (x : Symbol) → NoSet x → (number_symbol x).number ≡ code x
plain_number (s_step d l) h = refl
plain_number (s_join any) h = refl
plain_number (s_join (through m)) h = absurd h
plain_number (s_op o) h = refl
plain_number s_closure h = refl

pub turned_plain : (k : Context) (x : Symbol) → NoSet x → NoSet (turned k x)
turned_plain Elsewhere x h = h
turned_plain Closure x h = h
turned_plain Test (s_step d l) h = tt
turned_plain Test (s_join any) h = tt
turned_plain Test (s_join (through m)) h = h
turned_plain Test (s_op o) h = tt
turned_plain Test s_closure h = tt

-- how many codes are left, and how many paths it takes
pub kept_few : (k : Context) (x : Symbol) → kept k x ≤ 1
kept_few k (s_step d l) = omega arith
kept_few k (s_join v) = omega arith
kept_few k (s_op o) = omega arith
kept_few Elsewhere s_closure = omega arith
kept_few Closure s_closure = omega arith
kept_few Test s_closure = omega arith

pub operands_few : (x : Symbol) → operands x ≤ 2
operands_few (s_step d l) = omega arith
operands_few (s_join v) = omega arith
operands_few (s_op o) = omega arith
operands_few s_closure = omega arith
