-- A symbol: how it takes its operands, and that its triples are those of the path that it makes.
-- Assumes nothing.
use mathlib.Core.Path.{◌≡◌, refl, sym, ap, ◌∙◌, subst}
use mathlib.Core.List.{List}
use Prim.Native.Nat.{ℕ}
use Rattle.theory.specs.PathExpr.{Direction, named, PathExpr, step, join, op, closure, Symbol, Via, Op, s_join, s_op}
use Rattle.theory.specs.Postfix.{Stack, two_operands, push}
use Rattle.theory.specs.Sheet.{Sheet}
use Rattle.theory.specs.Inference.{distinct, of_closure, triples}
use Rattle.theory.proofs.Sheet.{kinds_fit}
use Rattle.theory.proofs.Ends.{triples_inside}
use Rattle.symbols.specs.declared.Symbol as declared·Symbol
use Rattle.symbols.specs.Contract.{symbol_said}
use Rattle.symbols.specs.Symbols.{operands}
use Rattle.rules.specs.StepTriples.{of_marks}
use Rattle.rules.specs.Requirements.{Unite}
use Rattle.rules.proofs.SheetSteps.{marks_step}
use Rattle.kind_graph.proofs.WiderGraph.{closure_wider}
use Rattle.inference.specs.declared.Operand.{Operand}
use Rattle.inference.specs.Turns.{of_symbol, origin_of, AsksOf, TurnAsks}
use Rattle.inference.specs.Questions.{Sheeted}

-- what the rule of a symbol asks, in an arm of a match on it
pub asked : {qs ws : List ℕ} {K used i : ℕ} {x y : Operand} {k j : declared·Symbol.Symbol} → TurnAsks qs ws K (symbol_said k) used i x y → k ≡ j → TurnAsks qs ws K (symbol_said j) used i x y
asked {qs} {ws} {K} {used} {i} {x} {y} h e = subst (λ (z : declared·Symbol.Symbol). TurnAsks qs ws K (symbol_said z) used i x y) e h

-- ---- an operator of two operands
pub record Binary (k : Symbol) : Type 0 where
  pub make : PathExpr → PathExpr → PathExpr
  pub pushes : (st : Stack) → push k st ≡ two_operands make st
  pub takes : operands k ≡ 2
  pub starts : (i : ℕ) (x : Operand) → origin_of k i x ≡ x.from
  pub asks : (qs ws : List ℕ) (used i : ℕ) (x y : Operand) → Unite qs ws used x.nodes y.nodes → AsksOf qs ws used i x y k
  pub gives : (t : List ℕ) (K : ℕ) (S : Sheet) (o p q : PathExpr) → distinct (of_symbol t K k o (triples S p) (triples S q)) ≡ triples S (make p q)

pub join_binary : (v : Via) → Binary (s_join v)
join_binary v =
    record { make = join v; pushes = λ st. refl; takes = refl; starts = λ i x. refl; asks = λ qs ws used i x y u. u; gives = λ t K S o p q. refl }

pub op_binary : (o : Op) → Binary (s_op o)
op_binary o =
    record { make = op o; pushes = λ st. refl; takes = refl; starts = λ i x. refl; asks = λ qs ws used i x y u. u; gives = λ t K S r p q. refl }

-- ---- a step, and a closure
module _ {t : List ℕ} {K : ℕ} {S : Sheet} (h : Sheeted t K S) where
  pub step_triples : (d : Direction) (l : ℕ) → distinct (of_marks t K d l) ≡ triples S (step d (named l))
  step_triples d l = ap distinct (ap (λ (n : ℕ). of_marks t n d l) (sym h.kinds) ∙ marks_step h.tabled d l)

  -- 64 kinds stand for those of the sheet
  pub closure_triples : (p : PathExpr) → distinct (of_closure 64 p (triples S p)) ≡ triples S (closure p)
  closure_triples p = ap distinct (sym (closure_wider S.kinds 64 (triples S p) (triples_inside S p) (kinds_fit S h.tabled.valid) p))
