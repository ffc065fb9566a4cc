-- A case that the reference program answered: a sheet, a question and a register, and what it gave. All as numbers, for a short table.
-- Assumes nothing.
use Rattle.std.specs.Prelude.{Bool, true, false, cond, ◌&&◌, List, [], ◌∷◌, map, ℕ, ◌+◌, ◌-◌, ◌/◌, ◌%◌, eqb, ltb}
use Rattle.std.proofs.Math.Option.{Option, none, some}
use Rattle.theory.specs.PathExpr.{forward, reverse, named, any, through, union, conjunction, branch_right, branch_left, PathExpr, Symbol, s_step, s_join, s_op, s_closure, postfix, code, codes}
use Rattle.theory.specs.Postfix.{path_of}
use Rattle.theory.specs.Simplification.{normal_form}
use Rattle.theory.specs.Register.{Edge, edge, Register, records, well_formed?}
use Rattle.theory.specs.Sheet.{Sheet, sheet?, breach}
use Rattle.theory.specs.Merging.{Member}
use Rattle.theory.specs.Narrowing.{Narrowing, narrow_symbols}
use Rattle.theory.specs.Result.{got, refused}
use Rattle.theory.specs.Evaluation.{plain_answer, narrowed_answer}
use Rattle.theory.specs.Words.{answer_words}

-- ---- what a number stands for
-- from, label and to, two decimal digits each
abbrev edge_of : ℕ → Edge
edge_of n = edge (n / 10000) (n / 100 % 100) (n % 100)

-- a symbol's code; 1000 and a set for a join through it
abbrev symbol_of : ℕ → Symbol
symbol_of n =
    cond (ltb n 64) (s_step forward (named n))
    (cond (ltb n 128) (s_step reverse (named (n - 64)))
    (cond (eqb n 128) (s_join any)
    (cond (eqb n 129) (s_op union)
    (cond (eqb n 130) (s_op conjunction)
    (cond (eqb n 131) (s_op branch_right)
    (cond (eqb n 132) (s_op branch_left)
    (cond (eqb n 133) s_closure (s_join (through (n - 1000))))))))))

abbrev number_of : Symbol → ℕ
number_of (s_step d l) = code (s_step d l)
number_of (s_join any) = 128
number_of (s_join (through m)) = 1000 + m
number_of (s_op o) = code (s_op o)
number_of s_closure = 133

-- ---- a case
-- a refusal, number and place; or the members: from set, to set and the numbers of the symbols
pub data Expected : Type 0 where
  refusal : ℕ → ℕ → Expected
  members : List (List ℕ) → Expected

pub record Case : Type 0 where
  pub sheet : Sheet
  pub question : List Symbol
  pub register : Register
  pub outcome : Expected
  pub breach_place : Option ℕ
  pub plain_words : List ℕ
  pub narrowed_words : List ℕ

abbrev pub case : ℕ → ℕ → List ℕ → List ℕ → List ℕ → List ℕ → Expected → Option ℕ → List ℕ → List ℕ → Case
case K E permitted question kinds links outcome place plain short = record {
  sheet = record { kinds = K; link_names = E; permitted = map edge_of permitted };
  question = map symbol_of question;
  register = record { kinds = kinds; links = map edge_of links };
  outcome = outcome;
  breach_place = place;
  plain_words = plain;
  narrowed_words = short;
}

-- a question, and the codes of what it is shortened to
pub record Shortening : Type 0 where
  pub question : List Symbol
  pub short : List ℕ

abbrev pub shortening : List ℕ → List ℕ → Shortening
shortening question short = record { question = map symbol_of question; short = short }

-- ---- the definitions give the same
abbrev numbers? : List ℕ → List ℕ → Bool
numbers? [] [] = true
numbers? [] (y ∷ ys) = false
numbers? (x ∷ xs) [] = false
numbers? (x ∷ xs) (y ∷ ys) = eqb x y && numbers? xs ys

abbrev place? : Option ℕ → Option ℕ → Bool
place? none none = true
place? none (some y) = false
place? (some x) none = false
place? (some x) (some y) = eqb x y

abbrev member_numbers : Member → List ℕ
member_numbers m = m.from ∷ m.to ∷ map number_of (postfix m.path)

abbrev members? : List Member → List (List ℕ) → Bool
members? [] [] = true
members? [] (n ∷ ns) = false
members? (m ∷ ms) [] = false
members? (m ∷ ms) (n ∷ ns) = numbers? (member_numbers m) n && members? ms ns

abbrev narrowed_same? : Case → Narrowing → Expected → Bool
narrowed_same? c (refused n i) (refusal k j) = eqb n k && eqb i j
narrowed_same? c (refused n i) (members ns) = false
narrowed_same? c (got ms) (refusal k j) = false
narrowed_same? c (got ms) (members ns) = members? ms ns && numbers? (answer_words (records c.register) (narrowed_answer c.register ms)) c.narrowed_words

abbrev plain_same? : Case → Option PathExpr → Bool
plain_same? c none = false
plain_same? c (some q) = numbers? (answer_words (records c.register) (plain_answer c.register q)) c.plain_words

unfoldable pub same? : Case → Bool
same? c =
    sheet? c.sheet && well_formed? c.register
    && narrowed_same? c (narrow_symbols c.sheet c.question) c.outcome
    && place? (breach c.sheet c.register) c.breach_place
    && plain_same? c (path_of c.question)

abbrev short_same? : List ℕ → Option PathExpr → Bool
short_same? short none = false
short_same? short (some p) = numbers? (codes (normal_form p)) short

unfoldable pub shortened? : Shortening → Bool
shortened? c = short_same? c.short (path_of c.question)
