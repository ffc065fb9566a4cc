-- The starred cases as one table: a question, the members that it narrows to on the sheet of the cases, and their file where SPECIFICATION prints it.
-- SPECIFICATION, The example fleet, Cases.
-- Assumes nothing.
use Rattle.std.specs.Prelude.{List, [], ◌∷◌, ℕ}
use Rattle.std.proofs.Math.Option.{Option, none, some}
use Rattle.theory.specs.PathExpr.{forward, reverse, named, any, through, conjunction, branch_right, PathExpr, step, join, op, closure, postfix}
use Rattle.theory.specs.Register.{edge}
use Rattle.theory.specs.Sheet.{Sheet}
use Rattle.theory.specs.Merging.{Member, member}
use Rattle.theory.specs.Narrowing.{Narrowing, narrow_symbols}
use Rattle.theory.specs.Result.{got}
use Rattle.narrowed_question.specs.Members.{narrowed_file}

-- ---- the sheet, and the steps over its links
unfoldable pub sheet : Sheet
sheet = record {
  kinds = 6;
  link_names = 5;
  permitted = edge 0 0 1 ∷ edge 0 3 3 ∷ edge 0 4 4 ∷ edge 1 1 2 ∷ edge 1 3 3 ∷ edge 2 2 2 ∷ edge 4 4 5 ∷ [];
}

abbrev carries : PathExpr
carries = step forward (named 0)

abbrev loads : PathExpr
loads = step forward (named 1)

abbrev replaces : PathExpr
replaces = step forward (named 2)

abbrev sealed : PathExpr
sealed = step forward (named 3)

abbrev sealed⁻ : PathExpr
sealed⁻ = step reverse (named 3)

abbrev under : PathExpr
under = step forward (named 4)

-- ---- the cases
pub record Case : Type 0 where
  pub question : PathExpr
  pub members : List Member
  pub file : Option (List ℕ)

abbrev case : PathExpr → List Member → Case
case q ms = record { question = q; members = ms; file = none }

-- case 1, the one whose file is printed: 46 bytes
abbrev case_1 : Case
case_1 = record {
  question = join any carries sealed;
  members = member 1 (join (through 2) carries sealed) 8 ∷ [];
  file = some (
      0x41 ∷ 0 ∷ 2 ∷ 0 ∷ 1 ∷
      0x42 ∷ 0 ∷ 0x11 ∷ 3 ∷ 0 ∷ 0 ∷ 0 ∷ 0 ∷ 0 ∷ 0 ∷ 0 ∷ 1 ∷ 0 ∷ 0 ∷ 0 ∷ 0 ∷ 0 ∷ 0 ∷ 0 ∷ 8 ∷
      0x43 ∷ 0 ∷ 2 ∷ 0 ∷ 0 ∷ 0x43 ∷ 0 ∷ 2 ∷ 0 ∷ 3 ∷ 0x45 ∷ 0 ∷ 8 ∷ 0 ∷ 0 ∷ 0 ∷ 0 ∷ 0 ∷ 0 ∷ 0 ∷ 2 ∷ []);
}

-- cases 1 to 10; a set is its number: {0} is 1, {1} is 2, {0, 1} is 3, {2} is 4, {3} is 8, {4} is 16, {0, 4} is 17, {5} is 32, {4, 5} is 48
unfoldable pub cases : List Case
cases =
    case_1
    ∷ case sealed (member 3 sealed 8 ∷ [])
    ∷ case sealed⁻ (member 8 sealed⁻ 3 ∷ [])
    ∷ case (closure under) (member 17 under 48 ∷ member 1 (join (through 16) under under) 32 ∷ [])
    ∷ case (closure replaces) (member 4 (closure replaces) 4 ∷ [])
    ∷ case (join any loads (closure replaces)) (member 2 (join (through 4) loads (closure replaces)) 4 ∷ [])
    ∷ case (op branch_right carries sealed) (member 1 (op branch_right carries sealed) 2 ∷ [])
    ∷ case (join any carries replaces) []
    ∷ case (op conjunction carries sealed) []
    ∷ case (closure (join any sealed sealed⁻)) (member 3 (closure (join any sealed sealed⁻)) 3 ∷ [])
    ∷ []

-- ---- what a case comes to, and what SPECIFICATION says
pub record Narrowed : Type 0 where
  pub narrowing : Narrowing
  pub file : Option (List ℕ)

-- the members' file, where one is printed
abbrev written : List Member → Option (List ℕ) → Option (List ℕ)
written ms none = none
written ms (some f) = some (narrowed_file ms)

abbrev pub computed : Case → Narrowed
computed c = record { narrowing = narrow_symbols sheet (postfix c.question); file = written c.members c.file }

abbrev pub expected : Case → Narrowed
expected c = record { narrowing = got c.members; file = c.file }
