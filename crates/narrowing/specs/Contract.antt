-- What the code's results and areas say.
-- Assumes nothing.
use Rattle.std.specs.Prelude as std
use Rattle.std.specs.Prelude.{◌≡◌, List, ℕ, ◌<◌, ◌≤◌, T, length, Option, Some, None}
use Rattle.std.proofs.Math.Option.{some}
use Rattle.theory.specs.PathExpr.{PathExpr, plain?, links?}
use Rattle.theory.specs.Postfix.{path_of}
use Rattle.theory.specs.Sheet.{Sheet}
use Rattle.theory.specs.Narrowing.{Narrowing, refuse, link_fault, parted}
use Rattle.theory.specs.Result.{refused}
use Rattle.fields.specs.declared.Refusal.{Refusal}
use Rattle.fields.specs.declared.Source.TheVariants as source
use Rattle.fields.specs.declared.Size.{Size}
use Rattle.fields.specs.Call.{Outcome, about, Gives}
use Rattle.fields.specs.Contract.{read_said}
use Rattle.question.specs.Form.{question_symbols}
use Rattle.rows.specs.Kept.{Kept}
use Rattle.inference.specs.Questions.{Asking, Sheeted}
use Rattle.narrowing.specs.Call.{narrow_need, in_area}

-- 11 at the symbol that is told; or at none
pub record FirstUnnamed (E : ℕ) (cs : List ℕ) (r : Option ℕ) : Type 0 where
  pub within : (i : ℕ) → r ≡ Some i → i < length cs
  pub here : (i : ℕ) → r ≡ Some i → (o : Narrowing) → refuse (link_fault E) 0 (question_symbols cs) o ≡ refused 11 i
  pub nowhere : r ≡ None → (o : Narrowing) → refuse (link_fault E) 0 (question_symbols cs) o ≡ o

-- the table and the numbers are those of sheet S
pub record Handed (t : List ℕ) (K E : ℕ) (S : Sheet) : Type 0 where
  pub sheeted : Sheeted t K S
  pub named : S.link_names ≡ E

-- the codes are a question's, and the table is a sheet's
pub record Narrowable (qs t : List ℕ) (K : ℕ) : Type 0 where
  pub asking : (ws : List ℕ) → 4097 ≤ length ws → Asking qs ws K
  pub path : PathExpr
  pub is : path_of (question_symbols qs) ≡ some path
  pub plain : T (plain? path)
  pub linked : T (links? 64 path)
  pub sheet : Sheet
  pub sheeted : Sheeted t K sheet

-- what a result about the work says
abbrev pub work_said : std.Result Size Refusal → Outcome Size
work_said r = about source.Work (read_said (λ z. z) r)

-- 12 or 13, or the members, by any sheet of the table, in the area of a file; of the work words only those up to the need changed
pub record InfersFile (qs ws ws' t : List ℕ) (K : ℕ) (area area' : List ℕ) (r : std.Result Size Refusal) : Type 0 where
  pub kept : Kept 0 narrow_need ws ws'
  pub files : (S : Sheet) → Sheeted t K S → Gives (in_area (about source.Work (parted S (question_symbols qs))) area) (work_said r) area'
