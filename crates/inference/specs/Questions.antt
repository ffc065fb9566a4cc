-- The inference of a whole question: what it asks, and what its answer says by any sheet that has the table.
-- SPECIFICATION, Inference; Limits of narrowing: 12 and 13, at the first symbol that has either.
-- Assumes nothing.
use Rattle.std.specs.Prelude.{◌≡◌, true, List, [], ℕ, ◌+◌, ◌<◌, ◌≤◌, length, get_or, take, Ok, Err}
use Rattle.std.specs.Prelude as std
use Rattle.std.proofs.Math.Option.{some}
use Rattle.theory.specs.PathExpr.{PathExpr, Symbol}
use Rattle.theory.specs.Postfix.{path_of, ended}
use Rattle.theory.specs.Sheet.{Sheet}
use Rattle.theory.specs.Inference.{triples}
use Rattle.theory.specs.Narrowing.{Narrowing, refuse, part_fault, short?}
use Rattle.theory.specs.Result.{refused}
use Rattle.fields.specs.declared.Refusal.{Refusal}
use Rattle.fields.specs.Contract.{number_of, place_of}
use Rattle.question.specs.Form.{question_symbols}
use Rattle.rows.specs.Kept.{Kept}
use Rattle.triples.specs.declared.Span.{Span}
use Rattle.triples.specs.Paths.{Coded, Sound}
use Rattle.triples.specs.Parts.{triples_in}
use Rattle.rules.specs.Requirements.{part}
use Rattle.rules.specs.StepTriples.{Tabled}

-- the symbols of the first `count` codes
abbrev pub symbols_of : List ℕ → ℕ → List Symbol
symbols_of qs count = question_symbols (take count qs)

-- the codes of a question's symbols, at most 32; words for 4,096 nodes and one more; a sheet of K kinds
pub record Asking (qs ws : List ℕ) (K : ℕ) : Type 0 where
  pub few : length qs ≤ 32
  pub known : (k : ℕ) → k < length qs → Coded (get_or qs k 0)
  pub path : PathExpr
  pub is : path_of (question_symbols qs) ≡ some path
  pub room : 4097 ≤ length ws
  pub kinds : K ≤ 64

-- the table is that of a sheet of K kinds
pub record Sheeted (t : List ℕ) (K : ℕ) (S : Sheet) : Type 0 where
  pub tabled : Tabled t S
  pub kinds : S.kinds ≡ K

-- nodes s to e are at most 128 nodes of a sound table, whose paths have at most 48 symbols
pub record Nodes (qs ws : List ℕ) (s e : ℕ) : Type 0 where
  pub ordered : s ≤ e
  pub few : e ≤ s + 128
  pub numbers : e ≤ 4096
  pub sound : Sound qs ws e
  pub short : short? (part qs ws s e) ≡ true

-- the answer by a sheet, where the symbols end the parts ps and make the path q: the first refusal; or none, and the triples of the path
abbrev pub Found : Sheet → List PathExpr → PathExpr → List ℕ → List ℕ → std.Result Span Refusal → Type 0
Found S ps q qs ws (Ok x) = ((o : Narrowing) → refuse (part_fault S) 0 ps o ≡ o) × (triples_in qs ws x ≡ triples S q)
Found S ps q qs ws (Err f) = (o : Narrowing) → refuse (part_fault S) 0 ps o ≡ refused (number_of f) (place_of f)

pub record Infers (qs ws ws' t : List ℕ) (K : ℕ) (r : std.Result Span Refusal) : Type 0 where
  pub kept : Kept 0 4097 ws ws'
  pub nodes : (x : Span) → r ≡ Ok x → Nodes qs ws' x.start x.end
  pub found : (S : Sheet) → Sheeted t K S → (q : PathExpr) → path_of (question_symbols qs) ≡ some q → Found S (ended (question_symbols qs) []) q qs ws' r
