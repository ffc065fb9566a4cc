-- How a call is framed: its files are read in their order, then comes 15, then what the call does; after that the work words are zero.
-- SPECIFICATION, Refusals: a number, what it is about, a place; Areas and words; The calls.
-- Assumes nothing.
use Rattle.std.specs.Prelude.{◌≡◌, cond, List, ℕ, ltb, length, replicate}
use Rattle.std.proofs.lemmas.List.Edits.{sets}
use Rattle.theory.specs.Result.{Result, got, refused}
use Rattle.fields.specs.declared.Source.{Source}
use Rattle.fields.specs.declared.Source.TheVariants as source
pub use Rattle.fields.specs.declared.Size.{Size}
use Rattle.fields.specs.Reading.{Form, read}

-- what a call gives: a value; or a refusal, with what it is about, its number and its place
pub data Outcome (A : Type 0) : Type 0 where
  accepts : A → Outcome A
  refuses : Source → ℕ → ℕ → Outcome A

-- a value, or a refusal about a file or about the work
abbrev pub about : {A : Type 0} → Source → Result A → Outcome A
about s (got x) = accepts x
about s (refused n p) = refuses s n p

-- go on with what was accepted; a refusal stays
abbrev pub and_then : {A B : Type 0} → Outcome A → (A → Outcome B) → Outcome B
and_then (accepts x) f = f x
and_then (refuses s n p) f = refuses s n p

-- a file that is handed to a call
abbrev pub file : Source → (F : Form) → List ℕ → Outcome F.Value
file s F bytes = about s (read F bytes)

-- ---- the areas that are lent for the results, of any number: R
-- the outcome, and the areas after it
pub record Output (A R : Type 0) : Type 0 where
  pub outcome : Outcome A
  pub areas : R

abbrev pub output : {A R : Type 0} → Outcome A → R → Output A R
output o areas = record { outcome = o; areas = areas }

-- the call has given what is due
pub record Gives {A R : Type 0} (due : Output A R) (o : Outcome A) (areas : R) : Type 0 where
  pub is : output o areas ≡ due

-- ---- the frame
-- what is left of a call once its files are read: the work words that it needs, and what it does with its areas
pub record Task (A R : Type 0) : Type 0 where
  pub need : ℕ
  pub run : R → Output A R

abbrev pub task : {A R : Type 0} → ℕ → (R → Output A R) → Task A R
task need run = record { need = need; run = run }

-- the outcome, and the work words and the areas after the call
pub record Returned (A R : Type 0) : Type 0 where
  pub outcome : Outcome A
  pub work : List ℕ
  pub areas : R

abbrev pub returned : {A R : Type 0} → Outcome A → List ℕ → R → Returned A R
returned o work areas = record { outcome = o; work = work; areas = areas }

-- the call has returned what is due
pub record Returns {A R : Type 0} (due : Returned A R) (o : Outcome A) (work : List ℕ) (areas : R) : Type 0 where
  pub is : returned o work areas ≡ due

-- the first n words are 0
abbrev pub zeroed : ℕ → List ℕ → List ℕ
zeroed n xs = sets xs 0 (replicate n 0)

-- 15; or what the call does, after which the work words up to the need are zero
unfoldable pub performed : {A R : Type 0} → Task A R → List ℕ → R → Returned A R
performed t work areas =
    let o = t.run areas in
    cond (ltb (length work) t.need) (returned (refuses source.Work 15 t.need) work areas) (returned o.outcome (zeroed t.need work) o.areas)

-- a file's refusal leaves every area as it came
abbrev pub call : {A R : Type 0} → Outcome (Task A R) → List ℕ → R → Returned A R
call (accepts t) work areas = performed t work areas
call (refuses s n p) work areas = returned (refuses s n p) work areas

-- the same of a call that needs no work words
abbrev pub simple_call : {A R : Type 0} → Outcome (R → Output A R) → R → Output A R
simple_call (accepts run) areas = run areas
simple_call (refuses s n p) areas = output (refuses s n p) areas

-- ---- a file in the area that is lent for it
-- how large it is: how many members a narrowed question has, or symbols a question; and how many bytes
abbrev pub size : ℕ → ℕ → Size
size count bytes = record { count = count; bytes = bytes }

-- 14, "place: bytes needed"; or the file, and the bytes past it as they were
unfoldable pub file_in : ℕ → List ℕ → List ℕ → Output Size (List ℕ)
file_in count bytes area =
    cond (ltb (length area) (length bytes)) (output (refuses source.Work 14 (length bytes)) area) (output (accepts (size count (length bytes))) (sets area 0 bytes))
