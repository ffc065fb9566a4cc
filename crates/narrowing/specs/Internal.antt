-- What the code needs on the way: nothing that is handed on rests on it.
-- Assumes nothing.
use Rattle.std.specs.Prelude as std
use Rattle.std.specs.Prelude.{◌≡◌, Bool, cond, ℕ, ◌+◌, ◌≤◌, length, take, Ok, Err}
use mathlib.Core.List.{List, Memᴰ as In}
use Rattle.theory.specs.Sheet.{Sheet}
use Rattle.theory.specs.Inference.{Triple}
use Rattle.theory.specs.Merging.{Member}
use Rattle.algorithms.specs.Sorting.{grouped}
use Rattle.theory.specs.Narrowing.{Narrowing, link_fault, parted, narrow_symbols}
use Rattle.theory.specs.Result.{got, refused}
use Rattle.fields.specs.declared.Refusal.{Refusal}
use Rattle.fields.specs.declared.Failure.{Failure}
use Rattle.fields.specs.declared.Source.TheVariants as source
use Rattle.fields.specs.declared.Size.{Size}
use Rattle.fields.specs.Call.{refuses, about, Gives, returned, zeroed}
use Rattle.fields.specs.Contract.{number_of, place_of, written_said}
use Rattle.symbols.specs.Symbols.{symbol_numbered}
use Rattle.sheet.specs.declared.Sheet as declared·Sheet
use Rattle.question.specs.declared.codes.Question.{Question}
use Rattle.question.specs.Form.{question_symbols}
use Rattle.rows.specs.Kept.{Kept, Wrote}
use Rattle.triples.specs.declared.Span.{Span}
use Rattle.triples.specs.Paths.{Sound}
use Rattle.rules.specs.Requirements.{part}
use Rattle.inference.specs.Questions.{Sheeted}
use Rattle.merge.specs.Arranging.{Suits}
use Rattle.merge.specs.Runs.{nodes_at}
use Rattle.members_file.specs.Files.{Measuring}
use Rattle.narrowing.specs.declared.Counted.{Counted}
use Rattle.narrowing.specs.Call.{file_size, file_of, in_area, narrow_need, members_call}
use Rattle.narrowing.specs.Contract.{Handed, Narrowable, work_said}

-- r tells whether the code c is that of a step whose link is not one of E
pub record TellsUnnamed (E c : ℕ) (r : Bool) : Type 0 where
  pub is : link_fault E (symbol_numbered c 0) ≡ cond r 11 0

-- the nodes of a span are the triples of a question
pub record Listed (qs ws : List ℕ) (x : Span) : Type 0 where
  pub ordered : x.start ≤ x.end
  pub few : x.end ≤ x.start + 128
  pub in_table : x.end ≤ length ws
  pub sound : Sound qs ws x.end
  pub suits : (t : Triple) → In t (part qs ws x.start x.end) → Suits t

-- ---- the members counted
-- the nodes in their order are those of the members, whose file is as large as told
pub record Counts (qs ws : List ℕ) (ms : List Member) (c : Counted) : Type 0 where
  pub size : c.size ≡ file_size ms
  pub nodes : Measuring qs ws (take c.triples c.order) c.nodes (length (take c.triples c.order))
  pub members_are : grouped (nodes_at qs ws (take c.triples c.order) 0 (length (take c.triples c.order))) ≡ ms
  pub few : length ms ≤ 128
  pub room : c.triples ≤ length c.order

-- they are those of some members
pub record Known (qs ws : List ℕ) (c : Counted) : Type 0 where
  pub members : List Member
  pub counts : Counts qs ws members c

-- the file of whatever members they are those of is now in the area, or 14 was told
pub record Puts (qs ws : List ℕ) (c : Counted) (file file' : List ℕ) (r : std.Result Size Refusal) : Type 0 where
  pub files : (ms : List Member) → Counts qs ws ms c → Gives (file_of ms file) (work_said r) file'

-- the members that are due, or the refusal
abbrev pub Told : List ℕ → List ℕ → Narrowing → std.Result Counted Refusal → Type 0
Told qs ws due (Ok c) = (ms : List Member) × (due ≡ got ms) × Counts qs ws ms c
Told qs ws due (Err f) = due ≡ refused (number_of f) (place_of f)

-- ---- by each sheet of which it is known that .. what is due is this; of the work words only those up to the need changed
pub record CountsBy (Of : Sheet → Type 0) (due : Sheet → Narrowing) (qs ws ws' : List ℕ) (r : std.Result Counted Refusal) : Type 0 where
  pub kept : Kept 0 narrow_need ws ws'
  pub known : (c : Counted) → r ≡ Ok c → Known qs ws' c
  pub counts : (S : Sheet) → Of S → Told qs ws' (due S) r

-- 12 or 13, or the members; and with 11 before them
abbrev pub CountsNamed : List ℕ → List ℕ → List ℕ → List ℕ → ℕ → std.Result Counted Refusal → Type 0
CountsNamed qs ws ws' t K r = CountsBy (Sheeted t K) (λ S. parted S (question_symbols qs)) qs ws ws' r

abbrev pub CountsSymbols : List ℕ → List ℕ → List ℕ → List ℕ → ℕ → ℕ → std.Result Counted Refusal → Type 0
CountsSymbols qs ws ws' t K E r = CountsBy (Handed t K E) (λ S. narrow_symbols S (question_symbols qs)) qs ws ws' r

-- the same in the area of a file
pub record PutsSymbols (qs ws ws' t : List ℕ) (K E : ℕ) (area area' : List ℕ) (r : std.Result Size Refusal) : Type 0 where
  pub kept : Kept 0 narrow_need ws ws'
  pub files : (S : Sheet) → Handed t K E S → Gives (in_area (about source.Work (narrow_symbols S (question_symbols qs))) area) (work_said r) area'

-- ---- the calls
-- both files were read, and the work words are enough: what is due is what this sheet makes of this question
pub record Begun (s q work : List ℕ) (x : declared·Sheet.Sheet) (y : Question) : Type 0 where
  pub sheet : Sheet
  pub handed : Handed x.table x.kinds x.links sheet
  pub narrowable : Narrowable (take y.count y.codes) x.table x.kinds
  pub enough : 8192 ≤ length work
  pub is : members_call s q work ≡ returned (about source.Work (narrow_symbols sheet (question_symbols (take y.count y.codes)))) (zeroed narrow_need work) tt

-- or what was told is due, and no work word was touched
pub record Ready (s q work : List ℕ) (x : declared·Sheet.Sheet) (r : std.Result Question Failure) : Type 0 where
  pub begun : (y : Question) → r ≡ Ok y → Begun s q work x y
  pub refused : (f : Failure) → r ≡ Err f → members_call s q work ≡ returned (refuses f.source (number_of f.refusal) (place_of f.refusal)) work tt

-- the first n work words are zero, and the result is about the work
pub record Settles (work work' : List ℕ) (n : ℕ) (a : std.Result Size Refusal) (r : std.Result Size Failure) : Type 0 where
  pub zero : Wrote 0 n (λ j. 0) work work'
  pub said : written_said r ≡ work_said a
