-- Members in the fields of a file: the numbers of their symbols, and how many bytes they take.
-- SPECIFICATION, Narrowed files.
-- Assumes nothing.
use Rattle.std.specs.Prelude.{◌≡◌, cond, List, [], ◌∷◌, ℕ, zero, suc, ◌*◌, ◌<◌, ◌≤◌, eqb, length, get_or}
use Rattle.std.proofs.lemmas.List.Edits.{sets}
use Rattle.theory.specs.PathExpr.{Symbol, s_step, s_join, s_op, s_closure}
use Rattle.theory.specs.Merging.{Member}
use Rattle.algorithms.specs.Sorting.{grouped}
use Rattle.symbols.specs.Symbols.{Numbered, symbol_numbered, symbol_given, symbols_given}
use Rattle.narrowed_question.specs.Form.{flat}
use Rattle.symbols.specs.Writing.{symbols_bytes}
use Rattle.narrowed_question.specs.Writing.{member_bytes}
use Rattle.narrowed_question.specs.Members.{flat_of, narrowed_file}
use Rattle.merge.specs.Arranging.{Usable}
use Rattle.merge.specs.Runs.{nodes_at}
use Rattle.members_file.specs.declared.Entry.{Entry}
use Rattle.fields.specs.declared.Size.{Size}

-- the number of a symbol by its code c and its set m: a set that is not empty stands at a join only
abbrev pub number_by : ℕ → ℕ → Symbol → ℕ
number_by c m (s_step d l) = c
number_by c m (s_join v) = cond (eqb m 0) c 255
number_by c m (s_op o) = c
number_by c m s_closure = c

unfoldable pub number_of : ℕ → ℕ → ℕ
number_of c m = number_by c m (symbol_numbered c 0)

-- n symbols from the k-th on, by their codes and sets
abbrev pub renumbered : List ℕ → List ℕ → ℕ → ℕ → List Numbered
renumbered cs ss zero k = []
renumbered cs ss (suc n) k = symbol_given (number_of (get_or cs k 0) (get_or ss k 0)) (get_or ss k 0) ∷ renumbered cs ss n (suc k)

-- cs became ys, the numbers of n symbols, whose fields have `total` bytes
pub record Numbering (cs ss ys : List ℕ) (n total : ℕ) : Type 0 where
  pub same_length : length ys ≡ length cs
  pub symbols_are : symbols_given ys ss n 0 ≡ renumbered cs ss n 0
  pub bytes_are : total ≡ length (symbols_bytes (renumbered cs ss n 0))
  pub at_most : total ≤ 11 * n

-- the first member of the nodes from k on is in the arrays, and what is left are those of the nodes behind its run
pub record Next (qs ws xs : List ℕ) (n k : ℕ) (cs ss : List ℕ) (r : Entry) : Type 0 where
  pub first : Member
  pub is : grouped (nodes_at qs ws xs k n) ≡ first ∷ grouped (nodes_at qs ws xs r.group.next n)
  pub flat_is : flat_of first ≡ flat r.group.from r.group.to (symbols_given cs ss r.group.size 0)
  pub bytes_are : r.bytes ≡ length (member_bytes (flat_of first))
  pub at_most : r.bytes ≤ 548
  pub few : r.group.size ≤ 48
  pub onward : k < r.group.next
  pub within : r.group.next ≤ n
  pub codes_room : length cs ≡ 48
  pub sets_room : length ss ≡ 48

-- the first n of the array are nodes of a question
pub record Measuring (qs ws xs : List ℕ) (used n : ℕ) : Type 0 where
  pub fits : n ≤ length xs
  pub small : n ≤ 128
  pub items : (j : ℕ) → j < n → Usable qs ws used (get_or xs j 0)

-- their members, and the bytes of the file
pub record Measured (qs ws xs : List ℕ) (n : ℕ) (r : Size) : Type 0 where
  pub members_are : r.count ≡ length (grouped (nodes_at qs ws xs 0 n))
  pub bytes_are : r.bytes ≡ length (narrowed_file (grouped (nodes_at qs ws xs 0 n)))
  pub few : r.count ≤ 128

-- there is room for the file of their members, of which the number is known
pub record Filing (qs ws xs : List ℕ) (used n members : ℕ) (out : List ℕ) : Type 0 where
  pub nodes : Measuring qs ws xs used n
  pub counted : members ≡ length (grouped (nodes_at qs ws xs 0 n))
  pub few : members ≤ 128
  pub room : length (narrowed_file (grouped (nodes_at qs ws xs 0 n))) ≤ length out

-- it was written from the area's start on
pub record Filed (qs ws xs : List ℕ) (n : ℕ) (out out' : List ℕ) (r : ℕ) : Type 0 where
  pub area : out' ≡ sets out 0 (narrowed_file (grouped (nodes_at qs ws xs 0 n)))
  pub bytes_are : r ≡ length (narrowed_file (grouped (nodes_at qs ws xs 0 n)))
  pub same_length : length out' ≡ length out
