-- What the code says of the reading of a narrowed question, and how it hands on the members.
-- Assumes nothing.
use Rattle.std.specs.Prelude as std
use Rattle.std.specs.Prelude.{◌≡◌, List, [], map, ℕ, ◌-◌, length, take, drop, replicate, Ok, Err, IfOk, MatchResult}
use Rattle.theory.specs.Lists.{concat_map}
use Rattle.theory.specs.Result.{Result, got, refused, onward}
use Rattle.fields.specs.declared.Refusal.{Refusal}
use Rattle.fields.specs.Contract.{read_said}
use Rattle.symbols.specs.Symbols.{order_code}
use Rattle.narrowed_question.specs.declared.Members.{Members}
use Rattle.fields.specs.Padded.{padded}
use Rattle.narrowed_question.specs.Form.{Flat, numbers, set_numbers}

-- ---- the members, as arrays filled from the front
abbrev pub sizes_of : List Flat → List ℕ
sizes_of ms = map (λ m. length m.symbols) ms

abbrev pub from_of : List Flat → List ℕ
from_of ms = map (λ m. m.from) ms

abbrev pub to_of : List Flat → List ℕ
to_of ms = map (λ m. m.to) ms

abbrev pub numbers_of : List Flat → List ℕ
numbers_of ms = concat_map (λ m. numbers m.symbols) ms

abbrev pub sets_of : List Flat → List ℕ
sets_of ms = concat_map (λ m. set_numbers m.symbols) ms

-- every number of the struct
pub record Packed (ms : List Flat) (q : Members) : Type 0 where
  pub count : q.count ≡ length ms
  pub sizes : q.sizes ≡ padded 128 (sizes_of ms)
  pub from : q.from ≡ padded 128 (from_of ms)
  pub to : q.to ≡ padded 128 (to_of ms)
  pub numbers : q.numbers ≡ padded 6144 (numbers_of ms)
  pub sets : q.sets ≡ padded 6144 (sets_of ms)

-- ---- what the code's results say
abbrev pub counted : Result (List Flat) → Result ℕ
counted a = onward (λ ms. got (length ms)) a

-- the members read; none where the file is refused
abbrev pub members_in : Result (List Flat) → List Flat
members_in (got ms) = ms
members_in (refused n p) = []

-- by value: where the file is refused none is handed out
pub record ReadsNarrowed (a : Result (List Flat)) (r : std.Result Members Refusal) : Type 0 where
  pub outcome : read_said (λ q. q.count) r ≡ counted a
  pub members : IfOk r (Packed (members_in a))

-- ---- the same, into a struct that is lent
-- no members
abbrev pub Blank : Members → Type 0
Blank q = Packed [] q

-- as it starts: its arrays are zero, and its count may be anything
pub record Zeroed (q : Members) : Type 0 where
  pub sizes : q.sizes ≡ replicate 128 0
  pub from : q.from ≡ replicate 128 0
  pub to : q.to ≡ replicate 128 0
  pub numbers : q.numbers ≡ replicate 6144 0
  pub sets : q.sets ≡ replicate 6144 0

-- the members of an accepted file; of a refused one it counts none, and of its arrays nothing is said
pub record ReadsInto (a : Result (List Flat)) (r : std.Result (Unit {0}) Refusal) (q : Members) : Type 0 where
  pub outcome : read_said (λ u. q.count) r ≡ counted a
  pub members : MatchResult r (λ u. Packed (members_in a) q) (λ e. q.count ≡ 0)

-- the codes of the symbols from a to b
abbrev pub segment_codes : List ℕ → ℕ → ℕ → List ℕ
segment_codes l a b = map order_code (take (b - a) (drop a l))
