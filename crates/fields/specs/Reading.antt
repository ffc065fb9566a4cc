-- What it is to read a file: one definition for the four kinds of file.
-- SPECIFICATION, Order in a field: 5, 1 for the head, 2, 1 for the body, 3, 6, 4; fields are taken from the left.
-- Assumes nothing.
use Rattle.std.specs.Prelude.{Bool, cond, not, ◌&&◌, List, [], ◌∷◌, ◌++◌, ℕ, zero, suc, ◌+◌, ◌*◌, leb, ltb, eqb, length, get_or, take, drop}
use Rattle.std.proofs.Math.Option.{Option, none, some}
use Rattle.theory.specs.Lists.{filter, some?}
use Rattle.theory.specs.Result.{Result, got, refused, onward}
use Rattle.fields.specs.declared.File.{File}
use Rattle.fields.specs.declared.Row.{Row}
use Rattle.fields.specs.declared.Due.{Due}
use Rattle.fields.specs.Table.{rows, allowed, in_set, rows_of}

-- the number in two bytes, and in eight, the high one first
abbrev pub word : List ℕ → ℕ → ℕ
word s i = get_or s i 0 * 256 + get_or s (i + 1) 0

unfoldable pub eight : List ℕ → ℕ → ℕ
eight s i = ((word s i * 65536 + word s (i + 2)) * 65536 + word s (i + 4)) * 65536 + word s (i + 6)

-- ---- one field: 5, 1 for the head, 2, 1 for the body
pub data Field : Type 0 where
  ends : Field
  wrong : ℕ → ℕ → Field
  body : ℕ → ℕ → Field

-- ---- what is due at a place: the rows of a set, as far as the table allows them in the file
abbrev pub due_row? : Due → Row → Bool
due_row? d r = in_set d.rows r && allowed r d.file

unfoldable pub due_rows : Due → List Row
due_rows d = filter (due_row? d) rows

-- one of them has the tag; has the tag and the length
unfoldable pub due_tag? : Due → ℕ → Bool
due_tag? d t = some? (λ r. eqb r.0 t) (due_rows d)

unfoldable pub fitting : Due → ℕ → ℕ → Bool
fitting d t n = some? (λ r. eqb r.0 t && eqb r.1 n) (due_rows d)

-- what is due is the last that may follow, and the byte is no tag of it
abbrev pub beyond? : Due → ℕ → Bool
beyond? d t = d.closing && not (due_tag? d t)

-- the rows of a set, until the file is full; then nothing, and any byte is 5
abbrev pub rows_due : File → ℕ → (complete full : Bool) → Due
rows_due f m complete full = record { file = f; rows = cond full 0 m; complete = complete; closing = full }

-- the same by tags
abbrev pub tags_due : File → List ℕ → (complete full : Bool) → Due
tags_due f ts complete full = rows_due f (rows_of ts) complete full

-- ---- the field at a place
unfoldable pub field_at : Due → List ℕ → ℕ → Field
field_at d s at =
    cond (leb (length s) at) (cond d.complete ends (wrong 5 at))
    (cond (beyond? d (get_or s at 0)) (wrong 5 at)
    (cond (ltb (length s) (at + 3)) (wrong 1 at)
    (cond (fitting d (get_or s at 0) (word s (at + 1)))
    (cond (ltb (length s) (at + 3 + word s (at + 1))) (wrong 1 at) (body (get_or s at 0) (word s (at + 1))))
    (wrong 2 at))))

-- ---- a kind of file
pub record Form : Type 1 where
  pub State : Type 0
  pub Value : Type 0
  -- where nothing is read yet
  pub start : State
  -- what is due
  pub due : State → Due
  -- what a field makes of the state, by its place, the place after it, its tag and its body: 3, 6, 4
  pub judge : State → ℕ → ℕ → ℕ → List ℕ → Result State
  -- what was read, at the file's end
  pub value : State → Value

module _ (F : Form) (s : List ℕ) where
  -- what a field leads to, where `rest` reads on from a state and a place
  abbrev pub after : (F.State → ℕ → Result F.Value) → F.State → ℕ → Field → Result F.Value
  after rest st at ends = got (F.value st)
  after rest st at (wrong n p) = refused n p
  after rest st at (body t n) =
      let next = at + 3 + n in
      onward (λ st'. rest st' next) (F.judge st at next t (take n (drop (at + 3) s)))

  -- the fields from a place on, `k` of them at most
  unfoldable pub walk : ℕ → F.State → ℕ → Result F.Value
  walk zero st at = refused 0 at
  walk (suc k) st at = after (λ st' at'. walk k st' at') st at (field_at (F.due st) s at)

-- a field has three bytes or more, so there are fewer fields than bytes, and `walk` never runs out
unfoldable pub read : (F : Form) → List ℕ → Result F.Value
read F s = walk F s (suc (length s)) F.start 0

-- ---- the same, with where the reader stands apart from what it keeps; the code has the first, and both share it
pub record Format : Type 1 where
  -- where the reader stands; what a field hands over; what is kept of the fields so far; what was read
  pub Control : Type 0
  pub Item : Type 0
  pub Kept : Type 0
  pub Value : Type 0
  pub start : Control
  pub empty : Kept
  pub due : Control → Due
  -- by its place, the place after it, its tag and its body: 3, 6, 4
  pub judge : Control → ℕ → ℕ → ℕ → List ℕ → Result (Control × Item)
  -- what a field adds; 4 where that is judged by what was kept
  pub keep : Kept → Item → Result Kept
  pub value : Control → Kept → Value

-- what is kept is the list of what was handed over
abbrev pub collected : {A : Type 0} → List A → Option A → Result (List A)
collected xs none = got xs
collected xs (some x) = got (xs ++ (x ∷ []))

-- a field that was judged, kept
abbrev pub kept : (F : Format) → F.Kept → Result (F.Control × F.Item) → Result (F.Control × F.Kept)
kept F k a = onward (λ p. onward (λ k'. got (p.0, k')) (F.keep k p.1)) a

abbrev pub form : Format → Form
form F = record {
  State = F.Control × F.Kept;
  Value = F.Value;
  start = (F.start, F.empty);
  due = λ st. F.due st.0;
  judge = λ st at next t b. kept F st.1 (F.judge st.0 at next t b);
  value = λ st. F.value st.0 st.1;
}
