-- The register file: 31, its 32s, its 33s, the links strictly ascending.
-- SPECIFICATION, Registers, Refused registers.
-- Assumes nothing.
use Rattle.std.specs.Prelude.{Bool, false, cond, ◌&&◌, List, [], ◌∷◌, ◌++◌, ℕ, ◌+◌, ◌*◌, ◌-◌, leb, ltb, eqb, get_or}
use Rattle.theory.specs.Register.{Edge, edge, Register}
use Rattle.fields.specs.declared.File.TheVariants as file
use Rattle.fields.specs.declared.Due.{Due}
use Rattle.theory.specs.Result.{Result, got, refused, onward}
use Rattle.fields.specs.Reading.{word, tags_due, Form, Format, form, read}
use Rattle.register.specs.declared.Progress.{Progress}
use Rattle.field_reader.specs.declared.Standing.{Standing}
use Rattle.field_reader.specs.declared.Standing.TheVariants.{Head, Within}

-- 31 is due; or a 32, the kinds first, or a 33. `Progress` has the numbers of records and links, of records whose kind is due, of links
-- left, and `floor`, the least key that is above the link before
abbrev pub due_tag : Progress → ℕ
due_tag q = cond (eqb q.kindless 0) 0x33 0x32

abbrev pub complete? : Progress → Bool
complete? q = eqb q.kindless 0 && eqb q.left 0

abbrev pub due : Standing Progress → Due
due Head = tags_due file.Register (0x31 ∷ []) false false
due (Within q) = tags_due file.Register (due_tag q ∷ []) (complete? q) (complete? q)

-- 31: the numbers of records and links; refusal 3
abbrev pub after_head : List ℕ → Progress
after_head b = record { records = word b 0; links = word b 2; kindless = word b 0; left = word b 2; floor = 0 }

unfoldable pub head_of : ℕ → List ℕ → Result Progress
head_of at b = cond (leb (word b 0) 1024 && leb (word b 2) 4096) (got (after_head b)) (refused 3 at)

-- 32: the kind of the next record; refusal 3
abbrev pub kind? : ℕ → Bool
kind? k = ltb k 64

abbrev pub after_kind : Progress → Progress
after_kind q = record { records = q.records; links = q.links; kindless = q.kindless - 1; left = q.left; floor = q.floor }

unfoldable pub kind_of : Progress → ℕ → List ℕ → Result Progress
kind_of q at b = cond (kind? (get_or b 0 0)) (got (after_kind q)) (refused 3 at)

-- 33: a link between two of n records; refusals 3 and 4
abbrev pub link? : ℕ → Edge → Bool
link? n e = ltb e.from n && ltb e.label 64 && ltb e.to n

abbrev pub edge_of : List ℕ → Edge
edge_of b = edge (word b 0) (get_or b 2 0) (word b 3)

-- from, link and to as one number, by which links ascend
unfoldable pub key : List ℕ → ℕ
key b = (word b 0 * 256 + get_or b 2 0) * 65536 + word b 3

abbrev pub after_link : Progress → List ℕ → Progress
after_link q b = record { records = q.records; links = q.links; kindless = q.kindless; left = q.left - 1; floor = key b + 1 }

unfoldable pub link_of : Progress → ℕ → List ℕ → Result Progress
link_of q at b =
    cond (link? q.records (edge_of b)) (cond (leb q.floor (key b)) (got (after_link q b)) (refused 4 at)) (refused 3 at)

unfoldable pub entry_of : Progress → ℕ → List ℕ → Result Progress
entry_of q at b = cond (eqb q.kindless 0) (link_of q at b) (kind_of q at b)

-- how far the reading comes by a field
abbrev pub advance : Standing Progress → ℕ → List ℕ → Result Progress
advance Head at b = head_of at b
advance (Within q) at b = entry_of q at b

-- what it hands over: nothing, the kind of a record, or a link
pub data Entry : Type 0 where
  no_entry : Entry
  kind_entry : ℕ → Entry
  link_entry : Edge → Entry

abbrev pub handed_over : Standing Progress → List ℕ → Entry
handed_over Head b = no_entry
handed_over (Within q) b = cond (eqb q.kindless 0) (link_entry (edge_of b)) (kind_entry (get_or b 0 0))

-- the register so far
abbrev pub with_kind : Register → ℕ → Register
with_kind r k = record { kinds = r.kinds ++ (k ∷ []); links = r.links }

abbrev pub with_link : Register → Edge → Register
with_link r e = record { kinds = r.kinds; links = r.links ++ (e ∷ []) }

abbrev pub keep : Register → Entry → Result Register
keep r no_entry = got r
keep r (kind_entry k) = got (with_kind r k)
keep r (link_entry e) = got (with_link r e)

abbrev pub no_register : Register
no_register = record { kinds = []; links = [] }

abbrev pub register_format : Format
register_format = record {
  Control = Standing Progress;
  Item = Entry;
  Kept = Register;
  Value = Register;
  start = Head;
  empty = no_register;
  due = due;
  judge = λ st at next t b. onward (λ q. got (Within q, handed_over st b)) (advance st at b);
  keep = keep;
  value = λ st r. r;
}

abbrev pub register_form : Form
register_form = form register_format

-- the register in a file; one with no records where the file is refused
abbrev pub value_of : Result Register → Register
value_of (got r) = r
value_of (refused n p) = no_register

unfoldable pub register_in : List ℕ → Register
register_in s = value_of (read register_form s)
