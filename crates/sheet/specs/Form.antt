-- The sheet file: 11 and then 12s, up to 512 of them, strictly ascending.
-- SPECIFICATION, Sheets, Limits, Refused sheets.
-- Assumes nothing.
use Rattle.std.specs.Prelude.{true, false, cond, ◌&&◌, List, [], ◌∷◌, ℕ, ◌+◌, ◌*◌, leb, ltb, eqb, get_or}
use Rattle.std.proofs.Math.Option.{Option, none, some}
use Rattle.theory.specs.Register.{Edge, edge}
use Rattle.theory.specs.Sheet.{Sheet}
use Rattle.fields.specs.declared.File.TheVariants as file
use Rattle.fields.specs.declared.Due.{Due}
use Rattle.theory.specs.Result.{Result, got, refused, onward}
use Rattle.fields.specs.Reading.{tags_due, Form, Format, collected, form}
use Rattle.sheet.specs.declared.Triples.{Triples}
use Rattle.field_reader.specs.declared.Standing.{Standing}
use Rattle.field_reader.specs.declared.Standing.TheVariants.{Head, Within}

-- the head is due; or triples are. `Triples` has the numbers of kinds, of links, of triples so far, and `floor`, the least key that is
-- above the triple before
abbrev pub due : Standing Triples → Due
due Head = tags_due file.Sheet (0x11 ∷ []) false false
due (Within q) = tags_due file.Sheet (0x12 ∷ []) true (eqb q.count 512)

-- K kinds and E links, and no triple yet
abbrev pub fresh : ℕ → ℕ → Triples
fresh k e = record { kinds = k; links = e; count = 0; floor = 0 }

-- 11: the numbers of kinds and of links, 1 to 64; refusal 3
unfoldable pub head_of : ℕ → List ℕ → Result Triples
head_of at b =
    cond (leb 1 (get_or b 0 0) && leb (get_or b 0 0) 64)
    (cond (leb 1 (get_or b 1 0) && leb (get_or b 1 0) 64) (got (fresh (get_or b 0 0) (get_or b 1 0))) (refused 3 at))
    (refused 3 at)

-- three bytes as one number, by which triples ascend
abbrev pub key : List ℕ → ℕ
key b = get_or b 0 0 * 65536 + get_or b 1 0 * 256 + get_or b 2 0

-- from kind, link, to kind
abbrev pub edge_of : List ℕ → Edge
edge_of b = edge (get_or b 0 0) (get_or b 1 0) (get_or b 2 0)

-- 12: a triple; refusals 3 and 4
unfoldable pub next : Triples → ℕ → List ℕ → Result Triples
next q at b =
    cond (ltb (get_or b 0 0) q.kinds && ltb (get_or b 1 0) q.links && ltb (get_or b 2 0) q.kinds)
    (cond (leb q.floor (key b)) (got (record { kinds = q.kinds; links = q.links; count = q.count + 1; floor = key b + 1 })) (refused 4 at))
    (refused 3 at)

-- a triple is handed over
abbrev pub judge : Standing Triples → ℕ → List ℕ → Result (Standing Triples × Option Edge)
judge Head at b = onward (λ q. got (Within q, none)) (head_of at b)
judge (Within q) at b = onward (λ q'. got (Within q', some (edge_of b))) (next q at b)

-- a file never ends at its head
abbrev pub value : Standing Triples → List Edge → Sheet
value Head es = record { kinds = 0; link_names = 0; permitted = [] }
value (Within q) es = record { kinds = q.kinds; link_names = q.links; permitted = es }

abbrev pub sheet_format : Format
sheet_format = record {
  Control = Standing Triples;
  Item = Option Edge;
  Kept = List Edge;
  Value = Sheet;
  start = Head;
  empty = [];
  due = due;
  judge = λ st at next t b. judge st at b;
  keep = collected;
  value = value;
}

abbrev pub sheet_form : Form
sheet_form = form sheet_format
