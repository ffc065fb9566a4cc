-- The fields that the quick loops pass over.
-- Assumes nothing.
use mathlib.Core.Path.{◌≡◌, refl, subst, ap, ◌∙◌}
use mathlib.Core.Bool.{true, false}
use mathlib.Core.List.{List, [], ◌∷◌}
use Prim.Native.Nat.{ℕ, ◌+◌, ◌*◌, ◌-◌, ◌/◌, ◌%◌, ◌≤◌, ◌<◌}
use native.Mathlib.Omega.{arith}
use borrow.Author.Tests.{lt-ltb, lt-leb, le-ltb, le-leb, eq-eqb, ne_eqb}
use lib.Dec.{eqb}
use lib.ListN.{length, get_or, take, drop}
use Rattle.theory.specs.Result.{got}
use Rattle.fields.specs.declared.File.TheVariants as file
use Rattle.fields.specs.declared.Due.{Due}
use Rattle.fields.specs.Table.{rows, rows_of, tag_length, field_size}
use Rattle.fields.specs.Reading.{body, field_at, due_rows, tags_due, fitting, word, eight}
use Rattle.fields.proofs.Rows.{fits_within}
use Rattle.fields.proofs.Fields.{found, body_get}
use Rattle.register.specs.declared.Progress.{Progress}
use Rattle.field_reader.specs.declared.Standing.TheVariants.{Within}
use Rattle.register.specs.Form.{due, kind_of, link_of, entry_of, after_link, key}
use Rattle.register.specs.Passed.{KindAt, NumberAt, Passes, Passed, here, further}
use Rattle.register.proofs.Loop.{Reading, reading_more}

-- ---- a whole field with the tag that is due and its length is found
field_there : (d : Due) (s : List ℕ) (at t n : ℕ) → fitting d t n ≡ true → at + 3 + n ≤ length s → get_or s at 0 ≡ t → word s (at + 1) ≡ n
    → field_at d s at ≡ body t n
unfolding field_at
field_there d s at t n f h x y =
    rw (x, y) (simp (lt-leb (length s) at (omega arith), fits_within d t n f, le-ltb (length s) (at + 3) (omega arith), f, le-ltb (length s) (at + 3 + n) h))

-- a kind fits where one is due, and a link
kind_row : fitting (tags_due file.Register (0x32 ∷ []) false false) 0x32 1 ≡ true
unfolding fitting due_rows rows_of rows
kind_row = refl

link_row : fitting (tags_due file.Register (0x33 ∷ []) false false) 0x33 5 ≡ true
unfolding fitting due_rows rows_of rows
link_row = refl

kind_fits : (q : Progress) → 0 < q.kindless → fitting (due (Within q)) 0x32 1 ≡ true
kind_fits q h = rw (ne_eqb q.kindless 0 (omega arith)) kind_row

link_fits : (q : Progress) → q.kindless ≡ 0 → 0 < q.left → fitting (due (Within q)) 0x33 5 ≡ true
link_fits q z h = rw (eq-eqb q.kindless 0 z, ne_eqb q.left 0 (omega arith)) link_row

-- ---- one field more was passed over
module _ {s : List ℕ} {q : Progress} {at : ℕ} (k : KindAt s q at) where
  pub kind_room : at + 4 ≤ length s
  unfolding field_size tag_length rows
  kind_room = k.room

  kind_length : word s (at + 1) ≡ 1
  unfolding tag_length rows
  kind_length = k.len

module _ {s : List ℕ} {q p : Progress} {at i : ℕ} (d : Passed s q at p i) (r : Progress) where
  pub past_kind : KindAt s p i → kind_of p i (take (i + 4 - (i + 3)) (drop (i + 3) s)) ≡ got r → Passed s q at r (i + 4)
  unfolding entry_of
  past_kind k e =
      let o : i + 4 - (i + 3) ≡ 1 = omega arith in
      let z : eqb p.kindless 0 ≡ false = ne_eqb p.kindless 0 (λ e. omega (arith, k.due)) in
      let f = field_there (due (Within p)) s i 0x32 1 (kind_fits p k.due) (omega (arith, kind_room k)) k.tag (kind_length k) in
      let w : i + 3 + 1 ≡ i + 4 = omega arith in
      subst (Passed s q at r) w (further p i 0x32 1 r d f (rw (z, ← o) e))

-- ---- a link's field as one number v: the tag t, its length n, from f, label l and to o, the tag first
record LinkNumber (t n f l o v R : ℕ) : Type 0 where
  tag : t ≡ 0x33
  len : n ≡ 5
  key : (f * 256 + l) * 65536 + o + 0x3300050000000000 ≡ v
  from : f < R
  label : l ≡ v / 65536 % 256
  to : o ≡ v % 65536

-- between the bounds tag and length can only be those of a link, and what is left is the key
link_number : (t n f l o v R : ℕ) → t < 256 → n < 65536 → f < 65536 → l < 256 → o < 65536 → R < 65536 → v ≡ ((t * 65536 + n) * 65536 + f) * 16777216 + l * 65536 + o
    → 0x3300050000000000 ≤ v → v < 0x3300050000000000 + R * 16777216 → LinkNumber t n f l o v R
link_number t n f l o v R ht hn hf hl ho hR e low high =
    let h : t * 65536 + n ≡ 0x330005 = omega arith in
    record { tag = omega (arith, h); len = omega (arith, h); key = omega (arith, h); from = omega (arith, h); label = omega arith; to = omega arith }

-- the progress where left links are due, and floor is the least number allowed
abbrev pub standing : Progress → ℕ → ℕ → Progress
standing q left floor = record { records = q.records; links = q.links; kindless = 0; left = left; floor = floor - 0x3300050000000000 }

-- the parts of the number in eight bytes, and of a link's body, are bytes of the file
module _ (s : List ℕ) (i : ℕ) where
  eight_parts : eight s i ≡ ((get_or s i 0 * 65536 + word s (i + 1)) * 65536 + word s (i + 3)) * 16777216 + get_or s (i + 5) 0 * 65536 + word s (i + 6)
  unfolding eight
  eight_parts =
      let byte : (j k : ℕ) → j ≡ k → get_or s j 0 ≡ get_or s k 0 = λ j k e. ap (λ (x : ℕ). get_or s x 0) e in
      omega (arith, byte (i + 1 + 1) (i + 2) (omega arith), byte (i + 2 + 1) (i + 3) (omega arith), byte (i + 3 + 1) (i + 4) (omega arith), byte (i + 4 + 1) (i + 5) (omega arith))

  body_from : word (take 5 (drop (i + 3) s)) 0 ≡ word s (i + 3)
  body_from = rw (body_get s (i + 3) 5 0 (i + 3) (omega arith) (omega arith), body_get s (i + 3) 5 1 (i + 3 + 1) (omega arith) (omega arith)) refl

  body_label : get_or (take 5 (drop (i + 3) s)) 2 0 ≡ get_or s (i + 5) 0
  body_label = body_get s (i + 3) 5 2 (i + 5) (omega arith) (omega arith)

  body_to : word (take 5 (drop (i + 3) s)) 3 ≡ word s (i + 6)
  body_to = rw (body_get s (i + 3) 5 3 (i + 6) (omega arith) (omega arith), body_get s (i + 3) 5 4 (i + 6 + 1) (omega arith) (omega arith)) refl

-- a link that is as it should be is taken
link_taken : (p : Progress) (at : ℕ) (b : List ℕ) → word b 0 < p.records → get_or b 2 0 < 64 → word b 3 < p.records → p.floor ≤ key b → link_of p at b ≡ got (after_link p b)
unfolding link_of
link_taken p at b f l o k = simp (lt-ltb _ _ f, lt-ltb _ _ l, lt-ltb _ _ o, le-leb _ _ k)

-- ---- what holds at the head of the loop over links: v is the number there, and floor the least number allowed
pub record Linked (s : List ℕ) (q : Progress) (at i left floor v : ℕ) : Type 0 where
  pub passed : Passed s q at (standing q left floor) i
  pub inside : i ≤ length s
  pub base : 0x3300050000000000 ≤ floor
  pub number : 0 < v → NumberAt s i v

pub linked_start : (s : List ℕ) (q : Progress) (at floor v : ℕ) → q.kindless ≡ 0 → at ≤ length s → floor ≡ 0x3300050000000000 + q.floor → (0 < v → NumberAt s at v)
    → Linked s q at at q.left floor v
linked_start s q at floor v z h e n =
    let f : q.floor ≡ floor - 0x3300050000000000 = omega arith in
    let p : q ≡ standing q q.left floor = λ j. record { records = q.records; links = q.links; kindless = z j; left = q.left; floor = f j } in
    record { passed = subst (λ (p : Progress). Passed s q at p at) p here; inside = h; base = omega arith; number = n }

-- a link that passes: there is room for it, and what holds at the loop's head holds after it
module _ {s : List ℕ} {q : Progress} {at i left floor v records : ℕ} (g : Linked s q at i left floor v) (p : Passes v left floor (0x3300050000000000 + records * 16777216) records) where
  number_there : NumberAt s i v
  number_there = g.number (omega (arith, g.base, p.low))

  pub linked_room : i + 8 ≤ length s
  linked_room = number_there.room

  pub linked_more : ((k : ℕ) → get_or s k 0 < 256) → records ≡ q.records → records < 65536 → (w : ℕ) → (0 < w → NumberAt s (i + 8) w) → Linked s q at (i + 8) (left - 1) (v + 1) w
  unfolding entry_of key
  linked_more bytes er hr w n =
      let word-less : (k : ℕ) → word s k < 65536 = λ k. omega (arith, bytes k, bytes (k + 1)) in
      let low : 0x3300050000000000 ≤ v = omega (arith, g.base, p.low) in
      let k = link_number (get_or s i 0) (word s (i + 1)) (word s (i + 3)) (get_or s (i + 5) 0) (word s (i + 6)) v records
      (bytes i) (word-less (i + 1)) (word-less (i + 3)) (bytes (i + 5)) (word-less (i + 6)) hr (number_there.is ∙ eight_parts s i) low p.high in
      let b = take 5 (drop (i + 3) s) in
      let f = field_there (due (Within (standing q left floor))) s i 0x33 5 (link_fits (standing q left floor) refl p.due) (omega (arith, linked_room)) k.tag k.len in
      let kb : key b + 0x3300050000000000 ≡ v = rw (body_from s i, body_label s i, body_to s i) k.key in
      let l = link_taken (standing q left floor) i b (rw (body_from s i, ← er) k.from) (rw (body_label s i) (omega (arith, k.label, p.label)))
      (rw (body_to s i, ← er) (omega (arith, k.to, p.to)))
      (omega (arith, kb, g.base, p.low)) in
      let h : key b + 1 ≡ v + 1 - 0x3300050000000000 = omega (arith, kb) in
      let r : after_link (standing q left floor) b ≡ standing q (left - 1) (v + 1) =
      λ j. record { records = q.records; links = q.links; kindless = 0; left = left - 1; floor = h j } in
      let x : i + 3 + 5 ≡ i + 8 = omega arith in
      record {
        passed = subst (Passed s q at (standing q (left - 1) (v + 1))) x (further (standing q left floor) i 0x33 5 _ g.passed f (l ∙ ap got r));
        inside = linked_room;
        base = omega
            (arith, low);
        number = n;
      }

-- ---- what was passed over keeps what holds at the general loop's head
pub reading_passed : {s : List ℕ} {q : Progress} {at : ℕ} (p : Progress) (i : ℕ) → Passed s q at p i → Reading s (Within q) at → Reading s (Within p) i
reading_passed q at here r = r
reading_passed p i (further q' j t n p' d e g) r = reading_more _ (Within q') j (reading_passed q' j d r) t n e p g

-- and goes on, within the file
pub passed_on : {s : List ℕ} {q : Progress} {at : ℕ} (p : Progress) (i : ℕ) → Passed s q at p i → at ≤ length s → (at ≤ i) × (i ≤ length s)
passed_on q at here h = (omega arith, h)
passed_on p i (further q' j t n p' d e g) h =
    let r = passed_on q' j d h in
    let f = (found (due (Within q')) _ j t n e).room in
    (omega (arith, r.0), f)

pub passed_both : {s : List ℕ} {q : Progress} {at : ℕ} {p : Progress} {i : ℕ} (r : Progress) (j : ℕ) → Passed s q at p i → Passed s p i r j → Passed s q at r j
passed_both r j a here = a
passed_both r j a (further q' k t n p' d e g) = further q' k t n r (passed_both q' k a d) e g
