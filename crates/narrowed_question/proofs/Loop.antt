-- The loop over a narrowed question's fields, which fills the arrays of its members: what holds at its head, and a law for each way on.
-- Assumes nothing.
use Prim.Native.Nat.{ℕ, ◌+◌, ◌<◌, ◌≤◌}
use mathlib.Core.Path.{◌≡◌, refl, ap, ap₂, ◌∙◌, sym, subst}
use mathlib.Core.Bool.{true, false}
use mathlib.Core.List.{List, [], ◌∷◌, ◌++◌}
use lib.ListN.{length, length-append}
use native.Mathlib.Omega.{arith}
use Rattle.theory.specs.PathExpr.{before?}
use Rattle.theory.specs.Result.{Result, got, refused}
use Rattle.fields.specs.declared.Refusal.{Refusal}
use Rattle.fields.specs.declared.Due.{Due}
use Rattle.fields.specs.declared.Found.{Found}
use Rattle.field_reader.specs.declared.Reader.{Reader}
use Rattle.fields.specs.Contract.{refusal_said, field_said, FoundAt}
use Rattle.fields.specs.Reading.{ends, wrong, field_at, read}
use Rattle.symbols.specs.Symbols.{Numbered}
use Rattle.narrowed_question.specs.Form.{Flat, Item, nothing, opens, symbol, last, due, judge, narrowed_form, order_codes}
use Rattle.narrowed_question.specs.declared.Standing.{Standing}
use Rattle.narrowed_question.specs.declared.Standing.TheVariants.{Head, Between}
use Rattle.std.specs.Prelude as std
use Rattle.std.specs.Prelude.{Ok, Err, Some, None, IfOk, IfSome}
use Rattle.narrowed_question.specs.Contract.{counted, members_in, Packed, Zeroed, ReadsInto, segment_codes}
use Rattle.narrowed_question.specs.Internal.{Able, item_said, head_kept, symbol_kept, counting}
use Rattle.narrowed_question.specs.declared.Members.{Members}
use Rattle.narrowed_question.specs.declared.Item as declared·Item
use Rattle.fields.proofs.Fields.{Handed, seen_at, handed}
use Rattle.narrowed_question.proofs.Tracks.{Tracks, tracks_start, total, open_list, Shut, tracks_ends, tracks_wrong, tracks_able, tracks_stop}
use Rattle.narrowed_question.proofs.Tracks.{tracks_go, tracks_open, tracks_more, last_between, last_few, last_members, last_total, last_opened, tracks_order, tracks_done}
use Rattle.narrowed_question.proofs.ArraysFilled.{Filled, filled_start, refill, filled_open, room, filled_more, filled_done, before_codes, open_codes, filled_packed}

pub record Reading (s : List ℕ) (st : Standing) (at done prev first used : ℕ) (q : Members) : Type 0 where
  P : List ℕ
  ms : List Flat
  f : ℕ
  t : ℕ
  xs : List Numbered
  tracks : Tracks s st at P ms f t xs
  filled : Filled ms (open_list st (total st xs)) (open_list st f) (open_list st t) xs P done prev first used q

pub reading_start : (s : List ℕ) {q : Members} {n : ℕ} → Zeroed q → Reading s Head 0 0 0 0 0 (counting q n)
reading_start s h = record { P = []; ms = []; f = 0; t = 0; xs = []; tracks = tracks_start s; filled = filled_start h }

-- of a refused file nothing is said of the arrays
pub into_refused : {a : Result (List Flat)} {r : Refusal} {q : Members} → q.count ≡ 0 → a ≡ refusal_said r → ReadsInto a (Err r) q
into_refused z e = record { outcome = ap counted (sym e); members = z }

module _ {s : List ℕ} {st : Standing} {at done prev first used : ℕ} {q : Members} (r : Reading s st at done prev first used q) where
  -- no member is open
  shut : Shut st → r.xs ≡ [] → Filled r.ms [] [] [] [] r.P done prev first used q
  shut h x =
      subst (λ ys. Filled r.ms [] [] [] ys r.P done prev first used q) x
      (refill (h (total st r.xs)) (h r.f) (h r.t) r.filled)

  pub reading_ends : field_at (due st) s at ≡ ends → ReadsInto (read narrowed_form s) (Ok tt) (counting q done)
  reading_ends e =
      let g = tracks_ends s at r.P r.ms r.f r.t r.xs st r.tracks e in
      let p = filled_packed (shut g.2 g.1) in
      record { outcome = ap got p.count ∙ ap counted (sym g.0); members = subst (λ a. Packed (members_in a) (counting q done)) (sym g.0) p }

  pub reading_wrong : (i j : ℕ) → field_at (due st) s at ≡ wrong i j → read narrowed_form s ≡ refused i j
  reading_wrong i j e = tracks_wrong s at r.P r.ms r.f r.t r.xs st r.tracks i j e

  pub reading_able : Able st × (at ≤ length s)
  reading_able = (tracks_able s at r.P r.ms r.f r.t r.xs st r.tracks, r.tracks.going.inside)

  module _ (fd : Found) (e : Handed (due st) s at fd) where
    pub reading_stop : (i j : ℕ) → judge st fd.at fd.next fd.tag fd.body.now ≡ refused i j → read narrowed_form s ≡ refused i j
    reading_stop i j h = tracks_stop s at r.P r.ms r.f r.t r.xs fd st r.tracks e i j h

    pub reading_go : (st' : Standing) → judge st fd.at fd.next fd.tag fd.body.now ≡ got (st', nothing) → Reading s st' fd.next done prev first used q
    reading_go st' h =
        let g = tracks_go s at r.P r.ms r.f r.t r.xs fd st r.tracks e st' h in
        let o : (v w : ℕ) → open_list st v ≡ open_list st' w = λ v w. g.0 v ∙ sym (g.2 w) in
        record {
          P = r.P;
          ms = r.ms;
          f = r.f;
          t = r.t;
          xs = r.xs;
          tracks = g.1;
          filled = refill (o (total st r.xs) (total st' r.xs)) (o r.f r.f) (o r.t r.t) r.filled;
        }

    pub reading_open : (n f t : ℕ) (st' : Standing) → judge st fd.at fd.next fd.tag fd.body.now ≡ got (st', opens n f t)
        → (done < 128) × Reading s st' fd.next done prev first used (head_kept q done n f t)
    reading_open n f t st' h =
        let g = tracks_open s at r.P r.ms r.f r.t r.xs fd st r.tracks e n f t st' h in
        let z = filled_open (shut g.2 g.1) n f t g.0 in (
          omega (arith, g.0, r.filled.done_is),
          record {
            P = r.P;
            ms = r.ms;
            f = f;
            t = t;
            xs = [];
            tracks = g.3;
            filled = refill (sym (g.5 (total st' []) ∙ ap (λ (v : ℕ). v ∷ []) g.4)) (sym (g.5 f)) (sym (g.5 t)) z;
          },
        )

    pub reading_more : (x : Numbered) (st' : Standing) → judge st fd.at fd.next fd.tag fd.body.now ≡ got (st', symbol x)
        → (used < 6144) × Reading s st' fd.next done prev first (used + 1) (symbol_kept q used x)
    reading_more x st' h =
        let g = tracks_more s at r.P r.ms r.f r.t r.xs fd st r.tracks e x st' h in
        let o : (v : ℕ) → open_list st v ≡ open_list st' v = λ v. g.4 v ∙ sym (g.5 v) in
        let full = r.xs ++ (x ∷ []) in (
          room r.filled x g.0 g.1,
          record {
            P = r.P;
            ms = r.ms;
            f = r.f;
            t = r.t;
            xs = full;
            tracks = g.2;
            filled = refill (o (total st r.xs) ∙ ap (open_list st') (sym g.3)) (o r.f) (o r.t) (filled_more r.filled x g.0 g.1);
          },
        )

    module _ (x : Numbered) (st' : Standing) (p : ℕ) (h : judge st fd.at fd.next fd.tag fd.body.now ≡ got (st', last x p)) where
      between : (l : ℕ) × (Between l ≡ st')
      between = last_between s at r.P r.ms r.f r.t r.xs fd st x st' p h

      abbrev l : ℕ
      l = between.0

      as_between : judge st fd.at fd.next fd.tag fd.body.now ≡ got (Between l, last x p)
      as_between = h ∙ ap (λ (z : Standing). got (z, last x p)) (sym between.1)

      abbrev full : List Numbered
      full = r.xs ++ (x ∷ [])

      few : length r.ms < 128
      few = last_members s at r.P r.ms r.f r.t r.xs fd x l p st r.tracks e as_between

      short : length r.xs < 48
      short = last_few s at r.P r.ms r.f r.t r.xs fd x l p st r.tracks e as_between

      -- the member, whole
      whole : Filled r.ms (length full ∷ []) (r.f ∷ []) (r.t ∷ []) full r.P done prev first (used + 1) (symbol_kept q used x)
      whole =
          let o = last_opened s at r.P r.ms r.f r.t r.xs fd x l p st r.tracks e as_between in
          let n : total st r.xs ≡ length full = last_total s at r.P r.ms r.f r.t r.xs fd x l p st r.tracks e as_between ∙ sym (length-append r.xs (x ∷ [])) in
          refill (o (total st r.xs) ∙ ap (λ (v : ℕ). v ∷ []) n) (o r.f) (o r.t) (filled_more r.filled x few short)

      pub last_room : used < 6144
      last_room = room r.filled x few short

      pub last_done : done < 128
      last_done = omega (arith, few, r.filled.done_is)

      pub last_ordered : (prev ≤ first) × (first ≤ used + 1)
      last_ordered = (r.filled.prev_le, omega (arith, r.filled.used_is))

      -- what is compared
      compared : before? (segment_codes (symbol_kept q used x).numbers prev first) (segment_codes (symbol_kept q used x).numbers first (used + 1)) ≡ before? r.P (order_codes full)
      compared = ap₂ before? (before_codes whole) (open_codes whole)

      pub reading_order : before? (segment_codes (symbol_kept q used x).numbers prev first) (segment_codes (symbol_kept q used x).numbers first (used + 1)) ≡ false → read narrowed_form s ≡ refused 4 p
      reading_order b = tracks_order s at r.P r.ms r.f r.t r.xs fd x l p st r.tracks e as_between (sym compared ∙ b)

      pub reading_last : before? (segment_codes (symbol_kept q used x).numbers prev first) (segment_codes (symbol_kept q used x).numbers first (used + 1)) ≡ true
          → Reading s st' fd.next (done + 1) first (used + 1) (used + 1) (symbol_kept q used x)
      reading_last b = subst (λ (z : Standing). Reading s z fd.next (done + 1) first (used + 1) (used + 1) (symbol_kept q used x)) between.1 (record {
        P = order_codes full;
        ms = _;
        f = 0;
        t = 0;
        xs = [];
        tracks = tracks_done s at r.P r.ms r.f r.t r.xs fd x l p st r.tracks e as_between (sym compared ∙ b);
        filled = filled_done whole (omega (arith, short, length-append r.xs (x ∷ [])));
      })

-- ---- what the reader handed out, at a place of the file that it reads
module _ (s : List ℕ) (st : Standing) (o : Reader) {d : Due} {a : std.Result (std.Option Found) Refusal} (src : o.src.now ≡ s) (is : d ≡ due st)
    (said : field_said a ≡ field_at d o.src.now o.at) where
  pub seen_there : {x : std.Result (std.Option Found) Refusal} → a ≡ x → field_at (due st) s o.at ≡ field_said x
  seen_there u = ap (λ (l : List ℕ). field_at (due st) l o.at) (sym src) ∙ seen_at o.src.now o.at is said u

  pub handed_there : IfOk a (λ r. IfSome r (FoundAt o.src.now o.at)) → {fd : Found} → a ≡ Ok (Some fd) → Handed (due st) s o.at fd
  handed_there part {fd} u = subst (λ (l : List ℕ). Handed (due st) l o.at fd) src (handed o.src.now o.at is said part u)

-- none was handed out
pub none_left : {A : Type 0} (o : std.Option A) → ((x : A) → o ≡ Some x → ⊥) → o ≡ None
none_left (Some x) n = absurd (n x refl)
none_left None n = refl

-- what a field was judged to be, by its item
pub item_is : {a : Result (Standing × Item)} {st : Standing} {i j : declared·Item.Item} → got (st, item_said i) ≡ a → i ≡ j → a ≡ got (st, item_said j)
item_is {st = st} e u = sym e ∙ ap (λ (i : declared·Item.Item). got (st, item_said i)) u
