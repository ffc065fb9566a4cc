-- The loop over a sheet's fields, which fills the table: what holds at its head, and a law for each way out.
-- Assumes nothing.
use Rattle.std.specs.Prelude.{Ok, Err}
use mathlib.Core.Path.{◌≡◌, refl, ap, sym, subst, ◌∙◌}
use mathlib.Core.Bool.{true, false, false≢true}
use mathlib.Core.List.{List, [], ◌∷◌, ◌++◌}
use mathlib.Core.Option.{none, some}
use Prim.Native.Nat.{ℕ, ◌≤◌, ◌<◌}
use native.Mathlib.Omega.{arith}
use lib.Dec.{T, eqb, ltb→lt}
use lib.ListN.{length}
use borrow.Author.Tests.{eqb-false}
use Rattle.theory.specs.Register.{Edge}
use Rattle.theory.specs.Sheet.{Sheet, sheet?}
use Rattle.theory.proofs.Tests.{tests}
use Rattle.theory.proofs.Sheet.{kinds_fit, names_fit}
use Rattle.fields.specs.declared.File.TheVariants as file
use Rattle.fields.specs.declared.Refusal.{Refusal}
use Rattle.theory.specs.Result.{Result, got, refused}
use Rattle.fields.specs.Reading.{ends, wrong, field_at, due_rows, kept, read}
use Rattle.fields.specs.Table.{tag_length, rows, rows_of}
use Rattle.fields.specs.declared.Found.{Found}
use Rattle.fields.specs.Contract.{number_of, place_of, refusal_said}
use Rattle.fields.proofs.Bools.{onward_got, got_both}
use Rattle.fields.proofs.Fields.{Handed, found, found_one, ended}
use Rattle.fields.proofs.ReaderLoop.{Going, going_start, going_ends, going_wrong, handed_refused, handed_more}
use Rattle.sheet.specs.declared.Sheet as declared·Sheet
use Rattle.sheet.specs.declared.Triples.{Triples}
use Rattle.field_reader.specs.declared.Standing.{Standing}
use Rattle.field_reader.specs.declared.Standing.TheVariants.{Head, Within}
use Rattle.sheet.specs.Form.{due, head_of, edge_of, next, judge, sheet_format, sheet_form}
use Rattle.sheet.specs.Table.{permit, table_of, table_in}
use Rattle.sheet.specs.Contract.{sizes, ReadsInto}
use Rattle.sheet.specs.Internal.{sizes_at, BodyReady}
use Rattle.sheet.proofs.Ranges.{so_far, head_got, next_got, sheet_more}
use Rattle.sheet.proofs.Tables.{table_more}

abbrev Holds : Standing Triples → List Edge → Type 0
Holds Head es = es ≡ []
Holds (Within q) es = T (sheet? (so_far q es)) × (q.count ≤ 512)

pub record Progress (s : List ℕ) (st : Standing Triples) (at : ℕ) (table : List ℕ) : Type 0 where
  pub es : List Edge
  pub going : Going sheet_form s (read sheet_form s) (st, es) at
  pub holds : Holds st es
  pub filled : table ≡ table_of es

pub progress_start : (s : List ℕ) {table : List ℕ} → table ≡ table_of [] → Progress s Head 0 table
progress_start s e = record { es = []; going = going_start sheet_form s; holds = refl; filled = e }

-- ---- what is returned
pub reads_refused : (a : Result Sheet) (r : Refusal) {x : declared·Sheet.Sheet} → a ≡ refusal_said r → ReadsInto a (Err r) x
reads_refused a r e = record { reads = record { outcome = ap sizes (sym e); table = tt } }

module _ (s : List ℕ) (at : ℕ) (table : List ℕ) where
  pub progress_ends : (st : Standing Triples) → Progress s st at table → field_at (due st) s at ≡ ends → (x : declared·Sheet.Sheet) → sizes_at st ≡ (x.kinds, x.links) → x.table ≡ table
      → ReadsInto (read sheet_form s) (Ok tt) x
  progress_ends Head p e x h t = absurd (false≢true (ended (due Head) s at e).may)
  progress_ends (Within q) p e x h t =
      let a = going_ends sheet_form s _ _ at p.going e in
      record {
        reads = record {
          outcome = ap (λ (z : ℕ × ℕ). got (record { kinds = z.0; links = z.1 })) (sym h) ∙ ap sizes (sym a);
          table = t ∙ p.filled ∙ ap table_in (sym a);
        };
      }

  pub progress_wrong : (st : Standing Triples) → Progress s st at table → (i j : ℕ) → field_at (due st) s at ≡ wrong i j → read sheet_form s ≡ refused i j
  progress_wrong st p i j e = going_wrong sheet_form s _ _ at p.going i j e

  -- a field f was handed out
  module _ {f : Found} where
    pub progress_ready : (st : Standing Triples) → Progress s st at table → Handed (due st) s at f → BodyReady st (length f.body.now)
    unfolding due_rows rows_of rows tag_length
    progress_ready Head p h = (found_one file.Sheet (0x11 ∷ []) false false (found (due Head) s at _ _ h.seen)).1.1
    progress_ready (Within q) p h =
        let o = found_one file.Sheet (0x12 ∷ []) true (eqb q.count 512) (found (due (Within q)) s at _ _ h.seen) in
        let n : q.count ≡ 512 → ⊥ = eqb-false q.count 512 o.0 in
        (o.1.1, omega (arith, p.holds.1))

    pub progress_stop : (st : Standing Triples) → Progress s st at table → Handed (due st) s at f → (r : Refusal) {x : declared·Sheet.Sheet} → refusal_said r ≡ judge st f.at f.body.now
        → ReadsInto (read sheet_form s) (Err r) x
    progress_stop st p h r j =
        reads_refused _ r (handed_refused sheet_form s _ _ at p.going h (number_of r) (place_of r) (ap (kept sheet_format p.es) (sym j)))

    -- a head
    pub progress_go : (st : Standing Triples) → Progress s st at table → Handed (due st) s at f → (q : Triples) → got (Within q, none) ≡ judge st f.at f.body.now
        → Progress s (Within q) f.next table
    progress_go Head p h q j =
        let (q', g, w) = onward_got (λ q. got (Within q, none)) (head_of f.at f.body.now) (Within q, none) (sym j) in
        let w' : q' ≡ q = cc (got_both w).0 in
        let r = head_got f.at f.body.now q (g ∙ ap got w') in
        record {
          es = p.es;
          going = handed_more sheet_form s _ _ at p.going h (Within q, p.es) (ap (kept sheet_format p.es) (sym j));
          holds = subst (λ (es : List Edge). T (sheet? (so_far q es)) × (q.count ≤ 512)) (sym p.holds) (r.0, omega (arith, r.1));
          filled = p.filled;
        }
    progress_go (Within p') p h q j =
        let (q', g, w) = onward_got (λ q'. got (Within q', some (edge_of f.body.now))) (next p' f.at f.body.now) (Within q, none) (sym j) in
        let z : ◌≡◌ {A = ℕ} 0 1 = cc (got_both w).1 in absurd (omega arith)

    -- a triple
    pub progress_more : (st : Standing Triples) → Progress s st at table → Handed (due st) s at f → (x : Edge) (q : Triples) → got (Within q, some x) ≡ judge st f.at f.body.now
        → ((x.from < 64) × (x.label < 64) × (x.to < 64)) × Progress s (Within q) f.next (permit table x)
    progress_more Head p h x q j =
        let (q', g, w) = onward_got (λ q. got (Within q, none)) (head_of f.at f.body.now) (Within q, some x) (sym j) in
        let z : ◌≡◌ {A = ℕ} 0 1 = cc (got_both w).1 in absurd (omega arith)
    progress_more (Within p') p h x q j =
        let b = f.body.now in
        let (q', g, w) = onward_got (λ q'. got (Within q', some (edge_of b))) (next p' f.at b) (Within q, some x) (sym j) in
        let wq : q' ≡ q = cc (got_both w).0 in
        let wx : edge_of b ≡ x = cc (got_both w).1 in
        let m = next_got p' f.at b q (g ∙ ap got wq) in
        let ok = p.holds.0 in
        let few = (progress_ready (Within p') p h).1 in
        let k = kinds_fit (so_far p' p.es) ok in
        let l = names_fit (so_far p' p.es) ok in
        let r = m.range in
        let hf : (edge_of b).from < p'.kinds = search (tests, ltb→lt) in
        let hl : (edge_of b).label < p'.links = search (tests, ltb→lt) in
        let ht : (edge_of b).to < p'.kinds = search (tests, ltb→lt) in (
          (omega (arith, ap (λ (y : Edge). y.from) wx), omega (arith, ap (λ (y : Edge). y.label) wx), omega (arith, ap (λ (y : Edge). y.to) wx)),
          record {
            es = p.es ++ (x ∷ []);
            going = handed_more sheet_form s _ _ at p.going h (Within q, p.es ++ (x ∷ [])) (ap (kept sheet_format p.es) (sym j));
            holds = (subst (λ (y : Edge). T (sheet? (so_far q (p.es ++ (y ∷ []))))) wx (sheet_more p' p.es b q ok m), omega (arith, few, m.count));
            filled = ap (λ u. permit u x) p.filled ∙ sym (table_more p.es x);
          },
        )
