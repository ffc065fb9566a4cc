-- The loop over a question's fields, which fills an array of codes: what holds at its head, and a law for each way out.
-- Assumes nothing.
use Rattle.std.specs.Prelude.{Ok, Err}
use mathlib.Core.Option.{Option, none, some}
use Prim.Native.Nat.{ℕ, ◌+◌, ◌<◌, ◌≤◌}
use mathlib.Core.Path.{◌≡◌, refl, ap, ◌∙◌, sym, subst}
use mathlib.Core.Bool.{true, false, false≢true, ◌&&◌}
use mathlib.Core.List.{List, [], ◌∷◌, ◌++◌}
use lib.ListN.{length, get_or, set, replicate, length-append}
use lib.Dec.{leb}
use native.Mathlib.Omega.{arith}
use borrow.Author.Tests.{leb-true}
use Rattle.fields.specs.declared.File.TheVariants as file
use Rattle.symbols.specs.declared.Stack.{Stack}
use Rattle.theory.specs.Result.{Result, got}
use Rattle.fields.specs.declared.Refusal.{Refusal}
use Rattle.fields.specs.Contract.{number_of, place_of, refusal_said}
use Rattle.fields.specs.declared.Found as declared·Found
use Rattle.fields.specs.Table.{rows, rows_of, tag_length}
use Rattle.fields.specs.Reading.{ends, wrong, field_at, due_rows, kept, read}
use Rattle.symbols.specs.Symbols.{symbol_in, push, arity}
use Rattle.fields.proofs.Bools.{onward_got, got_both, cond_then, not_got, and_right}
use Rattle.fields.proofs.Fields.{found, found_one, ended, Handed}
use Rattle.symbols.proofs.InPath.{in_path}
use Rattle.fields.proofs.ReaderLoop.{Going, going_start, going_ends, going_wrong, handed_refused, handed_more}
use Rattle.fields.specs.Padded.{padded}
use Rattle.symbols.proofs.Symbols.{push_got}
use Rattle.fields.proofs.Padded.{pad_set}
use Rattle.field_reader.specs.declared.Standing.{Standing}
use Rattle.field_reader.specs.declared.Standing.TheVariants.{Head, Within}
use Rattle.question.specs.Form.{question_format, question_form, due, judge, head_of, fresh, one_more}
use Rattle.question.specs.declared.codes.Question.{Question}
use Rattle.question.specs.Contract.{ReadsQuestion, counted, codes_in}
use Rattle.question.specs.Internal.{BodyReady}

abbrev Holds : Standing Stack → ℕ → List ℕ → Type 0
Holds Head count xs = (xs ≡ []) × (count ≡ 0)
Holds (Within q) count xs = (count ≡ length xs) × (count + q.left ≤ 32) × (q.depth ≤ count)

pub record Reading (s : List ℕ) (st : Standing Stack) (at count : ℕ) (code : List ℕ) : Type 0 where
  pub xs : List ℕ
  pub going : Going question_form s (read question_form s) (st, xs) at
  pub holds : Holds st count xs
  pub filled : code ≡ padded 32 xs

pub reading_start : (s : List ℕ) → Reading s Head 0 0 (replicate 32 0)
unfolding padded
reading_start s = record { xs = []; going = going_start question_form s; holds = (refl, refl); filled = refl }

-- ---- what is returned
pub reads_refused : {a : Result (List ℕ)} (r : Refusal) → a ≡ refusal_said r → ReadsQuestion a (Err r)
reads_refused r e = record { outcome = ap counted (sym e); codes = tt }

module _ (s : List ℕ) (at count : ℕ) (code : List ℕ) where
  counts : (st : Standing Stack) (xs : List ℕ) → (due st).complete ≡ true → Holds st count xs → count ≡ length xs
  counts Head xs m h = absurd (false≢true m)
  counts (Within q) xs m h = h.0

  pub reading_few : (st : Standing Stack) → Reading s st at count code → count ≤ 32
  reading_few Head r = omega (arith, r.holds.1)
  reading_few (Within q) r = omega (arith, r.holds.1)

  pub reading_ends : (st : Standing Stack) → Reading s st at count code → field_at (due st) s at ≡ ends → (q : Question) → q.count ≡ count → q.codes ≡ code
      → ReadsQuestion (read question_form s) (Ok q)
  reading_ends st r e q n l =
      let a = going_ends question_form s _ _ at r.going e in
      record { outcome = ap got (n ∙ counts st r.xs (ended (due st) s at e).may r.holds) ∙ ap counted (sym a); codes = l ∙ r.filled ∙ ap codes_in (sym a) }

  pub reading_wrong : (st : Standing Stack) → Reading s st at count code → (r : Refusal) → field_at (due st) s at ≡ wrong (number_of r) (place_of r) → ReadsQuestion (read question_form s) (Err r)
  reading_wrong st h r e = reads_refused r (going_wrong question_form s _ _ at h.going _ _ e)

  -- what a field that was found is judged to be
  abbrev Judged : declared·Found.Found → Standing Stack → Result (Standing Stack × Option ℕ) → Type 0
  Judged f st a = judge st f.at f.next f.tag f.body.now ≡ a

  module _ {f : declared·Found.Found} where
    pub reading_ready : (st : Standing Stack) → Reading s st at count code → Handed (due st) s at f → BodyReady st f.tag (length f.body.now)
    unfolding due_rows rows_of rows tag_length
    reading_ready Head r h = (found_one file.Question (0x21 ∷ []) false false (found (due Head) s at _ _ h.seen)).1.1
    reading_ready (Within q) r h = let p = in_path file.Question q s at _ _ h.seen in (ap length h.body_is ∙ p.long, (p.some, omega (arith, r.holds.1, r.holds.2)))

    pub reading_stop : (st : Standing Stack) → Reading s st at count code → Handed (due st) s at f → (r : Refusal) → Judged f st (refusal_said r) → ReadsQuestion (read question_form s) (Err r)
    reading_stop st g h r e = reads_refused r (handed_refused question_form s _ _ at g.going h _ _ (ap (kept question_format g.xs) e))

    pub reading_go : (st : Standing Stack) → Reading s st at count code → Handed (due st) s at f → (q : Stack) → Judged f st (got (Within q, none)) → Reading s (Within q) f.next count code
    unfolding head_of
    reading_go Head r h q e =
        let b = f.body.now in
        let (n, hn, w) = onward_got (λ n. got (Within (fresh n), none)) (head_of f.at b) (Within q, none) e in
        let w' : fresh n ≡ q = cc (got_both w).0 in
        let k = cond_then (leb 1 (get_or b 0 0) && leb (get_or b 0 0) 32) (not_got 3 f.at n) hn in
        let z : get_or b 0 0 ≡ n = cc k.1 in
        let few = leb-true (get_or b 0 0) 32 (and_right (leb 1 (get_or b 0 0)) _ k.0) in
        let d = r.holds in
        record {
          xs = r.xs;
          going = handed_more question_form s _ _ at r.going h (Within q, r.xs) (ap (kept question_format r.xs) e);
          holds = subst (λ (p : Stack). Holds (Within p) count r.xs) w' (d.1 ∙ ap length (sym d.0), omega (arith, d.1, few, z), omega arith);
          filled = r.filled;
        }
    reading_go (Within q') r h q e =
        let (x, hx, e') = onward_got (one_more q' f.at f.next) (symbol_in f.at f.tag f.body.now) (Within q, none) e in
        let (p, hp, w) = onward_got (λ p. got (Within p, some x.number)) (push q' f.at f.next (arity x.number)) (Within q, none) e' in
        let z : ◌≡◌ {A = ℕ} 0 1 = cc (got_both w).1 in absurd (omega arith)

    pub reading_more : (st : Standing Stack) → Reading s st at count code → Handed (due st) s at f → (c : ℕ) (q : Stack) → Judged f st (got (Within q, some c))
        → (count < 32) × Reading s (Within q) f.next (count + 1) (set code count c)
    reading_more Head r h c q e =
        let (n, hn, w) = onward_got (λ n. got (Within (fresh n), none)) (head_of f.at f.body.now) (Within q, some c) e in
        let z : ◌≡◌ {A = ℕ} 0 1 = cc (got_both w).1 in absurd (omega arith)
    reading_more (Within q') r h c q e =
        let (x, hx, e') = onward_got (one_more q' f.at f.next) (symbol_in f.at f.tag f.body.now) (Within q, some c) e in
        let (p, hp, w) = onward_got (λ p. got (Within p, some x.number)) (push q' f.at f.next (arity x.number)) (Within q, some c) e' in
        let wp : p ≡ q = cc (got_both w).0 in
        let (pl, pd) = push_got q' f.at f.next (arity x.number) p hp in
        let d = r.holds in
        let g = in_path file.Question q' s at _ _ h.seen in
        let few : count < 32 = omega (arith, d.1, g.some) in (
          few,
          record {
            xs = r.xs ++ (c ∷ []);
            going = handed_more question_form s _ _ at r.going h (Within q, r.xs ++ (c ∷ [])) (ap (kept question_format r.xs) e);
            holds = subst (λ (p : Stack). Holds (Within p) (count + 1) (r.xs ++ (c ∷ []))) wp
                (omega (arith, d.0, length-append r.xs (c ∷ [])), omega (arith, d.1, g.some, pl), omega (arith, d.2, pd));
            filled = ap (λ (l : List ℕ). set l count c) r.filled ∙ ap (λ (i : ℕ). set (padded 32 r.xs) i c) d.0 ∙ pad_set 32 r.xs c (omega (arith, few, d.0));
          },
        )
