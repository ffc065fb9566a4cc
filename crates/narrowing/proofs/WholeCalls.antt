-- The calls as a whole: 15 before what the members are, the files before all.
-- Assumes nothing.
use mathlib.Core.Path.{◌≡◌, refl, sym, ap, ◌∙◌}
use mathlib.Core.List.{List}
use Prim.Native.Nat.{ℕ, ◌<◌, ◌≤◌}
use native.Mathlib.Omega.{arith}
use lib.ListN.{length, take}
use Rattle.std.specs.Prelude as std
use Rattle.std.specs.Prelude.{Ok, Err}
use Rattle.theory.specs.Sheet.{Sheet}
use Rattle.theory.specs.Narrowing.{Narrowing, narrow_symbols}
use Rattle.theory.specs.Result.{got}
use Rattle.fields.specs.declared.Failure.{Failure}
use Rattle.fields.specs.declared.Refusal.{Refusal}
use Rattle.fields.specs.declared.Refusal.TheVariants.{WorkShort}
use Rattle.fields.specs.declared.Size.{Size}
use Rattle.fields.specs.declared.Source.TheVariants as source
use Rattle.fields.specs.Call.{accepts, refuses, about, Output, returned, Returns, performed}
use Rattle.fields.specs.Contract.{failure, about_of, number_of, place_of, written_said}
use Rattle.fields.specs.Reading.{read}
use Rattle.fields.proofs.Calls.{about_ok, about_err, performed_15, performed_rest}
use Rattle.sheet.specs.declared.Sheet as declared·Sheet
use Rattle.sheet.specs.Contract.{ReadsInto}
use Rattle.sheet.specs.Form.{sheet_form}
use Rattle.sheet.proofs.ReaderOutcome.{refused_into, told_into}
use Rattle.question.specs.declared.codes.Question.{Question}
use Rattle.question.specs.Contract.{ReadsQuestion}
use Rattle.question.specs.Form.{question_form, question_symbols}
use Rattle.question.proofs.ReaderOutcome.{refused_question, told_question, told_front}
use Rattle.rows.proofs.Areas.{zero_words}
use Rattle.narrowing.specs.declared.Counted.{Counted}
use Rattle.narrowing.specs.Call.{in_area, narrow_need, members_task, members_call, narrow_call, size_call, sized}
use Rattle.narrowing.specs.Contract.{work_said}
use Rattle.narrowing.specs.Internal.{Told, CountsSymbols, PutsSymbols, Begun, Ready, Settles}
use Rattle.narrowing.proofs.FromReaders.{handed, ready}

-- ---- the work words: the need in code and in the definition
need_is : 8192 ≡ narrow_need
unfolding narrow_need
need_is = refl

pub enough : {n : ℕ} → 8192 ≤ n → narrow_need ≤ n
unfolding narrow_need
enough l = l

-- ---- the files and 15
module _ (s q work : List ℕ) {a : std.Result (Unit {0}) Refusal} {x : declared·Sheet.Sheet} (h : ReadsInto (read sheet_form s) a x)
    {b : std.Result (Unit {0}) Failure} (r : b ≡ about_of source.Sheet a) where
  pub sheet_refused : {f : Failure} → b ≡ Err f → Ready s q work x (Err f)
  unfolding members_call
  sheet_refused {f} e =
      let (y, z) = about_err source.Sheet a r e in
      record {
        begun = λ v u. let w : ◌≡◌ {A = ℕ} 0 1 = cc in absurd (omega arith);
        refused = λ g u. let w : f ≡ g = cc in rw (← w, y) (rw (refused_into s h f.refusal z));
      }

  module _ (e : b ≡ Ok tt) {c : std.Result Question Refusal} (i : ReadsQuestion (read question_form q) c)
      {d : std.Result Question Failure} (j : d ≡ about_of source.Question c) where
    pub question_refused : {f : Failure} → d ≡ Err f → Ready s q work x (Err f)
    unfolding members_call
    question_refused {f} k =
        let (y, z) = about_err source.Question c j k in
        let (S, t) = told_into s h (about_ok source.Sheet a r e) in
        record {
          begun = λ v u. let w : ◌≡◌ {A = ℕ} 0 1 = cc in absurd (omega arith);
          refused = λ g u. let w : f ≡ g = cc in rw (← w, y) (rw (t.reads, refused_question q c i f.refusal z));
        }

    module _ {y : Question} (k : d ≡ Ok y) where
      is_performed : (S : Sheet) → read sheet_form s ≡ got S → (cs : List ℕ) → read question_form q ≡ got cs
          → members_call s q work ≡ performed (members_task (narrow_symbols S (question_symbols cs))) work tt
      unfolding members_call
      is_performed S u cs v = rw (u, v)

      pub work_short : length work < 8192 → Ready s q work x (Err (failure source.Work (WorkShort 8192)))
      unfolding members_task
      work_short l =
          let (S, t) = told_into s h (about_ok source.Sheet a r e) in
          let (cs, g) = told_question q c i y (about_ok source.Question c j k) in
          let p = is_performed S t.reads cs g.reads ∙ sym (performed_15 (members_task (narrow_symbols S (question_symbols cs))) work tt need_is l).is in
          record {
            begun = λ v u. let w : ◌≡◌ {A = ℕ} 0 1 = cc in absurd (omega arith);
            refused = λ g u. let w : failure source.Work (WorkShort 8192) ≡ g = cc in rw (← w) p;
          }

      begin : 8192 ≤ length work → Begun s q work x y
      unfolding members_task
      begin l =
          let (S, t) = told_into s h (about_ok source.Sheet a r e) in
          let (cs, g) = told_question q c i y (about_ok source.Question c j k) in
          let o = narrow_symbols S (question_symbols cs) in
          record {
            sheet = S;
            handed = handed t;
            narrowable = ready t g;
            enough = l;
            is = rw (told_front g) (is_performed S t.reads cs g.reads ∙ performed_rest (members_task o) work tt (enough l));
          }

      pub both_read : 8192 ≤ length work → Ready s q work x (Ok y)
      both_read l =
          record {
            begun = λ z u. let w : y ≡ z = cc in rw (← w) (begin l);
            refused = λ g u. let w : ◌≡◌ {A = ℕ} 0 1 = cc in absurd (omega arith);
          }

-- ---- the calls
module _ (s q work : List ℕ) (f : Failure) (e : members_call s q work ≡ returned (refuses f.source (number_of f.refusal) (place_of f.refusal)) work tt) where
  pub size_refused : Returns (size_call s q work) (written_said (Err f)) work tt
  unfolding size_call
  size_refused = record { is = rw e }

  pub file_refused : (file : List ℕ) → Returns (narrow_call s q work file) (written_said (Err f)) work file
  unfolding narrow_call
  file_refused file = record { is = rw e }

module _ {s q work work₁ work₂ : List ℕ} {x : declared·Sheet.Sheet} {y : Question} (b : Begun s q work x y) {a : std.Result Size Refusal} {r : std.Result Size Failure}
    (z : Settles work₁ work₂ 8192 a r) where
  abbrev qs : List ℕ
  qs = take y.count y.codes

  pub file_told : {file file' : List ℕ} → PutsSymbols qs work work₁ x.table x.kinds x.links file file' a → Returns (narrow_call s q work file) (written_said r) work₂ file'
  unfolding narrow_call
  file_told {file} g =
      let due = in_area (about source.Work (narrow_symbols b.sheet (question_symbols qs))) file in
      record {
        is =
            rw (b.is, z.said) (
            ap (λ (o : Output Size (List ℕ)). returned o.outcome work₂ o.areas) (g.files b.sheet b.handed).is
            ∙ ap (λ (ws : List ℕ). returned due.outcome ws due.areas) (zero_words narrow_need g.kept (rw need_is at z.zero) (enough b.enough)));
      }

  pub size_told : {c : std.Result Counted Refusal} → CountsSymbols qs work work₁ x.table x.kinds x.links c → work_said a ≡ sized (about source.Work (narrow_symbols b.sheet (question_symbols qs)))
      → Returns (size_call s q work) (written_said r) work₂ tt
  unfolding size_call
  size_told g e = record { is = rw (b.is, z.said, e, zero_words narrow_need g.kept (rw need_is at z.zero) (enough b.enough)) }

-- the size of what was counted
abbrev pub size_of : std.Result Counted Refusal → std.Result Size Refusal
size_of (Ok c) = Ok c.size
size_of (Err f) = Err f

pub sized_told : (qs ws : List ℕ) (due : Narrowing) (c : std.Result Counted Refusal) → Told qs ws due c → work_said (size_of c) ≡ sized (about source.Work due)
sized_told qs ws due (Ok c) (ms, w, k) = rw w (ap accepts k.size)
sized_told qs ws due (Err f) w = rw w
