-- What the size of a narrowed question's file says of a narrowing with the same files and work area.
-- Assumes nothing.
use mathlib.Core.Path.{◌≡◌, refl, sym, ap, subst}
use mathlib.Core.Bool.{Bool, true, false}
use mathlib.Core.List.{List}
use Prim.Native.Nat.{ℕ, ◌<◌, ◌≤◌}
use native.Mathlib.Omega.{arith}
use lib.Dec.{ltb}
use lib.ListN.{length}
use borrow.Author.Tests.{lt-ltb, le-ltb}
use Rattle.theory.specs.PathExpr.{PathExpr}
use Rattle.theory.specs.Sheet.{Sheet}
use Rattle.theory.specs.Merging.{Member}
use Rattle.theory.specs.Narrowing.{Narrowing, narrow, narrow_symbols, Judged, unnamed, too_long, too_many, sound}
use Rattle.theory.proofs.Judgement.{narrow_exact}
use Rattle.theory.proofs.Demand3.{narrow_path}
use Rattle.fields.specs.declared.Source.{Source}
use Rattle.fields.specs.declared.Source.TheVariants as source
use Rattle.theory.specs.Result.{Result, got, refused}
use Rattle.fields.specs.declared.Size.{Size}
use Rattle.fields.specs.Call.{Outcome, accepts, refuses, performed, file_in}
use Rattle.fields.proofs.Calls.{not_accepted}
use Rattle.fields.specs.Reading.{read}
use Rattle.fields.specs.Contract.{source_number}
use Rattle.sheet.specs.Form.{sheet_form}
use Rattle.sheet.proofs.Ranges.{accepted_sheet}
use Rattle.question.specs.Form.{question_form, question_symbols}
use Rattle.question.proofs.Paths.{accepted_question}
use Rattle.narrowed_question.specs.Members.{narrowed_file}
use Rattle.narrowing.specs.Call.{sized, file_size, file_of, in_area, narrow_need, members_task, members_call, narrow_call, size_call}
use Rattle.narrowing.specs.Beforehand.{Foretells}

-- ---- the members, or a refusal, with and without an area
in_enough : (o : Outcome (List Member)) (z : Size) → sized o ≡ accepts z → (file : List ℕ) → z.bytes ≤ length file → (in_area o file).outcome ≡ accepts z
unfolding file_of file_in
in_enough (refuses s n p) z e file l = not_accepted s n p z e
in_enough (accepts ms) z e file l =
    let same : file_size ms ≡ z = cc in
    rw (le-ltb (length file) (length (narrowed_file ms)) (omega (arith, ap (λ (x : Size). x.bytes) same))) e

in_fewer : (o : Outcome (List Member)) (z : Size) → sized o ≡ accepts z → (file : List ℕ) → length file < z.bytes → (in_area o file).outcome ≡ refuses source.Work 14 z.bytes
unfolding file_of file_in
in_fewer (refuses s n p) z e file l = not_accepted s n p z e
in_fewer (accepts ms) z e file l =
    let same : file_size ms ≡ z = cc in
    let bytes : length (narrowed_file ms) ≡ z.bytes = ap (λ (x : Size). x.bytes) same in
    rw (lt-ltb (length file) (length (narrowed_file ms)) (omega (arith, bytes))) (ap (refuses source.Work 14) bytes)

in_any : (o : Outcome (List Member)) (s : Source) (n p : ℕ) → sized o ≡ refuses s n p → (file : List ℕ) → (in_area o file).outcome ≡ refuses s n p
in_any (refuses t m q) s n p e file = e
in_any (accepts ms) s n p e file = not_accepted s n p (file_size ms) (sym e)

-- ---- never 14
-- of what the sheet makes of the question: 11, 12 or 13
abbrev Below14 : Narrowing → Type 0
Below14 (refused n i) = n < 14
Below14 (got ms) = Unit {0}

judged_below : (S : Sheet) (q : PathExpr) {o : Narrowing} → Judged S q o → Below14 o
judged_below S q (unnamed f) = omega arith
judged_below S q (too_long n f l) = omega arith
judged_below S q (too_many n f h) = omega arith
judged_below S q (sound n h) = tt

-- of the call: a refusal of the work is 15, or one of these
abbrev Not14 : Outcome (List Member) → Type 0
Not14 (refuses x n p) = source_number x ≡ 5 → n ≡ 14 → ⊥
Not14 (accepts ms) = Unit {0}

not_performed : (o : Narrowing) → Below14 o → (work : List ℕ) → (b : Bool) → ltb (length work) narrow_need ≡ b → Not14 (performed (members_task o) work tt).outcome
unfolding performed members_task
not_performed o h work true t = rw t (λ x e. omega arith)
not_performed (refused n i) h work false t = rw t (λ x e. omega arith)
not_performed (got ms) h work false t = rw t tt

module _ (s q work : List ℕ) where
  by_question : (S : Sheet) → read sheet_form s ≡ got S → (a : Result (List ℕ)) → read question_form q ≡ a → Not14 (members_call s q work).outcome
  unfolding members_call
  by_question S es (refused n p) eq = rw (es, eq) (λ x e. omega arith)
  by_question S es (got cs) eq =
      let (r, a) = accepted_question q cs eq in
      let below = judged_below S r ((narrow_exact S (accepted_sheet s S es) r (narrow S r)).0 refl) in
      rw (es, eq) (not_performed (narrow_symbols S (question_symbols cs)) (subst Below14 (narrow_path S r (question_symbols cs) a.path) below) work (ltb (length work) narrow_need) refl)

  by_sheet : (a : Result Sheet) → read sheet_form s ≡ a → Not14 (members_call s q work).outcome
  unfolding members_call
  by_sheet (refused n p) es = rw es (λ x e. omega arith)
  by_sheet (got S) es = by_question S es (read question_form q) refl

  not_14 : Not14 (members_call s q work).outcome
  not_14 = by_sheet (read sheet_form s) refl

never : (o : Outcome (List Member)) → Not14 o → (p : ℕ) → sized o ≡ refuses source.Work 14 p → ⊥
never (refuses x n q) h p e =
    let y : x ≡ source.Work = cc in
    let z : n ≡ 14 = cc in
    h (ap source_number y) z
never (accepts ms) h p e = not_accepted source.Work 14 p (file_size ms) (sym e)

-- ---- of the calls
pub foretells : (s q work : List ℕ) → Foretells s q work
unfolding size_call narrow_call
foretells s q work =
    let o = (members_call s q work).outcome in
    record {
      enough = in_enough o;
      fewer = in_fewer o;
      refused = in_any o;
      never_14 = never o (not_14 s q work);
      work_same = λ file. refl;
    }
