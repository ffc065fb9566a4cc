-- What an accepted narrowing says: both files were read, nothing was refused, and the file is that of the members.
-- Assumes nothing.
use mathlib.Core.Path.{◌≡◌, refl}
use mathlib.Core.List.{List}
use Prim.Native.Nat.{ℕ}
use lib.ListN.{length}
use Rattle.theory.specs.Sheet.{Sheet}
use Rattle.theory.specs.Merging.{Member}
use Rattle.theory.specs.Narrowing.{Narrowing, narrow_symbols}
use Rattle.fields.specs.declared.Source.TheVariants as source
use Rattle.theory.specs.Result.{got}
use Rattle.fields.specs.declared.Size.{Size}
use Rattle.fields.specs.Call.{Outcome, accepts, refuses, performed}
use Rattle.fields.proofs.Calls.{not_accepted, about_accepted, performed_rest, performed_accepted, two_read}
use Rattle.fields.specs.Reading.{read}
use Rattle.fields.proofs.Filing as fields·Filing
use Rattle.sheet.specs.Form.{sheet_form}
use Rattle.question.specs.Form.{question_form, question_symbols}
use Rattle.narrowed_question.specs.Members.{narrowed_file}
use Rattle.narrowing.specs.Call.{file_of, in_area, members_task, members_call, narrow_call}

-- the area has the members' file, of the size that was told
abbrev pub Filed : List Member → List ℕ → List ℕ → Size → Type 0
Filed ms file file' z = fields·Filing.Filed (length ms) (narrowed_file ms) file file' z

pub record Accepted (s q file file' : List ℕ) (z : Size) : Type 0 where
  pub sheet : Sheet
  pub sheet_reads : read sheet_form s ≡ got sheet
  pub codes : List ℕ
  pub question_reads : read question_form q ≡ got codes
  pub members : List Member
  pub narrows : narrow_symbols sheet (question_symbols codes) ≡ got members
  pub filed : Filed members file file' z

-- 14 was not told
pub filed : (ms : List Member) (file : List ℕ) (z : Size) → (file_of ms file).outcome ≡ accepts z → Filed ms file (file_of ms file).areas z
unfolding file_of
filed ms file z e = fields·Filing.filed (length ms) (narrowed_file ms) file z e

pub in_area_accepted : (o : Outcome (List Member)) (file : List ℕ) (z : Size) → (in_area o file).outcome ≡ accepts z
    → (ms : List Member) × (o ≡ accepts ms) × Filed ms file (in_area o file).areas z
in_area_accepted (refuses s n p) file z e = not_accepted s n p z e
in_area_accepted (accepts ms) file z e = (ms, refl, filed ms file z e)

-- nor was 15, 11, 12 or 13
performed_narrowed : (o : Narrowing) (work : List ℕ) (ms : List Member) → (performed (members_task o) work tt).outcome ≡ accepts ms → o ≡ got ms
unfolding members_task
performed_narrowed o work ms e =
    let l = performed_accepted (members_task o) work tt e in
    about_accepted source.Work o ms (rw (performed_rest (members_task o) work tt l) at e)

module _ (s q work file : List ℕ) (z : Size) where
  -- what the files hold
  by_files : (S : Sheet) → read sheet_form s ≡ got S → (cs : List ℕ) → read question_form q ≡ got cs → (ms : List Member) → (members_call s q work).outcome ≡ accepts ms
      → Filed ms file (narrow_call s q work file).areas z → Accepted s q file (narrow_call s q work file).areas z
  unfolding members_call
  by_files S es cs eq ms e f =
      record {
        sheet = S;
        sheet_reads = es;
        codes = cs;
        question_reads = eq;
        members = ms;
        narrows = performed_narrowed (narrow_symbols S (question_symbols cs)) work ms (rw (es, eq) at e);
        filed = f;
      }

  by_members : (ms : List Member) → (members_call s q work).outcome ≡ accepts ms → Filed ms file (narrow_call s q work file).areas z → Accepted s q file (narrow_call s q work file).areas z
  unfolding members_call
  by_members ms e f =
      let (S, cs, es, eq) = two_read source.Sheet source.Question work tt (read sheet_form s) (read question_form q) (λ S cs. members_task (narrow_symbols S (question_symbols cs))) e in
      by_files S es cs eq ms e f

  pub accepted : (narrow_call s q work file).outcome ≡ accepts z → Accepted s q file (narrow_call s q work file).areas z
  unfolding narrow_call
  accepted e = let (ms, m, f) = in_area_accepted (members_call s q work).outcome file z e in by_members ms m f
