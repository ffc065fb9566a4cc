-- From what the steps of the job say to what is due: 11, 16, 12 or 13, 14 for the file, or the file and its answer.
-- Assumes nothing.
use mathlib.Core.Path.{◌≡◌, sym, ap, subst, ◌∙◌}
use mathlib.Core.List.{List, map}
use Prim.Native.Nat.{ℕ, ◌*◌, ◌≤◌}
use native.Mathlib.Omega.{arith}
use lib.ListN.{length, take}
use lib.Seq.{sets}
use borrow.Author.Tests.{le-ltb}
use Rattle.std.specs.Prelude as std
use Rattle.std.specs.Prelude.{Some, None, Ok, Err}
use Rattle.theory.specs.Register.{Register, records}
use Rattle.theory.specs.Sheet.{Sheet, breach}
use Rattle.theory.specs.Merging.{Member}
use Rattle.theory.specs.Narrowing.{Narrowing, link_fault, refuse, parted, narrow_symbols, Fits}
use Rattle.theory.specs.Evaluation.{narrowed_answer}
use Rattle.theory.specs.Words.{answer_words}
use Rattle.theory.proofs.Members.{narrow_fits}
use Rattle.theory.proofs.Demand3.{narrow_path}
use Rattle.theory.specs.Result.{got, refused}
use Rattle.fields.specs.declared.Refusal.{Refusal}
use Rattle.fields.specs.declared.Refusal.TheVariants.{UnnamedLink, Breach}
use Rattle.fields.specs.declared.Source.{Source}
use Rattle.fields.specs.declared.Source.TheVariants as source
use Rattle.fields.specs.declared.Size.{Size}
use Rattle.fields.specs.Call.{accepts, refuses, about, Output, output, Gives}
use Rattle.fields.specs.Reading.{read}
use Rattle.fields.specs.Contract.{number_of, place_of}
use Rattle.fields.proofs.Calls.{about_accepted}
use Rattle.fields.proofs.Filing.{file_written, within}
use Rattle.sheet.specs.declared.Sheet as declared·Sheet
use Rattle.question.specs.Form.{question_symbols}
use Rattle.conformance.specs.Contract.{failing_said, first_breach}
use Rattle.conformance.proofs.Checked.{breach_is}
use Rattle.narrowed_question.specs.Form.{narrowed_form}
use Rattle.narrowed_question.specs.Members.{flat_of}
use Rattle.narrowed_question.proofs.Formed.{narrowed_file_read, fits_formed}
use Rattle.evaluation.specs.declared.ground.Ground.{Ground}
use Rattle.evaluation.specs.Standing.{register_on, size}
use Rattle.evaluation.proofs.Grounds.{grounded, limits}
use Rattle.rows.proofs.Words.{kept_refl, kept_trans, kept_in}
use Rattle.narrowing.specs.Call.{narrow_need, in_area}
use Rattle.narrowing.specs.Contract.{FirstUnnamed, InfersFile, work_said}
use Rattle.narrowing.proofs.Accepted.{Filed, in_area_accepted}
use Rattle.answer.specs.Calls.{members_of}
use Rattle.answer.proofs.TwoAnswers.{members_back}
use Rattle.job.specs.Call.{Results, results, with_breach, narrow_checked, if_accepted, completed, larger}
use Rattle.job.specs.Internal.{due, HasMembers, AnswersFile, TellsSheet, Asked, Completes}
use Rattle.job.proofs.Needs.{larger_both}

-- ---- the results
-- the words in the answer, if the file was written
abbrev filled_in : List ℕ → List ℕ → Output Size (List ℕ) → Output Size Results
filled_in answer words f = output f.outcome (results (if_accepted f.outcome words answer) f.areas)

module _ (r : Register) (answer area : List ℕ) {area' : List ℕ} where
  -- a refusal leaves the answer as it came
  pub gives_refused : (x : Narrowing) (s : Source) (n p : ℕ) → Gives (in_area (about source.Work x) area) (refuses s n p) area'
      → Gives (completed r x (results answer area)) (refuses s n p) (results answer area')
  gives_refused (refused m i) s n p f = record { is = ap (filled_in answer answer) f.is }
  gives_refused (got ms) s n p f = record { is = ap (filled_in answer (sets answer 0 (answer_words (records r) (narrowed_answer r ms)))) f.is }

  pub gives_filed : (x : Narrowing) (ms : List Member) (z : Size) {answer' : List ℕ} → x ≡ got ms → Gives (in_area (about source.Work x) area) (accepts z) area'
      → answer' ≡ sets answer 0 (answer_words (records r) (narrowed_answer r ms)) → Gives (completed r x (results answer area)) (accepts z) (results answer' area')
  gives_filed x ms z w f a = record { is = rw (w, a) (ap (filled_in answer (sets answer 0 (answer_words (records r) (narrowed_answer r ms)))) (rw w at f.is)) }

-- an outcome of which a file was told
pub told_file : (area : List ℕ) {area' : List ℕ} (x : Narrowing) (z : Size) → Gives (in_area (about source.Work x) area) (accepts z) area' → (ms : List Member) × (x ≡ got ms) × Filed ms area area' z
told_file area x z f =
    let (ms, e, h) = in_area_accepted (about source.Work x) area z (sym (ap (λ y. y.outcome) f.is)) in
    (ms, about_accepted source.Work x ms e, subst (λ (l : List ℕ). Filed ms area l z) (sym (ap (λ y. y.areas) f.is)) h)

module _ {qs : List ℕ} {x : declared·Sheet.Sheet} (a : Asked qs x) (g : Ground) {r : std.Option ℕ} (f : FirstUnnamed x.links qs r) where
  abbrev parts : Sheet → Narrowing
  parts S = parted S (question_symbols qs)

  by_links : (S : Sheet) → TellsSheet x S → due S qs g ≡ refuse (link_fault x.links) 0 (question_symbols qs) (with_breach (breach S (register_on g)) (parts S))
  unfolding narrow_checked
  by_links S d = ap (λ (n : ℕ). refuse (link_fault n) 0 (question_symbols qs) (with_breach (breach S (register_on g)) (parts S))) d.handed.named

  pub codes_unnamed : (i : ℕ) → r ≡ Some i → {work answer area : List ℕ} → Completes qs x g work work answer answer area area (Err (UnnamedLink i))
  codes_unnamed i e {work} =
      record {
        kept = kept_refl 0 (larger narrow_need (28 * size g)) work;
        gives = λ S d.
            let z : due S qs g ≡ refused 11 i = by_links S d ∙ f.here i e (with_breach (breach S (register_on g)) (parts S)) in
            record { is = rw z };
      }

  module _ (n : r ≡ None) (u : std.Option ℕ) (b : failing_said u ≡ first_breach x.kinds x.table (register_on g)) where
    left : (S : Sheet) → TellsSheet x S → due S qs g ≡ with_breach (failing_said u) (parts S)
    left S d =
        let k = ap (λ (k : ℕ). first_breach k x.table (register_on g)) (sym d.handed.sheeted.kinds) in
        let e : failing_said u ≡ breach S (register_on g) = b ∙ k ∙ breach_is S x.table (register_on g) d.handed.sheeted.tabled.bits (limits (grounded g)) in
        rw e (by_links S d ∙ f.nowhere n (with_breach (breach S (register_on g)) (parts S)))

    pub codes_breached : (j : ℕ) → u ≡ Some j → {work answer area : List ℕ} → Completes qs x g work work answer answer area area (Err (Breach j))
    codes_breached j e {work} =
        record {
          kept = kept_refl 0 (larger narrow_need (28 * size g)) work;
          gives = λ S d.
              let z : due S qs g ≡ refused 16 j = left S d ∙ ap (λ (o : std.Option ℕ). with_breach (failing_said o) (parts S)) e in
              record { is = rw z };
        }

    module _ (e : u ≡ None) {work work₁ area area₁ : List ℕ} {o : std.Result Size Refusal} (i : InfersFile qs work work₁ x.table x.kinds area area₁ o) where
      is_parted : (S : Sheet) → TellsSheet x S → due S qs g ≡ parts S
      is_parted S d = left S d ∙ ap (λ (v : std.Option ℕ). with_breach (failing_said v) (parts S)) e

      files : (S : Sheet) → TellsSheet x S → {p : std.Result Size Refusal} → o ≡ p → Gives (in_area (about source.Work (due S qs g)) area) (work_said p) area₁
      files S d {p} z =
          subst (λ (v : std.Result Size Refusal). Gives (in_area (about source.Work (due S qs g)) area) (work_said v) area₁) z
          (subst (λ (v : Narrowing). Gives (in_area (about source.Work v) area) (work_said o) area₁) (sym (is_parted S d)) (i.files S d.handed.sheeted))

      pub codes_refused : {y : Refusal} → o ≡ Err y → {answer : List ℕ} → Completes qs x g work work₁ answer answer area area₁ (Err y)
      codes_refused {y} z {answer} =
          record {
            kept = kept_in i.kept (omega arith) (larger_both narrow_need (28 * size g)).0;
            gives = λ S d. gives_refused (register_on g) answer area (due S qs g) source.Work (number_of y) (place_of y) (files S d z);
          }

      module _ {z : Size} (h : o ≡ Ok z) where
        module _ (S : Sheet) (d : TellsSheet x S) where
          abbrev told : (ms : List Member) × (due S qs g ≡ got ms) × Filed ms area area₁ z
          told = told_file area (due S qs g) z (files S d h)

          by_named : narrow_symbols S (question_symbols qs) ≡ parts S
          unfolding narrow_symbols
          by_named = ap (λ (k : ℕ). refuse (link_fault k) 0 (question_symbols qs) (parts S)) d.handed.named ∙ f.nowhere n (parts S)

          fits : Fits told.0
          fits =
              narrow_fits S d.valid a.ready.path a.ready.plain told.0
              (narrow_path S a.ready.path _ a.ready.is ∙ by_named ∙ sym (is_parted S d) ∙ told.1)

          reads : read narrowed_form (take z.bytes area₁) ≡ got (map flat_of told.0)
          reads = ap (read narrowed_form) (file_written told.2) ∙ narrowed_file_read told.0 fits

        pub file_within : z.bytes ≤ length area₁
        file_within = within (told a.sheet a.tells).2

        pub file_members : HasMembers (take z.bytes area₁)
        file_members =
            record {
              members = map flat_of (told a.sheet a.tells).0;
              reads = reads a.sheet a.tells;
              formed = fits_formed (told a.sheet a.tells).0 (fits a.sheet a.tells);
            }

        pub codes_filed : {work₂ answer answer₁ : List ℕ} → size g ≤ length answer → AnswersFile (take z.bytes area₁) g work₁ work₂ answer answer₁
            → Completes qs x g work work₂ answer answer₁ area area₁ (Ok z)
        codes_filed {answer = answer} {answer₁} l y =
            let at = file_members in
            let (low, high) = larger_both narrow_need (28 * size g) in
            record {
              kept = kept_trans i.kept (y.fills at.members at.reads at.formed).kept (omega arith) (omega arith) low high;
              gives = λ S d.
                  let ms = (told S d).0 in
                  let words = answer_words g.register.records (narrowed_answer (register_on g) (members_of (map flat_of ms))) in
                  let k : answer₁ ≡ sets answer 0 words = rw (le-ltb (length answer) (size g) l) at (y.fills (map flat_of ms) (reads S d) (fits_formed ms (fits S d))).area in
                  gives_filed (register_on g) answer area (due S qs g) ms z (told S d).1 (files S d h) (rw ((grounded g).count, ← members_back ms (fits S d).each) k);
            }
