-- A shortened question has the plain answers of the question; so what narrowing makes of it agrees with the question.
-- Assumes nothing.
use mathlib.Core.Path.{◌≡◌, sym, ap, ◌∙◌, subst}
use mathlib.Core.List.{List}
use mathlib.Core.Option.{some}
use Prim.Native.Nat.{ℕ}
use lib.Dec.{T}
use lib.ListN.{get_or}
use Rattle.bits.specs.Bit.{bit_of}
use Rattle.theory.specs.PathExpr.{PathExpr}
use Rattle.theory.specs.Postfix.{path_of}
use Rattle.theory.specs.Register.{Register}
use Rattle.theory.specs.Demand3.{Demand3}
use Rattle.theory.proofs.Demand3.{same_question}
use Rattle.theory.specs.Result.{got}
use Rattle.fields.specs.declared.Size.{Size}
use Rattle.fields.specs.Call.{Returned}
use Rattle.question.specs.Form.{question_symbols}
use Rattle.answer.specs.Calls.{members_of, plain_call}
use Rattle.answer.proofs.SamePairs as SamePairs
use Rattle.shortening.specs.Shortens.{ShortenTook, short_file, Shortens}
use Rattle.shortening.proofs.Shortens.{shortens}
use Rattle.paths.specs.Agreement.{NarrowTook, file_written, BothAnswer, Agrees}
use Rattle.paths.specs.Shortening.{AnswersAlike}
use Rattle.paths.proofs.Agreement.{agreement}

module _ {question short : List ℕ} {z : Size} (h : Shortens question short z) where
  plain_same : (register work answer : List ℕ) → plain_call short register work answer ≡ plain_call question register work answer
  plain_same = SamePairs.same_answer
      (record { codes = h.short_codes; reads = h.file_reads; path = h.short_path }) (record { codes = h.codes; reads = h.question_reads; path = h.path }) h.same_pairs

  module _ (sheet work area : List ℕ) (w : Size) (took : NarrowTook sheet short work area w) where
    abbrev file : List ℕ
    file = file_written sheet short work area w

    abbrev g : Agrees sheet short file w
    g = agreement sheet short work area w took

    -- the path that narrowing read
    read_path : g.q ≡ h.q
    read_path =
        let e : got h.short_codes ≡ got g.codes = sym h.file_reads ∙ g.question_reads in
        let c : h.short_codes ≡ g.codes = cc in
        let s : some g.q ≡ some h.q = sym g.path ∙ ap (λ (cs : List ℕ). path_of (question_symbols cs)) (sym c) ∙ h.short_path in
        cc

    of_short : {register work₁ answer₁ work₂ answer₂ : List ℕ} {r : Register} → BothAnswer question file register work₁ answer₁ work₂ answer₂ r
        → BothAnswer short file register work₁ answer₁ work₂ answer₂ r
    of_short {register} {work₁} {answer₁} a = record {
      reads = a.reads;
      plain = ap (λ (x : Returned (Unit {0}) (List ℕ)). x.outcome) (plain_same register work₁ answer₁)
          ∙ a.plain;
      narrowed = a.narrowed;
    }

    narrowed_same : Agrees sheet question file w
    narrowed_same =
        record {
          S = g.S;
          sheet_reads = g.sheet_reads;
          codes = h.codes;
          question_reads = h.question_reads;
          q = h.p;
          path = h.path;
          flats = g.flats;
          file_reads = g.file_reads;
          members = g.members;
          bytes = g.bytes;
          meaning = same_question h.same_pairs (subst (λ (x : PathExpr). Demand3 g.S x (members_of g.flats)) read_path g.meaning);
          no_idle = g.no_idle;
          equal = λ {register} {work = work₁} {answer = answer₁} {work'} {answer'} {r} a obeys k l.
              g.equal (of_short a) obeys k l ∙ ap (λ (x : Returned (Unit {0}) (List ℕ)). get_or x.areas k 0) (plain_same register work₁ answer₁);
          subset = λ {register} {work = work₁} {answer = answer₁} {work'} {answer'} {r} a k j l b.
              subst (λ (x : Returned (Unit {0}) (List ℕ)). T (bit_of (get_or x.areas k 0) j)) (plain_same register work₁ answer₁) (g.subset (of_short a) k j l b);
        }

pub answers_alike : (question area : List ℕ) (z : Size) → ShortenTook question area z → AnswersAlike question (short_file question area z)
answers_alike question area z t =
    let h = shortens question area z t in
    record { plain = plain_same h; narrowed = narrowed_same h }
