-- Members that fit are well formed as a file has them, so that the file of a narrowing is read as its members.
-- Assumes nothing.
use Prim.Native.Nat.{ℕ, ◌<◌}
use mathlib.Core.Path.{◌≡◌, refl, sym, ap, ap₂, ◌∙◌, subst}
use mathlib.Core.List.Memᴰ.{head as here}
use mathlib.Core.List.Memᴰ.{tail as there}
use mathlib.Core.List.{List, [], ◌∷◌, map, Memᴰ as In}
use lib.Dec.{T}
use lib.ListN.{length, length-map}
use native.Mathlib.Omega.{arith}
use Rattle.theory.specs.PathExpr.{PathExpr, Symbol, postfix, size, code, codes, before?, plain?}
use Rattle.theory.specs.Postfix.{read as read-paths}
use Rattle.theory.specs.Sheet.{Sheet, sheet?}
use Rattle.theory.specs.Merging.{Member, Ascending}
use Rattle.theory.specs.Narrowing.{narrow, MemberFits, Fits}
use Rattle.theory.proofs.Tests.{to_true}
use Rattle.theory.proofs.Postfix.{path_of_postfix, single}
use Rattle.theory.proofs.Members.{narrow_fits}
use Rattle.theory.specs.Result.{got}
use Rattle.fields.specs.Reading.{read}
use Rattle.narrowed_question.specs.Form.{order_codes, narrowed_form}
use Rattle.symbols.specs.Symbols.{Runs, number_symbol}
use Rattle.narrowed_question.specs.Formed.{Formed, InOrder, WellFormed}
use Rattle.narrowed_question.specs.Members.{flat_of, narrowed_file}
use Rattle.symbols.proofs.Numbers.{AllHeld, number_of, held_postfix, length_postfix}
use Rattle.symbols.proofs.Counting.{read_runs}
use Rattle.narrowed_question.proofs.WrittenThenRead.{read_encode}

-- theory's codes are those by which members are compared in a file
numbered_codes : (ss : List Symbol) → AllHeld ss → order_codes (map number_symbol ss) ≡ map code ss
numbered_codes [] h = refl
numbered_codes (s ∷ ss) h = ap₂ (λ (c : ℕ) (cs : List ℕ). c ∷ cs) (number_of s h.0).same_code (numbered_codes ss h.1)

-- ---- one member
module _ (m : Member) (f : MemberFits m) where
  symbol_count : length (flat_of m).symbols ≡ size m.path
  symbol_count = length-map (postfix m.path) number_symbol ∙ length_postfix m.path

  runs : Runs (record { left = length (flat_of m).symbols; depth = 0 }) (flat_of m).symbols
  runs =
      subst (λ (n : ℕ). Runs (record { left = n; depth = 0 }) (flat_of m).symbols) (sym (length-map (postfix m.path) number_symbol))
      (read_runs (postfix m.path) [] m.path (held_postfix m.path f.links f.sets) (single (read-paths (postfix m.path) []) m.path (path_of_postfix m.path)))

  member_formed : Formed (flat_of m)
  member_formed =
      let c = symbol_count in
      record { some = omega arith; few = omega arith; from = f.from_set; to = f.to_set; runs = runs }

  same_codes : order_codes (flat_of m).symbols ≡ codes m.path
  same_codes = numbered_codes (postfix m.path) (held_postfix m.path f.links f.sets)

-- ---- their order
nothing_before : (cs : List ℕ) → 0 < length cs → T (before? [] cs)
nothing_before [] h = absurd (omega arith)
nothing_before (c ∷ cs) h = tt

in_order : (prev : List ℕ) (ms : List Member) → ((m : Member) → In m ms → T (before? prev (codes m.path))) → Ascending ms → ((m : Member) → In m ms → MemberFits m)
    → InOrder prev (map flat_of ms)
in_order prev [] first a f = tt
in_order prev (m ∷ ms) first a f =
    let fm = f m (here refl) in
    let e = same_codes m fm in (
      member_formed m fm,
      (
        ap (before? prev) e ∙ to_true (before? prev (codes m.path)) (first m (here refl)),
        subst (λ (cs : List ℕ). InOrder cs (map flat_of ms)) (sym e) (in_order (codes m.path) ms a.0 a.1 (λ n i. f n (there i))),
      ),
    )

pub fits_formed : (ms : List Member) → Fits ms → WellFormed (map flat_of ms)
fits_formed ms f =
    record {
      few = (let h = f.count in let c = length-map ms flat_of in omega arith);
      in_order = in_order [] ms (λ m i. nothing_before (codes m.path) (codes_some m (f.each m i))) f.ascend f.each;
    }
  where
    codes_some : (m : Member) → MemberFits m → 0 < length (codes m.path)
    codes_some m g = omega (arith, length-map (postfix m.path) code, length_postfix m.path, g.some_symbol)

-- the file of members that fit is read as them
pub narrowed_file_read : (ms : List Member) → Fits ms → read narrowed_form (narrowed_file ms) ≡ got (map flat_of ms)
unfolding narrowed_file
narrowed_file_read ms f = read_encode (map flat_of ms) (fits_formed ms f)

-- the file of a narrowing is read as its members
pub narrowed_back : (S : Sheet) → T (sheet? S) → (q : PathExpr) → T (plain? q) → (ms : List Member) → narrow S q ≡ got ms
    → read narrowed_form (narrowed_file ms) ≡ got (map flat_of ms)
narrowed_back S ok q plain ms e = narrowed_file_read ms (narrow_fits S ok q plain ms e)
