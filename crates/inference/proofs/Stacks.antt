-- The parts on the stack: nodes of the table, whose triples are those of the stack's paths by any sheet that has the table.
-- Assumes nothing.
use mathlib.Core.Path.{◌≡◌, refl, sym, ap, ◌∙◌, subst}
use mathlib.Core.Bool.{true}
use mathlib.Core.List.{List, [], ◌∷◌}
use mathlib.Core.Option.{some}
use Prim.Native.Nat.{ℕ, ◌+◌, ◌-◌, ◌≤◌}
use native.Mathlib.Omega.{arith}
use lib.ListN.{length, get_or, set}
use lib.Seq.{get_or-set_other}
use Rattle.theory.specs.Lists.{NoRepeat}
use Rattle.theory.specs.PathExpr.{PathExpr}
use Rattle.theory.specs.Postfix.{Stack, one_operand, two_operands}
use Rattle.theory.specs.Sheet.{Sheet}
use Rattle.theory.specs.Inference.{Triple, distinct, triples}
use Rattle.theory.specs.Narrowing.{short?}
use Rattle.theory.proofs.Postfix.{none_some, symbols}
use Rattle.theory.proofs.Triples.{distinct_norepeat}
use Rattle.rows.specs.Kept.{Kept}
use Rattle.triples.specs.Parts.{part_of, span, triples_in}
use Rattle.triples.proofs.Growing.{part_kept}
use Rattle.std.specs.Prelude.{Result, Ok}
use Rattle.rules.specs.declared.Excess.{Excess}
use Rattle.rules.specs.Requirements.{Lies}
use Rattle.rules.specs.Outcome.{Ruled}
use Rattle.rules.proofs.RuleOutcome.{made_short}
use Rattle.inference.specs.declared.Operand.{Operand}
use Rattle.inference.specs.Questions.{Sheeted}

-- x is a part of at most 128 nodes below `used`, and its triples are those of the path p
pub record Standing (qs ws t : List ℕ) (K used : ℕ) (x : Operand) (p : PathExpr) : Type 0 where
  pub lies : Lies used x.nodes
  pub few : x.nodes.end ≤ x.nodes.start + 128
  pub short : short? (triples_in qs ws x.nodes) ≡ true
  pub norepeat : NoRepeat (triples_in qs ws x.nodes)
  pub is : (S : Sheet) → Sheeted t K S → triples_in qs ws x.nodes ≡ triples S p

-- a part that a rule has made
pub standing_new : {qs ws ws' t : List ℕ} {K used n o : ℕ} {p : PathExpr} {r : Result ℕ Excess} (ts : List Triple) → Ruled qs ws ws' used (distinct ts) r → r ≡ Ok n
    → ((S : Sheet) → Sheeted t K S → distinct ts ≡ triples S p) → Standing qs ws' t K (used + n) (record { nodes = span used (used + n); from = o }) p
standing_new {qs} {ws' = ws'} {used = used} {n} ts f e is =
    let z : used + n - used ≡ n = omega arith in
    let q : part_of qs ws' used (used + n - used) ≡ distinct ts = ap (part_of qs ws' used) z ∙ f.part n e in
    record {
      lies = record { ordered = omega arith; below = omega arith };
      few = omega (arith, f.few n e);
      short = rw q (made_short (distinct ts) n (sym e ∙ f.is));
      norepeat = rw q (distinct_norepeat ts);
      is = λ S h. q ∙ is S h;
    }

-- what an array has past its end
abbrev pub no_operand : Operand
no_operand = record { nodes = span 0 0; from = 0 }

-- the array holds the parts of a stack, its top last, each with the number of symbols below it
pub data Stacked (qs ws t : List ℕ) (K used : ℕ) (xs : List Operand) : Stack → Type 0 where
  bottom : Stacked qs ws t K used xs []
  above : {p : PathExpr} {st : Stack} → Standing qs ws t K used (get_or xs (length st) no_operand) p → (get_or xs (length st) no_operand).from ≡ length (symbols st)
      → Stacked qs ws t K used xs st → Stacked qs ws t K used xs (p ∷ st)

module _ {qs ws ws' t : List ℕ} {K used used' hi : ℕ} (k : Kept used hi ws ws') (l : used ≤ used') where
  standing_kept : {x : Operand} {p : PathExpr} → Standing qs ws t K used x p → Standing qs ws' t K used' x p
  standing_kept {x} {p} s =
      let e : triples_in qs ws' x.nodes ≡ triples_in qs ws x.nodes = part_kept k qs x.nodes.start (x.nodes.end - x.nodes.start) (omega (arith, s.lies.ordered, s.lies.below)) in
      record {
        lies = record { ordered = s.lies.ordered; below = omega (arith, s.lies.below) };
        few = s.few;
        short = rw e s.short;
        norepeat = rw e s.norepeat;
        is = λ S h. e ∙ s.is S h;
      }

  -- what keeps the words below `used` keeps the stack
  pub stacked_kept : {xs : List Operand} {st : Stack} → Stacked qs ws t K used xs st → Stacked qs ws' t K used' xs st
  stacked_kept bottom = bottom
  stacked_kept (above s e h) = above (standing_kept s) e (stacked_kept h)

-- .. and so does a store at its end
pub stacked_set : {qs ws t : List ℕ} {K used : ℕ} {xs : List Operand} {st : Stack} (d : ℕ) (v : Operand) → length st ≤ d → Stacked qs ws t K used xs st → Stacked qs ws t K used (set xs d v) st
stacked_set d v l bottom = bottom
stacked_set {qs} {ws} {t} {K} {used} {xs} d v l (above {p} {st} s e h) =
    let g = sym (get_or-set_other xs d (length st) v no_operand (omega arith)) in
    above (subst (λ (x : Operand). Standing qs ws t K used x p) g s) (subst (λ (x : Operand). x.from ≡ length (symbols st)) g e) (stacked_set d v (omega arith) h)

-- ---- operands that are found
pub one_found : (f : PathExpr → PathExpr) (st next : Stack) → one_operand f st ≡ some next → (p : PathExpr) × (rest : Stack) × (st ≡ p ∷ rest)
one_found f [] next e = none_some e
one_found f (p ∷ rest) next e = (p, rest, refl)

pub two_found : (f : PathExpr → PathExpr → PathExpr) (st next : Stack) → two_operands f st ≡ some next → (q : PathExpr) × (p : PathExpr) × (rest : Stack) × (st ≡ q ∷ p ∷ rest)
two_found f [] next e = none_some e
two_found f (q ∷ []) next e = none_some e
two_found f (q ∷ p ∷ rest) next e = (q, p, rest, refl)
