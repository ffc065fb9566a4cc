-- Demand 3: for every sheet and question that narrowing does not refuse, the members add no pair on any register, lose none on a
-- register that conforms to the sheet, and their from sets and to sets are exact.
-- Assumes nothing.
use mathlib.Core.Path.{◌≡◌, refl, sym, ap, ◌∙◌, subst}
use mathlib.Core.Option.{some}
use mathlib.Core.Logic.{◌↔◌}
use mathlib.Core.List.Memᴰ.{head as here}
use mathlib.Core.List.Memᴰ.{not-nil as in-nil}
use mathlib.Core.List.{List, [], ◌∷◌, Memᴰ as In}
use Prim.Native.Nat.{ℕ}
use lib.Dec.{T}
use Rattle.theory.specs.KindSet.{has}
use Rattle.theory.specs.PathExpr.{PathExpr, Symbol, postfix, plain?}
use Rattle.theory.specs.Postfix.{path_of}
use Rattle.theory.specs.Register.{Register, kind, Holds}
use Rattle.theory.specs.Sheet.{Sheet, sheet?, conforms?}
use Rattle.theory.specs.Derivation.{Derives}
use Rattle.theory.specs.Inference.{Triple, triples}
use Rattle.theory.specs.Merging.{Member, members}
use Rattle.theory.specs.Narrowing.{link_fault, part_fault, refuse, narrow, parted_as, parted, narrow_symbols}
use Rattle.theory.specs.Result.{got}
use Rattle.theory.specs.Demand3.{Pair, Answer, Witness, Demand3}
use Rattle.theory.proofs.KindSet.{has_singleton}
use Rattle.theory.proofs.KindsOfSheet.{derives_inside}
use Rattle.theory.proofs.Inference.{Short, exact}
use Rattle.theory.proofs.Soundness.{erase_holds, derives_sound}
use Rattle.theory.proofs.Completeness.{derives_complete}
use Rattle.theory.proofs.Universal.{derives_held, universal_witness}
use Rattle.theory.proofs.Merging.{members_cover, members_trace}
use Rattle.theory.proofs.Narrowing.{narrow_short, narrow_members}
use Rattle.theory.proofs.Postfix.{path_of_postfix, postfix_path_of, ended_parts}

module _ (S : Sheet) (ok : T (sheet? S)) (q : PathExpr) (plain : T (plain? q)) (short : Short S q) where
  abbrev ms : List Member
  ms = members (triples S q)

  derives : (t : Triple) → In t (triples S q) → Derives S q t.from t.path t.to
  derives t m = (exact S ok q short t.from t.path t.to).0 m

  sound : (r : Register) (s t : ℕ) → Answer r ms s t → Holds r q s t
  sound r s t a =
      let m = a.0 in
      let u = (members_trace (triples S q) m a.1).path in
      derives_sound r S q u.0.from u.0.path u.0.to (derives u.0 u.1) plain s t
      (subst (λ p. Holds r p s t) u.2 (erase_holds r m.path s t a.2.holds))

  complete : (r : Register) → T (conforms? S r) → (s t : ℕ) → Holds r q s t → Answer r ms s t
  complete r conforms s t h =
      let f = derives_complete S ok r conforms q short s t h in
      let a = kind r s in
      let b = kind r t in
      let c = members_cover (triples S q) ((exact S ok q short a f.0 b).1 f.1) in (
        c.0,
        c.1,
        record {
          holds = c.2.path.holds r s t f.2;
          from_kind = c.2.from a (has_singleton a);
          to_kind = c.2.to b (has_singleton b);
        },
      )

  -- a triple of the question, as a pair of the universal register
  witness : (P : ℕ → ℕ → Type 0) (t : Triple) → In t (triples S q) → P t.from t.to → Witness S q P
  witness P t m e =
      let d = derives t m in
      let i = derives_inside S ok q t.from t.path t.to d in
      universal_witness S ok q P t.from t.to i.0 i.1 (derives_held S ok q plain t.from t.path t.to d) e

  -- one end of the members: which set of a member it is, and which kind of a pair
  module _ (set_of : Member → ℕ) (end_of : ℕ → ℕ → ℕ)
      (traced : (m : Member) → In m ms → (k : ℕ) → T (has (set_of m) k) → (t : Triple) × In t (triples S q) × (end_of t.from t.to ≡ k))
      (met : (r : Register) (m : Member) (s t : ℕ) → Pair r m s t → T (has (set_of m) (end_of (kind r s) (kind r t)))) where
    ends : (k : ℕ) → ((m : Member) × In m ms × T (has (set_of m) k)) ↔ Witness S q (λ a b. end_of a b ≡ k)
    ends k = (to_witness, of_witness)
      where
        to_witness : (m : Member) × In m ms × T (has (set_of m) k) → Witness S q (λ a b. end_of a b ≡ k)
        to_witness m = let u = traced m.0 m.1 k m.2 in witness (λ a b. end_of a b ≡ k) u.0 u.1 u.2

        of_witness : Witness S q (λ a b. end_of a b ≡ k) → (m : Member) × In m ms × T (has (set_of m) k)
        of_witness w =
            let a = complete w.register w.conforms w.from w.to w.holds in
            (a.0, a.1, subst (λ x. T (has (set_of a.0) x)) w.kinds (met w.register a.0 w.from w.to a.2))

  none_given : ms ≡ [] → ¬ Witness S q (λ a b. Unit {0})
  none_given e w =
      let a = complete w.register w.conforms w.from w.to w.holds in
      in-nil (subst (λ l. In a.0 l) e a.1)

  none_left : ¬ Witness S q (λ a b. Unit {0}) → ms ≡ []
  none_left n = go ms refl
    where
      go : (l : List Member) → ms ≡ l → l ≡ []
      go [] e = refl
      go (m ∷ l) e =
          let u = (members_trace (triples S q) m (subst (λ l. In m l) (sym e) (here refl))).path in
          absurd (n (witness (λ a b. Unit {0}) u.0 u.1 tt))

  whole : Demand3 S q ms
  whole = record {
    sound = sound;
    complete = complete;
    from_ends = ends (λ m. m.from) (λ a b. a) (λ m i. (members_trace (triples S q) m i).from) (λ r m s t p. p.from_kind);
    to_ends = ends (λ m. m.to) (λ a b. b) (λ m i. (members_trace (triples S q) m i).to) (λ r m s t p. p.to_kind);
    no_members = (none_given, none_left);
  }

pub demand3 : (S : Sheet) → T (sheet? S) → (q : PathExpr) → T (plain? q) → (ms : List Member) → narrow S q ≡ got ms → Demand3 S q ms
demand3 S ok q plain ms e = subst (λ l. Demand3 S q l) (sym (narrow_members S q ms e)) (whole S ok q plain (narrow_short S q ms e))

-- ---- the same of a question's symbols
pub narrow_postfix : (S : Sheet) (q : PathExpr) → narrow_symbols S (postfix q) ≡ narrow S q
unfolding narrow_symbols parted narrow
narrow_postfix S q =
    ap (λ o. refuse (link_fault S.link_names) 0 (postfix q) (parted_as S (postfix q) o)) (path_of_postfix q)
    ∙ ap (λ ps. refuse (link_fault S.link_names) 0 (postfix q) (refuse (part_fault S) 0 ps (got (members (triples S q))))) (ended_parts q)

pub narrow_path : (S : Sheet) (q : PathExpr) (ss : List Symbol) → path_of ss ≡ some q → narrow S q ≡ narrow_symbols S ss
narrow_path S q ss e = sym (narrow_postfix S q) ∙ ap (narrow_symbols S) (postfix_path_of ss q e)

pub demand3_symbols : (S : Sheet) → T (sheet? S) → (ss : List Symbol) (q : PathExpr) → path_of ss ≡ some q → T (plain? q)
    → (ms : List Member) → narrow_symbols S ss ≡ got ms → Demand3 S q ms
demand3_symbols S ok ss q read plain ms e =
    demand3 S ok q plain ms (narrow_path S q ss read ∙ e)

-- ---- of a question with the same pairs on every register
witness_same : {S : Sheet} {p q : PathExpr} {P : ℕ → ℕ → Type 0} → ((r : Register) (s t : ℕ) → Holds r p s t → Holds r q s t) → Witness S p P → Witness S q P
witness_same f w = record {
  register = w.register;
  well_formed = w.well_formed;
  conforms = w.conforms;
  from = w.from;
  to = w.to;
  holds = f w.register w.from w.to w.holds;
  kinds = w.kinds;
}

pub same_question : {S : Sheet} {p q : PathExpr} {ms : List Member} → ((r : Register) (s t : ℕ) → Holds r p s t ↔ Holds r q s t) → Demand3 S p ms → Demand3 S q ms
same_question {S} {p} {q} {ms} f d =
    let there : (r : Register) (s t : ℕ) → Holds r p s t → Holds r q s t = λ r s t. (f r s t).0 in
    let back : (r : Register) (s t : ℕ) → Holds r q s t → Holds r p s t = λ r s t. (f r s t).1 in
    record {
      sound = λ r s t a. there r s t (d.sound r s t a);
      complete = λ r c s t h. d.complete r c s t (back r s t h);
      from_ends = λ k. (λ m. witness_same there ((d.from_ends k).0 m), λ w. (d.from_ends k).1 (witness_same back w));
      to_ends = λ k. (λ m. witness_same there ((d.to_ends k).0 m), λ w. (d.to_ends k).1 (witness_same back w));
      no_members = (λ e w. d.no_members.0 e (witness_same back w), λ n. d.no_members.1 (λ w. n (witness_same there w)));
    }
