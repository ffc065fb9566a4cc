-- Refusals 12 and 13 of one part are those of the rules, where its own parts are short.
-- Assumes nothing.
use mathlib.Core.Path.{◌≡◌, refl, sym, subst}
use mathlib.Core.Logic.{◌⊎◌, inl, inr, ⊎_elim}
use mathlib.Core.Bool.{Bool, true, false, cond}
use mathlib.Core.List.Memᴰ.{append_cases as in-append}
use mathlib.Core.List.Memᴰ.{eq_of_singleton as in_one}
use mathlib.Core.List.{List, [], ◌∷◌, ◌++◌, Memᴰ as In}
use Prim.Native.Nat.{ℕ}
use native.Mathlib.Omega.{arith}
use lib.Dec.{T, not_T, leb, leb→le, nleb→lt}
use lib.ListN.{length}
use Rattle.theory.specs.Lists.{First, NoRepeat}
use Rattle.theory.specs.PathExpr.{PathExpr, step, join, op, closure, parts, size}
use Rattle.theory.specs.Sheet.{Sheet, sheet?}
use Rattle.theory.specs.Derivation.{Derives}
use Rattle.theory.specs.Inference.{Triple, of_step, of_join, of_op, of_closure, triples}
use Rattle.theory.specs.Narrowing.{short?, few?, part_fault, TooLong, TooMany, Faulty}
use Rattle.theory.proofs.Tests.{of_true}
use Rattle.theory.proofs.Lists.{every_in, in_every}
use Rattle.theory.proofs.Distinct.{length_le}
use Rattle.theory.proofs.Rules.{Sub, closure_rule_map}
use Rattle.theory.proofs.Triples.{Of, in_distinct, distinct_norepeat}
use Rattle.theory.proofs.ClosureRule.{in_closure}
use Rattle.theory.proofs.Inference.{to_sub, from_sub, Short, inside, exact, step_exact, join_exact, op_exact}
use Rattle.theory.proofs.FirstFailing.{first_holds, first_in, scan, Fails, fails?, holds_not}

abbrev short_one : Triple → Bool
short_one t = leb (size t.path) 48

-- the parts of a part are short
abbrev pub ShortBelow : Sheet → PathExpr → Type 0
ShortBelow S (step d l) = Unit {0}
ShortBelow S (join v p q) = Short S p × Short S q
ShortBelow S (op o p q) = Short S p × Short S q
ShortBelow S (closure p) = Short S p

module _ (S : Sheet) (ok : T (sheet? S)) where
  to_derives : (o : PathExpr) → ShortBelow S o → Sub (Of (triples S o)) (Derives S o)
  to_derives (step d l) h = to_sub (step_exact S ok d l)
  to_derives (join v p q) h = to_sub (join_exact S ok v p q (exact S ok p h.0) (exact S ok q h.1))
  to_derives (op o p q) h = to_sub (op_exact S ok o p q (exact S ok p h.0) (exact S ok q h.1))
  to_derives (closure p) h = λ a r b m.
      let e = exact S ok p h in
      closure_rule_map (to_sub e) (from_sub e) (in_closure S.kinds (triples S p) (inside S ok p e) p (in_distinct (of_closure S.kinds p (triples S p)) m))

  two : (xs ys : List PathExpr) (o p : PathExpr) → (In p xs → T (short? (triples S p))) → (In p ys → T (short? (triples S p))) → T (short? (triples S o))
      → In p (xs ++ (ys ++ (o ∷ []))) → T (short? (triples S p))
  two xs ys o p f g h m = go (in-append xs m)
    where
      last : In p ys ⊎ In p (o ∷ []) → T (short? (triples S p))
      last (inl i) = g i
      last (inr i) = subst (λ x. T (short? (triples S x))) (sym (in_one i)) h

      go : In p xs ⊎ In p (ys ++ (o ∷ [])) → T (short? (triples S p))
      go (inl i) = f i
      go (inr i) = last (in-append ys i)

  all_short : (o : PathExpr) → ShortBelow S o → T (short? (triples S o)) → Short S o
  all_short (step d l) h t p m = subst (λ x. T (short? (triples S x))) (sym (in_one m)) t
  all_short (join v x y) h t p m = two (parts x) (parts y) (join v x y) p (h.0 p) (h.1 p) t m
  all_short (op o x y) h t p m = two (parts x) (parts y) (op o x y) p (h.0 p) (h.1 p) t m
  all_short (closure x) h t p m = two (parts x) [] (closure x) p (h p) (λ i. elim i [ ]) t m

  norepeat : (o : PathExpr) → NoRepeat (triples S o)
  norepeat (step d l) = distinct_norepeat (of_step S d l)
  norepeat (join v p q) = distinct_norepeat (of_join (triples S p) (triples S q))
  norepeat (op o p q) = distinct_norepeat (of_op o (triples S p) (triples S q))
  norepeat (closure p) = distinct_norepeat (of_closure S.kinds p (triples S p))

-- what a part's refusal says, 0 being none
pub data PartIs (S : Sheet) (o : PathExpr) : ℕ → Type 0 where
  fine : ¬ Faulty S o → PartIs S o 0
  many : ¬ TooLong S o → TooMany S o → PartIs S o 12
  long : TooLong S o → PartIs S o 13

module _ (S : Sheet) (ok : T (sheet? S)) (o : PathExpr) (below : ShortBelow S o) where
  listed : (t : Triple) → In t (triples S o) → Derives S o t.from t.path t.to
  listed t m = to_derives S ok o below t.from t.path t.to m

  a_long_one : ¬ T (short? (triples S o)) → TooLong S o
  a_long_one n = go (scan (fails? short_one) (triples S o))
    where
      go : ((i : ℕ) × (t : Triple) × First (Fails short_one) (triples S o) i t) ⊎ ((t : Triple) → In t (triples S o) → ¬ Fails short_one t) → TooLong S o
      go (inl f) = let t = f.1 in (t.from, t.path, t.to, listed t (first_in f.2), nleb→lt (size t.path) 48 (first_holds f.2))
      go (inr h) = absurd (n (in_every short_one (triples S o) (λ t m. of_true (short_one t) (holds_not short_one t (h t m)))))

  module _ (short : T (short? (triples S o))) where
    all_listed : (t : Triple) → Derives S o t.from t.path t.to → In t (triples S o)
    all_listed t d = (exact S ok o (all_short S ok o below short) t.from t.path t.to).1 d

    none_long : ¬ TooLong S o
    none_long l =
        let t : Triple = record { from = l.0; path = l.1; to = l.2 } in
        let k = leb→le (size l.1) 48 (every_in short_one short (all_listed t l.3)) in
        omega (arith, l.4)

    not_many : T (few? (triples S o)) → ¬ TooMany S o
    not_many few m =
        let l = length_le m.list (triples S o) m.distinct (λ t i. all_listed t (m.derived t i)) in
        omega (arith, leb→le (length (triples S o)) 128 few, m.many)

  too_many : ¬ T (few? (triples S o)) → TooMany S o
  too_many n = record {
    list = triples S o;
    distinct = norepeat S ok o;
    derived = listed;
    many = nleb→lt (length (triples S o)) 128 (not_T (few? (triples S o)) n);
  }

  pub part_is : PartIs S o (part_fault S o)
  unfolding part_fault
  part_is = go (short? (triples S o)) (few? (triples S o)) refl refl
    where
      go : (b c : Bool) → short? (triples S o) ≡ b → few? (triples S o) ≡ c → PartIs S o (cond b (cond c 0 12) 13)
      go true true e f = fine (λ x. ⊎_elim (none_long (of_true _ e)) (not_many (of_true _ e) (of_true _ f)) x)
      go true false e f = many (none_long (of_true _ e)) (too_many (λ t. subst T f t))
      go false c e f = long (a_long_one (λ t. subst T e t))
