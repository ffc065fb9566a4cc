-- The members of a narrowing that is not refused can be written as a file: their number and order, their sizes, links and sets.
-- Assumes nothing.
use mathlib.Core.Path.{◌≡◌, refl, sym, ap, ap₂, ◌∙◌, subst}
use mathlib.Core.Bool.{Bool, true, false, ◌&&◌, cond}
use mathlib.Core.List.Memᴰ.{append_left as in_left}
use mathlib.Core.List.Memᴰ.{append_right as in_right}
use mathlib.Core.List.Memᴰ.{head as here}
use mathlib.Core.List.Memᴰ.{not-nil as in-nil}
use mathlib.Core.List.Memᴰ.{tail as there}
use mathlib.Core.List.{List, [], ◌∷◌, Memᴰ as In}
use Prim.Native.Nat.{ℕ, suc, ◌+◌, ◌≤◌, ◌<◌}
use native.Mathlib.Nat.{lt_of_lt_of_le}
use native.Mathlib.Omega.{arith}
use lib.Dec.{T, leb, leb→le}
use lib.ListN.{length}
use Rattle.theory.specs.KindSet.{singleton, IsSet}
use Rattle.theory.specs.PathExpr.{codes, before?, Direction, Label, below?, Via, any, through, Op, PathExpr, step, join, op, closure, Symbol, s_step, postfix, parts, size, erase, plain?, links?}
use Rattle.theory.specs.Sheet.{Sheet, sheet?}
use Rattle.theory.specs.Derivation.{Triples, Step, along, back, Join, joins, Operate, union_left, union_right, conjoins, branches_right, branches_left, Walk, first, then, Derives}
use Rattle.theory.specs.Inference.{Triple, triples}
use Rattle.theory.specs.Merging.{Member, of_triple, merge_via, merge, merged, insert, members, same_shape?}
use Rattle.theory.specs.Narrowing.{link_fault, narrow, ViaFits, SetsFit, MemberFits, Fits}
use Rattle.theory.specs.Result.{got}
use Rattle.theory.proofs.Tests.{tests, and_both, cond-case}
use Rattle.theory.proofs.Lists.{every_in}
use Rattle.theory.proofs.Rules.{Sub, induction}
use Rattle.theory.proofs.Walks.{size_pos}
use Rattle.theory.proofs.KindSet.{singleton_fits, union_fits}
use Rattle.theory.proofs.Sheet.{kinds_fit, names_fit, permits_inside}
use Rattle.theory.proofs.Labels.{below_mono}
use Rattle.theory.proofs.Inference.{exact}
use Rattle.theory.proofs.Merging.{insert_all, members_trace}
use Rattle.theory.proofs.Order.{members_ascend, members_linked}
use Rattle.theory.proofs.Narrowing.{narrow_links, narrow_short, narrow_few, narrow_members}

-- ---- sizes
size_erase : (p : PathExpr) → size (erase p) ≡ size p
size_erase (step d l) = refl
size_erase (join v p q) = ap₂ (λ x y. suc (x + y)) (size_erase p) (size_erase q)
size_erase (op o p q) = ap₂ (λ x y. suc (x + y)) (size_erase p) (size_erase q)
size_erase (closure p) = ap suc (size_erase p)

parts_self : (p : PathExpr) → In p (parts p)
parts_self (step d l) = here refl
parts_self (join v p q) = in_right (parts p) (in_right (parts q) (here refl))
parts_self (op o p q) = in_right (parts p) (in_right (parts q) (here refl))
parts_self (closure p) = in_right (parts p) (here refl)

-- ---- number
insert_length : (m : Member) (ns : List Member) → length (insert m ns) ≤ suc (length ns)
insert_length m [] = omega arith
insert_length m (n ∷ ns) =
    cond-case (λ l. length l ≤ suc (suc (length ns))) (same_shape? m.path n.path) (λ _. omega arith)
    (λ _. cond-case (λ l. length l ≤ suc (suc (length ns))) (before? (codes m.path) (codes n.path)) (λ _. omega arith) (λ _. omega (arith, insert_length m ns)))

members_length : (ts : List Triple) → length (members ts) ≤ length ts
members_length [] = omega arith
members_length (t ∷ ts) = omega (arith, insert_length (of_triple t) (members ts), members_length ts)

-- ---- links
links_mono : {m n : ℕ} → m ≤ n → (p : PathExpr) → T (links? m p) → T (links? n p)
links_mono h (step d l) t = below_mono h l t
links_mono {m} {n} h (join v p q) t = search (tests, links_mono h p (search tests), links_mono h q (search tests))
links_mono {m} {n} h (op o p q) t = search (tests, links_mono h p (search tests), links_mono h q (search tests))
links_mono h (closure p) t = links_mono h p t

link_ok : (b : Bool) → ◌≡◌ {A = ℕ} (cond b 0 11) 0 → T b
link_ok true e = tt
link_ok false e = absurd (omega arith)

links_of : (E : ℕ) (p : PathExpr) → ((s : Symbol) → In s (postfix p) → link_fault E s ≡ 0) → T (links? E p)
links_of E (step d l) h = link_ok (below? l E) (h (s_step d l) (here refl))
links_of E (join v p q) h =
    and_both (links? E p) (links? E q) (links_of E p (λ s i. h s (in_left _ i))) (links_of E q (λ s i. h s (in_right (postfix p) (in_left _ i))))
links_of E (op o p q) h =
    and_both (links? E p) (links? E q) (links_of E p (λ s i. h s (in_left _ i))) (links_of E q (λ s i. h s (in_right (postfix p) (in_left _ i))))
links_of E (closure p) h = links_of E p (λ s i. h s (in_left _ i))

-- ---- what a derivation keeps: the kinds, the links and the sets of its path are in range
module _ (S : Sheet) (ok : T (sheet? S)) where
  kind_fits : (k : ℕ) → k < S.kinds → IsSet (singleton k)
  kind_fits k h = singleton_fits k (lt_of_lt_of_le h (kinds_fit S ok))

  record Ranged (a : ℕ) (p : PathExpr) (b : ℕ) : Type 0 where
    links : T (links? 64 p)
    sets : SetsFit p
    from : a < S.kinds
    to : b < S.kinds

  abbrev Kept : PathExpr → Triples
  Kept o a p b = T (links? 64 o) → SetsFit o → Ranged a p b

  steps : (d : Direction) (l : Label) (a : ℕ) (p : PathExpr) (b : ℕ) → Step S d l a p b → Kept (step d l) a p b
  steps d l a p b (along n g m) t f = let i = permits_inside S ok m in record { links = t; sets = tt; from = i.0; to = i.2 }
  steps d l a p b (back n g m) t f = let i = permits_inside S ok m in record { links = t; sets = tt; from = i.2; to = i.0 }

  joined_range : {a b c : ℕ} {p q : PathExpr} → Ranged a p b → Ranged b q c → Ranged a (join (through (singleton b)) p q) c
  joined_range {b = b} {p = p} {q = q} x y = record {
    links = and_both (links? 64 p) (links? 64 q) x.links y.links;
    sets = (kind_fits b x.to, x.sets, y.sets);
    from = x.from;
    to = y.to;
  }

  both_range : {a b c d : ℕ} {p q : PathExpr} → Ranged a p b → Ranged c q d → T (links? 64 p && links? 64 q) × (SetsFit p × SetsFit q)
  both_range {p = p} {q = q} x y = (and_both (links? 64 p) (links? 64 q) x.links y.links, (x.sets, y.sets))

  join_kept : (v : Via) (o₁ o₂ : PathExpr) (a : ℕ) (p : PathExpr) (b : ℕ) → Join (Kept o₁) (Kept o₂) a p b → Kept (join v o₁ o₂) a p b
  join_kept v o₁ o₂ a p b (joins x y) t f =
      joined_range (x (search tests) f.1) (y (search tests) f.2)

  op_kept : (o : Op) (o₁ o₂ : PathExpr) (a : ℕ) (p : PathExpr) (b : ℕ) → Operate (Kept o₁) (Kept o₂) o a p b → Kept (op o o₁ o₂) a p b
  op_kept o o₁ o₂ a p b x t f = go x
    where
      t₁ : T (links? 64 o₁)
      t₁ = search tests

      t₂ : T (links? 64 o₂)
      t₂ = search tests

      go : {o : Op} {a b : ℕ} {p : PathExpr} → Operate (Kept o₁) (Kept o₂) o a p b → Ranged a p b
      go (union_left x) = x t₁ f.0
      go (union_right y) = y t₂ f.1
      go (conjoins x y) = let u = x t₁ f.0 in let r = both_range u (y t₂ f.1) in record { links = r.0; sets = r.1; from = u.from; to = u.to }
      go (branches_right x y) = let u = x t₁ f.0 in let r = both_range u (y t₂ f.1) in record { links = r.0; sets = r.1; from = u.from; to = u.to }
      go (branches_left x y) = let v = y t₂ f.1 in let r = both_range (x t₁ f.0) v in record { links = r.0; sets = r.1; from = v.from; to = v.to }

  walk_kept : (o : PathExpr) (a : ℕ) (p : PathExpr) (b : ℕ) (ks : List ℕ) → Walk (Kept o) a p b ks → Kept (closure o) a p b
  walk_kept o a p b ks (first x) t f = x t f
  walk_kept o a p b ks (then {b = z} {p = q} {ks = ls} w x) t f = joined_range (walk_kept o a q z ls w t f) (x t f)

  closure_kept : (o : PathExpr) (a : ℕ) (p : PathExpr) (b : ℕ) (ks : List ℕ) → Walk (Kept o) a p b ks → Kept (closure o) a (closure o) b
  closure_kept o a p b ks w t f = let r = walk_kept o a p b ks w t f in record { links = t; sets = f; from = r.from; to = r.to }

  derives_ranged : (o : PathExpr) → Sub (Derives S o) (Kept o)
  derives_ranged = induction S Kept (record { steps = steps; joins = join_kept; ops = op_kept; keeps = closure_kept; unrolls = walk_kept })

-- ---- merging keeps sets in range
via_merge : (v w : Via) → ViaFits v → ViaFits w → ViaFits (merge_via v w)
via_merge any w f g = tt
via_merge (through a) any f g = tt
via_merge (through a) (through b) f g = union_fits a b f g

sets_merge : (p q : PathExpr) → SetsFit p → SetsFit q → SetsFit (merge p q)
sets_merge (step d l) q f g = tt
sets_merge (join v p q) (step d l) f g = f
sets_merge (join v p q) (join w p' q') f g = (via_merge v w f.0 g.0, sets_merge p p' f.1 g.1, sets_merge q q' f.2 g.2)
sets_merge (join v p q) (op o p' q') f g = f
sets_merge (join v p q) (closure p') f g = f
sets_merge (op o p q) (step d l) f g = f
sets_merge (op o p q) (join w p' q') f g = f
sets_merge (op o p q) (op o' p' q') f g = (sets_merge p p' f.0 g.0, sets_merge q q' f.1 g.1)
sets_merge (op o p q) (closure p') f g = f
sets_merge (closure p) (step d l) f g = f
sets_merge (closure p) (join w p' q') f g = f
sets_merge (closure p) (op o' p' q') f g = f
sets_merge (closure p) (closure p') f g = sets_merge p p' f g

record Sets (m : Member) : Type 0 where
  path : SetsFit m.path
  from : IsSet m.from
  to : IsSet m.to

sets_merged : (m n : Member) → T (same_shape? m.path n.path) → Sets m → Sets n → Sets (merged m n)
sets_merged m n a x y = record {
  path = sets_merge m.path n.path x.path y.path;
  from = union_fits m.from n.from x.from y.from;
  to = union_fits m.to n.to x.to y.to;
}

members_sets : (ts : List Triple) → ((t : Triple) → In t ts → Sets (of_triple t)) → (m : Member) → In m (members ts) → Sets m
members_sets [] h m i = absurd (in-nil i)
members_sets (t ∷ ts) h m i = insert_all Sets sets_merged (of_triple t) (members ts) (h t (here refl)) (members_sets ts (λ u j. h u (there j))) m i

pub plain_sets : (p : PathExpr) → T (plain? p) → SetsFit p
plain_sets (step d l) t = tt
plain_sets (join any p q) t = (tt, plain_sets p (search tests), plain_sets q (search tests))
plain_sets (join (through m) p q) t = absurd t
plain_sets (op o p q) t = (plain_sets p (search tests), plain_sets q (search tests))
plain_sets (closure p) t = plain_sets p t

module _ (S : Sheet) (ok : T (sheet? S)) (q : PathExpr) (plain : T (plain? q)) (ms : List Member) (e : narrow S q ≡ got ms) where
  ranged : (t : Triple) → In t (triples S q) → Ranged S ok t.from t.path t.to
  ranged t i =
      derives_ranged S ok q t.from t.path t.to ((exact S ok q (narrow_short S q ms e) t.from t.path t.to).0 i)
      (links_mono (names_fit S ok) q (links_of S.link_names q (narrow_links S q ms e))) (plain_sets q plain)

  member_fits : (m : Member) → In m (members (triples S q)) → MemberFits m
  member_fits m i =
      let s = members_sets (triples S q) (λ t j. let r = ranged t j in record { path = r.sets; from = kind_fits S ok t.from r.from; to = kind_fits S ok t.to r.to }) m i in
      let u = (members_trace (triples S q) m i).path in
      let same : size m.path ≡ size u.0.path = sym (size_erase m.path) ∙ ap size u.2 ∙ size_erase u.0.path in
      let short = leb→le (size u.0.path) 48 (every_in (λ t. leb (size t.path) 48) (narrow_short S q ms e q (parts_self q)) u.1) in
      record {
        some_symbol = size_pos m.path;
        symbols = omega arith;
        links = members_linked (triples S q) (λ t j. (ranged t j).links) m i;
        sets = s.path;
        from_set = s.from;
        to_set = s.to;
      }

  pub narrow_fits : Fits ms
  narrow_fits =
      let c = leb→le (length (triples S q)) 128 (narrow_few S q ms e q (parts_self q)) in
      subst Fits (sym (narrow_members S q ms e)) (record {
        count = omega (arith, members_length (triples S q));
        ascend = members_ascend (triples S q) (λ t j. (ranged t j).links);
        each = member_fits;
      })
