-- No idle kind at a join: a cut of a merged path holds what a cut of one of the two holds, so a cut of a member holds what some triple's path holds,
-- and on the universal register a triple is a pair of its own path.
-- Assumes nothing.
use mathlib.Core.Path.{◌≡◌, refl, sym, ap, ap₂, subst}
use mathlib.Core.Logic.{◌⊎◌, ⊎_map, ⊎_elim}
use mathlib.Core.List.Memᴰ.{head as here}
use mathlib.Core.List.Memᴰ.{not-nil as in-nil}
use mathlib.Core.List.Memᴰ.{tail as there}
use mathlib.Core.List.{List, [], ◌∷◌, Memᴰ as In}
use Prim.Native.Nat.{ℕ}
use lib.Dec.{T}
use Rattle.theory.specs.KindSet.{has, singleton}
use Rattle.theory.specs.PathExpr.{Via, any, through, Op, PathExpr, step, join, op, closure, erase, plain?}
use Rattle.theory.specs.Sheet.{Sheet, sheet?}
use Rattle.theory.specs.Inference.{Triple, triples}
use Rattle.theory.specs.Merging.{Member, member, of_triple, same_shape?, merge_via, merge, merged, members}
use Rattle.theory.specs.JoinSets.{plain, with_sets, Even, steps, joins, ops, closures, Inferred}
use Rattle.theory.specs.Narrowing.{narrow}
use Rattle.theory.specs.Result.{got}
use Rattle.theory.specs.NoIdle.{Cut, at_join, join_left, join_right, op_left, op_right, below, NoIdle}
use Rattle.theory.proofs.Tests.{tests}
use Rattle.theory.proofs.KindSet.{has_singleton, singleton_has, has_union}
use Rattle.theory.proofs.KindsOfSheet.{derives_inside}
use Rattle.theory.proofs.Inference.{Short, exact}
use Rattle.theory.proofs.Universal.{universal, derives_own, universal_witness}
use Rattle.theory.proofs.Inclusion.{Under, Passing, join_under, op_under, closure_under}
use Rattle.theory.proofs.Merging.{via_left, via_right, merge_left, merge_right}
use Rattle.theory.proofs.Merging.{same_shape, Covers, covers_refl, covers_trans, merged_left, merged_right, insert_all}
use Rattle.theory.proofs.TriplePaths.{Paths, triples_paths, inferred_paths, triples_inferred}
use Rattle.theory.proofs.JoinSets.{inferred_even, merge_inferred}
use Rattle.theory.proofs.Narrowing.{narrow_short, narrow_members}

-- ---- in the merging of two even paths each is contained
even_erase : {p q : PathExpr} → Even p q → erase p ≡ erase q
even_erase steps = refl
even_erase (joins e f g) = ap₂ (join any) (even_erase f) (even_erase g)
even_erase (ops {o} f g) = ap₂ (op o) (even_erase f) (even_erase g)
even_erase (closures f) = ap closure (even_erase f)

left : {p q : PathExpr} → Even p q → Under p (merge p q)
left {p} {q} e = merge_left p q

right : {p q : PathExpr} → Even p q → Under q (merge p q)
right {p} {q} e = merge_right p q (even_erase e)

-- ---- c holds what p holds with one join cut to k
record CutOf (k : ℕ) (p c : PathExpr) : Type 0 where
  path : PathExpr
  cut : Cut k p path
  under : Under path c

-- the same of one of two paths
abbrev EitherCut : ℕ → PathExpr → PathExpr → PathExpr → Type 0
EitherCut k p q c = CutOf k p c ⊎ CutOf k q c

module _ {k : ℕ} where
  cut_join : {m : ℕ} {p q p' q' : PathExpr} → T (has m k) → Under p p' → Under q q' → CutOf k (join (through m) p q) (join (through (singleton k)) p' q')
  cut_join {p = p} {q = q} t f g = record { path = join (through (singleton k)) p q; cut = at_join t; under = join_under (record { passing = λ r z h. h }) f g }

  cut_left : {v w : Via} {p q c q' : PathExpr} → Passing v w → CutOf k p c → Under q q' → CutOf k (join v p q) (join w c q')
  cut_left {v} {q = q} e x g = record { path = join v x.path q; cut = join_left x.cut; under = join_under e x.under g }

  cut_right : {v w : Via} {p q p' c : PathExpr} → Passing v w → Under p p' → CutOf k q c → CutOf k (join v p q) (join w p' c)
  cut_right {v} {p = p} e f x = record { path = join v p x.path; cut = join_right x.cut; under = join_under e f x.under }

  cut_op_left : {o : Op} {p q c q' : PathExpr} → CutOf k p c → Under q q' → CutOf k (op o p q) (op o c q')
  cut_op_left {o} {q = q} x g = record { path = op o x.path q; cut = op_left x.cut; under = op_under x.under g }

  cut_op_right : {o : Op} {p q p' c : PathExpr} → Under p p' → CutOf k q c → CutOf k (op o p q) (op o p' c)
  cut_op_right {o} {p = p} f x = record { path = op o p x.path; cut = op_right x.cut; under = op_under f x.under }

  cut_below : {p c : PathExpr} → CutOf k p c → CutOf k (closure p) (closure c)
  cut_below x = record { path = closure x.path; cut = below x.cut; under = closure_under x.under }

  -- ---- a cut of a merged path holds what a cut of one of the two holds
  on_left : (v w : Via) {p q p' q' c : PathExpr} → Even q q' → EitherCut k p p' c → EitherCut k (join v p q) (join w p' q') (join (merge_via v w) c (merge q q'))
  on_left v w g = ⊎_map (λ y. cut_left (via_left v w) y (left g)) (λ y. cut_left (via_right v w) y (right g))

  on_right : (v w : Via) {p q p' q' c : PathExpr} → Even p p' → EitherCut k q q' c → EitherCut k (join v p q) (join w p' q') (join (merge_via v w) (merge p p') c)
  on_right v w f = ⊎_map (λ y. cut_right (via_left v w) (left f) y) (λ y. cut_right (via_right v w) (right f) y)

  merge_cut : {p q c : PathExpr} → Even p q → Cut k (merge p q) c → EitherCut k p q c
  merge_cut steps x = elim x [ ]
  merge_cut (joins plain f g) (join_left x) = on_left any any g (merge_cut f x)
  merge_cut (joins plain f g) (join_right x) = on_right any any f (merge_cut g x)
  merge_cut (joins (with_sets {a} {b}) f g) (at_join t) = ⊎_map (λ h. cut_join h (left f) (left g)) (λ h. cut_join h (right f) (right g)) (has_union a b k t)
  merge_cut (joins (with_sets {a} {b}) f g) (join_left x) = on_left (through a) (through b) g (merge_cut f x)
  merge_cut (joins (with_sets {a} {b}) f g) (join_right x) = on_right (through a) (through b) f (merge_cut g x)
  merge_cut (ops f g) (op_left x) = ⊎_map (λ y. cut_op_left y (left g)) (λ y. cut_op_left y (right g)) (merge_cut f x)
  merge_cut (ops f g) (op_right x) = ⊎_map (λ y. cut_op_right (left f) y) (λ y. cut_op_right (right f) y) (merge_cut g x)
  merge_cut (closures f) (below x) = ⊎_map cut_below cut_below (merge_cut f x)

-- ---- the join sets of a triple's path have one kind each: a cut leaves it as it is
plain_uncut : {k : ℕ} (p c : PathExpr) → T (plain? p) → Cut k p c → ⊥
plain_uncut (step d l) c e x = elim x [ ]
plain_uncut (join any p q) c e (join_left {c = d} x) = plain_uncut p d (search tests) x
plain_uncut (join any p q) c e (join_right {c = d} x) = plain_uncut q d (search tests) x
plain_uncut (join (through m) p q) c e x = absurd e
plain_uncut (op o p q) c e (op_left {c = d} x) = plain_uncut p d (search tests) x
plain_uncut (op o p q) c e (op_right {c = d} x) = plain_uncut q d (search tests) x
plain_uncut (closure p) c e (below {c = d} x) = plain_uncut p d e x

abbrev Uncut : PathExpr → Type 0
Uncut p = (k : ℕ) (c : PathExpr) → Cut k p c → c ≡ p

join_uncut : (j : ℕ) (p q : PathExpr) → Uncut p → Uncut q → Uncut (join (through (singleton j)) p q)
join_uncut j p q f g k c (at_join t) = ap (λ i. join (through (singleton i)) p q) (singleton_has j k t)
join_uncut j p q f g k c (join_left {c = d} x) = ap (λ y. join (through (singleton j)) y q) (f k d x)
join_uncut j p q f g k c (join_right {c = d} x) = ap (λ y. join (through (singleton j)) p y) (g k d x)

op_uncut : (o : Op) (p q : PathExpr) → Uncut p → Uncut q → Uncut (op o p q)
op_uncut o p q f g k c (op_left {c = d} x) = ap (λ y. op o y q) (f k d x)
op_uncut o p q f g k c (op_right {c = d} x) = ap (λ y. op o p y) (g k d x)

uncut_paths : Paths (λ p. T (plain? p)) Uncut
uncut_paths = record {
  steps = λ d l e k c x. absurd (plain_uncut (step d l) c e x);
  joins = join_uncut;
  ops = op_uncut;
  closures = λ p e k c x. absurd (plain_uncut (closure p) c e x);
  join_parts = inferred_paths.join_parts;
  op_parts = inferred_paths.op_parts;
  closure_part = inferred_paths.closure_part;
}

-- ---- a cut of a member holds what a triple's path holds, and has its ends
module _ (ts : List Triple) where
  abbrev Brought : ℕ → PathExpr → ℕ → Type 0
  Brought a c b = (t : Triple) × In t ts × Covers (of_triple t) (member a c b)

  record Brings (m : Member) : Type 0 where
    inferred : Inferred m.path
    cuts : (k : ℕ) (c : PathExpr) → Cut k m.path c → Brought m.from c m.to

  widened : {m n : Member} {k : ℕ} {c : PathExpr} → Covers m n → Brings m → CutOf k m.path c → Brought n.from c n.to
  widened {k = k} v x u =
      let b = x.cuts k u.path u.cut in
      (b.0, b.1, covers_trans b.2 (record { from = v.from; to = v.to; path = u.under }))

  merged_brings : (m n : Member) → T (same_shape? m.path n.path) → Brings m → Brings n → Brings (merged m n)
  merged_brings m n a x y =
      let e = inferred_even m.path n.path x.inferred y.inferred (same_shape m.path n.path a) in
      record {
        inferred = merge_inferred m.path n.path x.inferred y.inferred;
        cuts = λ k c z. ⊎_elim (widened (merged_left m n) x) (widened (merged_right m n a) y) (merge_cut e z);
      }

  triple_brings : (t : Triple) → In t ts → Inferred t.path → Uncut t.path → Brings (of_triple t)
  triple_brings t i e f = record {
    inferred = e;
    cuts = λ k c x. (t, i, subst (λ p. Covers (of_triple t) (member (singleton t.from) p (singleton t.to))) (sym (f k c x)) (covers_refl (of_triple t)));
  }

  members_bring : (us : List Triple) → ((u : Triple) → In u us → Brings (of_triple u)) → (m : Member) → In m (members us) → Brings m
  members_bring [] f m i = absurd (in-nil i)
  members_bring (u ∷ us) f m i = insert_all Brings merged_brings (of_triple u) (members us) (f u (here refl)) (members_bring us (λ t j. f t (there j))) m i

-- ---- of what narrowing gives
module _ (S : Sheet) (ok : T (sheet? S)) (q : PathExpr) (h : T (plain? q)) (short : Short S q) where
  brings : (m : Member) → In m (members (triples S q)) → Brings (triples S q) m
  brings = members_bring (triples S q) (triples S q)
      (λ t i. triple_brings (triples S q) t i (triples_inferred S q h t i) (triples_paths S (λ p. T (plain? p)) Uncut uncut_paths q h t i))

  whole : NoIdle S (members (triples S q))
  whole m i k c x =
      let (t, j, v) = (brings m i).cuts k c x in
      let d = (exact S ok q short t.from t.path t.to).0 j in
      let w = derives_inside S ok q t.from t.path t.to d in
      universal_witness S ok c (λ a b. T (has m.from a) × T (has m.to b)) t.from t.to w.0 w.1
      (v.path.holds (universal S) t.from t.to (derives_own S ok q h t.from t.path t.to d))
      (v.from t.from (has_singleton t.from), v.to t.to (has_singleton t.to))

pub no_idle : (S : Sheet) → T (sheet? S) → (q : PathExpr) → T (plain? q) → (ms : List Member) → narrow S q ≡ got ms → NoIdle S ms
no_idle S ok q h ms e = subst (λ l. NoIdle S l) (sym (narrow_members S q ms e)) (whole S ok q h (narrow_short S q ms e))
