-- Merging: each triple's pairs and kinds are in a member; each member's path is a triple's but for the join sets, and its end kinds are triples'.
-- Assumes nothing.
use mathlib.Core.Path.{◌≡◌, refl, sym, ap, ap₂, ◌∙◌, subst}
use mathlib.Core.Logic.{inl, inr}
use mathlib.Core.List.Memᴰ.{head as here}
use mathlib.Core.List.Memᴰ.{not-nil as in-nil}
use mathlib.Core.List.Memᴰ.{tail as there}
use mathlib.Core.List.{List, [], ◌∷◌, Memᴰ as In}
use Prim.Native.Nat.{ℕ}
use lib.Dec.{T}
use Rattle.theory.specs.KindSet.{has}
use Rattle.theory.specs.PathExpr.{codes, before?, Via, any, through, PathExpr, step, join, op, closure, erase, same?, path_discrete}
use Rattle.theory.specs.Register.{Register, PassesThrough}
use Rattle.theory.specs.Inference.{Triple}
use Rattle.theory.specs.Merging.{Member, of_triple, same_shape?, merge_via, merge, merged, insert, members}
use Rattle.theory.proofs.Tests.{of_decided, cond-case, apart}
use Rattle.theory.proofs.KindSet.{singleton_has, has_union_left, has_union_right, has_union}
use Rattle.theory.proofs.Inclusion.{Under, Passing, under_refl, join_under, op_under, closure_under}

pub same_shape : (p q : PathExpr) → T (same_shape? p q) → erase p ≡ erase q
unfolding same_shape? same?
same_shape p q t = of_decided (path_discrete (erase p) (erase q)) t

pub merge_erase : (p q : PathExpr) → erase (merge p q) ≡ erase p
merge_erase (step d l) q = refl
merge_erase (join v p q) (step d l) = refl
merge_erase (join v p q) (join w p' q') = ap₂ (λ x y. join any x y) (merge_erase p p') (merge_erase q q')
merge_erase (join v p q) (op o p' q') = refl
merge_erase (join v p q) (closure p') = refl
merge_erase (op o p q) (step d l) = refl
merge_erase (op o p q) (join w p' q') = refl
merge_erase (op o p q) (op o' p' q') = ap₂ (λ x y. op o x y) (merge_erase p p') (merge_erase q q')
merge_erase (op o p q) (closure p') = refl
merge_erase (closure p) (step d l) = refl
merge_erase (closure p) (join w p' q') = refl
merge_erase (closure p) (op o' p' q') = refl
merge_erase (closure p) (closure p') = ap closure (merge_erase p p')

-- ---- each of two paths of one shape is contained in their merging
passes_left : (v w : Via) (r : Register) (z : ℕ) → PassesThrough r v z → PassesThrough r (merge_via v w) z
passes_left any w r z h = tt
passes_left (through a) any r z h = tt
passes_left (through a) (through b) r z h = search (has_union_left, has_union_right)

passes_right : (v w : Via) (r : Register) (z : ℕ) → PassesThrough r w z → PassesThrough r (merge_via v w) z
passes_right any w r z h = tt
passes_right (through a) any r z h = tt
passes_right (through a) (through b) r z h = search (has_union_left, has_union_right)

pub via_left : (v w : Via) → Passing v (merge_via v w)
via_left v w = record { passing = passes_left v w }

pub via_right : (v w : Via) → Passing w (merge_via v w)
via_right v w = record { passing = passes_right v w }

pub merge_left : (p q : PathExpr) → Under p (merge p q)
merge_left (step d l) q = under_refl
merge_left (join v p q) (step d l) = under_refl
merge_left (join v p q) (join w p' q') = join_under (via_left v w) (merge_left p p') (merge_left q q')
merge_left (join v p q) (op o p' q') = under_refl
merge_left (join v p q) (closure p') = under_refl
merge_left (op o p q) (step d l) = under_refl
merge_left (op o p q) (join w p' q') = under_refl
merge_left (op o p q) (op o' p' q') = op_under (merge_left p p') (merge_left q q')
merge_left (op o p q) (closure p') = under_refl
merge_left (closure p) (step d l) = under_refl
merge_left (closure p) (join w p' q') = under_refl
merge_left (closure p) (op o' p' q') = under_refl
merge_left (closure p) (closure p') = closure_under (merge_left p p')

pub merge_right : (p q : PathExpr) → erase p ≡ erase q → Under q (merge p q)
merge_right (step d l) (step d' l') e = subst (λ x. Under x (step d l)) e under_refl
merge_right (step d l) (join w p' q') e = apart (cc)
merge_right (step d l) (op o' p' q') e = apart (cc)
merge_right (step d l) (closure p') e = apart (cc)
merge_right (join v p q) (step d' l') e = apart (cc)
merge_right (join v p q) (join w p' q') e = join_under (via_right v w) (merge_right p p' (cc)) (merge_right q q' (cc))
merge_right (join v p q) (op o' p' q') e = apart (cc)
merge_right (join v p q) (closure p') e = apart (cc)
merge_right (op o p q) (step d' l') e = apart (cc)
merge_right (op o p q) (join w p' q') e = apart (cc)
merge_right (op o p q) (op o' p' q') e =
    let k : o ≡ o' = cc in
    subst (λ x. Under (op x p' q') (op o (merge p p') (merge q q'))) k (op_under (merge_right p p' (cc)) (merge_right q q' (cc)))
merge_right (op o p q) (closure p') e = apart (cc)
merge_right (closure p) (step d' l') e = apart (cc)
merge_right (closure p) (join w p' q') e = apart (cc)
merge_right (closure p) (op o' p' q') e = apart (cc)
merge_right (closure p) (closure p') e = closure_under (merge_right p p' (cc))

-- ---- nothing is lost
pub record Covers (m n : Member) : Type 0 where
  pub from : (k : ℕ) → T (has m.from k) → T (has n.from k)
  pub to : (k : ℕ) → T (has m.to k) → T (has n.to k)
  pub path : Under m.path n.path

pub covers_refl : (m : Member) → Covers m m
covers_refl m = record { from = λ k h. h; to = λ k h. h; path = under_refl }

pub covers_trans : {l m n : Member} → Covers l m → Covers m n → Covers l n
covers_trans c d = record {
  from = λ k h. d.from k (c.from k h);
  to = λ k h. d.to k (c.to k h);
  path = record { holds = λ r s t h. d.path.holds r s t (c.path.holds r s t h) };
}

pub merged_left : (m n : Member) → Covers m (merged m n)
merged_left m n = record {
  from = λ k h. has_union_left m.from n.from k h;
  to = λ k h. has_union_left m.to n.to k h;
  path = merge_left m.path n.path;
}

pub merged_right : (m n : Member) → T (same_shape? m.path n.path) → Covers n (merged m n)
merged_right m n a = record {
  from = λ k h. has_union_right m.from n.from k h;
  to = λ k h. has_union_right m.to n.to k h;
  path = merge_right m.path n.path (same_shape m.path n.path a);
}

abbrev pub Covered : Member → List Member → Type 0
Covered m ns = (n : Member) × In n ns × Covers m n

later : {m n : Member} {ns : List Member} → Covered m ns → Covered m (n ∷ ns)
later c = (c.0, there c.1, c.2)

insert_new : (m : Member) (ns : List Member) → Covered m (insert m ns)
insert_new m [] = (m, here refl, covers_refl m)
insert_new m (n ∷ ns) =
    cond-case (λ l. Covered m l) (same_shape? m.path n.path) (λ a. (merged m n, here refl, merged_left m n))
    (λ _. cond-case (λ l. Covered m l) (before? (codes m.path) (codes n.path)) (λ _. (m, here refl, covers_refl m)) (λ _. later (insert_new m ns)))

insert_old : (m : Member) (ns : List Member) {k : Member} → In k ns → Covered k (insert m ns)
insert_old m [] i = absurd (in-nil i)
insert_old m (n ∷ ns) {k} i =
    cond-case (λ l. Covered k l) (same_shape? m.path n.path) (λ a. with_merged a i)
    (λ _. cond-case (λ l. Covered k l) (before? (codes m.path) (codes n.path)) (λ _. (k, there i, covers_refl k)) (λ _. after i (λ j. insert_old m ns j)))
  where
    with_merged : T (same_shape? m.path n.path) → In k (n ∷ ns) → Covered k (merged m n ∷ ns)
    with_merged a (here e) = subst (λ x. Covered x (merged m n ∷ ns)) (sym e) (merged m n, here refl, merged_right m n a)
    with_merged a (there j) = (k, there j, covers_refl k)

    after : In k (n ∷ ns) → (In k ns → Covered k (insert m ns)) → Covered k (n ∷ insert m ns)
    after (here e) rest = (k, here e, covers_refl k)
    after (there j) rest = later (rest j)

pub members_cover : (ts : List Triple) {t : Triple} → In t ts → Covered (of_triple t) (members ts)
members_cover [] {t} i = elim i [ ]
members_cover (u ∷ ts) {t} (here e) = subst (λ x. Covered (of_triple x) (insert (of_triple u) (members ts))) (sym e) (insert_new (of_triple u) (members ts))
members_cover (u ∷ ts) (there i) =
    let c = members_cover ts i in
    let d = insert_old (of_triple u) (members ts) c.1 in
    (d.0, d.1, covers_trans c.2 d.2)

-- ---- nothing is added
pub record Traces (ts : List Triple) (m : Member) : Type 0 where
  pub path : (t : Triple) × In t ts × (erase m.path ≡ erase t.path)
  pub from : (k : ℕ) → T (has m.from k) → (t : Triple) × In t ts × (t.from ≡ k)
  pub to : (k : ℕ) → T (has m.to k) → (t : Triple) × In t ts × (t.to ≡ k)

-- what holds of two members of one shape holds of their merging: then it holds of all after an insertion
pub insert_all : (P : Member → Type 0) → ((m n : Member) → T (same_shape? m.path n.path) → P m → P n → P (merged m n))
    → (m : Member) (ns : List Member) → P m → ((n : Member) → In n ns → P n) → (n : Member) → In n (insert m ns) → P n
insert_all P of_both m [] pm pns n (here e) = subst P (sym e) pm
insert_all P of_both m [] pm pns n (there i) = absurd (in-nil i)
insert_all P of_both m (x ∷ ns) pm pns n i =
    cond-case (λ l. In n l → P n) (same_shape? m.path x.path) (λ a j. with_merged a j)
    (λ _ j. cond-case (λ l. In n l → P n) (before? (codes m.path) (codes x.path)) (λ _ k. front k)
    (λ _ k. after k (λ l. insert_all P of_both m ns pm (λ y h. pns y (there h)) n l)) j) i
  where
    with_merged : T (same_shape? m.path x.path) → In n (merged m x ∷ ns) → P n
    with_merged a (here e) = subst P (sym e) (of_both m x a pm (pns x (here refl)))
    with_merged a (there j) = pns n (there j)

    front : In n (m ∷ x ∷ ns) → P n
    front (here e) = subst P (sym e) pm
    front (there j) = pns n j

    after : In n (x ∷ insert m ns) → (In n (insert m ns) → P n) → P n
    after (here e) rest = subst P (sym e) (pns x (here refl))
    after (there j) rest = rest j

merged_traces : (ts : List Triple) (m n : Member) → T (same_shape? m.path n.path) → Traces ts m → Traces ts n → Traces ts (merged m n)
merged_traces ts m n a x y = record {
  path = let p = x.path in (p.0, p.1, merge_erase m.path n.path ∙ p.2);
  from = λ k h. elim (has_union m.from n.from k h) [ inl g ↦ x.from k g | inr g ↦ y.from k g ];
  to = λ k h. elim (has_union m.to n.to k h) [ inl g ↦ x.to k g | inr g ↦ y.to k g ];
}

triple_traces : (ts : List Triple) (t : Triple) → In t ts → Traces ts (of_triple t)
triple_traces ts t i = record {
  path = (t, i, refl);
  from = λ k h. (t, i, sym (singleton_has t.from k h));
  to = λ k h. (t, i, sym (singleton_has t.to k h));
}

traces_later : (u : Triple) {ts : List Triple} {m : Member} → Traces ts m → Traces (u ∷ ts) m
traces_later u x = record {
  path = let p = x.path in (p.0, there p.1, p.2);
  from = λ k h. let t = x.from k h in (t.0, there t.1, t.2);
  to = λ k h. let t = x.to k h in (t.0, there t.1, t.2);
}

pub members_trace : (ts : List Triple) (m : Member) → In m (members ts) → Traces ts m
members_trace [] m i = absurd (in-nil i)
members_trace (u ∷ ts) m i =
    insert_all (Traces (u ∷ ts)) (merged_traces (u ∷ ts)) (of_triple u) (members ts) (triple_traces (u ∷ ts) u (here refl)) (λ n j. traces_later u (members_trace ts n j)) m i
