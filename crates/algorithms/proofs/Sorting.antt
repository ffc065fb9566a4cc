-- The members of a list of triples are its single members, sorted by their codes, with neighbours merged.
-- Assumes nothing.
use mathlib.Core.Path.{◌≡◌, refl, sym, ap, ap₂, ◌∙◌, subst}
use mathlib.Core.Logic.{◌⊎◌, inl, inr}
use mathlib.Core.Bool.{Bool, true, false, cond, true≢false}
use mathlib.Core.List.Memᴰ.{head as here}
use mathlib.Core.List.Memᴰ.{tail as there}
use mathlib.Core.List.{List, [], ◌∷◌, ◌++◌, map, Memᴰ as In}
use Prim.Native.Nat.{ℕ, ◌/◌, ◌%◌, max}
use native.Mathlib.Omega.{arith}
use lib.Arith.{bin_ind}
use lib.Bits.{bit_or, or_step}
use lib.Dec.{T}
use Rattle.theory.specs.KindSet.{set_union}
use Rattle.theory.specs.PathExpr.{Via, any, through, PathExpr, step, join, op, closure, codes, before?, erase, links?, same?, path_discrete}
use Rattle.theory.specs.Sheet.{Sheet}
use Rattle.theory.specs.Inference.{Triple, triples}
use Rattle.theory.specs.Merging.{Member, member, of_triple, same_shape?, merge_via, merge, merged, insert, members}
use Rattle.algorithms.specs.Sorting.{place, sorted, ahead?, alike?, put, grouped, gathered}
use Rattle.theory.proofs.Tests.{apart, never, of_true, to_true, to_decided}
use Rattle.theory.proofs.Merging.{same_shape, merge_erase}
use Rattle.theory.proofs.TriplePaths.{triples_linked}
use Rattle.theory.proofs.Order.{codes_erase, codes_inj, codes_merge, trichotomy, before_trans, before_cases, Linked}

-- ---- paths of one shape have the same codes and the same order
pub shape_codes : (p q : PathExpr) → erase p ≡ erase q → codes p ≡ codes q
shape_codes p q e = sym (codes_erase p) ∙ ap codes e ∙ codes_erase q

shape_right : (p q r : PathExpr) → erase q ≡ erase r → same_shape? p q ≡ same_shape? p r
unfolding same_shape?
shape_right p q r e = ap (same? (erase p)) e

shape_left : (p q r : PathExpr) → erase p ≡ erase q → same_shape? p r ≡ same_shape? q r
unfolding same_shape?
shape_left p q r e = ap (λ x. same? x (erase r)) e

before_irrefl : (xs : List ℕ) → ¬ T (before? xs xs)
before_irrefl [] t = t
before_irrefl (x ∷ xs) t = elim (before_cases x x xs xs t) [ inl h ↦ absurd (omega arith) | inr h ↦ before_irrefl xs h.1 ]

pub alike_shape : (m n : Member) → alike? m n ≡ true → erase m.path ≡ erase n.path
alike_shape m n e = same_shape m.path n.path (of_true (alike? m n) e)

module _ (u t : Member) (h : ahead? u t ≡ true) where
  ahead_apart : ¬ (erase u.path ≡ erase t.path)
  ahead_apart e = before_irrefl (codes u.path) (subst (λ c. T (before? (codes u.path) c)) (sym (shape_codes u.path t.path e)) (of_true (ahead? u t) h))

  pub ahead_unlike : alike? u t ≡ false
  ahead_unlike = never (alike? u t) (λ a. ahead_apart (same_shape u.path t.path a))

  pub ahead_unlike' : alike? t u ≡ false
  ahead_unlike' = never (alike? t u) (λ a. ahead_apart (sym (same_shape t.path u.path a)))

  ahead_asym : ahead? t u ≡ false
  ahead_asym = never (ahead? t u) (λ b. before_irrefl (codes u.path) (before_trans (codes u.path) (codes t.path) (codes u.path) (of_true (ahead? u t) h) b))

-- members of equal codes are alike, and only those
pub alike_codes : (m n : Member) → alike? m n ≡ true → codes m.path ≡ codes n.path
alike_codes m n a = shape_codes m.path n.path (alike_shape m n a)

pub codes_alike : (m n : Member) → Linked m → Linked n → codes m.path ≡ codes n.path → alike? m n ≡ true
unfolding same_shape? same?
codes_alike m n lm ln e = to_true (alike? m n) (to_decided (path_discrete (erase m.path) (erase n.path)) (codes_inj m.path n.path lm ln e))

-- of two that are not alike one is ahead
ahead_total : (t u : Member) → Linked t → Linked u → alike? t u ≡ false → ahead? u t ≡ false → ahead? t u ≡ true
ahead_total t u lt lu a b = go (trichotomy (codes t.path) (codes u.path))
  where
    go : T (ahead? t u) ⊎ ((codes t.path ≡ codes u.path) ⊎ T (ahead? u t)) → ahead? t u ≡ true
    go (inl x) = to_true (ahead? t u) x
    go (inr (inl e)) = absurd (true≢false (sym (codes_alike t u lt lu e) ∙ a))
    go (inr (inr x)) = absurd (true≢false (sym (to_true (ahead? u t) x) ∙ b))

-- what a member is compared with may be merged with more
alike_merged : (m u n : Member) → alike? m (merged u n) ≡ alike? m u
alike_merged m u n = shape_right m.path (merge u.path n.path) u.path (merge_erase u.path n.path)

ahead_merged : (m u n : Member) → ahead? m (merged u n) ≡ ahead? m u
ahead_merged m u n = ap (before? (codes m.path)) (codes_merge u.path n.path)

alike_alike : (t u n : Member) → alike? u n ≡ true → alike? t n ≡ alike? t u
alike_alike t u n e = shape_right t.path n.path u.path (sym (alike_shape u n e))

ahead_alike : (t u n : Member) → alike? u n ≡ true → ahead? t n ≡ ahead? t u
ahead_alike t u n e = ap (before? (codes t.path)) (sym (alike_codes u n e))

-- ---- u is ahead of t: t goes past it
past : (u t : Member) → ahead? u t ≡ true → (ns : List Member) → insert t (put u ns) ≡ put u (insert t ns)
past u t h [] = rw (ahead_unlike' u t h, ahead_asym u t h, ahead_unlike u t h)
past u t h (n ∷ ns) = go (alike? u n) refl
  where
    other : alike? u n ≡ false → (a b : Bool)
        → u ∷ cond a (merged t n ∷ ns) (cond b (t ∷ n ∷ ns) (n ∷ insert t ns)) ≡ put u (cond a (merged t n ∷ ns) (cond b (t ∷ n ∷ ns) (n ∷ insert t ns)))
    other e true b = rw (alike_merged u t n, ahead_unlike u t h)
    other e false true = rw (ahead_unlike u t h)
    other e false false = rw e

    go : (c : Bool) → alike? u n ≡ c → insert t (cond c (merged u n ∷ ns) (u ∷ n ∷ ns)) ≡ put u (insert t (n ∷ ns))
    go true e = rw (alike_merged t u n, ahead_merged t u n, alike_alike t u n e, ahead_alike t u n e, ahead_unlike' u t h, ahead_asym u t h, e)
    go false e = rw (ahead_unlike' u t h, ahead_asym u t h) (other e (alike? t n) (ahead? t n))

-- u is not ahead of t: t goes in front, or into it
front : (u t : Member) → Linked u → Linked t → ahead? u t ≡ false → (ns : List Member) → insert t (put u ns) ≡ put t (put u ns)
front u t lu lt h ns = by_list ns
  where
    at_head : (x : Member) (xs : List Member) → alike? t x ≡ alike? t u → ahead? t x ≡ ahead? t u → insert t (x ∷ xs) ≡ put t (x ∷ xs)
    at_head x xs ea eb = rw (ea, eb) (go (alike? t u) refl)
      where
        go : (c : Bool) → alike? t u ≡ c → cond c (merged t x ∷ xs) (cond (ahead? t u) (t ∷ x ∷ xs) (x ∷ insert t xs)) ≡ cond c (merged t x ∷ xs) (t ∷ x ∷ xs)
        go true e = refl
        go false e = rw (ahead_total t u lt lu e h)

    by_list : (ns : List Member) → insert t (put u ns) ≡ put t (put u ns)
    by_list [] = at_head u [] refl refl
    by_list (n ∷ ns) = go (alike? u n)
      where
        go : (c : Bool) → insert t (cond c (merged u n ∷ ns) (u ∷ n ∷ ns)) ≡ put t (cond c (merged u n ∷ ns) (u ∷ n ∷ ns))
        go true = at_head (merged u n) ns (alike_merged t u n) (ahead_merged t u n)
        go false = at_head u (n ∷ ns) refl refl

-- ---- sorting keeps the elements
module _ {A : Type 0} (first? : A → A → Bool) where
  pub in_place : (y : A) (ys : List A) {x : A} → In x (place first? y ys) → In x (y ∷ ys)
  in_place y [] m = m
  in_place y (z ∷ zs) {x} m = go (first? z y) m (λ n. in_place y zs n)
    where
      behind : In x (y ∷ zs) → In x (y ∷ z ∷ zs)
      behind (here e) = here e
      behind (there n) = there (there n)

      moved : In x (z ∷ place first? y zs) → (In x (place first? y zs) → In x (y ∷ zs)) → In x (y ∷ z ∷ zs)
      moved (here e) rest = there (here e)
      moved (there n) rest = behind (rest n)

      go : (c : Bool) → In x (cond c (z ∷ place first? y zs) (y ∷ z ∷ zs)) → (In x (place first? y zs) → In x (y ∷ zs)) → In x (y ∷ z ∷ zs)
      go true n rest = moved n rest
      go false n rest = n

  pub in_sorted : (xs : List A) {x : A} → In x (sorted first? xs) → In x xs
  in_sorted [] m = m
  in_sorted (y ∷ ys) {x} m = go (in_place y (sorted first? ys) m) (λ n. in_sorted ys n)
    where
      go : In x (y ∷ sorted first? ys) → (In x (sorted first? ys) → In x ys) → In x (y ∷ ys)
      go (here e) rest = here e
      go (there n) rest = there (rest n)

-- what stands for the elements may be sorted instead
module _ {A B : Type 0} (first? : A → A → Bool) (earlier? : B → B → Bool) (f : A → B) (same : (x y : A) → earlier? (f x) (f y) ≡ first? x y) where
  place_map : (x : A) (ys : List A) → place earlier? (f x) (map f ys) ≡ map f (place first? x ys)
  place_map x [] = refl
  place_map x (y ∷ ys) = rw (same y x) (go (first? y x) (place_map x ys))
    where
      go : (c : Bool) → place earlier? (f x) (map f ys) ≡ map f (place first? x ys)
          → cond c (f y ∷ place earlier? (f x) (map f ys)) (f x ∷ f y ∷ map f ys) ≡ map f (cond c (y ∷ place first? x ys) (x ∷ y ∷ ys))
      go true e = ap {B = List B} (λ l. f y ∷ l) e
      go false e = refl

  pub sorted_map : (xs : List A) → sorted earlier? (map f xs) ≡ map f (sorted first? xs)
  sorted_map [] = refl
  sorted_map (x ∷ xs) = ap (place earlier? (f x)) (sorted_map xs) ∙ place_map x (sorted first? xs)

-- ---- inserting is sorting and then merging
insert_place : (t : Member) (us : List Member) → Linked t → ((u : Member) → In u us → Linked u) → insert t (grouped us) ≡ grouped (place ahead? t us)
insert_place t [] lt lu = refl
insert_place t (u ∷ us) lt lu = go (ahead? u t) refl (insert_place t us lt (λ n i. lu n (there i)))
  where
    go : (c : Bool) → ahead? u t ≡ c → insert t (grouped us) ≡ grouped (place ahead? t us)
        → insert t (put u (grouped us)) ≡ grouped (cond c (u ∷ place ahead? t us) (t ∷ u ∷ us))
    go true e rest = past u t e (grouped us) ∙ ap (put u) rest
    go false e rest = front u t (lu u (here refl)) lt e (grouped us)

single_linked : (ts : List Triple) → ((t : Triple) → In t ts → T (links? 64 t.path)) → (n : Member) → In n (map of_triple ts) → Linked n
single_linked [] h n i = elim i [ ]
single_linked (t ∷ ts) h n (here e) = subst Linked (sym e) (h t (here refl))
single_linked (t ∷ ts) h n (there i) = single_linked ts (λ u j. h u (there j)) n i

pub members_sorted : (ts : List Triple) → ((t : Triple) → In t ts → T (links? 64 t.path)) → members ts ≡ grouped (sorted ahead? (map of_triple ts))
members_sorted [] h = refl
members_sorted (t ∷ ts) h =
    let rest : (u : Triple) → In u ts → T (links? 64 u.path) = λ u i. h u (there i) in
    ap (insert (of_triple t)) (members_sorted ts rest)
    ∙ insert_place (of_triple t) (sorted ahead? (map of_triple ts)) (h t (here refl)) (λ n i. single_linked ts rest n (in_sorted ahead? (map of_triple ts) i))

-- ---- merging in turn: of paths of one shape it is associative
half_or : (a b : ℕ) → bit_or a b / 2 ≡ bit_or (a / 2) (b / 2)
half_or a b = omega (arith, or_step a b)

low_or : (a b : ℕ) → bit_or a b % 2 ≡ max (a % 2) (b % 2)
low_or a b = omega (arith, or_step a b)

or_assoc : (a b c : ℕ) → bit_or (bit_or a b) c ≡ bit_or a (bit_or b c)
or_assoc = bin_ind (λ a. (b c : ℕ) → bit_or (bit_or a b) c ≡ bit_or a (bit_or b c)) (λ b c. refl) (λ a rest b c. by_half a b c (rest (b / 2) (c / 2)))
  where
    by_half : (a b c : ℕ) → bit_or (bit_or (a / 2) (b / 2)) (c / 2) ≡ bit_or (a / 2) (bit_or (b / 2) (c / 2)) → bit_or (bit_or a b) c ≡ bit_or a (bit_or b c)
    by_half a b c e =
        let l : bit_or (bit_or a b / 2) (c / 2) ≡ bit_or (a / 2) (bit_or b c / 2) = rw (half_or a b, half_or b c) e in
        omega (arith, or_step (bit_or a b) c, or_step a (bit_or b c), low_or a b, low_or b c)

pub union_assoc : (a b c : ℕ) → set_union (set_union a b) c ≡ set_union a (set_union b c)
unfolding set_union
union_assoc a b c = or_assoc a b c

via_assoc : (u v w : Via) → merge_via (merge_via u v) w ≡ merge_via u (merge_via v w)
via_assoc any v w = refl
via_assoc (through a) any w = refl
via_assoc (through a) (through b) any = refl
via_assoc (through a) (through b) (through c) = ap through (simp union_assoc)

pub merge_assoc : (p q r : PathExpr) → erase p ≡ erase q → erase q ≡ erase r → merge (merge p q) r ≡ merge p (merge q r)
merge_assoc (step d l) q r e f = refl
merge_assoc (join v p q) (step d l) r e f = apart (cc)
merge_assoc (join v p q) (join w p' q') (step d l) e f = apart (cc)
merge_assoc (join v p q) (join w p' q') (join x p'' q'') e f =
    let a = via_assoc v w x in
    let b = merge_assoc p p' p'' (cc) (cc) in
    let c = merge_assoc q q' q'' (cc) (cc) in
    λ i. join (a i) (b i) (c i)
merge_assoc (join v p q) (join w p' q') (op o p'' q'') e f = apart (cc)
merge_assoc (join v p q) (join w p' q') (closure p'') e f = apart (cc)
merge_assoc (join v p q) (op o p' q') r e f = apart (cc)
merge_assoc (join v p q) (closure p') r e f = apart (cc)
merge_assoc (op o p q) (step d l) r e f = apart (cc)
merge_assoc (op o p q) (join w p' q') r e f = apart (cc)
merge_assoc (op o p q) (op o' p' q') (step d l) e f = apart (cc)
merge_assoc (op o p q) (op o' p' q') (join x p'' q'') e f = apart (cc)
merge_assoc (op o p q) (op o' p' q') (op o'' p'' q'') e f = ap₂ (op o) (merge_assoc p p' p'' (cc) (cc)) (merge_assoc q q' q'' (cc) (cc))
merge_assoc (op o p q) (op o' p' q') (closure p'') e f = apart (cc)
merge_assoc (op o p q) (closure p') r e f = apart (cc)
merge_assoc (closure p) (step d l) r e f = apart (cc)
merge_assoc (closure p) (join w p' q') r e f = apart (cc)
merge_assoc (closure p) (op o p' q') r e f = apart (cc)
merge_assoc (closure p) (closure p') (step d l) e f = apart (cc)
merge_assoc (closure p) (closure p') (join x p'' q'') e f = apart (cc)
merge_assoc (closure p) (closure p') (op o p'' q'') e f = apart (cc)
merge_assoc (closure p) (closure p') (closure p'') e f = ap closure (merge_assoc p p' p'' (cc) (cc))

pub merged_assoc : (l m n : Member) → alike? l m ≡ true → alike? m n ≡ true → merged (merged l m) n ≡ merged l (merged m n)
merged_assoc l m n a b =
    let from = union_assoc l.from m.from n.from in
    let path = merge_assoc l.path m.path n.path (alike_shape l m a) (alike_shape m n b) in
    let to = union_assoc l.to m.to n.to in
    λ i. member (from i) (path i) (to i)

-- ---- groups from left to right: the first takes in the next if they are alike, else it stands
-- a group is alike to what its first is alike to
pub merged_alike : (l m n : Member) → alike? (merged l m) n ≡ alike? l n
merged_alike l m n = shape_left (merge l.path m.path) l.path n.path (merge_erase l.path m.path)

pub group_takes : (m n : Member) (ns : List Member) → alike? m n ≡ true → grouped (m ∷ n ∷ ns) ≡ grouped (merged m n ∷ ns)
group_takes m n ns a = go (grouped ns)
  where
    first_alike : (k : Member) → alike? m k ≡ alike? n k
    first_alike k = shape_left m.path n.path k.path (alike_shape m n a)

    go : (ks : List Member) → put m (put n ks) ≡ put (merged m n) ks
    go [] = rw a
    go (k ∷ ks) = by (alike? n k) refl
      where
        by : (c : Bool) → alike? n k ≡ c → put m (cond c (merged n k ∷ ks) (n ∷ k ∷ ks)) ≡ put (merged m n) (k ∷ ks)
        by true e = rw (alike_merged m n k, a, merged_alike m n k, first_alike k, e) (ap {B = List Member} (λ x. x ∷ ks) (sym (merged_assoc m n k a e)))
        by false e = rw (a, merged_alike m n k, first_alike k, e)

pub group_ends : (m n : Member) (ns : List Member) → alike? m n ≡ false → grouped (m ∷ n ∷ ns) ≡ m ∷ grouped (n ∷ ns)
group_ends m n ns a = go (grouped ns)
  where
    go : (ks : List Member) → put m (put n ks) ≡ m ∷ put n ks
    go [] = rw a
    go (k ∷ ks) = by (alike? n k)
      where
        by : (c : Bool) → put m (cond c (merged n k ∷ ks) (n ∷ k ∷ ks)) ≡ m ∷ cond c (merged n k ∷ ks) (n ∷ k ∷ ks)
        by true = rw (alike_merged m n k, a)
        by false = rw a

-- no member like m stands first
abbrev pub Stops : Member → List Member → Type 0
Stops m [] = Unit {0}
Stops m (n ∷ ns) = alike? m n ≡ false

-- a run of members like the first is the first group
pub group_run : (m : Member) (ns rest : List Member) → ((n : Member) → In n ns → alike? m n ≡ true) → Stops m rest → grouped (m ∷ (ns ++ rest)) ≡ gathered m ns ∷ grouped rest
group_run m [] [] a s = refl
group_run m [] (k ∷ ks) a s = group_ends m k ks s
group_run m (n ∷ ns) rest a s =
    group_takes m n (ns ++ rest) (a n (here refl))
    ∙ group_run (merged m n) ns rest (λ k i. merged_alike m n k ∙ a k (there i)) (stops rest s)
  where
    stops : (ks : List Member) → Stops m ks → Stops (merged m n) ks
    stops [] t = tt
    stops (k ∷ ks) t = merged_alike m n k ∙ t

-- the members of a question
pub question_sorted : (S : Sheet) (q : PathExpr) → T (links? 64 q) → members (triples S q) ≡ grouped (sorted ahead? (map of_triple (triples S q)))
question_sorted S q x = members_sorted (triples S q) (triples_linked S q x)
