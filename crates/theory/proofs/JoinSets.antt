-- The join sets of paths: merging is their union, place by place; with the codes they determine the path of a triple.
-- Assumes nothing.
use mathlib.Core.Path.{◌≡◌, refl, sym, ap, ap₂, ◌∙◌, subst}
use mathlib.Core.Logic.{◌⊎◌, inl, inr}
use mathlib.Core.Bool.{true}
use mathlib.Core.List.Memᴰ.{append_cases as in-append}
use mathlib.Core.List.Memᴰ.{head as here}
use mathlib.Core.List.Memᴰ.{tail as there}
use mathlib.Core.List.{List, [], ◌∷◌, ◌++◌, map, map-append, zip_with, Memᴰ as In}
use mathlib.Core.List.Memᴰ.{not-nil as in-nil}
use Prim.Native.Nat.{ℕ, suc, ◌+◌, ◌<◌}
use native.Mathlib.Omega.{arith}
use lib.Bits.{or_add_and, and_le_r}
use lib.Dec.{T}
use lib.ListN.{length, length-append}
use Rattle.theory.specs.KindSet.{set_union}
use Rattle.theory.specs.PathExpr.{Via, any, through, PathExpr, step, join, op, closure, Symbol, s_join, s_op, s_closure, postfix, size, code, erase, plain?}
use Rattle.theory.specs.Inference.{Triple}
use Rattle.theory.specs.Merging.{Member, of_triple, same_shape?, merge_via, merge, merged, members}
use Rattle.theory.specs.JoinSets.{set_of, sets_of, set_unions, EvenVia, plain, with_sets, Even, steps, joins, ops, closures, Inferred, Marked}
use Rattle.theory.proofs.Tests.{apart, tests, of_true, and_both}
use Rattle.theory.proofs.Soundness.{erase_plain}
use Rattle.theory.proofs.Merging.{same_shape, insert_all}

-- ---- the sets of a merged path are the unions
binary_sets : (p q : PathExpr) (s : Symbol) → map set_of (postfix p ++ (postfix q ++ (s ∷ []))) ≡ sets_of p ++ (sets_of q ++ (set_of s ∷ []))
binary_sets p q s = simp map-append

unary_sets : (p : PathExpr) (s : Symbol) → map set_of (postfix p ++ (s ∷ [])) ≡ sets_of p ++ (set_of s ∷ [])
unary_sets p s = simp map-append

unions_append : (xs ys us vs : List ℕ) → length xs ≡ length ys → set_unions (xs ++ us) (ys ++ vs) ≡ set_unions xs ys ++ set_unions us vs
unfolding zip_with
unions_append [] [] us vs e = refl
unions_append [] (y ∷ ys) us vs e = absurd (omega arith)
unions_append (x ∷ xs) [] us vs e = absurd (omega arith)
unions_append (x ∷ xs) (y ∷ ys) us vs e = ap {B = List ℕ} (λ zs. set_union x y ∷ zs) (unions_append xs ys us vs (omega arith))

unions_binary : (xs ys xs' ys' : List ℕ) (a b : ℕ) → length xs ≡ length xs' → length ys ≡ length ys'
    → set_unions (xs ++ (ys ++ (a ∷ []))) (xs' ++ (ys' ++ (b ∷ []))) ≡ set_unions xs xs' ++ (set_unions ys ys' ++ (set_union a b ∷ []))
unfolding zip_with
unions_binary xs ys xs' ys' a b e f =
    unions_append xs xs' (ys ++ (a ∷ [])) (ys' ++ (b ∷ [])) e ∙ ap (λ zs. set_unions xs xs' ++ zs) (unions_append ys ys' (a ∷ []) (b ∷ []) f)

-- a path has as many sets as symbols
length_binary : (xs ys : List ℕ) (a : ℕ) → length (xs ++ (ys ++ (a ∷ []))) ≡ suc (length xs + length ys)
length_binary xs ys a = rw (length-append xs (ys ++ (a ∷ [])), length-append ys (a ∷ [])) (omega arith)

length_unary : (xs : List ℕ) (a : ℕ) → length (xs ++ (a ∷ [])) ≡ suc (length xs)
length_unary xs a = rw (length-append xs (a ∷ [])) (omega arith)

pub sets_length : (p : PathExpr) → length (sets_of p) ≡ size p
sets_length (step d l) = refl
sets_length (join v p q) = ap length (binary_sets p q (s_join v)) ∙ length_binary (sets_of p) (sets_of q) (set_of (s_join v)) ∙ ap₂ (λ x y. suc (x + y)) (sets_length p) (sets_length q)
sets_length (op o p q) = ap length (binary_sets p q (s_op o)) ∙ length_binary (sets_of p) (sets_of q) 0 ∙ ap₂ (λ x y. suc (x + y)) (sets_length p) (sets_length q)
sets_length (closure p) = ap length (unary_sets p s_closure) ∙ length_unary (sets_of p) 0 ∙ ap suc (sets_length p)

even_size : {p q : PathExpr} → Even p q → size p ≡ size q
even_size steps = refl
even_size (joins e f g) = ap₂ (λ x y. suc (x + y)) (even_size f) (even_size g)
even_size (ops f g) = ap₂ (λ x y. suc (x + y)) (even_size f) (even_size g)
even_size (closures f) = ap suc (even_size f)

even_length : {p q : PathExpr} → Even p q → length (sets_of p) ≡ length (sets_of q)
even_length {p} {q} e = sets_length p ∙ even_size e ∙ sym (sets_length q)

none_union : set_union 0 0 ≡ 0
unfolding set_union
none_union = refl

via_union : {v w : Via} → EvenVia v w → set_of (s_join (merge_via v w)) ≡ set_union (set_of (s_join v)) (set_of (s_join w))
via_union plain = sym none_union
via_union with_sets = refl

-- the sets of two paths with the last symbols s and t, and those of the merged ones with the last symbol u
binary_union : {p q p' q' : PathExpr} (s t u : Symbol) → Even p p' → Even q q' → sets_of (merge p p') ≡ set_unions (sets_of p) (sets_of p') → sets_of (merge q q') ≡ set_unions (sets_of q) (sets_of q')
    → set_of u ≡ set_union (set_of s) (set_of t)
    → map set_of (postfix (merge p p') ++ (postfix (merge q q') ++ (u ∷ []))) ≡ set_unions (map set_of (postfix p ++ (postfix q ++ (s ∷ [])))) (map set_of (postfix p' ++ (postfix q' ++ (t ∷ []))))
binary_union {p} {q} {p'} {q'} s t u f g e h k =
    binary_sets (merge p p') (merge q q') u
    ∙ rw (e, h, k) (sym (unions_binary (sets_of p) (sets_of q) (sets_of p') (sets_of q') (set_of s) (set_of t) (even_length f) (even_length g)))
    ∙ sym (ap₂ set_unions (binary_sets p q s) (binary_sets p' q' t))

pub merge_sets : {p q : PathExpr} → Even p q → sets_of (merge p q) ≡ set_unions (sets_of p) (sets_of q)
unfolding zip_with
merge_sets steps = ap {B = List ℕ} (λ x. x ∷ []) (sym none_union)
merge_sets (joins {v} {w} e f g) = binary_union (s_join v) (s_join w) (s_join (merge_via v w)) f g (merge_sets f) (merge_sets g) (via_union e)
merge_sets (ops {o} f g) = binary_union (s_op o) (s_op o) (s_op o) f g (merge_sets f) (merge_sets g) (sym none_union)
merge_sets (closures {p} {p'} f) =
    unary_sets (merge p p') s_closure
    ∙ ap₂ (λ x y. x ++ (y ∷ [])) (merge_sets f) (sym none_union)
    ∙ sym (unions_append (sets_of p) (sets_of p') (0 ∷ []) (0 ∷ []) (even_length f))
    ∙ sym (ap₂ set_unions (unary_sets p s_closure) (unary_sets p' s_closure))

-- ---- paths of triples that are of one shape are even
even_refl : (p : PathExpr) → Even p p
even_refl (step d l) = steps
even_refl (join any p q) = joins plain (even_refl p) (even_refl q)
even_refl (join (through m) p q) = joins with_sets (even_refl p) (even_refl q)
even_refl (op o p q) = ops (even_refl p) (even_refl q)
even_refl (closure p) = closures (even_refl p)

pub inferred_even : (p q : PathExpr) → Inferred p → Inferred q → erase p ≡ erase q → Even p q
inferred_even (step d l) (step d' l') x y e = subst (λ z. Even (step d l) z) e steps
inferred_even (step d l) (join w p' q') x y e = apart (cc)
inferred_even (step d l) (op o p' q') x y e = apart (cc)
inferred_even (step d l) (closure p') x y e = apart (cc)
inferred_even (join any p q) q' x y e = absurd x
inferred_even (join (through a) p q) (step d l) x y e = apart (cc)
inferred_even (join (through a) p q) (join any p' q') x y e = absurd y
inferred_even (join (through a) p q) (join (through b) p' q') x y e =
    joins with_sets (inferred_even p p' x.1.0 y.1.0 (cc)) (inferred_even q q' x.1.1 y.1.1 (cc))
inferred_even (join (through a) p q) (op o p' q') x y e = apart (cc)
inferred_even (join (through a) p q) (closure p') x y e = apart (cc)
inferred_even (op o p q) (step d l) x y e = apart (cc)
inferred_even (op o p q) (join w p' q') x y e = apart (cc)
inferred_even (op o p q) (op o' p' q') x y e =
    let k : o ≡ o' = cc in
    subst (λ z. Even (op o p q) (op z p' q')) k (ops (inferred_even p p' x.0 y.0 (cc)) (inferred_even q q' x.1 y.1 (cc)))
inferred_even (op o p q) (closure p') x y e = apart (cc)
inferred_even (closure p) (step d l) x y e = apart (cc)
inferred_even (closure p) (join w p' q') x y e = apart (cc)
inferred_even (closure p) (op o p' q') x y e = apart (cc)
inferred_even (closure p) (closure p') x y e =
    let f : erase p ≡ erase p' = cc in
    subst (λ z. Even (closure p) (closure z)) (sym (erase_plain p x) ∙ f ∙ erase_plain p' y) (closures (even_refl p))

-- ---- merging keeps it
union_pos : (a b : ℕ) → 0 < a → 0 < set_union a b
unfolding set_union
union_pos a b h = omega (arith, or_add_and a b, and_le_r a b)

merge_plain : (p q : PathExpr) → T (plain? p) → T (plain? (merge p q))
merge_plain (step d l) q x = x
merge_plain (join any p q) (step d l) x = x
merge_plain (join any p q) (join w p' q') x = and_both (plain? (merge p p')) (plain? (merge q q')) (merge_plain p p' (search tests)) (merge_plain q q' (search tests))
merge_plain (join any p q) (op o p' q') x = x
merge_plain (join any p q) (closure p') x = x
merge_plain (join (through m) p q) r x = absurd x
merge_plain (op o p q) (step d l) x = x
merge_plain (op o p q) (join w p' q') x = x
merge_plain (op o p q) (op o' p' q') x = and_both (plain? (merge p p')) (plain? (merge q q')) (merge_plain p p' (search tests)) (merge_plain q q' (search tests))
merge_plain (op o p q) (closure p') x = x
merge_plain (closure p) (step d l) x = x
merge_plain (closure p) (join w p' q') x = x
merge_plain (closure p) (op o p' q') x = x
merge_plain (closure p) (closure p') x = merge_plain p p' x

pub merge_inferred : (p q : PathExpr) → Inferred p → Inferred q → Inferred (merge p q)
merge_inferred (step d l) q x y = tt
merge_inferred (join any p q) r x y = absurd x
merge_inferred (join (through a) p q) (step d l) x y = x
merge_inferred (join (through a) p q) (join any p' q') x y = absurd y
merge_inferred (join (through a) p q) (join (through b) p' q') x y =
    (union_pos a b x.0, (merge_inferred p p' x.1.0 y.1.0, merge_inferred q q' x.1.1 y.1.1))
merge_inferred (join (through a) p q) (op o p' q') x y = x
merge_inferred (join (through a) p q) (closure p') x y = x
merge_inferred (op o p q) (step d l) x y = x
merge_inferred (op o p q) (join w p' q') x y = x
merge_inferred (op o p q) (op o' p' q') x y = (merge_inferred p p' x.0 y.0, merge_inferred q q' x.1 y.1)
merge_inferred (op o p q) (closure p') x y = x
merge_inferred (closure p) (step d l) x y = x
merge_inferred (closure p) (join w p' q') x y = x
merge_inferred (closure p) (op o p' q') x y = x
merge_inferred (closure p) (closure p') x y = merge_plain p p' x

pub members_inferred : (ts : List Triple) → ((t : Triple) → In t ts → Inferred t.path) → (m : Member) → In m (members ts) → Inferred m.path
members_inferred [] h m i = absurd (in-nil i)
members_inferred (t ∷ ts) h m i =
    insert_all (λ n. Inferred n.path) (λ x y a. merge_inferred x.path y.path) (of_triple t) (members ts) (h t (here refl)) (members_inferred ts (λ u j. h u (there j))) m i

-- so a group takes in a member by the unions of their sets
pub merged_sets : (m n : Member) → Inferred m.path → Inferred n.path → same_shape? m.path n.path ≡ true
    → sets_of (merged m n).path ≡ set_unions (sets_of m.path) (sets_of n.path)
merged_sets m n x y a = merge_sets (inferred_even m.path n.path x y (same_shape m.path n.path (of_true (same_shape? m.path n.path) a)))

-- ---- symbol by symbol: what depends on a symbol's code and set alone is computed from the two lists
module _ {A : Type 0} (f : Symbol → A) (g : ℕ → ℕ → A) (h : (s : Symbol) → Marked s → f s ≡ g (code s) (set_of s)) where
  pub symbols_by : (ss : List Symbol) → ((s : Symbol) → In s ss → Marked s) → map f ss ≡ zip_with g (map code ss) (map set_of ss)
  unfolding zip_with
  symbols_by [] m = refl
  symbols_by (s ∷ ss) m = ap₂ {C = List A} (λ x xs. x ∷ xs) (h s (m s (here refl))) (symbols_by ss (λ u i. m u (there i)))

-- a symbol of a path is one of its parts', or the last
unary_in : {s : Symbol} (p : PathExpr) (u : Symbol) → In s (postfix p ++ (u ∷ [])) → (In s (postfix p) → Marked s) → Marked u → Marked s
unary_in {s} p u i f x = go (in-append (postfix p) i)
  where
    ends : In s (u ∷ []) → Marked s
    ends (here e) = subst Marked (sym e) x
    ends (there j) = absurd (in-nil j)

    go : In s (postfix p) ⊎ In s (u ∷ []) → Marked s
    go (inl j) = f j
    go (inr j) = ends j

binary_in : {s : Symbol} (p q : PathExpr) (u : Symbol) → In s (postfix p ++ (postfix q ++ (u ∷ []))) → (In s (postfix p) → Marked s) → (In s (postfix q) → Marked s) → Marked u → Marked s
binary_in {s} p q u i f g x = elim (in-append (postfix p) i) [ inl j ↦ f j | inr j ↦ unary_in q u j g x ]

plain_marked : (p : PathExpr) → T (plain? p) → (s : Symbol) → In s (postfix p) → Marked s
plain_marked (step d l) x s (here e) = subst Marked (sym e) tt
plain_marked (step d l) x s (there i) = absurd (in-nil i)
plain_marked (join any p q) x s i = binary_in p q (s_join any) i (plain_marked p (search tests) s) (plain_marked q (search tests) s) tt
plain_marked (join (through m) p q) x s i = absurd x
plain_marked (op o p q) x s i = binary_in p q (s_op o) i (plain_marked p (search tests) s) (plain_marked q (search tests) s) tt
plain_marked (closure p) x s i = unary_in p s_closure i (plain_marked p x s) tt

pub inferred_marked : (p : PathExpr) → Inferred p → (s : Symbol) → In s (postfix p) → Marked s
inferred_marked (step d l) x s (here e) = subst Marked (sym e) tt
inferred_marked (step d l) x s (there i) = absurd (in-nil i)
inferred_marked (join any p q) x s i = absurd x
inferred_marked (join (through m) p q) x s i = binary_in p q (s_join (through m)) i (inferred_marked p x.1.0 s) (inferred_marked q x.1.1 s) x.0
inferred_marked (op o p q) x s i = binary_in p q (s_op o) i (inferred_marked p x.0 s) (inferred_marked q x.1 s) tt
inferred_marked (closure p) x s i = unary_in p s_closure i (plain_marked p x s) tt
