-- Codes: paths with equal codes differ only in join sets, and members ascend strictly by their codes.
-- Assumes nothing.
use mathlib.Core.Path.{◌≡◌, refl, sym, ap, ap₂, ◌∙◌, subst}
use mathlib.Core.Logic.{◌⊎◌, inl, inr}
use mathlib.Core.Bool.{Bool, true, false, ◌&&◌, not, cond}
use mathlib.Core.List.Memᴰ.{head as here}
use mathlib.Core.List.Memᴰ.{not-nil as in-nil}
use mathlib.Core.List.Memᴰ.{tail as there}
use mathlib.Core.List.{List, [], ◌∷◌, ◌++◌, map, append_assoc, Memᴰ as In}
use Prim.Native.Nat.{ℕ, zero, suc, ◌+◌, ◌-◌, ◌≤◌, ◌<◌}
use native.Mathlib.Nat.{eq-or-lt_of_le}
use native.Mathlib.Omega.{arith}
use native.Mathlib.Decide.{dec_le}
use lib.Dec.{T, T_not, not_T, eqb, eqb→eq, ltb, ltb→lt, lt→ltb}
use Rattle.theory.specs.PathExpr.{codes, before?, Direction, forward, reverse, Label, named, below?, any, Op, union, conjunction, branch_right, branch_left, PathExpr, step, join, op, closure}
use Rattle.theory.specs.PathExpr.{Symbol, s_join, s_op, s_closure, postfix, op_code, step_code, code, erase, links?, same?, path_discrete}
use Rattle.theory.specs.Inference.{Triple}
use Rattle.theory.specs.Merging.{Member, of_triple, same_shape?, merge, merged, insert, members, Ascending}
use Rattle.theory.proofs.Tests.{and_left, and_right, and_both, or_left, or_right, or_cases, to_true, to_decided, cond-case}
use Rattle.theory.proofs.Tests.{eq→eqb}
use Rattle.theory.proofs.Merging.{same_shape, merge_erase, insert_all}

map_append : {A B : Type 0} (f : A → B) (xs ys : List A) → map f (xs ++ ys) ≡ map f xs ++ map f ys
map_append f [] ys = refl
map_append {B = B} f (x ∷ xs) ys = ap {B = List B} (λ l. f x ∷ l) (map_append f xs ys)

-- ---- codes by the shape of the path
binary_codes : (p q : PathExpr) (s : Symbol) → map code (postfix p ++ (postfix q ++ (s ∷ []))) ≡ codes p ++ (codes q ++ (code s ∷ []))
binary_codes p q s = map_append code (postfix p) (postfix q ++ (s ∷ [])) ∙ ap (λ l. codes p ++ l) (map_append code (postfix q) (s ∷ []))

unary_codes : (p : PathExpr) (s : Symbol) → map code (postfix p ++ (s ∷ [])) ≡ codes p ++ (code s ∷ [])
unary_codes p s = map_append code (postfix p) (s ∷ [])

pub codes_erase : (p : PathExpr) → codes (erase p) ≡ codes p
codes_erase (step d l) = refl
codes_erase (join v p q) =
    binary_codes (erase p) (erase q) (s_join any) ∙ ap₂ (λ x y. x ++ (y ++ (128 ∷ []))) (codes_erase p) (codes_erase q) ∙ sym (binary_codes p q (s_join v))
codes_erase (op o p q) =
    binary_codes (erase p) (erase q) (s_op o) ∙ ap₂ (λ x y. x ++ (y ++ (op_code o ∷ []))) (codes_erase p) (codes_erase q) ∙ sym (binary_codes p q (s_op o))
codes_erase (closure p) = unary_codes (erase p) s_closure ∙ ap (λ x. x ++ (133 ∷ [])) (codes_erase p) ∙ sym (unary_codes p s_closure)

-- ---- codes read back, onto a stack of paths
abbrev binary : (PathExpr → PathExpr → PathExpr) → List PathExpr → List PathExpr
binary f [] = []
binary f (q ∷ []) = q ∷ []
binary f (q ∷ p ∷ st) = f p q ∷ st

abbrev unary : (PathExpr → PathExpr) → List PathExpr → List PathExpr
unary f [] = []
unary f (p ∷ st) = f p ∷ st

abbrev operate : ℕ → List PathExpr → List PathExpr
operate zero st = binary (join any) st
operate (suc zero) st = binary (op union) st
operate (suc (suc zero)) st = binary (op conjunction) st
operate (suc (suc (suc zero))) st = binary (op branch_right) st
operate (suc (suc (suc (suc zero)))) st = binary (op branch_left) st
operate (suc (suc (suc (suc (suc n))))) st = unary closure st

abbrev act : ℕ → List PathExpr → List PathExpr
act c st = cond (ltb c 64) (step forward (named c) ∷ st) (cond (ltb c 128) (step reverse (named (c - 64)) ∷ st) (operate (c - 128) st))

abbrev decode : List ℕ → List PathExpr → List PathExpr
decode [] st = st
decode (c ∷ cs) st = decode cs (act c st)

pub to_false : (b : Bool) → T (not b) → b ≡ false
to_false true t = absurd t
to_false false t = refl

act_step : (d : Direction) (l : Label) → T (below? l 64) → (st : List PathExpr) → act (step_code d l) st ≡ step d l ∷ st
act_step forward (named l) t st =
    ap (λ b. cond b (step forward (named l) ∷ st) (cond (ltb l 128) (step reverse (named (l - 64)) ∷ st) (operate (l - 128) st))) (to_true (ltb l 64) t)
act_step reverse (named l) t st =
    ap (λ b. cond b (step forward (named c) ∷ st) (cond (ltb c 128) (step reverse (named (c - 64)) ∷ st) (operate (c - 128) st))) low
    ∙ ap (λ b. cond b (step reverse (named (c - 64)) ∷ st) (operate (c - 128) st)) (to_true (ltb c 128) (lt→ltb c 128 (omega (arith, ltb→lt l 64 t))))
    ∙ ap {B = List PathExpr} (λ x. step reverse (named x) ∷ st) back
  where
    c : ℕ
    c = 64 + l

    back : 64 + l - 64 ≡ l
    back = omega arith

    low : ltb (64 + l) 64 ≡ false
    low = to_false (ltb (64 + l) 64) (not_T (ltb (64 + l) 64) (λ t. absurd (over (ltb→lt (64 + l) 64 t))))
      where
        over : 64 + l < 64 → ⊥
        over k = omega arith

act_op : (o : Op) (p q : PathExpr) (st : List PathExpr) → act (op_code o) (q ∷ p ∷ st) ≡ op o p q ∷ st
act_op union p q st = refl
act_op conjunction p q st = refl
act_op branch_right p q st = refl
act_op branch_left p q st = refl

decode_codes : (p : PathExpr) → T (links? 64 p) → (cs : List ℕ) (st : List PathExpr) → decode (codes p ++ cs) st ≡ decode cs (erase p ∷ st)
decode_codes (step d l) h cs st = ap (λ x. decode cs x) (act_step d l h st)
decode_codes (join v p q) h cs st =
    ap (λ x. decode (x ++ cs) st) (binary_codes p q (s_join v))
    ∙ ap (λ x. decode x st) (append_assoc (codes p) (codes q ++ (128 ∷ [])) cs ∙ ap (λ x. codes p ++ x) (append_assoc (codes q) (128 ∷ []) cs))
    ∙ decode_codes p (and_left (links? 64 p) (links? 64 q) h) (codes q ++ (128 ∷ cs)) st
    ∙ decode_codes q (and_right (links? 64 p) (links? 64 q) h) (128 ∷ cs) (erase p ∷ st)
decode_codes (op o p q) h cs st =
    ap (λ x. decode (x ++ cs) st) (binary_codes p q (s_op o))
    ∙ ap (λ x. decode x st) (append_assoc (codes p) (codes q ++ (op_code o ∷ [])) cs ∙ ap (λ x. codes p ++ x) (append_assoc (codes q) (op_code o ∷ []) cs))
    ∙ decode_codes p (and_left (links? 64 p) (links? 64 q) h) (codes q ++ (op_code o ∷ cs)) st
    ∙ decode_codes q (and_right (links? 64 p) (links? 64 q) h) (op_code o ∷ cs) (erase p ∷ st)
    ∙ ap (λ x. decode cs x) (act_op o (erase p) (erase q) st)
decode_codes (closure p) h cs st =
    ap (λ x. decode (x ++ cs) st) (unary_codes p s_closure)
    ∙ ap (λ x. decode x st) (append_assoc (codes p) (133 ∷ []) cs)
    ∙ decode_codes p h (133 ∷ cs) st

pub codes_inj : (p q : PathExpr) → T (links? 64 p) → T (links? 64 q) → codes p ≡ codes q → erase p ≡ erase q
codes_inj p q h k e =
    let f : erase p ∷ [] ≡ erase q ∷ [] =
    sym (decode_codes p h [] []) ∙ ap (λ x. decode (x ++ []) []) e ∙ decode_codes q k [] [] in
    cc

-- ---- the order of code sequences
head? : (x y : ℕ) → (x < y) ⊎ ((x ≡ y) ⊎ (y < x))
head? x y = go (dec_le x y)
  where
    at : (x ≡ y) ⊎ (x < y) → (x < y) ⊎ ((x ≡ y) ⊎ (y < x))
    at (inl e) = inr (inl e)
    at (inr h) = inl h

    go : Dec (x ≤ y) → (x < y) ⊎ ((x ≡ y) ⊎ (y < x))
    go (yes h) = at (eq-or-lt_of_le h)
    go (no h) = let l : y < x = omega arith in inr (inr l)

before_head : (x y : ℕ) (xs ys : List ℕ) → x < y → T (before? (x ∷ xs) (y ∷ ys))
before_head x y xs ys h = or_left (ltb x y) (eqb x y && before? xs ys) (lt→ltb x y h)

before_tail : (x y : ℕ) (xs ys : List ℕ) → x ≡ y → T (before? xs ys) → T (before? (x ∷ xs) (y ∷ ys))
before_tail x y xs ys e t = or_right (ltb x y) (eqb x y && before? xs ys) (and_both (eqb x y) (before? xs ys) (eq→eqb x y e) t)

pub before_cases : (x y : ℕ) (xs ys : List ℕ) → T (before? (x ∷ xs) (y ∷ ys)) → (x < y) ⊎ ((x ≡ y) × T (before? xs ys))
before_cases x y xs ys t =
    elim (or_cases (ltb x y) (eqb x y && before? xs ys) t)
    [ inl u ↦ inl (ltb→lt x y u) | inr u ↦ inr (eqb→eq x y (and_left (eqb x y) (before? xs ys) u), and_right (eqb x y) (before? xs ys) u) ]

pub trichotomy : (xs ys : List ℕ) → T (before? xs ys) ⊎ ((xs ≡ ys) ⊎ T (before? ys xs))
trichotomy [] [] = inr (inl refl)
trichotomy [] (y ∷ ys) = inl tt
trichotomy (x ∷ xs) [] = inr (inr tt)
trichotomy (x ∷ xs) (y ∷ ys) = go (head? x y) (trichotomy xs ys)
  where
    Three : Type 0
    Three = T (before? (x ∷ xs) (y ∷ ys)) ⊎ ((x ∷ xs ≡ y ∷ ys) ⊎ T (before? (y ∷ ys) (x ∷ xs)))

    tails : x ≡ y → T (before? xs ys) ⊎ ((xs ≡ ys) ⊎ T (before? ys xs)) → Three
    tails e (inl t) = inl (before_tail x y xs ys e t)
    tails e (inr (inl f)) = inr (inl (ap₂ {C = List ℕ} (λ a b. a ∷ b) e f))
    tails e (inr (inr t)) = inr (inr (before_tail y x ys xs (sym e) t))

    go : (x < y) ⊎ ((x ≡ y) ⊎ (y < x)) → T (before? xs ys) ⊎ ((xs ≡ ys) ⊎ T (before? ys xs)) → Three
    go (inl h) rest = inl (before_head x y xs ys h)
    go (inr (inl e)) rest = tails e rest
    go (inr (inr h)) rest = inr (inr (before_head y x ys xs h))

pub before_trans : (xs ys zs : List ℕ) → T (before? xs ys) → T (before? ys zs) → T (before? xs zs)
before_trans [] [] zs t u = absurd t
before_trans [] (y ∷ ys) [] t u = u
before_trans [] (y ∷ ys) (z ∷ zs) t u = tt
before_trans (x ∷ xs) [] zs t u = absurd t
before_trans (x ∷ xs) (y ∷ ys) [] t u = absurd u
before_trans (x ∷ xs) (y ∷ ys) (z ∷ zs) t u = go (before_cases x y xs ys t) (before_cases y z ys zs u) (λ v w. before_trans xs ys zs v w)
  where
    go : (x < y) ⊎ ((x ≡ y) × T (before? xs ys)) → (y < z) ⊎ ((y ≡ z) × T (before? ys zs)) → (T (before? xs ys) → T (before? ys zs) → T (before? xs zs))
        → T (before? (x ∷ xs) (z ∷ zs))
    go (inl h) (inl k) rest = before_head x z xs zs (omega arith)
    go (inl h) (inr k) rest = before_head x z xs zs (omega arith)
    go (inr h) (inl k) rest = before_head x z xs zs (omega arith)
    go (inr h) (inr k) rest = before_tail x z xs zs (h.0 ∙ k.0) (rest h.1 k.1)

-- ---- members ascend
links_erase : (n : ℕ) (p : PathExpr) → links? n (erase p) ≡ links? n p
links_erase n (step d l) = refl
links_erase n (join v p q) = ap₂ (λ x y. x && y) (links_erase n p) (links_erase n q)
links_erase n (op o p q) = ap₂ (λ x y. x && y) (links_erase n p) (links_erase n q)
links_erase n (closure p) = links_erase n p

pub codes_merge : (p q : PathExpr) → codes (merge p q) ≡ codes p
codes_merge p q = sym (codes_erase (merge p q)) ∙ ap codes (merge_erase p q) ∙ codes_erase p

links_merge : (n : ℕ) (p q : PathExpr) → links? n (merge p q) ≡ links? n p
links_merge n p q = sym (links_erase n (merge p q)) ∙ ap (links? n) (merge_erase p q) ∙ links_erase n p

abbrev pub Linked : Member → Type 0
Linked m = T (links? 64 m.path)

pub merged_linked : (m n : Member) → Linked m → Linked n → Linked (merged m n)
merged_linked m n h k = subst T (sym (links_merge 64 m.path n.path)) h

-- paths that are not alike have different codes
apart_codes : (p q : PathExpr) → T (links? 64 p) → T (links? 64 q) → T (not (same_shape? p q)) → ¬ (codes p ≡ codes q)
unfolding same_shape? same?
apart_codes p q h k t e = T_not (same_shape? p q) t (to_decided (path_discrete (erase p) (erase q)) (codes_inj p q h k e))

insert_ascends : (m : Member) (ns : List Member) → Linked m → ((n : Member) → In n ns → Linked n) → Ascending ns → Ascending (insert m ns)
insert_ascends m [] lm ln asc = (λ n i. absurd (in-nil i), tt)
insert_ascends m (n ∷ ns) lm ln asc =
    cond-case Ascending (same_shape? m.path n.path)
    (λ a. (λ k i. subst (λ c. T (before? c (codes k.path))) (same_codes a) (asc.0 k i), asc.1))
    (λ a. cond-case Ascending (before? (codes m.path) (codes n.path))
    (λ b. (after b, asc))
    (λ b. (λ k i. insert_all After (λ x y a ax ay. after_merged x y ax) m ns (n_first a b) asc.0 k i, insert_ascends m ns lm (λ k i. ln k (there i)) asc.1)))
  where
    After : Member → Type 0
    After k = T (before? (codes n.path) (codes k.path))

    after_merged : (x y : Member) → After x → After (merged x y)
    after_merged x y h = subst (λ c. T (before? (codes n.path) c)) (sym (codes_merge x.path y.path)) h

    same_codes : T (same_shape? m.path n.path) → codes n.path ≡ codes (merge m.path n.path)
    same_codes a = sym (codes_erase n.path) ∙ ap codes (sym (same_shape m.path n.path a)) ∙ codes_erase m.path ∙ sym (codes_merge m.path n.path)

    after : T (before? (codes m.path) (codes n.path)) → (k : Member) → In k (n ∷ ns) → T (before? (codes m.path) (codes k.path))
    after b k (here e) = subst (λ x. T (before? (codes m.path) (codes x.path))) (sym e) b
    after b k (there i) = before_trans (codes m.path) (codes n.path) (codes k.path) b (asc.0 k i)

    n_first : T (not (same_shape? m.path n.path)) → T (not (before? (codes m.path) (codes n.path))) → After m
    n_first a b = go (trichotomy (codes m.path) (codes n.path))
      where
        go : T (before? (codes m.path) (codes n.path)) ⊎ ((codes m.path ≡ codes n.path) ⊎ T (before? (codes n.path) (codes m.path))) → After m
        go (inl t) = absurd (T_not (before? (codes m.path) (codes n.path)) b t)
        go (inr (inl e)) = absurd (apart_codes m.path n.path lm (ln n (here refl)) a e)
        go (inr (inr t)) = t

pub members_linked : (ts : List Triple) → ((t : Triple) → In t ts → T (links? 64 t.path)) → (n : Member) → In n (members ts) → Linked n
members_linked [] h n i = absurd (in-nil i)
members_linked (t ∷ ts) h n i = insert_all Linked (λ m n a. merged_linked m n) (of_triple t) (members ts) (h t (here refl)) (members_linked ts (λ u j. h u (there j))) n i

pub members_ascend : (ts : List Triple) → ((t : Triple) → In t ts → T (links? 64 t.path)) → Ascending (members ts)
members_ascend [] h = tt
members_ascend (t ∷ ts) h =
    insert_ascends (of_triple t) (members ts) (h t (here refl)) (members_linked ts (λ u j. h u (there j))) (members_ascend ts (λ u j. h u (there j)))
