-- The list that grows while it is read is the definition's list of walks without repeats; what else is needed of lists without repeats.
-- Assumes nothing.
use mathlib.Core.Path.{◌≡◌, refl, sym, ap, ◌∙◌, subst}
use mathlib.Core.Logic.{◌⊎◌, inl, inr, ⊎_elim}
use mathlib.Core.Bool.{Bool, true, false, not, cond}
use mathlib.Core.List.Memᴰ.{append_cases as in-append}
use mathlib.Core.List.Memᴰ.{head as here}
use mathlib.Core.List.Memᴰ.{tail as there}
use mathlib.Core.List.{List, [], ◌∷◌, ◌++◌, append_assoc, append-nil, Memᴰ as In}
use mathlib.Core.List.Memᴰ.{append_left as in_left}
use mathlib.Core.List.Memᴰ.{eq_of_singleton as in_one}
use mathlib.Core.List.Memᴰ.{not-nil as in-nil}
use Prim.Native.Nat.{ℕ, zero, suc, ◌+◌, ◌≤◌, ◌<◌}
use native.Mathlib.Nat.{zero-add, add-suc, suc-add}
use native.Mathlib.Decide.{dec_le}
use native.Mathlib.Omega.{arith}
use lib.Dec.{T, T_not, not_T, ltb, leb, leb→le, le→leb}
use lib.ListN.{length, get_or, length-append}
use borrow.Author.Tests.{lt-ltb, le-ltb}
use Rattle.theory.specs.Lists.{guard, filter, some?, adjoin, adjoin_all, concat_map, tabulate, range, NoRepeat}
use Rattle.theory.specs.PathExpr.{Op, union, conjunction, branch_right, branch_left, PathExpr, step, join, op, closure, size}
use Rattle.theory.specs.Sheet.{Sheet}
use Rattle.theory.specs.Inference.{Triple, triple, triple?, distinct, stepped?, between, of_step, of_join, pairs, end_to_end?, same_ends?, same_start?, joined, conjoined, branched_right}
use Rattle.theory.specs.Inference.{branched_left, of_op, reach, meets_cyclic?, acyclic?, walks, of_closure, triples, free, kept_closures}
use Rattle.theory.specs.Narrowing.{short?}
use Rattle.algorithms.specs.Growth.{no_triple, grown, grow}
use Rattle.theory.proofs.Tests.{test, of_true, cond-case, bool_eq, apart}
use Rattle.theory.proofs.Lists.{in_guard, in_filter, some_in, in_some, every_in, in_every, in_concat_map, in_tabulate}
use Rattle.theory.proofs.Distinct.{in_adjoin, adjoin_all_old, adjoin_all_new, adjoin_all_append, adjoin_all_longer}
use Rattle.theory.proofs.Triples.{triple_eq, triple_refl, in_distinct, distinct_in, distinct_norepeat, in_pairs, in_between}
use Rattle.theory.proofs.Walks.{level, level_size, walks_in, in_walks}

-- ---- `adjoin_all`
module _ {A : Type 0} (eq : A → A → Bool) where
  pub adjoin_present : (xs : List A) (x : A) → T (some? (eq x) xs) → adjoin eq xs x ≡ xs
  unfolding adjoin
  adjoin_present xs x t = cond-case (λ zs. zs ≡ xs) (some? (eq x) xs) (λ _. refl) (λ s. absurd (T_not (some? (eq x) xs) s t))

  pub adjoin_absent : (xs : List A) (x : A) → T (not (some? (eq x) xs)) → adjoin eq xs x ≡ xs ++ (x ∷ [])
  unfolding adjoin
  adjoin_absent xs x s = cond-case (λ zs. zs ≡ xs ++ (x ∷ [])) (some? (eq x) xs) (λ t. absurd (T_not (some? (eq x) xs) s t)) (λ _. refl)

  -- what stood before stands first
  adjoin_first : (xs : List A) (x : A) → (zs : List A) × (adjoin eq xs x ≡ xs ++ zs)
  adjoin_first xs x = go (test (some? (eq x) xs))
    where
      go : T (some? (eq x) xs) ⊎ T (not (some? (eq x) xs)) → (zs : List A) × (adjoin eq xs x ≡ xs ++ zs)
      go (inl t) = ([], adjoin_present xs x t ∙ sym (append-nil xs))
      go (inr t) = (x ∷ [], adjoin_absent xs x t)

  pub adjoin_all_first : (xs ys : List A) → (zs : List A) × (adjoin_all eq xs ys ≡ xs ++ zs)
  adjoin_all_first xs [] = ([], sym (append-nil xs))
  adjoin_all_first xs (y ∷ ys) =
      let a = adjoin_first xs y in
      let r = adjoin_all_first (adjoin eq xs y) ys in
      (a.0 ++ r.0, r.1 ∙ ap (λ l. l ++ r.0) a.1 ∙ append_assoc xs a.0 r.0)

  module _ (sound : (x y : A) → T (eq x y) → x ≡ y) (reflexive : (x : A) → T (eq x x)) where
    in_is : (xs : List A) (x : A) → T (some? (eq x) xs) → In x xs
    in_is xs x t = let r = some_in (eq x) xs t in subst (λ u. In u xs) (sym (sound x r.0 r.2)) r.1

    -- nothing is new
    pub adjoin_all_none : (xs ys : List A) → ((y : A) → In y ys → In y xs) → adjoin_all eq xs ys ≡ xs
    adjoin_all_none xs [] h = refl
    adjoin_all_none xs (y ∷ ys) h =
        ap (λ l. adjoin_all eq l ys) (adjoin_present xs y (in_some (eq y) (h y (here refl)) (reflexive y)))
        ∙ adjoin_all_none xs ys (λ z m. h z (there m))

    -- all is new
    pub adjoin_all_fresh : (xs ys : List A) → NoRepeat ys → ((y : A) → In y ys → ¬ In y xs) → adjoin_all eq xs ys ≡ xs ++ ys
    adjoin_all_fresh xs [] n h = sym (append-nil xs)
    adjoin_all_fresh xs (y ∷ ys) n h =
        ap (λ l. adjoin_all eq l ys) (adjoin_absent xs y (not_T (some? (eq y) xs) (λ t. h y (here refl) (in_is xs y t))))
        ∙ adjoin_all_fresh (xs ++ (y ∷ [])) ys n.1
        (λ z m k. ⊎_elim (h z (there m)) (λ i. n.0 (subst (λ u. In u ys) (in_one i) m)) (in-append xs k))
        ∙ append_assoc xs (y ∷ []) ys

-- ---- lists without repeats
module _ {A : Type 0} where
  append_norepeat : (xs ys : List A) → NoRepeat xs → NoRepeat ys → ((x : A) → In x xs → ¬ In x ys) → NoRepeat (xs ++ ys)
  append_norepeat [] ys n k h = k
  append_norepeat (x ∷ xs) ys n k h = ((λ m. ⊎_elim n.0 (h x (here refl)) (in-append xs m)), append_norepeat xs ys n.1 k (λ y m. h y (there m)))

  guard_norepeat : (b : Bool) (xs : List A) → NoRepeat xs → NoRepeat (guard b xs)
  guard_norepeat true xs n = n
  guard_norepeat false xs n = tt

  pub filter_norepeat : (f : A → Bool) (xs : List A) → NoRepeat xs → NoRepeat (filter f xs)
  filter_norepeat f [] n = tt
  filter_norepeat f (x ∷ xs) n =
      cond-case NoRepeat (f x) (λ _. ((λ m. n.0 (in_filter f xs m).0), filter_norepeat f xs n.1)) (λ _. filter_norepeat f xs n.1)

-- lists that an element of each tells apart
concat_map_norepeat : {A B : Type 0} (f : A → List B) (key : B → A) → ((x : A) (y : B) → In y (f x) → key y ≡ x) → ((x : A) → NoRepeat (f x))
    → (xs : List A) → NoRepeat xs → NoRepeat (concat_map f xs)
concat_map_norepeat f key is each [] n = tt
concat_map_norepeat f key is each (x ∷ xs) n =
    append_norepeat (f x) (concat_map f xs) (each x) (concat_map_norepeat f key is each xs n.1)
    (λ y m k. let r = in_concat_map f xs k in n.0 (subst (λ u. In u xs) (sym (is r.0 y r.2) ∙ is x y m) r.1))

range_norepeat : (i n : ℕ) → NoRepeat (tabulate (λ k. k) i n)
range_norepeat i zero = tt
range_norepeat i (suc n) = ((λ m. let r = in_tabulate (λ k. k) (suc i) n m in omega (arith, r.2)), range_norepeat (suc i) n)

pub between_norepeat : (n : ℕ) (p : PathExpr) (f : ℕ → ℕ → Bool) → NoRepeat (between n p f)
between_norepeat n p f = concat_map_norepeat row (λ t. t.from) from_is each (range n) (range_norepeat 0 n)
  where
    place : ℕ → ℕ → List Triple
    place a b = guard (f a b) (triple a p b ∷ [])

    row : ℕ → List Triple
    row a = concat_map (place a) (range n)

    is_at : (a b : ℕ) (t : Triple) → In t (place a b) → t ≡ triple a p b
    is_at a b t m = in_one (in_guard (f a b) (triple a p b ∷ []) m).1

    from_is : (a : ℕ) (t : Triple) → In t (row a) → t.from ≡ a
    from_is a t m = let r = in_concat_map (place a) (range n) m in ap (λ u. u.from) (is_at a r.0 t r.2)

    each : (a : ℕ) → NoRepeat (row a)
    each a = concat_map_norepeat (place a) (λ t. t.to) (λ b t m. ap (λ u. u.to) (is_at a b t m)) (λ b. guard_norepeat (f a b) (triple a p b ∷ []) (in-nil, tt)) (range n) (range_norepeat 0 n)

-- of a list without repeats nothing goes
pub distinct_whole : (ts : List Triple) → NoRepeat ts → distinct ts ≡ ts
distinct_whole ts n = adjoin_all_fresh triple? triple_eq triple_refl [] ts n (λ y m k. in-nil k)

pub triples_norepeat : (S : Sheet) (o : PathExpr) → NoRepeat (triples S o)
triples_norepeat S (step d l) = distinct_norepeat (of_step S d l)
triples_norepeat S (join v p q) = distinct_norepeat (of_join (triples S p) (triples S q))
triples_norepeat S (op o p q) = distinct_norepeat (of_op o (triples S p) (triples S q))
triples_norepeat S (closure p) = distinct_norepeat (of_closure S.kinds p (triples S p))

-- ---- the turns of the growth
module _ (fs : List Triple) where
  pub grow_over : (n : ℕ) (ts : List Triple) (i : ℕ) → length ts ≤ i → grow n fs ts i ≡ ts
  unfolding grow
  grow_over zero ts i l = refl
  grow_over (suc n) ts i l = rw (le-ltb i (length ts) l)

  pub grow_turn : (n : ℕ) (ts : List Triple) (i : ℕ) → i < length ts → grow (suc n) fs ts i ≡ grow n fs (grown fs ts i) (suc i)
  unfolding grow
  grow_turn n ts i l = rw (lt-ltb i (length ts) l)

  grown_longer : (ts : List Triple) (i : ℕ) → length ts ≤ length (grown fs ts i)
  grown_longer ts i = adjoin_all_longer triple? ts (of_join (get_or ts i no_triple ∷ []) fs)

  pub grow_longer : (n : ℕ) (ts : List Triple) (i : ℕ) → length ts ≤ length (grow n fs ts i)
  unfolding grow
  grow_longer zero ts i = omega arith
  grow_longer (suc n) ts i = go (ltb i (length ts)) (grow_longer n (grown fs ts i) (suc i))
    where
      go : (b : Bool) → length (grown fs ts i) ≤ length (grow n fs (grown fs ts i) (suc i)) → length ts ≤ length (cond b (grow n fs (grown fs ts i) (suc i)) ts)
      go true l = omega (arith, grown_longer ts i)
      go false l = omega arith

  -- there are as many elements as turns, or more turns add nothing
  pub grow_ends : (n : ℕ) (ts : List Triple) (i : ℕ) → i ≤ length ts → (i + n ≤ length (grow n fs ts i)) ⊎ ((m : ℕ) → n ≤ m → grow m fs ts i ≡ grow n fs ts i)
  unfolding grow
  grow_ends zero ts i h = inl (omega arith)
  grow_ends (suc n) ts i h = go (dec_le (suc i) (length ts)) (λ l. grow_ends n (grown fs ts i) (suc i) (omega (arith, grown_longer ts i)))
    where
      Ends : List Triple → Type 0
      Ends us = (i + suc n ≤ length us) ⊎ ((m : ℕ) → suc n ≤ m → grow m fs ts i ≡ us)

      more : i < length ts → (m : ℕ) → suc n ≤ m → ((m : ℕ) → n ≤ m → grow m fs (grown fs ts i) (suc i) ≡ grow n fs (grown fs ts i) (suc i))
          → grow m fs ts i ≡ grow n fs (grown fs ts i) (suc i)
      more l zero k f = absurd (omega arith)
      more l (suc m) k f = grow_turn m ts i l ∙ f m (omega arith)

      go : Dec (i < length ts) → (i < length ts → (suc i + n ≤ length (grow n fs (grown fs ts i) (suc i))) ⊎ ((m : ℕ) → n ≤ m → grow m fs (grown fs ts i) (suc i) ≡ grow n fs (grown fs ts i) (suc i)))
          → Ends (grow (suc n) fs ts i)
      go (yes l) rest = subst Ends (sym (grow_turn n ts i l)) (⊎_elim (λ k. inl (omega arith)) (λ f. inr (λ m k. more l m k f)) (rest l))
      go (no l) rest = inr (λ m k. grow_over m ts i (omega arith) ∙ sym (grow_over (suc n) ts i (omega arith)))

-- ts, read from the i-th on, grows to us
data Grows (fs : List Triple) : List Triple → ℕ → List Triple → Type 0 where
  over : {ts : List Triple} {i : ℕ} → length ts ≤ i → Grows fs ts i ts
  turn : {ts us : List Triple} {i : ℕ} → i < length ts → Grows fs (grown fs ts i) (suc i) us → Grows fs ts i us

module _ {fs : List Triple} where
  grows_longer : {ts us : List Triple} {i : ℕ} → Grows fs ts i us → length ts ≤ length us
  grows_longer (over l) = omega arith
  grows_longer (turn {ts} {us} {i} l g) = omega (arith, grows_longer g, grown_longer fs ts i)

  -- with turns enough
  grows_enough : {ts us : List Triple} {i : ℕ} → Grows fs ts i us → (n : ℕ) → length us ≤ i + n → grow n fs ts i ≡ us
  grows_enough (over {ts} {i} l) n h = grow_over fs n ts i l
  grows_enough (turn {ts} {us} {i} l g) zero h = absurd (omega (arith, grows_longer g, grown_longer fs ts i))
  grows_enough (turn {ts} {us} {i} l g) (suc n) h = grow_turn fs n ts i l ∙ grows_enough g n (omega arith)

  -- with fewer, as many elements as turns
  grows_some : {ts us : List Triple} {i : ℕ} → Grows fs ts i us → (n : ℕ) → i ≤ length ts → i + n ≤ length us → i + n ≤ length (grow n fs ts i)
  unfolding grow
  grows_some (over {ts} {i} l) n k h = let e = grow_over fs n ts i l in omega (arith, ap length e)
  grows_some (turn {ts} {us} {i} l g) zero k h = omega arith
  grows_some (turn {ts} {us} {i} l g) (suc n) k h =
      let r = grows_some g n (omega (arith, grown_longer fs ts i)) (omega arith) in
      omega (arith, ap length (grow_turn fs n ts i l))

-- ---- level by level
at_length : {A : Type 0} (xs : List A) (x : A) (ys : List A) (d : A) → get_or ((xs ++ (x ∷ [])) ++ ys) (length xs) d ≡ x
at_length [] x ys d = refl
at_length (z ∷ xs) x ys d = at_length xs x ys d

module _ (fs : List Triple) where
  -- x joined with each of fs
  abbrev pub extended : Triple → List Triple
  extended x = concat_map (λ y. guard (end_to_end? x y) (joined x y ∷ [])) fs

  pub join_one : (x : Triple) → of_join (x ∷ []) fs ≡ extended x
  join_one x = append-nil (extended x)

  abbrev all : List Triple → List Triple → List Triple
  all xs ys = adjoin_all triple? xs ys

  -- what the elements of ds extend to stands in ts
  abbrev Closed : List Triple → List Triple → Type 0
  Closed ds ts = (x : Triple) → In x ds → (y : Triple) → In y (extended x) → In y ts

  -- One element r of a level: ds are read, the rest of the level follows, then what has been found of the next one.
  module _ (us ds : List Triple) (r : Triple) (rs ns : List Triple) (c : Closed ds (all ds (r ∷ rs ++ ns))) where
    abbrev now : List Triple
    now = all ds (r ∷ rs ++ ns)

    abbrev read : List Triple
    read = adjoin triple? ds r

    after : all read (rs ++ (ns ++ extended r)) ≡ all now (extended r)
    after = ap (all read) (sym (append_assoc rs ns (extended r))) ∙ adjoin_all_append triple? read (rs ++ ns) (extended r)

    closed_after : Closed read (all now (extended r))
    closed_after x m y k = go (in_adjoin triple? ds m)
      where
        go : In x ds ⊎ (x ≡ r) → In y (all now (extended r))
        go (inl i) = adjoin_all_old triple? now (extended r) (c x i y k)
        go (inr e) = adjoin_all_new triple? triple_eq now (subst (λ u. In y (extended u)) e k)

    one : Grows fs (all now (extended r)) (length read) us → Grows fs now (length ds) us
    one g = go (test (some? (triple? r) ds))
      where
        old : T (some? (triple? r) ds) → Grows fs now (length ds) us
        old t =
            let m = in_is triple? triple_eq triple_refl ds r t in
            subst (λ l. Grows fs l (length ds) us) (adjoin_all_none triple? triple_eq triple_refl now (extended r) (c r m))
            (subst (λ l. Grows fs (all now (extended r)) (length l) us) (adjoin_present triple? ds r t) g)

        new : T (not (some? (triple? r) ds)) → Grows fs now (length ds) us
        new t =
            let e = adjoin_absent triple? ds r t in
            let f = adjoin_all_first triple? read (rs ++ ns) in
            let w : now ≡ (ds ++ (r ∷ [])) ++ f.0 = f.1 ∙ ap (λ l. l ++ f.0) e in
            let a : get_or now (length ds) no_triple ≡ r = ap (λ l. get_or l (length ds) no_triple) w ∙ at_length ds r f.0 no_triple in
            let n : length read ≡ suc (length ds) = ap length e ∙ length-append ds (r ∷ []) ∙ omega arith in
            let b : all now (extended r) ≡ grown fs now (length ds) = ap (λ l. all now l) (sym (join_one r)) ∙ ap (λ u. all now (of_join (u ∷ []) fs)) (sym a) in
            let l : length ds < length now = omega (arith, n, ap length f.1, length-append read f.0) in
            turn l (subst (λ l. Grows fs l (suc (length ds)) us) b (subst (λ k. Grows fs (all now (extended r)) k us) n g))

        go : T (some? (triple? r) ds) ⊎ T (not (some? (triple? r) ds)) → Grows fs now (length ds) us
        go (inl t) = old t
        go (inr t) = new t

  -- a whole level
  sweep : (us rs ns ds : List Triple) → Closed ds (all ds (rs ++ ns))
      → (Closed (all ds rs) (all (all ds rs) (ns ++ of_join rs fs)) → Grows fs (all (all ds rs) (ns ++ of_join rs fs)) (length (all ds rs)) us)
      → Grows fs (all ds (rs ++ ns)) (length ds) us
  sweep us [] ns ds c go = subst (λ l. Closed ds (all ds l) → Grows fs (all ds l) (length ds) us) (append-nil ns) go c
  sweep us (r ∷ rs) ns ds c go =
      let ds₁ = adjoin triple? ds r in
      one us ds r rs ns c
      (subst (λ l. Grows fs l (length ds₁) us) (after us ds r rs ns c)
      (sweep us rs (ns ++ extended r) ds₁ (subst (Closed ds₁) (sym (after us ds r rs ns c)) (closed_after us ds r rs ns c))
      (subst (λ l. Closed (all ds₁ rs) (all (all ds₁ rs) l) → Grows fs (all (all ds₁ rs) l) (length (all ds₁ rs)) us) (sym (append_assoc ns (extended r) (of_join rs fs))) go)))

  -- n levels, of which the last is empty
  levels : (n i : ℕ) (ds : List Triple) → level fs (n + i) ≡ [] → Closed ds (all ds (level fs i)) → Grows fs (all ds (level fs i)) (length ds) (all ds (walks n (level fs i) fs))
  levels zero i ds e c =
      let z : level fs i ≡ [] = subst (λ k. level fs k ≡ []) (zero-add i) e in
      subst (λ l. Grows fs (all ds l) (length ds) (all ds l)) (sym z) (over (omega arith))
  levels (suc n) i ds e c =
      let ws = walks n (level fs (suc i)) fs in
      subst (Grows fs (all ds (level fs i)) (length ds)) (sym (adjoin_all_append triple? ds (level fs i) ws))
      (subst (λ l. Grows fs (all ds l) (length ds) (all (all ds (level fs i)) ws)) (append-nil (level fs i))
      (sweep (all (all ds (level fs i)) ws) (level fs i) [] ds (subst (λ l. Closed ds (all ds l)) (sym (append-nil (level fs i))) c)
      (levels n (suc i) (all ds (level fs i)) (subst (λ k. level fs k ≡ []) (suc-add n i ∙ sym (add-suc n i)) e))))

-- ---- the growth and the walks
none_in : {A : Type 0} (xs : List A) → ((x : A) → ¬ In x xs) → xs ≡ []
none_in [] h = refl
none_in (x ∷ xs) h = absurd (h x (here refl))

abbrev pub walks_once : List Triple → List Triple
walks_once fs = distinct (walks 24 fs fs)

module _ (fs : List Triple) (norepeat : NoRepeat fs) (short : short? (walks 24 fs fs) ≡ true) where
  -- a walk of 25 triples would have 49 symbols
  level_none : level fs 24 ≡ []
  level_none =
      none_in (level fs 24)
      (λ t m.
      let s = leb→le (size t.path) 48 (every_in (λ u. leb (size u.path) 48) (of_true (short? (walks 24 fs fs)) short) (walks_in fs 24 0 24 (omega arith) m)) in
      omega (arith, level_size fs 24 m))

  grows_walks : Grows fs fs 0 (walks_once fs)
  grows_walks = subst (λ l. Grows fs l 0 (walks_once fs)) (distinct_whole fs norepeat) (levels fs 24 0 [] level_none (λ x m. absurd (in-nil m)))

  -- with as many turns as there are walks, or more, all walks
  pub grow_enough : (n : ℕ) → length (walks_once fs) ≤ n → grow n fs fs 0 ≡ walks_once fs
  grow_enough n h = grows_enough grows_walks n (omega arith)

  -- with no more turns than there are walks, as many walks as turns
  pub grow_some : (n : ℕ) → n ≤ length (walks_once fs) → n ≤ length (grow n fs fs 0)
  grow_some n h = let r = grows_some grows_walks n (omega arith) (omega arith) in omega arith

  pub grow_few : length (walks_once fs) ≤ 128 → grow 129 fs fs 0 ≡ walks_once fs
  grow_few h = grow_enough 129 (omega arith)

  pub grow_many : 128 < length (walks_once fs) → 128 < length (grow 129 fs fs 0)
  grow_many h = grow_some 129 h

  -- the same from the growth's side
  pub few_grown : length (grow 129 fs fs 0) ≤ 128 → grow 129 fs fs 0 ≡ walks_once fs
  few_grown h = go (dec_le (length (walks_once fs)) 128)
    where
      go : Dec (length (walks_once fs) ≤ 128) → grow 129 fs fs 0 ≡ walks_once fs
      go (yes l) = grow_few l
      go (no l) = absurd (omega (arith, grow_many (omega arith)))

  pub many_grown : 128 < length (grow 129 fs fs 0) → 128 < length (walks_once fs)
  many_grown h = go (dec_le (length (walks_once fs)) 128)
    where
      go : Dec (length (walks_once fs) ≤ 128) → 128 < length (walks_once fs)
      go (yes l) = absurd (omega (arith, ap length (grow_few l)))
      go (no l) = omega arith

-- ---- no triple of a part has the part's closure as its path
-- a walk whose path is a closure is a single triple
level_single : (fs : List Triple) (q : PathExpr) (j : ℕ) {t : Triple} → In t (level fs j) → t.path ≡ closure q → In t fs
level_single fs q zero m e = m
level_single fs q (suc j) {t} m e =
    let r = in_pairs end_to_end? joined (level fs j) fs m in
    let f : t.path ≡ (joined r.fst r.snd).path = ap (λ u. u.path) r.given in
    apart cc

walk_single : (fs : List Triple) (q : PathExpr) {t : Triple} → In t (walks 24 fs fs) → t.path ≡ closure q → In t fs
walk_single fs q m e = let j = in_walks fs 24 0 m in level_single fs q j.0 j.1 e

pair_apart : (fits : Triple → Triple → Bool) (o : Op) (give : Triple → Triple → Triple) → ((x y : Triple) → (give x y).path ≡ op o x.path y.path)
    → (xs ys : List Triple) {t : Triple} → In t (pairs fits give xs ys) → (q : PathExpr) → ¬ (t.path ≡ closure q)
pair_apart fits o give is xs ys {t} m q e =
    let r = in_pairs fits give xs ys m in
    let f : t.path ≡ op o r.fst.path r.snd.path = ap (λ u. u.path) r.given ∙ is r.fst r.snd in
    apart cc

pub closure_smaller : (S : Sheet) (o : PathExpr) {t : Triple} → In t (triples S o) → (q : PathExpr) → t.path ≡ closure q → size q < size o
unfolding of_closure
closure_smaller S (step d l) {t} m q e =
    let r = in_between S.kinds (step d l) (stepped? S d l) (in_distinct (of_step S d l) m) in
    let f : t.path ≡ step d l = ap (λ u. u.path) r.3 in
    apart cc
closure_smaller S (join v p p') {t} m q e =
    let r = in_pairs end_to_end? joined (triples S p) (triples S p') (in_distinct (of_join (triples S p) (triples S p')) m) in
    let f : t.path ≡ (joined r.fst r.snd).path = ap (λ u. u.path) r.given in
    apart cc
closure_smaller S (op union p p') m q e =
    ⊎_elim (λ i. let l = closure_smaller S p i q e in omega arith) (λ i. let l = closure_smaller S p' i q e in omega arith)
    (in-append (triples S p) (in_distinct (triples S p ++ triples S p') m))
closure_smaller S (op conjunction p p') m q e =
    absurd (pair_apart same_ends? conjunction conjoined (λ x y. refl) (triples S p) (triples S p') (in_distinct (of_op conjunction (triples S p) (triples S p')) m) q e)
closure_smaller S (op branch_right p p') m q e =
    absurd (pair_apart end_to_end? branch_right branched_right (λ x y. refl) (triples S p) (triples S p') (in_distinct (of_op branch_right (triples S p) (triples S p')) m) q e)
closure_smaller S (op branch_left p p') m q e =
    absurd (pair_apart same_start? branch_left branched_left (λ x y. refl) (triples S p) (triples S p') (in_distinct (of_op branch_left (triples S p) (triples S p')) m) q e)
closure_smaller S (closure p) {t} m q e =
    go (in-append (walks 24 fs fs) (in_distinct (of_closure S.kinds p (triples S p)) m)) (λ i. closure_smaller S p i q e)
  where
    fs : List Triple
    fs = free S.kinds (triples S p)

    f : ℕ → ℕ → Bool
    f = meets_cyclic? S.kinds (reach S.kinds (triples S p))

    go : In t (walks 24 fs fs) ⊎ In t (between S.kinds (closure p) f) → (In t (triples S p) → size q < size p) → size q < size (closure p)
    go (inl i) below = let l = below (in_filter (acyclic? (reach S.kinds (triples S p))) (triples S p) (walk_single fs q i e)).0 in omega arith
    go (inr i) below =
        let r = in_between S.kinds (closure p) f i in
        let g : t.path ≡ closure p = ap (λ u. u.path) r.3 in
        let z : q ≡ p = cc in
        omega (arith, ap size z)

-- ---- the triples of a closure by the growth
abbrev short_one : Triple → Bool
short_one t = leb (size t.path) 48

module _ (K : ℕ) (p : PathExpr) (ts : List Triple) where
  abbrev fs : List Triple
  fs = free K ts

  -- the walks once, then the closures that are kept
  pub closure_distinct : distinct (of_closure K p ts) ≡ adjoin_all triple? (distinct (walks 24 fs fs)) (kept_closures K p ts)
  unfolding of_closure
  closure_distinct = adjoin_all_append triple? [] (walks 24 fs fs) (kept_closures K p ts)

  kept_path : (t : Triple) → In t (kept_closures K p ts) → t.path ≡ closure p
  kept_path t m = let r = in_between K (closure p) (meets_cyclic? K (reach K ts)) m in ap (λ u. u.path) r.3

  -- none of these is a walk
  pub closure_apart : ((t : Triple) → In t ts → ¬ (t.path ≡ closure p)) → (xs : List Triple) → ((t : Triple) → In t xs → In t (walks 24 fs fs))
      → adjoin_all triple? xs (kept_closures K p ts) ≡ xs ++ kept_closures K p ts
  closure_apart h xs is =
      adjoin_all_fresh triple? triple_eq triple_refl xs (kept_closures K p ts) (between_norepeat K (closure p) (meets_cyclic? K (reach K ts)))
      (λ t m k. let e = kept_path t m in h t (in_filter (acyclic? (reach K ts)) ts (walk_single fs p (is t k) e)).0 e)

  -- a closure of a question is short itself: whether all are short, the walks tell
  pub closure_short : size p ≤ 47 → short? (distinct (of_closure K p ts)) ≡ short? (walks 24 fs fs)
  unfolding of_closure
  closure_short s =
      bool_eq (short? (distinct (of_closure K p ts))) (short? (walks 24 fs fs))
      (λ t. in_every short_one (walks 24 fs fs) (λ u m. every_in short_one t (distinct_in (in_left (kept_closures K p ts) m))))
      (λ t. in_every short_one (distinct (of_closure K p ts)) (λ u m. ⊎_elim (every_in short_one t) (kept_short u) (in-append (walks 24 fs fs) (in_distinct (of_closure K p ts) m))))
    where
      kept_short : (u : Triple) → In u (kept_closures K p ts) → T (short_one u)
      kept_short u m = le→leb (size u.path) 48 (let e = ap size (kept_path u m) in omega arith)

  module _ (norepeat : NoRepeat ts) (short : short? (walks 24 fs fs) ≡ true) where
    free_norepeat : NoRepeat fs
    free_norepeat = filter_norepeat (acyclic? (reach K ts)) ts norepeat

    pub closure_few : length (grow 129 fs fs 0) ≤ 128 → distinct (of_closure K p ts) ≡ adjoin_all triple? (grow 129 fs fs 0) (kept_closures K p ts)
    closure_few l = closure_distinct ∙ ap (λ xs. adjoin_all triple? xs (kept_closures K p ts)) (sym (few_grown fs free_norepeat short l))

    pub closure_many : 128 < length (grow 129 fs fs 0) → 128 < length (distinct (of_closure K p ts))
    closure_many l =
        omega (arith, many_grown fs free_norepeat short l, ap length closure_distinct, adjoin_all_longer triple? (distinct (walks 24 fs fs)) (kept_closures K p ts))

-- the same of a part's closure, where the closures that are kept need no comparing
module _ (S : Sheet) (p : PathExpr) (short : short? (walks 24 (free S.kinds (triples S p)) (free S.kinds (triples S p))) ≡ true) where
  abbrev gs : List Triple
  gs = free S.kinds (triples S p)

  pub triples_few : length (grow 129 gs gs 0) ≤ 128 → triples S (closure p) ≡ grow 129 gs gs 0 ++ kept_closures S.kinds p (triples S p)
  triples_few l =
      closure_few S.kinds p (triples S p) (triples_norepeat S p) short l
      ∙ closure_apart S.kinds p (triples S p) (λ t m e. let k = closure_smaller S p m p e in omega arith) (grow 129 gs gs 0)
      (λ t m. in_distinct (walks 24 gs gs) (subst (λ (l : List Triple). In t l) (few_grown gs (free_norepeat S.kinds p (triples S p) (triples_norepeat S p) short) short l) m))

  pub triples_many : 128 < length (grow 129 gs gs 0) → 128 < length (triples S (closure p))
  triples_many l = closure_many S.kinds p (triples S p) (triples_norepeat S p) short l
