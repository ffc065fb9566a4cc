-- The judgement of members without their bytes is the reader's judgement of the file that they make.
-- Assumes nothing.
use Prim.Native.Nat.{ℕ, zero, suc, ◌+◌, ◌-◌, ◌<◌, ◌≤◌}
use mathlib.Core.Path.{◌≡◌, refl, ap, ◌∙◌, sym, subst}
use mathlib.Core.Bool.{Bool, true, false, cond, ◌&&◌}
use mathlib.Core.List.{List, [], ◌∷◌, ◌++◌, append_assoc, append-nil}
use lib.ListN.{length, get_or, take, drop, length-drop}
use lib.Dec.{leb, eqb}
use native.Mathlib.Omega.{arith}
use native.Mathlib.Decide.{dec_le, ℕ_discrete}
use mathlib.Core.Logic.{inl}
use borrow.Author.Tests.{leb-true, eq-eqb, ne_eqb}
use Rattle.theory.specs.PathExpr.{before?}
use Rattle.symbols.specs.declared.Stack.{Stack}
use Rattle.fields.specs.Table.{rows, tag_length, field_size}
use Rattle.theory.specs.Result.{Result, got, refused, onward}
use Rattle.fields.specs.Reading.{read, kept}
use Rattle.symbols.specs.Symbols.{Numbered, numbered, symbol_numbered, symbol_of, symbol?, symbol_in, arity, push, symbols_given}
use Rattle.fields.proofs.Bools.{and_left}
use Rattle.fields.proofs.ReaderLoop.{Going, going_start, going_ends, going_more, going_refused}
use Rattle.narrowed_question.specs.declared.Members.{Members}
use Rattle.narrowed_question.specs.Form.{Flat, flat, numbers, order_codes, Gathered, gathered, narrowed_format, narrowed_form}
use Rattle.narrowed_question.specs.Form.{due, grown, nothing, opens, count_of, fresh, open_of, member_symbol}
use Rattle.fields.specs.Writing.{two_bytes}
use Rattle.symbols.specs.Writing.{symbol_tag, symbol_body, symbol_bytes, symbols_bytes}
use Rattle.narrowed_question.specs.Writing.{head_bytes, member_bytes, members_bytes, encode}
use Rattle.narrowed_question.specs.ArrayMembers.{members_given, given}
use Rattle.fields.proofs.Bytes.{word_back}
use Rattle.fields.proofs.Lies.{Lies, field_lies, ends_lie}
use Rattle.symbols.proofs.Bytes.{symbol_fits, symbol_short, symbol_reads, through_reads, operator_refused, field_length, tag_same}
use Rattle.symbols.proofs.Numbers.{known_below, known_through, unknown, closure_above}
use Rattle.narrowed_question.proofs.WrittenThenRead.{head_fits, open_fits, head_body, from_back, to_back}
use Rattle.narrowed_question.specs.declared.Standing.{Standing}
use Rattle.narrowed_question.specs.declared.Standing.TheVariants.{Head, Between, Within}
use Rattle.encode.specs.Size.{symbol_size}
use Rattle.narrowed_writer.specs.Verdict.{offered, path_verdict, member_verdict, members_verdict, verdict}
use Rattle.narrowed_writer.proofs.Judging.{offered_got}

-- only a join through a set has one
abbrev Normal : Numbered → Type 0
Normal x = eqb x.number 255 ≡ false → x.set ≡ 0

abbrev Normals : List Numbered → Type 0
Normals [] = Unit {0}
Normals (x ∷ xs) = Normal x × Normals xs

abbrev pub AllNormal : List Flat → Type 0
AllNormal [] = Unit {0}
AllNormal (m ∷ ms) = Normals m.symbols × AllNormal ms

symbols_normal : (ns ms : List ℕ) (n k : ℕ) → Normals (symbols_given ns ms n k)
symbols_normal ns ms zero k = tt
symbols_normal ns ms (suc n) k = (λ e. simp e, symbols_normal ns ms n (suc k))

members_normal : (q : Members) (n i k : ℕ) → AllNormal (members_given q n i k)
members_normal q zero i k = tt
members_normal q (suc n) i k = (symbols_normal q.numbers q.sets (get_or q.sizes i 0) k, members_normal q n (suc i) (k + get_or q.sizes i 0))

pub given_normal : (q : Members) → AllNormal (given q)
unfolding given
given_normal q = members_normal q q.count 0 0

-- ---- one symbol
size_is : (x : Numbered) → 3 + length (symbol_body x) ≡ symbol_size x.number
unfolding symbol_size
size_is x = let e = field_length x.number (symbol_of x) ∙ ap field_size (tag_same x.number x.set) in omega (arith, e)

-- an operator's field, by its number
operator_judged : (at c m : ℕ) → 134 ≤ c → ¬ (c ≡ 255) → symbol_in at (symbol_tag (numbered c m)) (symbol_body (numbered c m)) ≡ refused 3 at
unfolding symbol_in
operator_judged at c m l n = rw (closure_above c m l n) (operator_refused at c l)

through_field : (at m : ℕ) → symbol_in at (symbol_tag (numbered 255 m)) (symbol_body (numbered 255 m)) ≡ got (numbered 255 m)
unfolding symbol_numbered
through_field at m = through_reads at m

symbol_judged : (at : ℕ) (x : Numbered) → Normal x → symbol_in at (symbol_tag x) (symbol_body x) ≡ cond (symbol? x.number) (got x) (refused 3 at)
symbol_judged at x h = go (dec_le 134 c) (ℕ_discrete c 255)
  where
    c : ℕ
    c = x.number

    through_judged : (at m : ℕ) → c ≡ 255 → symbol_in at (symbol_tag (numbered c m)) (symbol_body (numbered c m)) ≡ got (numbered c m)
    through_judged at m e = subst (λ (k : ℕ). symbol_in at (symbol_tag (numbered k m)) (symbol_body (numbered k m)) ≡ got (numbered k m)) (sym e) (through_field at m)

    go : Dec (134 ≤ c) → Dec (c ≡ 255) → symbol_in at (symbol_tag x) (symbol_body x) ≡ cond (symbol? c) (got x) (refused 3 at)
    go (no l) d = rw (known_below c (omega arith)) (symbol_reads at x (inl (omega arith, h (ne_eqb c 255 (omega arith)))))
    go (yes l) (yes e) = rw (known_through c e) (through_judged at x.set e)
    go (yes l) (no n) = rw (unknown c l n) (operator_judged at c x.set l n)

-- ---- a file, from a place on
module _ (s : List ℕ) (A : Result (List Flat)) where
  -- a state is reached at a place from which r lies
  abbrev Reached : Standing × Gathered → ℕ → List ℕ → Type 0
  Reached st a r = Going narrowed_form s A st a × (drop a s ≡ r)

  module _ (left : ℕ) (prev : List ℕ) (ms : List Flat) where
    -- one symbol's field, in a member of 42 at p, sets f and t and symbols xs so far: what it is judged to be, and where it leads
    module _ (p f t : ℕ) (o : Stack) (xs : List Numbered) (at : ℕ) (x : Numbered) (r : List ℕ) (g : Going narrowed_form s A (Within left p o, gathered prev ms f t xs) at)
        (e : drop at s ≡ symbol_bytes x ++ r) (h : Normal x) (l : 0 < o.left) where
      abbrev n : ℕ
      n = length (symbol_body x)

      -- what it makes of the member, where it leaves the stack as q
      abbrev grows : Numbered → Stack → Result (Standing × Gathered)
      grows y q = kept narrowed_format (gathered prev ms f t xs) (got (grown left p y q))

      lies : Lies (due (Within left p o)) s at (symbol_tag x) (symbol_body x) r
      lies = field_lies (due (Within left p o)) s at (symbol_tag x) (symbol_body x) r e (symbol_short x) (symbol_fits o x l)

      next_is : at + 3 + n ≡ at + symbol_size x.number
      next_is = omega (arith, size_is x)

      judged_as : narrowed_form.judge (Within left p o, gathered prev ms f t xs) at (at + 3 + n) (symbol_tag x) (take n (drop (at + 3) s)) ≡ onward (grows x) (offered o at x.number)
      unfolding offered member_symbol
      judged_as = rw (lies.inner, symbol_judged at x h, next_is) (by_number (symbol? x.number))
        where
          by_push : (a : Result Stack) → kept narrowed_format (gathered prev ms f t xs) (onward (λ q. got (grown left p x q)) a) ≡ onward (grows x) a
          by_push (got q) = refl
          by_push (refused i j) = refl

          by_number : (b : Bool)
              → kept narrowed_format (gathered prev ms f t xs)
              (onward (λ y. onward (λ q. got (grown left p y q)) (push o at (at + symbol_size x.number) (arity y.number))) (cond b (got x) (refused 3 at)))
              ≡ onward (grows x) (cond b (push o at (at + symbol_size x.number) (arity x.number)) (refused 3 at))
          by_number true = by_push (push o at (at + symbol_size x.number) (arity x.number))
          by_number false = refl

      symbol_refused : (i j : ℕ) → onward (grows x) (offered o at x.number) ≡ refused i j → A ≡ refused i j
      symbol_refused i j z = going_refused narrowed_form s A _ at g (symbol_tag x) n lies.seen i j (judged_as ∙ z)

      symbol_more : (st : Standing × Gathered) → onward (grows x) (offered o at x.number) ≡ got st → Reached st (at + symbol_size x.number) r
      symbol_more st z = subst (λ (a : ℕ). Reached st a r) next_is (going_more narrowed_form s A _ at g (symbol_tag x) n lies.seen st (judged_as ∙ z), lies.after)

    -- the open member, of 42 at p, sets f and t and symbols xs in all: it is refused, or ends at a place, where its order decides
    abbrev Ends : ℕ → ℕ → ℕ → List Numbered → List ℕ → Result ℕ → Type 0
    Ends p f t xs r (refused i j) = A ≡ refused i j
    Ends p f t xs r (got a) =
        (before? prev (order_codes xs) ≡ true → Reached (Between left, gathered (order_codes xs) (ms ++ (flat f t xs ∷ [])) 0 0 []) a r)
        × (before? prev (order_codes xs) ≡ false → A ≡ refused 4 p)

    abbrev Judged : List Numbered → Type 0
    Judged ys =
        (p f t : ℕ) (o : Stack) (xs : List Numbered) (at : ℕ) (r : List ℕ) → Going narrowed_form s A (Within left p o, gathered prev ms f t xs) at → drop at s ≡ symbols_bytes ys ++ r
        → Normals ys → length ys ≡ o.left → 0 < o.left → Ends p f t (xs ++ ys) r (path_verdict o at (numbers ys))

    last_judged : (x : Numbered) → Judged (x ∷ [])
    last_judged x p f t o xs at r g e u l k = by_offer (offered o at x.number) refl
      where
        e' : drop at s ≡ symbol_bytes x ++ r
        e' = e ∙ ap (λ (m : List ℕ). m ++ r) (append-nil (symbol_bytes x))

        by_offer : (a : Result Stack) → offered o at x.number ≡ a → Ends p f t (xs ++ (x ∷ [])) r (onward (λ q'. got (at + symbol_size x.number)) a)
        by_offer (refused i j) z = symbol_refused p f t o xs at x r g e' u.0 k i j (ap (onward (grows p f t o xs at x r g e' u.0 k x)) z)
        by_offer (got q) z =
            let w : q.left ≡ 0 = omega (arith, (offered_got o at x.number q z).0) in
            let y = ap (onward (grows p f t o xs at x r g e' u.0 k x)) z in (
              λ b. symbol_more p f t o xs at x r g e' u.0 k _ (y ∙ simp (eq-eqb q.left 0 w, b)),
              λ b. symbol_refused p f t o xs at x r g e' u.0 k _ _ (y ∙ simp (eq-eqb q.left 0 w, b)),
            )

    first_judged : (x : Numbered) (ys : List Numbered) → 0 < length ys → Judged ys → Judged (x ∷ ys)
    first_judged x ys some rest p f t o xs at r g e u l k = by_offer (offered o at x.number) refl
      where
        e' : drop at s ≡ symbol_bytes x ++ (symbols_bytes ys ++ r)
        e' = e ∙ append_assoc (symbol_bytes x) (symbols_bytes ys) r

        by_offer : (a : Result Stack) → offered o at x.number ≡ a
            → Ends p f t (xs ++ (x ∷ ys)) r (onward (λ q'. path_verdict q' (at + symbol_size x.number) (numbers ys)) a)
        by_offer (refused i j) z = symbol_refused p f t o xs at x (symbols_bytes ys ++ r) g e' u.0 k i j (ap (onward (grows p f t o xs at x (symbols_bytes ys ++ r) g e' u.0 k x)) z)
        by_offer (got q) z =
            let h = (offered_got o at x.number q z).0 in
            let w : q.left ≡ 0 → ⊥ = omega arith in
            let v = ap (onward (grows p f t o xs at x (symbols_bytes ys ++ r) g e' u.0 k x)) z in
            let (g', d) = symbol_more p f t o xs at x (symbols_bytes ys ++ r) g e' u.0 k (Within left p q, gathered prev ms f t (xs ++ (x ∷ []))) (v ∙ simp (ne_eqb q.left 0 w)) in
            subst (λ (m : List Numbered). Ends p f t m r (path_verdict q (at + symbol_size x.number) (numbers ys))) (append_assoc xs (x ∷ []) ys)
            (rest p f t q (xs ++ (x ∷ [])) (at + symbol_size x.number) r g' d u.1 (omega arith) (omega arith))

    symbols_judged : (ys : List Numbered) → Judged ys
    symbols_judged [] p f t o xs at r g e u l k = absurd (omega arith)
    symbols_judged (x ∷ []) p f t o xs at r g e u l k = last_judged x p f t o xs at r g e u l k
    symbols_judged (x ∷ (y ∷ ys)) p f t o xs at r g e u l k = first_judged x (y ∷ ys) (omega arith) (symbols_judged (y ∷ ys)) p f t o xs at r g e u l k

    -- a member, whose 42 is at a place
    module _ (m : Flat) (z : Gathered) (zp : z.prev ≡ prev) (zm : z.members ≡ ms) (at : ℕ) (r : List ℕ)
        (g : Going narrowed_form s A (Between (suc left), z) at) (e : drop at s ≡ member_bytes m ++ r) where
      abbrev size : ℕ
      size = length m.symbols

      -- its 42, by whether the number of symbols is in range
      abbrev begun : Bool → Result (Standing × Gathered)
      begun b = cond b (got (Within left at (fresh size), gathered prev ms m.from m.to [])) (refused 3 at)

      lies_42 : Lies (due (Between (suc left))) s at 0x42 (head_body m) (symbols_bytes m.symbols ++ r)
      lies_42 =
          field_lies (due (Between (suc left))) s at 0x42 (head_body m) (symbols_bytes m.symbols ++ r)
          (e ∙ append_assoc (head_bytes m) (symbols_bytes m.symbols) r) (omega arith) (open_fits (suc left) (omega arith))

      judged_42 : narrowed_form.judge (Between (suc left), z) at (at + 3 + 17) 0x42 (take 17 (drop (at + 3) s)) ≡ begun (leb 1 size && leb size 48)
      unfolding open_of
      judged_42 = let i : suc left - 1 ≡ left = omega arith in rw (lies_42.inner, from_back m, to_back m, i, ← zp, ← zm) (by_test (leb 1 size && leb size 48))
        where
          by_test : (b : Bool) → kept narrowed_format z (cond b (got (Within left at (fresh size), opens size m.from m.to)) (refused 3 at))
              ≡ cond b (got (Within left at (fresh size), gathered z.prev z.members m.from m.to [])) (refused 3 at)
          by_test true = refl
          by_test false = refl

      by_size : (b : Bool) → (leb 1 size && leb size 48) ≡ b → Normals m.symbols
          → Ends at m.from m.to m.symbols r (cond b (path_verdict (fresh size) (at + 20) (numbers m.symbols)) (refused 3 at))
      by_size false h u = going_refused narrowed_form s A (Between (suc left), z) at g 0x42 17 lies_42.seen 3 at (judged_42 ∙ ap begun h)
      by_size true h u =
          let st : Standing × Gathered = (Within left at (fresh size), gathered prev ms m.from m.to []) in
          let g' = going_more narrowed_form s A (Between (suc left), z) at g 0x42 17 lies_42.seen st (judged_42 ∙ ap begun h) in
          let far : at + 3 + 17 ≡ at + 20 = omega arith in
          let d = subst (λ (a : ℕ). Reached st a (symbols_bytes m.symbols ++ r)) far (g', lies_42.after) in
          symbols_judged m.symbols at m.from m.to (fresh size) [] (at + 20) r d.0 d.1 u refl (leb-true 1 size (and_left _ (leb size 48) h))

      member_judged : Normals m.symbols → Ends at m.from m.to m.symbols r (member_verdict at size (numbers m.symbols))
      unfolding member_verdict field_size tag_length rows
      member_judged u = by_size (leb 1 size && leb size 48) refl u

  -- the members that are left: they are refused, or the file ends after them
  abbrev pub Whole : List Flat → Result ℕ → Type 0
  Whole v (refused i j) = A ≡ refused i j
  Whole v (got a) = (A ≡ got v) × (a ≡ length s)

  -- one of them: where it ends, its order decides
  module _ (m : Flat) (rest : List Flat) (prev : List ℕ) (ms : List Flat) (at : ℕ) where
    abbrev After : ℕ → Type 0
    After a = Reached (Between (length rest), gathered (order_codes m.symbols) (ms ++ (m ∷ [])) 0 0 []) a (members_bytes rest)

    abbrev Follows : Type 0
    Follows = (a : ℕ) → After a → Whole (ms ++ (m ∷ rest)) (members_verdict (order_codes m.symbols) a rest)

    by_order : (b : Bool) (a : ℕ) → (b ≡ true → After a) × (b ≡ false → A ≡ refused 4 at) → Follows
        → Whole (ms ++ (m ∷ rest)) (cond b (members_verdict (order_codes m.symbols) a rest) (refused 4 at))
    by_order true a w k = k a (w.0 refl)
    by_order false a w k = w.1 refl

    by_member : (v : Result ℕ) → Ends (length rest) prev ms at m.from m.to m.symbols (members_bytes rest) v → Follows
        → Whole (ms ++ (m ∷ rest)) (onward (λ next. cond (before? prev (order_codes m.symbols)) (members_verdict (order_codes m.symbols) next rest) (refused 4 at)) v)
    by_member (refused i j) w k = w
    by_member (got a) w k = by_order (before? prev (order_codes m.symbols)) a w k

  members_judged : (rest : List Flat) (g : Gathered) (at : ℕ) → Going narrowed_form s A (Between (length rest), g) at → drop at s ≡ members_bytes rest
      → AllNormal rest → Whole (g.members ++ rest) (members_verdict g.prev at rest)
  members_judged [] g at go e u =
      (going_ends narrowed_form s A (Between 0, g) at go (ends_lie (due (Between 0)) s at e refl) ∙ ap got (sym (append-nil g.members)), omega (arith, go.inside, length-drop at s, ap length e))
  members_judged (m ∷ rest) g at go e u =
      by_member m rest g.prev g.members at (member_verdict at (length m.symbols) (numbers m.symbols))
      (member_judged (length rest) g.prev g.members m g refl refl at (members_bytes rest) go e u.0)
      (λ a w. subst (λ (l : List Flat). Whole l (members_verdict (order_codes m.symbols) a rest)) (append_assoc g.members (m ∷ []) rest)
      (members_judged rest (gathered (order_codes m.symbols) (g.members ++ (m ∷ [])) 0 0 []) a w.0 w.1 u.1))

-- the verdict is the reader's
module _ (v : List Flat) (u : AllNormal v) where
  abbrev A : Result (List Flat)
  A = read narrowed_form (encode v)

  abbrev none_yet : Gathered
  none_yet = gathered [] [] 0 0 []

  -- 41, by whether the number of members is in range
  abbrev begins : Bool → Result (Standing × Gathered)
  begins b = cond b (got (Between (length v), none_yet)) (refused 3 0)

  lies_41 : Lies (due Head) (encode v) 0 0x41 (two_bytes (length v)) (members_bytes v)
  unfolding encode
  lies_41 = field_lies (due Head) (encode v) 0 0x41 (two_bytes (length v)) (members_bytes v) refl (omega arith) head_fits

  judged_41 : narrowed_form.judge (Head, none_yet) 0 5 0x41 (take 2 (drop 3 (encode v))) ≡ begins (leb (length v) 128)
  unfolding encode count_of
  judged_41 = rw (word_back (length v)) (by_test (leb (length v) 128))
    where
      by_test : (b : Bool) → kept narrowed_format none_yet (cond b (got (Between (length v), nothing)) (refused 3 0)) ≡ begins b
      by_test true = refl
      by_test false = refl

  by_count : (b : Bool) → leb (length v) 128 ≡ b → Whole (encode v) A v (cond b (members_verdict [] 5 v) (refused 3 0))
  by_count false h = going_refused narrowed_form (encode v) A (Head, none_yet) 0 (going_start narrowed_form (encode v)) 0x41 2 lies_41.seen 3 0 (judged_41 ∙ ap begins h)
  by_count true h =
      members_judged (encode v) A v none_yet 5
      (going_more narrowed_form (encode v) A (Head, none_yet) 0 (going_start narrowed_form (encode v)) 0x41 2 lies_41.seen (Between (length v), none_yet) (judged_41 ∙ ap begins h))
      lies_41.after u

  pub verdict_is : Whole (encode v) (read narrowed_form (encode v)) v (verdict v)
  unfolding verdict field_size tag_length rows
  verdict_is = by_count (leb (length v) 128) refl
