-- The loops of the judgement: what holds at their heads, and what each way out leads to.
-- Assumes nothing.
use Prim.Native.Nat.{ℕ, zero, suc, ◌+◌, ◌*◌, ◌-◌, ◌<◌, ◌≤◌}
use mathlib.Core.Path.{◌≡◌, refl, ap, ap₂, ◌∙◌, sym, subst}
use mathlib.Core.Bool.{Bool, true, false, cond, ◌&&◌}
use mathlib.Core.List.{List, [], ◌∷◌, map}
use lib.ListN.{length, length-drop, length-take, get_or, take, drop}
use lib.Seq.{drop-cons, length-take-le}
use Rattle.std.proofs.lemmas.List.{take_rest, get_or-take}
use lib.Dec.{leb}
use native.Mathlib.Omega.{arith}
use borrow.Author.Tests.{leb-true, lt-leb, le-leb}
use Rattle.theory.specs.PathExpr.{before?}
use Rattle.symbols.specs.declared.Stack.{Stack}
use Rattle.fields.specs.Table.{rows, tag_length, field_size}
use Rattle.theory.specs.Result.{Result, got, refused, onward}
use Rattle.symbols.specs.Symbols.{Numbered, arity, order_code, symbols_given, symbol?}
use Rattle.fields.proofs.Bools.{cond_then, not_got, onward_got, and_right}
use Rattle.symbols.proofs.Symbols.{push_got}
use Rattle.narrowed_question.specs.declared.Members.{Members}
use Rattle.narrowed_question.specs.Form.{order_codes, numbers}
use Rattle.narrowed_question.specs.ArrayMembers.{members_given, given}
use Rattle.narrowed_question.specs.Contract.{segment_codes}
use Rattle.narrowed_question.proofs.ArraysFilled.{codes_numbers}
use Rattle.symbols.proofs.Numbers.{length_given}
use Rattle.encode.proofs.Parts.{members_many}
use Rattle.encode.specs.BytesWritten.{Few}
use Rattle.encode.specs.Size.{symbol_size}
use Rattle.encode.proofs.Parts.{size_few}
use Rattle.narrowed_writer.specs.Verdict.{offered, path_verdict, member_verdict, members_verdict, verdict}

pub offered_got : (q : Stack) (at c : ℕ) (q' : Stack) → offered q at c ≡ got q' → (q'.left ≡ q.left - 1) × (q'.depth ≤ q.depth + 1)
unfolding offered
offered_got q at c q' e =
    let h = push_got q at (at + symbol_size c) (arity c) q' (cond_then (symbol? c) (not_got 3 at q') e).1 in
    (h.0, omega (arith, h.1))

-- a path's symbols, at the i-th
pub record AtSymbol (cs : List ℕ) (at : ℕ) (q : Stack) (i place : ℕ) : Type 0 where
  pub rest : path_verdict q place (drop i cs) ≡ path_verdict (record { left = length cs; depth = 0 }) at cs
  pub left : i + q.left ≡ length cs
  pub depth : q.depth ≤ i
  pub bound : place ≤ at + 11 * i

module _ {cs : List ℕ} {at : ℕ} {q : Stack} {i place : ℕ} (r : AtSymbol cs at q i place) where
  abbrev whole : Result ℕ
  whole = path_verdict (record { left = length cs; depth = 0 }) at cs

  module _ (h : i < length cs) where
    step : onward (λ q'. path_verdict q' (place + symbol_size (get_or cs i 0)) (drop (i + 1) cs)) (offered q place (get_or cs i 0)) ≡ whole
    step =
        let j : i + 1 ≡ suc i = omega arith in
        ap (λ (k : ℕ). path_verdict q place (get_or cs i 0 ∷ drop k cs)) j ∙ ap (path_verdict q place) (sym (drop-cons cs i 0 h)) ∙ r.rest

    pub path_more : (q' : Stack) (z : ℕ) → z ≡ symbol_size (get_or cs i 0) → z ≤ 11 → offered q place (get_or cs i 0) ≡ got q' → AtSymbol cs at q' (i + 1) (place + z)
    path_more q' z w b e =
        let g = offered_got q place (get_or cs i 0) q' e in
        record {
          rest = ap (λ (y : ℕ). path_verdict q' (place + y) (drop (i + 1) cs)) w
              ∙ ap (onward (λ q''. path_verdict q'' (place + symbol_size (get_or cs i 0)) (drop (i + 1) cs))) (sym e) ∙ step;
          left = omega (arith, g.0, r.left);
          depth = omega (arith, g.1, r.depth);
          bound = omega (arith, r.bound);
        }

-- ---- a member's symbols, as the arrays have them
given_numbers : (ns ms : List ℕ) (n k : ℕ) → k + n ≤ length ns → numbers (symbols_given ns ms n k) ≡ take n (drop k ns)
given_numbers ns ms zero k h = refl
given_numbers ns ms (suc n) k h = ap (λ (l : List ℕ). get_or ns k 0 ∷ l) (given_numbers ns ms n (suc k) (omega arith)) ∙ ap (take (suc n)) (sym (drop-cons ns k 0 (omega arith)))

given_codes : (ns ms : List ℕ) (n k : ℕ) → k + n ≤ length ns → order_codes (symbols_given ns ms n k) ≡ segment_codes ns k (k + n)
given_codes ns ms n k h =
    let i : n ≡ k + n - k = omega arith in
    codes_numbers (symbols_given ns ms n k) ∙ ap (map order_code) (given_numbers ns ms n k h ∙ ap (λ (m : ℕ). take m (drop k ns)) i)

-- ---- how far a judgement goes
path_far : (q : Stack) (at : ℕ) (cs : List ℕ) (next : ℕ) → path_verdict q at cs ≡ got next → next ≤ at + 11 * length cs
path_far q at [] next e = let z : at ≡ next = cc in omega arith
path_far q at (c ∷ cs) next e =
    let (q', _, e') = onward_got (λ q'. path_verdict q' (at + symbol_size c) cs) (offered q at c) next e in
    omega (arith, path_far q' (at + symbol_size c) cs next e', size_few c)

-- only a member of at most 48 symbols is not refused at its 42
member_few : (at n : ℕ) (cs : List ℕ) (next : ℕ) → member_verdict at n cs ≡ got next → (n ≤ 48) × (next ≤ at + 20 + 11 * length cs)
unfolding member_verdict field_size tag_length rows
member_few at n cs next e =
    let a = cond_then (leb 1 n && leb n 48) (not_got 3 at next) e in
    (leb-true n 48 (and_right (leb 1 n) _ a.0), path_far (record { left = n; depth = 0 }) (at + 20) cs next a.1)

member_same : (at n : ℕ) (cs ds : List ℕ) → (n ≤ 48 → cs ≡ ds) → member_verdict at n cs ≡ member_verdict at n ds
unfolding member_verdict field_size tag_length rows
member_same at n cs ds h = go (leb 1 n) (leb n 48) refl
  where
    go : (a b : Bool) → leb n 48 ≡ b → cond (a && b) (path_verdict (record { left = n; depth = 0 }) (at + 20) cs) (refused 3 at)
        ≡ cond (a && b) (path_verdict (record { left = n; depth = 0 }) (at + 20) ds) (refused 3 at)
    go true true e = ap (path_verdict (record { left = n; depth = 0 }) (at + 20)) (h (leb-true n 48 e))
    go true false e = refl
    go false b e = refl

-- ---- the loop over members, at the i-th
pub record AtMember (q : Members) (i at prev first : ℕ) : Type 0 where
  pub rest : members_verdict (segment_codes q.numbers prev first) at (members_given q (q.count - i) i first) ≡ verdict (given q)
  pub few : q.count ≤ 128
  pub index : i ≤ q.count
  pub ordered : prev ≤ first
  pub used : first ≤ 48 * i
  pub bound : at ≤ 5 + 548 * i

pub many_refused : (q : Members) → 128 < q.count → refused 3 0 ≡ verdict (given q)
unfolding given verdict
many_refused q h = simp (members_many q q.count 0 0, lt-leb q.count 128 h)

pub member_start : (q : Members) → q.count ≤ 128 → AtMember q 0 5 0 0
unfolding given verdict field_size tag_length rows
member_start q h = record {
  rest =
      let z : q.count - 0 ≡ q.count = omega arith in
      let w : members_verdict [] 5 (given q) ≡ verdict (given q) = simp (members_many q q.count 0 0, le-leb q.count 128 h) in
      ap (λ (m : ℕ). members_verdict [] 5 (members_given q m 0 0)) z ∙ w;
  few = h;
  index = omega arith;
  ordered = omega arith;
  used = omega arith;
  bound = omega arith;
}

module _ {q : Members} {i at prev first : ℕ} (r : AtMember q i at prev first) where
  -- the member as the code has it: an element of the sizes that count, and of the numbers those that are left
  pub judged : {v : Result ℕ} → i < length (take q.count q.sizes)
      → v ≡ member_verdict at (get_or (take q.count q.sizes) i 0) (take (get_or (take q.count q.sizes) i 0) (take (length q.numbers - first) (drop first q.numbers)))
      → (i < q.count) × (member_verdict at (get_or q.sizes i 0) (take (get_or q.sizes i 0) (drop first q.numbers)) ≡ v) × (get_or (take q.count q.sizes) i 0 ≡ get_or q.sizes i 0)
  judged h e =
      let k : i < q.count = omega (arith, length-take q.count q.sizes) in
      let s = get_or-take q.count q.sizes i 0 k in
      (k, sym (e ∙ ap₂ (λ (n : ℕ) (l : List ℕ). member_verdict at n (take n l)) s (take_rest q.numbers first)), s)

  module _ (h : i < q.count) (long : length q.numbers ≡ 6144) where
    abbrev size : ℕ
    size = get_or q.sizes i 0

    abbrev xs : List Numbered
    xs = symbols_given q.numbers q.sets size first

    abbrev found : List ℕ
    found = take size (drop first q.numbers)

    -- by whether the member is in order
    abbrev ranked : Bool → ℕ → ℕ → Result ℕ
    ranked b j next = cond b (members_verdict (order_codes xs) next (members_given q (q.count - (i + 1)) j (first + size))) (refused 4 at)

    abbrev onwards : ℕ → Result ℕ
    onwards next = ranked (before? (segment_codes q.numbers prev first) (order_codes xs)) (i + 1) next

    same : member_verdict at (length xs) (numbers xs) ≡ member_verdict at size found
    same =
        ap (λ (n : ℕ). member_verdict at n (numbers xs)) (length_given q.numbers q.sets size first)
        ∙ member_same at size (numbers xs) found (λ z. given_numbers q.numbers q.sets size first (omega (arith, r.used, r.few)))

    step_member : onward onwards (member_verdict at size found) ≡ verdict (given q)
    step_member =
        let m : suc (q.count - (i + 1)) ≡ q.count - i = omega arith in
        let j : i + 1 ≡ suc i = omega arith in
        ap (onward onwards) (sym same)
        ∙ ap (λ (k : ℕ). onward (ranked (before? (segment_codes q.numbers prev first) (order_codes xs)) k) (member_verdict at (length xs) (numbers xs))) j
        ∙ ap (λ (k : ℕ). members_verdict (segment_codes q.numbers prev first) at (members_given q k i first)) m
        ∙ r.rest

    pub member_refused : (m p : ℕ) → member_verdict at size found ≡ refused m p → refused m p ≡ verdict (given q)
    member_refused m p e = ap (onward onwards) (sym e) ∙ step_member

    module _ (next : ℕ) (e : member_verdict at size found ≡ got next) where
      pub member_size : size ≤ 48
      member_size = (member_few at size found next e).0

      codes : order_codes xs ≡ segment_codes q.numbers first (first + size)
      codes = given_codes q.numbers q.sets size first (omega (arith, r.used, r.few, member_size))

      after : onwards next ≡ verdict (given q)
      after = ap (onward onwards) (sym e) ∙ step_member

      pub member_order : before? (segment_codes q.numbers prev first) (segment_codes q.numbers first (first + size)) ≡ false → refused 4 at ≡ verdict (given q)
      member_order b =
          ap (λ (t : Bool). ranked t (i + 1) next) (sym (ap (before? (segment_codes q.numbers prev first)) codes ∙ b)) ∙ after

      pub member_more : before? (segment_codes q.numbers prev first) (segment_codes q.numbers first (first + size)) ≡ true → AtMember q (i + 1) next first (first + size)
      member_more b =
          let a : ranked true (i + 1) next ≡ verdict (given q) = ap (λ (t : Bool). ranked t (i + 1) next) (sym (ap (before? (segment_codes q.numbers prev first)) codes ∙ b)) ∙ after in
          record {
            rest = ap (λ (l : List ℕ). members_verdict l next (members_given q (q.count - (i + 1)) (i + 1) (first + size))) (sym codes) ∙ a;
            few = r.few;
            index = omega arith;
            ordered = omega arith;
            used = omega (arith, r.used, member_size);
            bound = omega (
              arith,
              r.bound,
              member_size,
              (member_few at size found next e).1,
              length-take-le size (drop first q.numbers)
                  (omega (arith, length-drop first q.numbers, r.used, r.few, member_size)),
            );
          }

-- ---- what is not refused has few members, each of few symbols
members_few : (q : Members) (n i k : ℕ) (prev : List ℕ) (at next : ℕ) → members_verdict prev at (members_given q n i k) ≡ got next → (j : ℕ) → j < n → get_or q.sizes (i + j) 0 ≤ 48
members_few q zero i k prev at next e j h = absurd (omega arith)
members_few q (suc n) i k prev at next e j h =
    let ys = symbols_given q.numbers q.sets (get_or q.sizes i 0) k in
    let (a, f, e') = onward_got (λ b. cond (before? prev (order_codes ys)) (members_verdict (order_codes ys) b (members_given q n (suc i) (k + get_or q.sizes i 0))) (refused 4 at))
    (member_verdict at (length ys) (numbers ys)) next e in
    let here : get_or q.sizes i 0 ≤ 48 = subst (λ (m : ℕ). m ≤ 48) (length_given q.numbers q.sets (get_or q.sizes i 0) k) (member_few at (length ys) (numbers ys) a f).0 in
    let on = (cond_then (before? prev (order_codes ys)) (not_got 4 at next) e').1 in
    by_index j h here (members_few q n (suc i) (k + get_or q.sizes i 0) (order_codes ys) a next on)
  where
    by_index : (j : ℕ) → j < suc n → get_or q.sizes i 0 ≤ 48 → ((j : ℕ) → j < n → get_or q.sizes (suc i + j) 0 ≤ 48) → get_or q.sizes (i + j) 0 ≤ 48
    by_index zero h here rest = let z : i ≡ i + 0 = omega arith in subst (λ (m : ℕ). get_or q.sizes m 0 ≤ 48) z here
    by_index (suc j) h here rest = let z : suc i + j ≡ i + suc j = omega arith in subst (λ (m : ℕ). get_or q.sizes m 0 ≤ 48) z (rest j (omega arith))

pub verdict_few : (q : Members) (next : ℕ) → verdict (given q) ≡ got next → Few q
unfolding given verdict field_size tag_length rows
verdict_few q next e =
    let a = cond_then (leb (length (members_given q q.count 0 0)) 128) (not_got 3 0 next) e in
    let c = leb-true (length (members_given q q.count 0 0)) 128 a.0 in
    let few = members_few q q.count 0 0 [] 5 next a.1 in
    (omega (arith, members_many q q.count 0 0), λ i h. let z : 0 + i ≡ i = omega arith in subst (λ (m : ℕ). get_or q.sizes m 0 ≤ 48) z (few i h))
