-- The arrays of a narrowed question, filled from the front as its members are read.
-- Assumes nothing.
use Prim.Native.Nat.{ℕ, ◌+◌, ◌-◌, ◌*◌, ◌<◌, ◌≤◌}
use mathlib.Core.Path.{◌≡◌, refl, ap, ap₂, ◌∙◌, sym, subst}
use mathlib.Core.List.{List, [], ◌∷◌, ◌++◌, map, append_assoc, append-nil, map-append}
use lib.ListN.{length, take, drop, set, replicate, length-append, length-map, length-drop}
use lib.Seq.{take_at, drop_at, drop-append-le}
use native.Mathlib.Omega.{arith}
use Rattle.theory.specs.Lists.{concat_map}
use Rattle.symbols.specs.Symbols.{Numbered, order_code}
use Rattle.fields.specs.Padded.{padded}
use Rattle.fields.proofs.Padded.{pad_set}
use Rattle.narrowed_question.specs.Form.{Flat, flat, order_codes, numbers as nums, set_numbers as masks}
use Rattle.narrowed_question.specs.declared.Members.{Members}
use Rattle.narrowed_question.specs.Contract.{sizes_of, from_of, to_of, numbers_of, sets_of, Packed, Blank, Zeroed, segment_codes}
use Rattle.narrowed_question.specs.Internal.{head_kept, symbol_kept, counting}

-- an array filled from the front, behind a part that stands already
pad_next : (n : ℕ) (xs ys : List ℕ) (k v : ℕ) (a : List ℕ) → a ≡ padded n (xs ++ ys) → k ≡ length xs + length ys → length xs + length ys < n
    → set a k v ≡ padded n (xs ++ (ys ++ (v ∷ [])))
pad_next n xs ys k v a e i h =
    let l = length-append xs ys in
    ap₂ (λ (b : List ℕ) (j : ℕ). set b j v) e (i ∙ sym l)
    ∙ pad_set n (xs ++ ys) v (omega arith)
    ∙ ap (padded n) (append_assoc xs ys (v ∷ []))

concat_snoc : (f : Flat → List ℕ) (ms : List Flat) (m : Flat) → concat_map f (ms ++ (m ∷ [])) ≡ concat_map f ms ++ f m
concat_snoc f [] m = append-nil (f m)
concat_snoc f (x ∷ ms) m = ap (λ l. f x ++ l) (concat_snoc f ms m) ∙ sym (append_assoc (f x) (concat_map f ms) (f m))

pub codes_numbers : (xs : List Numbered) → order_codes xs ≡ map order_code (nums xs)
codes_numbers [] = refl
codes_numbers (x ∷ xs) = ap (λ l. order_code x.number ∷ l) (codes_numbers xs)

sets_length : (ms : List Flat) → length (sets_of ms) ≡ length (numbers_of ms)
sets_length [] = refl
sets_length (m ∷ ms) =
    length-append (masks m.symbols) (sets_of ms)
    ∙ ap₂ ◌+◌ (length-map m.symbols (λ x. x.set) ∙ sym (length-map m.symbols (λ x. x.number))) (sets_length ms)
    ∙ sym (length-append (nums m.symbols) (numbers_of ms))

-- members ms, of an open one a, b and c (its size and its two sets, or nothing) and its symbols xs; P the codes of the member before
pub record Filled (ms : List Flat) (a b c : List ℕ) (xs : List Numbered) (P : List ℕ) (done prev first used : ℕ) (q : Members) : Type 0 where
  pub done_is : done ≡ length ms
  pub first_is : first ≡ length (numbers_of ms)
  pub used_is : used ≡ first + length xs
  pub small : first ≤ 48 * done
  pub prev_le : prev ≤ first
  pub codes_is : P ≡ map order_code (drop prev (numbers_of ms))
  pub sizes_is : q.sizes ≡ padded 128 (sizes_of ms ++ a)
  pub from_is : q.from ≡ padded 128 (from_of ms ++ b)
  pub to_is : q.to ≡ padded 128 (to_of ms ++ c)
  pub numbers_is : q.numbers ≡ padded 6144 (numbers_of ms ++ nums xs)
  pub sets_is : q.sets ≡ padded 6144 (sets_of ms ++ masks xs)

-- what `Members::blank` hands out may be lent
pub blank_zeroed : {q : Members} → Blank q → Zeroed q
unfolding padded
blank_zeroed h = record { sizes = h.sizes; from = h.from; to = h.to; numbers = h.numbers; sets = h.sets }

pub filled_start : {q : Members} {n : ℕ} → Zeroed q → Filled [] [] [] [] [] [] 0 0 0 0 (counting q n)
unfolding padded
filled_start h = record {
  done_is = refl;
  first_is = refl;
  used_is = refl;
  small = omega arith;
  prev_le = omega arith;
  codes_is = refl;
  sizes_is = h.sizes;
  from_is = h.from;
  to_is = h.to;
  numbers_is = h.numbers;
  sets_is = h.sets;
}

module _ {ms : List Flat} {P : List ℕ} {done prev first used : ℕ} {q : Members} where
  -- the same open member, said otherwise
  pub refill : {a a' b b' c c' : List ℕ} {xs : List Numbered} → a ≡ a' → b ≡ b' → c ≡ c'
      → Filled ms a b c xs P done prev first used q → Filled ms a' b' c' xs P done prev first used q
  refill {a' = a'} {b = b} {b' = b'} {c = c} {xs = xs} i j k r =
      subst (λ y. Filled ms a' b' y xs P done prev first used q) k
      (subst (λ y. Filled ms a' y c xs P done prev first used q) j
      (subst (λ y. Filled ms y b c xs P done prev first used q) i r))

  -- a member is opened
  pub filled_open : Filled ms [] [] [] [] P done prev first used q → (n f t : ℕ) → length ms < 128
      → Filled ms (n ∷ []) (f ∷ []) (t ∷ []) [] P done prev first used (head_kept q done n f t)
  filled_open r n f t h = record {
    done_is = r.done_is;
    first_is = r.first_is;
    used_is = r.used_is;
    small = r.small;
    prev_le = r.prev_le;
    codes_is = r.codes_is;
    sizes_is = let l = length-map ms (λ m. length m.symbols) in pad_next 128 (sizes_of ms) [] done n q.sizes r.sizes_is (omega (arith, r.done_is)) (omega arith);
    from_is = let l = length-map ms (λ m. m.from) in pad_next 128 (from_of ms) [] done f q.from r.from_is (omega (arith, r.done_is)) (omega arith);
    to_is = let l = length-map ms (λ m. m.to) in pad_next 128 (to_of ms) [] done t q.to r.to_is (omega (arith, r.done_is)) (omega arith);
    numbers_is = r.numbers_is;
    sets_is = r.sets_is;
  }

  -- a symbol more
  module _ {a b c : List ℕ} {xs : List Numbered} (r : Filled ms a b c xs P done prev first used q) (x : Numbered) (few : length ms < 128) (short : length xs < 48) where
    pub room : used < 6144
    room = omega (arith, r.used_is, r.small, r.done_is)

    pub filled_more : Filled ms a b c (xs ++ (x ∷ [])) P done prev first (used + 1) (symbol_kept q used x)
    filled_more =
        let l = length-append xs (x ∷ []) in
        let ln = length-map xs (λ x. x.number) in
        let lm = length-map xs (λ x. x.set) in
        let ls = sets_length ms in
        record {
          done_is = r.done_is;
          first_is = r.first_is;
          used_is = omega (arith, r.used_is);
          small = r.small;
          prev_le = r.prev_le;
          codes_is = r.codes_is;
          sizes_is = r.sizes_is;
          from_is = r.from_is;
          to_is = r.to_is;
          numbers_is =
              pad_next 6144 (numbers_of ms) (nums xs) used x.number q.numbers r.numbers_is (omega (arith, r.used_is, r.first_is)) (omega (arith, room, r.used_is, r.first_is))
              ∙ ap (λ y. padded 6144 (numbers_of ms ++ y)) (sym (map-append (λ x. x.number) xs (x ∷ [])));
          sets_is =
              pad_next 6144 (sets_of ms) (masks xs) used x.set q.sets r.sets_is (omega (arith, r.used_is, r.first_is)) (omega (arith, room, r.used_is, r.first_is))
              ∙ ap (λ y. padded 6144 (sets_of ms ++ y)) (sym (map-append (λ x. x.set) xs (x ∷ [])));
        }

  -- the open member, whose size and sets stand, is done
  pub filled_done : {f t : ℕ} {xs : List Numbered} → Filled ms (length xs ∷ []) (f ∷ []) (t ∷ []) xs P done prev first used q → length xs ≤ 48
      → Filled (ms ++ (flat f t xs ∷ [])) [] [] [] [] (order_codes xs) (done + 1) first used used q
  filled_done {f} {t} {xs} r short =
      let m = flat f t xs in
      let N = concat_snoc (λ m. nums m.symbols) ms m in
      let l = length-append (numbers_of ms) (nums xs) in
      let ln = length-map xs (λ x. x.number) in
      record {
        done_is = omega (arith, r.done_is, length-append ms (m ∷ []));
        first_is = omega (arith, r.used_is, r.first_is, ap length N);
        used_is = omega arith;
        small = omega (arith, r.used_is, r.small);
        prev_le = omega (arith, r.used_is);
        codes_is = codes_numbers xs ∙ sym (ap (map order_code) (ap (drop first) N ∙ drop_at (numbers_of ms) (nums xs) first (sym r.first_is)));
        sizes_is = r.sizes_is ∙ ap (padded 128) (sym (append-nil _ ∙ map-append (λ m. length m.symbols) ms (m ∷ [])));
        from_is = r.from_is ∙ ap (padded 128) (sym (append-nil _ ∙ map-append (λ m. m.from) ms (m ∷ [])));
        to_is = r.to_is ∙ ap (padded 128) (sym (append-nil _ ∙ map-append (λ m. m.to) ms (m ∷ [])));
        numbers_is = r.numbers_is ∙ ap (padded 6144) (sym (append-nil _ ∙ N));
        sets_is = r.sets_is ∙ ap (padded 6144) (sym (append-nil _ ∙ concat_snoc (λ m. masks m.symbols) ms m));
      }

  -- the codes of the member before, and of the open one, as the array has them
  module _ {a b c : List ℕ} {xs : List Numbered} (r : Filled ms a b c xs P done prev first used q) where
    rest : List ℕ
    rest = replicate (6144 - length (numbers_of ms ++ nums xs)) 0

    split : q.numbers ≡ numbers_of ms ++ (nums xs ++ rest)
    unfolding padded rest
    split = r.numbers_is ∙ append_assoc (numbers_of ms) (nums xs) rest

    pub before_codes : segment_codes q.numbers prev first ≡ P
    before_codes =
        ap (λ l. map order_code (take (first - prev) (drop prev l))) split
        ∙ ap (λ l. map order_code (take (first - prev) l)) (drop-append-le prev (numbers_of ms) (nums xs ++ rest) (omega (arith, r.prev_le, r.first_is)))
        ∙ ap (map order_code) (take_at (drop prev (numbers_of ms)) (nums xs ++ rest) (first - prev) (length-drop prev (numbers_of ms) ∙ ap (λ n. n - prev) (sym r.first_is)))
        ∙ sym r.codes_is

    pub open_codes : segment_codes q.numbers first used ≡ order_codes xs
    open_codes =
        let l : length (nums xs) ≡ used - first = omega (arith, r.used_is, length-map xs (λ x. x.number)) in
        ap (λ l. map order_code (take (used - first) (drop first l))) split
        ∙ ap (λ l. map order_code (take (used - first) l)) (drop_at (numbers_of ms) (nums xs ++ rest) first (sym r.first_is))
        ∙ ap (map order_code) (take_at (nums xs) rest (used - first) l)
        ∙ sym (codes_numbers xs)

  -- all are read
  pub filled_packed : Filled ms [] [] [] [] P done prev first used q
      → Packed ms (counting q done)
  filled_packed r = record {
    count = r.done_is;
    sizes = r.sizes_is ∙ ap (padded 128) (append-nil _);
    from = r.from_is ∙ ap (padded 128) (append-nil _);
    to = r.to_is ∙ ap (padded 128) (append-nil _);
    numbers = r.numbers_is ∙ ap (padded 6144) (append-nil _);
    sets = r.sets_is ∙ ap (padded 6144) (append-nil _);
  }
