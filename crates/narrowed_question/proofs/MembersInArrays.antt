-- The members that the reader handed on in arrays are those that it read.
-- Assumes nothing.
use Prim.Native.Nat.{ℕ, suc, ◌+◌}
use mathlib.Core.Path.{◌≡◌, refl, ap, ap₂, ◌∙◌, sym}
use mathlib.Core.Logic.{inl, inr}
use mathlib.Core.List.{List, [], ◌∷◌, ◌++◌, append_assoc}
use lib.ListN.{length, get_or, drop, length-map}
use lib.Seq.{get_or-drop, drop-drop, drop-append_seam}
use native.Mathlib.Omega.{arith}
use borrow.Author.Tests.{eq-eqb, ne_eqb}
use Rattle.symbols.specs.declared.Stack.{Stack}
use Rattle.fields.specs.Padded.{padded}
use Rattle.symbols.specs.Symbols.{Numbered, numbered, symbol_given, symbols_given, Fine, Runs}
use Rattle.narrowed_question.specs.declared.Members.{Members}
use Rattle.narrowed_question.specs.Form.{Flat, flat, numbers, set_numbers}
use Rattle.narrowed_question.specs.Formed.{InOrder, WellFormed}
use Rattle.narrowed_question.specs.ArrayMembers.{members_given, given}
use Rattle.narrowed_question.specs.Contract.{Packed, sizes_of, from_of, to_of, numbers_of, sets_of}

-- the next element of an array
pub heads : (l : List ℕ) (k x : ℕ) (r : List ℕ) → drop k l ≡ x ∷ r → (get_or l k 0 ≡ x) × (drop (suc k) l ≡ r)
heads l k x r e =
    let i : k + 0 ≡ k = omega arith in
    let j : k + 1 ≡ suc k = omega arith in
    (ap (λ (m : ℕ). get_or l m 0) (sym i) ∙ sym (get_or-drop k l 0 0) ∙ ap (λ (m : List ℕ). get_or m 0 0) e, ap (λ (m : ℕ). drop m l) (sym j) ∙ sym (drop-drop 1 k l) ∙ ap (drop 1) e)

symbol_back : (x : Numbered) → Fine x → symbol_given x.number x.set ≡ x
symbol_back x (inl (h, z)) = simp (ne_eqb x.number 255 (omega arith)) (ap (numbered x.number) (sym z))
symbol_back x (inr (e, h)) = simp (eq-eqb x.number 255 e)

symbols_back : (ns ms : List ℕ) (xs : List Numbered) (q : Stack) (k : ℕ) (r r' : List ℕ) → Runs q xs → drop k ns ≡ numbers xs ++ r → drop k ms ≡ set_numbers xs ++ r'
    → symbols_given ns ms (length xs) k ≡ xs
symbols_back ns ms [] q k r r' u e e' = refl
symbols_back ns ms (x ∷ xs) q k r r' u e e' =
    let (a, b) = heads ns k x.number (numbers xs ++ r) e in
    let (a', b') = heads ms k x.set (set_numbers xs ++ r') e' in
    ap₂ (λ (y : Numbered) (ys : List Numbered). y ∷ ys) (ap₂ symbol_given a a' ∙ symbol_back x u.0) (symbols_back ns ms xs u.1.0 (suc k) r r' u.1.2 b b')

-- past the first part
past : (l : List ℕ) (k n : ℕ) (u r : List ℕ) → length u ≡ n → drop k l ≡ u ++ r → drop (k + n) l ≡ r
past l k n u r h e = ap (λ (m : ℕ). drop (k + m) l) (sym h) ∙ sym (drop-drop (length u) k l) ∙ ap (drop (length u)) e ∙ drop-append_seam u r

module _ (q : Members) where
  -- from the i-th member and the k-th symbol on the arrays hold those of ms, and then others
  record Holds (ms : List Flat) (i k : ℕ) : Type 0 where
    sizes_rest : List ℕ
    from_rest : List ℕ
    to_rest : List ℕ
    numbers_rest : List ℕ
    sets_rest : List ℕ
    sizes : drop i q.sizes ≡ sizes_of ms ++ sizes_rest
    from : drop i q.from ≡ from_of ms ++ from_rest
    to : drop i q.to ≡ to_of ms ++ to_rest
    numbers : drop k q.numbers ≡ numbers_of ms ++ numbers_rest
    sets : drop k q.sets ≡ sets_of ms ++ sets_rest

  members_back : (ms : List Flat) (prev : List ℕ) (i k : ℕ) → InOrder prev ms → Holds ms i k → members_given q (length ms) i k ≡ ms
  members_back [] prev i k w h = refl
  members_back (m ∷ ms) prev i k w h =
      let xs = m.symbols in
      let (s0, s1) = heads q.sizes i (length xs) (sizes_of ms ++ h.sizes_rest) h.sizes in
      let (f0, f1) = heads q.from i m.from (from_of ms ++ h.from_rest) h.from in
      let (t0, t1) = heads q.to i m.to (to_of ms ++ h.to_rest) h.to in
      let en = h.numbers ∙ append_assoc (numbers xs) (numbers_of ms) h.numbers_rest in
      let es = h.sets ∙ append_assoc (set_numbers xs) (sets_of ms) h.sets_rest in
      let ys = symbols_back q.numbers q.sets xs _ k _ _ w.0.runs en es in
      let on : Holds ms (suc i) (k + length xs) = record {
        sizes_rest = h.sizes_rest;
        from_rest = h.from_rest;
        to_rest = h.to_rest;
        numbers_rest = h.numbers_rest;
        sets_rest = h.sets_rest;
        sizes = s1;
        from = f1;
        to = t1;
        numbers = past q.numbers k (length xs) (numbers xs) (numbers_of ms ++ h.numbers_rest) (length-map xs (λ x. x.number)) en;
        sets = past q.sets k (length xs) (set_numbers xs) (sets_of ms ++ h.sets_rest) (length-map xs (λ x. x.set)) es;
      } in
      ap₂ (λ (y : Flat) (l : List Flat). y ∷ l)
      (ap (λ (n : ℕ). flat (get_or q.from i 0) (get_or q.to i 0) (symbols_given q.numbers q.sets n k)) s0 ∙ (λ j. flat (f0 j) (t0 j) (ys j)))
      (ap (λ (n : ℕ). members_given q (length ms) (suc i) (k + n)) s0 ∙ members_back ms _ (suc i) (k + length xs) w.1.1 on)

  pub packed_given : (v : List Flat) → WellFormed v → Packed v q → given q ≡ v
  unfolding given padded
  packed_given v w p = ap (λ (n : ℕ). members_given q n 0 0) p.count ∙ members_back v [] 0 0 w.in_order (record {
    sizes_rest = _;
    from_rest = _;
    to_rest = _;
    numbers_rest = _;
    sets_rest = _;
    sizes = p.sizes;
    from = p.from;
    to = p.to;
    numbers = p.numbers;
    sets = p.sets;
  })
