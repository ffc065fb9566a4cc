-- All members: what holds at the loop's head, and how it goes on.
-- Assumes nothing.
use mathlib.Core.Path.{◌≡◌, refl, sym, ap, subst, ◌∙◌}
use mathlib.Core.Bool.{Bool, true, ◌||◌, or-false, or_assoc}
use mathlib.Core.List.{List, [], ◌∷◌}
use mathlib.Core.Option.{Option, some}
use Prim.Native.Nat.{ℕ, zero, suc, ◌+◌, ◌-◌, ◌*◌, ◌/◌, ◌<◌, ◌≤◌}
use native.Mathlib.Omega.{arith}
use lib.ListN.{length, get_or, take, drop}
use Rattle.theory.specs.Lists.{some?}
use Rattle.theory.specs.PathExpr.{PathExpr}
use Rattle.theory.specs.Postfix.{path_of}
use Rattle.theory.specs.Register.{Register}
use Rattle.theory.specs.Merging.{member}
use Rattle.theory.specs.Evaluation.{member_answer, narrowed_answer}
use Rattle.symbols.specs.Symbols.{symbols_given}
use Rattle.symbols.proofs.Numbers.{length_given}
use Rattle.narrowed_question.specs.declared.Members.{Members}
use Rattle.narrowed_question.specs.Form.{Flat, flat}
use Rattle.narrowed_question.specs.Formed.{InOrder}
use Rattle.narrowed_question.specs.Members.{flat_path}
use Rattle.narrowed_question.specs.ArrayMembers.{members_given, given}
use Rattle.narrowed_question.proofs.Paths.{flat_member}
use Rattle.rows.specs.Kept.{Kept}
use Rattle.rows.proofs.Words.{kept_refl, kept_trans, kept_in}
use Rattle.relation.specs.Pairs.{pair_at}
use Rattle.evaluation.specs.Grounded.{symbols_in, symbols_of, path?}
use Rattle.evaluation.proofs.Grounds.{is_path}
use Rattle.evaluation.proofs.Slices.{symbols_part}
use Rattle.answer.specs.Calls.{with_path, members_of}
use Rattle.answer.specs.Contract.{Readable}
use Rattle.answer.specs.Internal.{Adds}

-- member i, whose symbols begin with the k-th
abbrev member_at : Members → ℕ → ℕ → Flat
member_at q i k = flat (get_or q.from i 0) (get_or q.to i 0) (symbols_given q.numbers q.sets (get_or q.sizes i 0) k)

abbrev rest_at : Members → ℕ → ℕ → List Flat
rest_at q i k = members_given q (q.count - i) i k

rest_more : (q : Members) (i k : ℕ) → i < q.count → rest_at q i k ≡ member_at q i k ∷ rest_at q (i + 1) (k + get_or q.sizes i 0)
rest_more q i k h =
    let a : q.count - i ≡ suc (q.count - (i + 1)) = omega arith in
    let b : suc i ≡ i + 1 = omega arith in
    ap (λ (n : ℕ). members_given q n i k) a ∙ ap (λ (j : ℕ). member_at q i k ∷ members_given q (q.count - (i + 1)) j (k + get_or q.sizes i 0)) b

given_length : (q : Members) → length (given q) ≡ q.count
unfolding given
given_length q = go q.count 0 0
  where
    go : (n i k : ℕ) → length (members_given q n i k) ≡ n
    go zero i k = refl
    go (suc n) i k = ap suc (go n (suc i) (k + get_or q.sizes i 0))

-- of the members from i on, whose symbols begin with the k-th: they are formed, and with their pairs the answer is what it was with all
pub record Adding (q : Members) (r : Register) (n w : ℕ) (work work' answer answer' : List ℕ) (i k : ℕ) : Type 0 where
  pub few : q.count ≤ 128
  pub within : i ≤ q.count
  pub used : k ≤ 48 * i
  pub prev : List ℕ
  pub formed : InOrder prev (rest_at q i k)
  pub kept : Kept 0 (28 * (n * w)) work work'
  pub area : Kept 0 (n * w) answer answer'
  pub pair : (s t : ℕ) → s < n → t / 64 < w
      → pair_at answer' 0 w s t || narrowed_answer r (members_of (rest_at q i k)) s t ≡ pair_at answer 0 w s t || narrowed_answer r (members_of (given q)) s t

pub adding_start : (q : Members) (r : Register) (n w : ℕ) (work answer : List ℕ) → Readable q → Adding q r n w work work answer answer 0 0
unfolding given
adding_start q r n w work answer f = record {
  few = omega (arith, f.few, given_length q);
  within = omega arith;
  used = omega arith;
  prev = [];
  formed = subst (InOrder []) (sym whole) f.in_order;
  kept = kept_refl 0 (28 * (n * w)) work;
  area = kept_refl 0 (n * w) answer;
  pair = λ s t hs ht. ap (λ (ms : List Flat). pair_at answer 0 w s t || narrowed_answer r (members_of ms) s t) whole;
}
  where
    whole : rest_at q 0 0 ≡ members_given q q.count 0 0
    whole = let z : q.count - 0 ≡ q.count = omega arith in ap (λ (n : ℕ). members_given q n 0 0) z

module _
    {q : Members} {r : Register} {n w : ℕ} {work work' answer answer' : List ℕ} {i k : ℕ} (a : Adding q r n w work work' answer answer' i k) (h : i < q.count) where
  in_order : InOrder a.prev (member_at q i k ∷ rest_at q (i + 1) (k + get_or q.sizes i 0))
  in_order = subst (InOrder a.prev) (rest_more q i k h) a.formed

  path : (p : PathExpr) × (flat_path (member_at q i k) ≡ some p)
  path = let x = flat_member (member_at q i k) in_order.0 in (x.0, x.1)

  few_symbols : get_or q.sizes i 0 ≤ 48
  few_symbols = omega (arith, in_order.0.few, length_given q.numbers q.sets (get_or q.sizes i 0) k)

  -- what its turn asks, and how far it reads: its symbols are a part of the arrays
  module _ (size : ℕ) (e : size ≡ get_or q.sizes i 0) where
    pub size_few : size ≤ 48
    size_few = omega (arith, e, few_symbols)

    pub symbols_end : k + size ≤ 6144
    symbols_end = omega (arith, e, few_symbols, a.used, a.few)

    module _ (room : 6144 ≤ length q.numbers) where
      part : symbols_of (take size (drop k q.numbers)) (take size (drop k q.sets)) ≡ symbols_in q.numbers q.sets (get_or q.sizes i 0) k
      part = symbols_part q.numbers q.sets size k (omega (arith, symbols_end, room)) ∙ ap (λ (z : ℕ). symbols_in q.numbers q.sets z k) e

      pub makes_path : path? (path_of (symbols_of (take size (drop k q.numbers)) (take size (drop k q.sets)))) ≡ true
      makes_path = is_path (ap path_of part ∙ path.1)

  module _ {work'' answer'' : List ℕ}
      (m : (p : PathExpr) → path_of (symbols_in q.numbers q.sets (get_or q.sizes i 0) k) ≡ some p
      → Adds r n w (λ s t. member_answer r s t (member (get_or q.from i 0) p (get_or q.to i 0))) work' work'' answer' answer'') where
    one : Adds r n w (λ s t. member_answer r s t (member (get_or q.from i 0) path.0 (get_or q.to i 0))) work' work'' answer' answer''
    one = m path.0 path.1

    -- this member's pairs, and those of the rest
    split : (s t : ℕ) → narrowed_answer r (members_of (rest_at q i k)) s t
        ≡ member_answer r s t (member (get_or q.from i 0) path.0 (get_or q.to i 0)) || narrowed_answer r (members_of (rest_at q (i + 1) (k + get_or q.sizes i 0))) s t
    unfolding narrowed_answer
    split s t =
        ap (λ (ms : List Flat). some? (member_answer r s t) (members_of ms)) (rest_more q i k h)
        ∙ ap (λ (o : Option PathExpr). some? (member_answer r s t) (with_path (member_at q i k) o (members_of (rest_at q (i + 1) (k + get_or q.sizes i 0))))) path.1

    on : Adding q r n w work work'' answer answer'' (i + 1) (k + get_or q.sizes i 0)
    on = record {
      few = a.few;
      within = omega arith;
      used = omega (arith, a.used, few_symbols);
      prev = _;
      formed = in_order.1.1;
      kept = kept_trans a.kept one.kept (omega arith) (omega arith) (omega arith) (omega arith);
      area = kept_trans a.area one.pairs.kept (omega arith) (omega arith) (omega arith) (omega arith);
      pair = λ s t hs ht.
          ap (λ (b : Bool). b || narrowed_answer r (members_of (rest_at q (i + 1) (k + get_or q.sizes i 0))) s t) (one.pairs.pair s t hs ht)
          ∙ or_assoc (pair_at answer' 0 w s t) _ _
          ∙ ap (λ (b : Bool). pair_at answer' 0 w s t || b) (sym (split s t))
          ∙ a.pair s t hs ht;
    }

  pub adding_more : {work'' answer'' : List ℕ} (size next : ℕ) (e : size ≡ get_or q.sizes i 0) (room : 6144 ≤ length q.numbers) → next ≡ k + get_or q.sizes i 0
      → ((p : PathExpr) → path_of (symbols_of (take size (drop k q.numbers)) (take size (drop k q.sets))) ≡ some p
      → Adds r n w (λ s t. member_answer r s t (member (get_or q.from i 0) p (get_or q.to i 0))) work' work'' answer' answer'')
      → Adding q r n w work work'' answer answer'' (i + 1) next
  adding_more {work''} {answer''} size next e room o m =
      subst (λ (z : ℕ). Adding q r n w work work'' answer answer'' (i + 1) z) (sym o)
      (on (λ p h. m p (ap path_of (part size e room) ∙ h)))

pub adding_end : {q : Members} {r : Register} {n w : ℕ} {work work' answer answer' : List ℕ} {i k : ℕ} → Adding q r n w work work' answer answer' i k → q.count ≤ i
    → Adds r n w (narrowed_answer r (members_of (given q))) work work' answer answer'
unfolding narrowed_answer
adding_end {q} {r} {n} {w} {work} {work'} {answer} {answer'} {i} {k} a h = record {
  kept = a.kept;
  pairs = record {
    kept = kept_in a.area (omega arith) (omega arith);
    pair = λ s t hs ht.
        sym (ap (λ (j : ℕ). pair_at answer' 0 w s t || some? (member_answer r s t) (members_of (members_given q j i k))) none ∙ or-false (pair_at answer' 0 w s t))
        ∙ a.pair s t hs ht;
  };
}
  where
    none : q.count - i ≡ 0
    none = omega arith
