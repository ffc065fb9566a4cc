-- A part of the table: looked through, kept, and with a node put at its end.
-- Assumes nothing.
use mathlib.Core.Path.{◌≡◌, ap, ◌∙◌}
use mathlib.Core.Bool.{Bool, true, false, ◌||◌, or-true, or-false}
use mathlib.Core.Logic.{⊎_elim}
use mathlib.Core.List.{List, [], ◌∷◌, ◌++◌}
use Prim.Native.Nat.{ℕ, ◌+◌, ◌-◌, ◌<◌, ◌≤◌}
use native.Mathlib.Nat.{eq-or-lt_of_le}
use native.Mathlib.Numerals.{add-one}
use native.Mathlib.Omega.{arith}
use lib.ListN.{length, set}
use Rattle.theory.specs.Lists.{some?, adjoin}
use Rattle.theory.specs.Inference.{Triple, triple?}
use Rattle.theory.proofs.Lists.{length_tabulate, tabulate_suc, tabulate_same, tabulate_next}
use Rattle.rows.specs.Kept.{Kept}
use Rattle.rows.proofs.Words.{kept_set}
use Rattle.rows.proofs.Ranges.{some_append}
use Rattle.triples.specs.declared.Node.{Node}
use Rattle.triples.specs.Table.{word_of}
use Rattle.triples.specs.Paths.{triple_of, Good, Sound, Has}
use Rattle.triples.specs.Parts.{part_of, Candidate, Added}
use Rattle.triples.proofs.Words.{node_kept}
use Rattle.triples.proofs.Triples.{triple_kept}

-- ---- parts
module _ (qs ws : List ℕ) where
  pub length_part : (s n : ℕ) → length (part_of qs ws s n) ≡ n
  unfolding part_of
  length_part s n = length_tabulate (triple_of qs ws) s n

  part_end : (s n : ℕ) → part_of qs ws s (n + 1) ≡ part_of qs ws s n ++ (triple_of qs ws (s + n) ∷ [])
  unfolding part_of
  part_end s n = rw (add-one n) (tabulate_suc (triple_of qs ws) s n)

  pub part_next : (j e : ℕ) → j < e → part_of qs ws j (e - j) ≡ triple_of qs ws j ∷ part_of qs ws (j + 1) (e - (j + 1))
  unfolding part_of
  part_next j e h = tabulate_next (triple_of qs ws) j e h

  pub part_over : (j e : ℕ) → e ≤ j → part_of qs ws j (e - j) ≡ []
  unfolding part_of
  part_over j e h = let q : e - j ≡ 0 = omega arith in rw q

  -- a look through a part, from its end on
  module _ (f : Triple → Bool) (s j : ℕ) where
    look_last : s < j → some? f (part_of qs ws s (j - s)) ≡ some? f (part_of qs ws s (j - 1 - s)) || f (triple_of qs ws (j - 1))
    look_last h =
        let n : j - s ≡ j - 1 - s + 1 = omega arith in
        let k : s + (j - 1 - s) ≡ j - 1 = omega arith in
        ap (λ (m : ℕ). some? f (part_of qs ws s m)) n
        ∙ ap (some? f) (part_end s (j - 1 - s))
        ∙ some_append f (part_of qs ws s (j - 1 - s)) (triple_of qs ws (s + (j - 1 - s)) ∷ [])
        ∙ ap (λ (b : Bool). some? f (part_of qs ws s (j - 1 - s)) || b) (or-false (f (triple_of qs ws (s + (j - 1 - s)))) ∙ ap (λ (m : ℕ). f (triple_of qs ws m)) k)

    pub look_yes : s < j → f (triple_of qs ws (j - 1)) ≡ true → some? f (part_of qs ws s (j - s)) ≡ true
    look_yes h y = look_last h ∙ rw y (or-true (some? f (part_of qs ws s (j - 1 - s))))

    pub look_on : s < j → f (triple_of qs ws (j - 1)) ≡ false → some? f (part_of qs ws s (j - s)) ≡ some? f (part_of qs ws s (j - 1 - s))
    look_on h y = look_last h ∙ rw y (or-false (some? f (part_of qs ws s (j - 1 - s))))

    pub look_end : j ≤ s → some? f (part_of qs ws s (j - s)) ≡ false
    look_end h = rw (part_over s j h)

-- ---- what keeps the words below u
module _ {u hi : ℕ} {xs ys : List ℕ} (h : Kept u hi xs ys) (qs : List ℕ) where
  pub part_kept : (s m : ℕ) → s + m ≤ u → part_of qs ys s m ≡ part_of qs xs s m
  unfolding part_of
  part_kept s m l = tabulate_same (triple_of qs ys) (triple_of qs xs) s m (λ k a b. triple_kept h qs k (omega arith))

  good_kept : (k : ℕ) → k < u → Good qs xs k → Good qs ys k
  good_kept k l g =
      record {
        known = rw (node_kept h k l) g.known;
        sized = rw (triple_kept h qs k l, node_kept h k l) g.sized;
        founded = rw (node_kept h k l) g.founded;
      }

  pub sound_kept : Sound qs xs u → Sound qs ys u
  sound_kept s = record { good = λ k l. good_kept k l (s.good k l) }

  sound_more : Sound qs xs u → Good qs ys u → Sound qs ys (u + 1)
  sound_more s g = record { good = λ k l. ⊎_elim (λ (e : k ≡ u). rw e g) (λ (b : k < u). good_kept k b (s.good k b)) (eq-or-lt_of_le (omega arith)) }

pub added_kept : {qs ws ws' : List ℕ} {s count r : ℕ} {n : Node} → Added qs ws ws' s count n r → Kept (s + count) (s + count + 1) ws ws'
added_kept {ws = ws} {s = s} {count} {n = n} a = rw a.words_are (kept_set ws (s + count) (word_of n))

-- ---- a node at the end
module _ {qs ws ws' : List ℕ} {s count : ℕ} {n : Node} (h : Candidate qs ws s count n) (e : ws' ≡ set ws (s + count) (word_of n)) where
  only_last : Kept (s + count) (s + count + 1) ws ws'
  only_last = rw e (kept_set ws (s + count) (word_of n))

  sound_new : Sound qs ws' (s + count + 1)
  sound_new = sound_more only_last qs h.sound (rw e h.good)

  pub has_new : Has qs ws' (s + count + 1) (s + count)
  has_new = record { in_use = omega arith; in_table = omega (arith, h.in_table, only_last.len); sound = sound_new }

  old : part_of qs ws' s count ≡ part_of qs ws s count
  old = part_kept only_last qs s count (omega arith)

  pub added_no : some? (triple? (triple_of qs ws' (s + count))) (part_of qs ws' s (s + count - s)) ≡ true → Added qs ws ws' s count n count
  unfolding adjoin
  added_no y =
      let q : s + count - s ≡ count = omega arith in
      record {
        words_are = e;
        part_is = old ∙ rw (← old) (rw (rw q at y));
        sound = sound_kept only_last qs h.sound;
        at_least = omega arith;
        at_most = omega arith;
        same_length = only_last.len;
      }

  pub added_yes : some? (triple? (triple_of qs ws' (s + count))) (part_of qs ws' s (s + count - s)) ≡ false → Added qs ws ws' s count n (count + 1)
  unfolding adjoin
  added_yes y =
      let q : s + count - s ≡ count = omega arith in
      record {
        words_are = e;
        part_is = part_end qs ws' s count ∙ rw (← old) (rw (rw q at y));
        sound = let z : s + (count + 1) ≡ s + count + 1 = omega arith in rw z sound_new;
        at_least = omega arith;
        at_most = omega arith;
        same_length = only_last.len;
      }
