-- Writing a list after another writes both; the symbols of a path are written operand by operand.
-- Assumes nothing.
use mathlib.Core.Path.{◌≡◌, refl, sym, ap, ◌∙◌}
use mathlib.Core.List.{List, [], ◌∷◌, ◌++◌, map-append}
use Prim.Native.Nat.{ℕ, ◌+◌, ◌-◌, ◌≤◌, ◌<◌}
use native.Mathlib.Numerals.{add-one}
use native.Mathlib.Omega.{arith}
use lib.ListN.{length, get_or, set, take, drop, replicate, length-append, length-set, length-drop, length-replicate}
use lib.Seq.{sets, sets-eq, length-sets, drop-drop, length-take-le, take-suc, get_or-drop}
use borrow.Rule.Slice.PartMut.{put_mid}
use Rattle.theory.specs.PathExpr.{Via, Op, PathExpr, join, op, closure, s_join, op_code}
use Rattle.std.proofs.Common.{append_assoc}
use Rattle.theory.proofs.Lists.{sets_append}
use Rattle.theory.specs.JoinSets.{set_of}
use Rattle.triples.specs.Expansion.{PathWritten, Expanded}

-- ---- one after the other
pub wrote_then : {at mid end : ℕ} {cs ss cs₂ ss₂ xs ys xs₁ ys₁ xs₂ ys₂ : List ℕ} → PathWritten at cs ss xs ys xs₁ ys₁ mid → PathWritten mid cs₂ ss₂ xs₁ ys₁ xs₂ ys₂ end
    → PathWritten at (cs ++ cs₂) (ss ++ ss₂) xs ys xs₂ ys₂ end
wrote_then {at} {mid} {end} {cs} {ss} {cs₂} {ss₂} {xs} {ys} p q =
    record {
      codes_are = q.codes_are ∙ rw (p.codes_are, p.ends) (sets_append cs cs₂ xs at);
      sets_are = q.sets_are ∙ rw (p.sets_are, p.ends, ← p.as_many) (sets_append ss ss₂ ys at);
      as_many = rw (length-append ss ss₂, length-append cs cs₂, p.as_many, q.as_many);
      ends = omega (arith, p.ends, q.ends, length-append cs cs₂);
      codes_length = q.codes_length ∙ p.codes_length;
      sets_length = q.sets_length ∙ p.sets_length;
    }

wrote_one : (at c v : ℕ) (xs ys : List ℕ) → PathWritten at (c ∷ []) (v ∷ []) xs ys (set xs at c) (set ys at v) (at + 1)
wrote_one at c v xs ys =
    record { codes_are = refl; sets_are = refl; as_many = refl; ends = refl; codes_length = length-set xs at c; sets_length = length-set ys at v }

pub wrote_none : (at : ℕ) (xs ys : List ℕ) → PathWritten at [] [] xs ys xs ys (at + 0)
wrote_none at xs ys = record { codes_are = refl; sets_are = refl; as_many = refl; ends = refl; codes_length = refl; sets_length = refl }

pub wrote_as : {at end : ℕ} {cs ss cs' ss' xs ys xs' ys' : List ℕ} → PathWritten at cs ss xs ys xs' ys' end → cs ≡ cs' → ss ≡ ss' → PathWritten at cs' ss' xs ys xs' ys' end
wrote_as w p q = rw (← p, ← q) w

-- ---- a part that is overwritten
overwritten : (at n : ℕ) (xs ys : List ℕ) → at + n ≤ length xs → length ys ≡ n → put_mid at (at + n - at) xs ys ≡ sets xs at ys
overwritten at n xs ys h e =
    let k : at + n - at ≡ length ys = omega arith in
    rw (k, sets-eq ys xs at (omega arith), drop-drop, append_assoc) refl

length_taken : (s n : ℕ) (q : List ℕ) → s + n ≤ length q → length (take (s + n - s) (drop s q)) ≡ n
length_taken s n q h = let k : s + n - s ≡ n = omega arith in rw k (length-take-le n (drop s q) (simp length-drop (omega arith)))

-- ---- a copy, symbol by symbol
pub take_more : (s j : ℕ) (q : List ℕ) → s + j < length q → take (j + 1) (drop s q) ≡ take j (drop s q) ++ (get_or q (s + j) 0 ∷ [])
take_more s j q h = rw (add-one, take-suc (drop s q) j 0 (simp length-drop (omega arith)), get_or-drop)

pub copied_more : (at s j : ℕ) (q xs : List ℕ) {xs' : List ℕ} → s + j < length q → xs' ≡ sets xs at (take j (drop s q))
    → set xs' (at + j) (get_or q (s + j) 0) ≡ sets xs at (take (j + 1) (drop s q))
copied_more at s j q xs h e =
    let l : length (take j (drop s q)) ≡ j = length-take-le j (drop s q) (simp length-drop (omega arith)) in
    rw (e, take_more s j q h) (ap (λ (m : ℕ). set (sets xs at (take j (drop s q))) (at + m) (get_or q (s + j) 0)) (sym l) ∙ sets_append (take j (drop s q)) (get_or q (s + j) 0 ∷ []) xs at)

-- n symbols of the question from s on, with no sets
pub copied : (q xs ys : List ℕ) {xs' vs : List ℕ} (s n at : ℕ) → s + n ≤ length q → at + n ≤ length ys → xs' ≡ sets xs at (take n (drop s q))
    → vs ≡ replicate (length (take (at + n - at) (drop at ys))) 0
    → PathWritten at (take n (drop s q)) (replicate n 0) xs ys xs' (put_mid at (at + n - at) ys vs) (at + n)
copied q xs ys s n at hq hy eu ev =
    let lc : length (take n (drop s q)) ≡ n = length-take-le n (drop s q) (simp length-drop (omega arith)) in
    rw (eu, ev, length_taken at n ys hy, overwritten at n ys (replicate n 0) hy (length-replicate n 0))
    (record {
      codes_are = refl;
      sets_are = refl;
      as_many = length-replicate n 0 ∙ sym lc;
      ends = ap (λ (m : ℕ). at + m) (sym lc);
      codes_length = length-sets xs at (take n (drop s q));
      sets_length = length-sets ys at (replicate n 0);
    })

-- ---- the symbols of a path, operand by operand
module _ (p q : PathExpr) {at mid end r : ℕ} {xs ys xs₁ ys₁ xs₂ ys₂ xs₃ ys₃ : List ℕ} where
  pub expanded_join : (v : Via) → Expanded p at xs ys xs₁ ys₁ mid → Expanded q mid xs₁ ys₁ xs₂ ys₂ end → PathWritten end (128 ∷ []) (set_of (s_join v) ∷ []) xs₂ ys₂ xs₃ ys₃ r
      → Expanded (join v p q) at xs ys xs₃ ys₃ r
  expanded_join v a b c = wrote_as (wrote_then a (wrote_then b c)) (sym (simp map-append)) (sym (simp map-append))

  pub expanded_op : (o : Op) → Expanded p at xs ys xs₁ ys₁ mid → Expanded q mid xs₁ ys₁ xs₂ ys₂ end → PathWritten end (op_code o ∷ []) (0 ∷ []) xs₂ ys₂ xs₃ ys₃ r
      → Expanded (op o p q) at xs ys xs₃ ys₃ r
  expanded_op o a b c = wrote_as (wrote_then a (wrote_then b c)) (sym (simp map-append)) (sym (simp map-append))

pub expanded_closure : (p : PathExpr) {at mid r : ℕ} {xs ys xs₁ ys₁ xs₂ ys₂ : List ℕ} → Expanded p at xs ys xs₁ ys₁ mid → PathWritten mid (133 ∷ []) (0 ∷ []) xs₁ ys₁ xs₂ ys₂ r
    → Expanded (closure p) at xs ys xs₂ ys₂ r
expanded_closure p a c = wrote_as (wrote_then a c) (sym (simp map-append)) (sym (simp map-append))
