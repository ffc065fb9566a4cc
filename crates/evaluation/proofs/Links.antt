-- One pass over the links of a register's file: what holds at the loop's head, and how it goes on.
-- Assumes nothing.
use mathlib.Core.Path.{◌≡◌, refl, sym, ap, subst, ◌∙◌}
use mathlib.Core.Bool.{Bool, true, false, not, ◌&&◌, ◌||◌, or-false, or_assoc, false≢true}
use mathlib.Core.List.{List, [], ◌∷◌}
use Prim.Native.Nat.{ℕ, ◌+◌, ◌*◌, ◌/◌, ◌<◌}
use native.Mathlib.Omega.{arith}
use lib.Dec.{T, eqb, ltb, ltb→lt}
use borrow.Author.Tests.{eq-eqb, ne_eqb, eqb-true}
use Rattle.theory.specs.Lists.{some?, every?}
use Rattle.theory.specs.PathExpr.{Direction, forward, reverse, named}
use Rattle.theory.specs.Register.{Edge, edge, same_edge?, Register, well_formed?}
use Rattle.theory.specs.Evaluation.{step?}
use Rattle.theory.proofs.Tests.{and_left, and_right}
use Rattle.theory.proofs.Labels.{linked_same}
use Rattle.register.specs.Form.{register_in}
use Rattle.rows.specs.Kept.{Kept, Wrote}
use Rattle.rows.proofs.Words.{kept_refl, kept_trans}
use Rattle.relation.specs.Pairs.{pair_at, Made}
use Rattle.relation.proofs.Making.{made_is, made_same, made_then, made_clear}
use Rattle.evaluation.specs.Grounded.{Grounded, leads?}
use Rattle.evaluation.proofs.Grounds.{limits}

-- ---- one link
-- what the test of its name says
pub named_same : (x y : ℕ) (b : Bool) → b ≡ not (eqb x y) → b ≡ false → x ≡ y
named_same x y b e f = eqb-true x y (flip (eqb x y) (sym e ∙ f))
  where
    flip : (c : Bool) → not c ≡ false → c ≡ true
    flip true q = refl
    flip false q = absurd (false≢true (sym q))

pub named_other : (x y : ℕ) (b : Bool) → b ≡ not (eqb x y) → b ≡ true → x ≡ y → ⊥
named_other x y b e t q = false≢true (sym (ap not (eq-eqb x y q)) ∙ sym e ∙ t)

middle : (a c : Bool) → a && true && c ≡ a && c
middle true c = refl
middle false c = refl

swap : (a c : Bool) → a && true && c ≡ c && a
swap true true = refl
swap true false = refl
swap false true = refl
swap false false = refl

none : (a c : Bool) → a && false && c ≡ false
none true c = refl
none false c = refl

module _ (from label to l : ℕ) where
  pub leads_forward : label ≡ l → (i j : ℕ) → eqb i from && eqb j to ≡ leads? forward l (edge from label to) i j
  unfolding same_edge?
  leads_forward e i j = sym (ap (λ (b : Bool). eqb i from && b && eqb j to) (eq-eqb l label (sym e)) ∙ middle (eqb i from) (eqb j to))

  pub leads_reverse : label ≡ l → (i j : ℕ) → eqb i to && eqb j from ≡ leads? reverse l (edge from label to) i j
  unfolding same_edge?
  leads_reverse e i j = sym (ap (λ (b : Bool). eqb j from && b && eqb i to) (eq-eqb l label (sym e)) ∙ swap (eqb j from) (eqb i to))

  leads_no : (label ≡ l → ⊥) → (d : Direction) (i j : ℕ) → leads? d l (edge from label to) i j ≡ false
  unfolding same_edge?
  leads_no n forward i j = ap (λ (b : Bool). eqb i from && b && eqb j to) (ne_eqb l label (λ e. n (sym e))) ∙ none (eqb i from) (eqb j to)
  leads_no n reverse i j = ap (λ (b : Bool). eqb j from && b && eqb i to) (ne_eqb l label (λ e. n (sym e))) ∙ none (eqb j from) (eqb i to)

  -- the link is taken in, or is not named l
  pub made_forward : {b n w : ℕ} {xs ys : List ℕ} → label ≡ l → Made b n w (λ i j. pair_at xs b w i j || (eqb i from && eqb j to)) xs ys
      → Made b n w (λ i j. pair_at xs b w i j || leads? forward l (edge from label to) i j) xs ys
  made_forward {b} {n} {w} {xs} e m = made_is m (λ i j h k. ap (λ (x : Bool). pair_at xs b w i j || x) (leads_forward e i j))

  pub made_reverse : {b n w : ℕ} {xs ys : List ℕ} → label ≡ l → Made b n w (λ i j. pair_at xs b w i j || (eqb i to && eqb j from)) xs ys
      → Made b n w (λ i j. pair_at xs b w i j || leads? reverse l (edge from label to) i j) xs ys
  made_reverse {b} {n} {w} {xs} e m = made_is m (λ i j h k. ap (λ (x : Bool). pair_at xs b w i j || x) (leads_reverse e i j))

  pub made_neither : (b n w : ℕ) (xs : List ℕ) (d : Direction) → (label ≡ l → ⊥) → Made b n w (λ i j. pair_at xs b w i j || leads? d l (edge from label to) i j) xs xs
  made_neither b n w xs d e = made_is (made_same b n w xs) (λ i j h k. sym (ap (λ (x : Bool). pair_at xs b w i j || x) (leads_no e d i j) ∙ or-false (pair_at xs b w i j)))

-- ---- all links
step_links : (r : Register) (d : Direction) (l i j : ℕ) → some? (λ e. leads? d l e i j) r.links ≡ step? r d (named l) i j
step_links r forward l i j = sym (linked_same r l i j)
step_links r reverse l i j = sym (linked_same r l j i)

abbrev inside? : ℕ → Edge → Bool
inside? n e = ltb e.from n && ltb e.to n

-- the links still to come, and with their pairs the relation is what it was with all pairs of the step
pub record Passing (s : List ℕ) (b n w : ℕ) (d : Direction) (l : ℕ) (xs ys : List ℕ) (es : List Edge) : Type 0 where
  pub inside : T (every? (inside? n) es)
  pub kept : Kept b (b + n * w) xs ys
  pub pair : (i j : ℕ) → i < n → j / 64 < w → pair_at ys b w i j || some? (λ e. leads? d l e i j) es ≡ pair_at xs b w i j || step? (register_in s) d (named l) i j

pub passing_start : {s : List ℕ} {b n w : ℕ} {es : List Edge} (d : Direction) (l : ℕ) (xs : List ℕ) → Grounded s n w → es ≡ (register_in s).links → Passing s b n w d l xs xs es
unfolding well_formed?
passing_start {s} {b} {n} {w} d l xs g e = record {
  inside = rw e (subst (λ (k : ℕ). T (every? (inside? k) (register_in s).links)) g.count (limits g).formed);
  kept = kept_refl b (b + n * w) xs;
  pair = λ i j hi hj. rw e (ap (λ (x : Bool). pair_at xs b w i j || x) (step_links (register_in s) d l i j));
}

module _ {s : List ℕ} {b n w l : ℕ} {d : Direction} {xs ys : List ℕ} {es : List Edge} (p : Passing s b n w d l xs ys es) where
  pub passing_end : es ≡ [] → Made b n w (λ i j. pair_at xs b w i j || step? (register_in s) d (named l) i j) xs ys
  passing_end z = record {
    kept = p.kept;
    pair = λ i j hi hj. sym (ap (λ (l' : List Edge). pair_at ys b w i j || some? (λ x. leads? d l x i j) l') z ∙ or-false (pair_at ys b w i j)) ∙ p.pair i j hi hj;
  }

  module _ (e : Edge) (rest : List Edge) (q : es ≡ e ∷ rest) where
    inside_all : T (every? (inside? n) (e ∷ rest))
    inside_all = subst (λ (l' : List Edge). T (every? (inside? n) l')) q p.inside

    pub link_inside : (e.from < n) × (e.to < n)
    link_inside =
        let h = and_left (inside? n e) (every? (inside? n) rest) inside_all in
        (ltb→lt e.from n (and_left (ltb e.from n) (ltb e.to n) h), ltb→lt e.to n (and_right (ltb e.from n) (ltb e.to n) h))

    pub passing_more : {zs : List ℕ} → Made b n w (λ i j. pair_at ys b w i j || leads? d l e i j) ys zs → Passing s b n w d l xs zs rest
    passing_more m = record {
      inside = and_right (inside? n e) (every? (inside? n) rest) inside_all;
      kept = kept_trans p.kept m.kept (omega arith) (omega arith) (omega arith) (omega arith);
      pair = λ i j hi hj.
          ap (λ (x : Bool). x || some? (λ y. leads? d l y i j) rest) (m.pair i j hi hj)
          ∙ or_assoc (pair_at ys b w i j) (leads? d l e i j) (some? (λ y. leads? d l y i j) rest)
          ∙ sym (ap (λ (l' : List Edge). pair_at ys b w i j || some? (λ y. leads? d l y i j) l') q)
          ∙ p.pair i j hi hj;
    }

-- the relation was cleared before
pub step_made : {b n w : ℕ} {xs ys zs : List ℕ} (r : Register) (d : Direction) (l : ℕ) → Wrote b (n * w) (λ j. 0) xs ys
    → Made b n w (λ i j. pair_at ys b w i j || step? r d (named l) i j) ys zs → Made b n w (step? r d (named l)) xs zs
step_made r d l c m = let z = made_clear c in made_is (made_then z m) (λ i j h k. ap (λ (x : Bool). x || step? r d (named l) i j) (z.pair i j h k))
