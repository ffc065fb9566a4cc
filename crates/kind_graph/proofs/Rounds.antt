-- A number for each kind, raised triple by triple and round by round.
-- Assumes nothing.
use mathlib.Core.Path.{◌≡◌, refl, sym, ap, ap₂, ◌∙◌}
use mathlib.Core.Bool.{Bool, true, false, cond, true≢false}
use mathlib.Core.Logic.{⊎_elim}
use mathlib.Core.List.{List, [], ◌∷◌}
use Prim.Native.Nat.{ℕ, ◌+◌, ◌-◌, ◌<◌, ◌≤◌, max}
use native.Mathlib.Nat.{eq-or-lt_of_le}
use native.Mathlib.Numerals.{add-one}
use native.Mathlib.Omega.{arith}
use lib.Dec.{eqb}
use lib.ListN.{length, get_or, replicate, get_or-eq_default}
use Rattle.theory.specs.PathExpr.{size}
use Rattle.theory.specs.Inference.{Triple, walks}
use Rattle.theory.specs.Narrowing.{short?}
use Rattle.rows.proofs.Words.{le_or_lt}
use Rattle.std.specs.Bool.{MatchBool}
use Rattle.std.specs.List.{AllWithin, HoldsAt}
use Rattle.triples.specs.Tests.{Decides}
use Rattle.triples.proofs.Comparing.{decides_yes, decides_no}
use Rattle.triples.specs.declared.Node.{Node}
use Rattle.triples.specs.Table.{Loaded}
use Rattle.triples.specs.Paths.{triple_of}
use Rattle.triples.specs.Parts.{part_of, span}
use Rattle.triples.proofs.Triples.{triple_from, triple_to}
use Rattle.triples.proofs.Growing.{part_next, part_over}
use Rattle.fields.proofs.Padded.{zero_at}
use Rattle.kind_graph.specs.Sizes.{Part, largest, to_kind, extended, size_of, weight, Raised, Raising, AtMost, Small}
use Rattle.kind_graph.proofs.LongestWalks.{best, best_none, rounds_short, round_long}

-- ---- a round: what stands, raised by the rest of the part, is the start raised by all of it
pub record Going (w : Triple → ℕ) (all rest : List Triple) (xs ys : List ℕ) : Type 0 where
  pub same_length : length ys ≡ length xs
  pub at : (k : ℕ) → max (get_or ys k 0) (largest (to_kind k w) rest) ≡ max (get_or xs k 0) (largest (to_kind k w) all)

round_over : {w : Triple → ℕ} {all rest : List Triple} {xs ys : List ℕ} → Going w all rest xs ys → rest ≡ [] → Raising w all xs ys
round_over {w} {all} {rest} {xs} {ys} r e = record { same_length = r.same_length; at = λ k. (let f = r.at k in let g : largest (to_kind k w) rest ≡ 0 = ap (largest (to_kind k w)) e in omega arith) }

round_turn : {w : Triple → ℕ} {all rest : List Triple} {t : Triple} (later : List Triple) {xs ys zs : List ℕ} {k v : ℕ} → Going w all rest xs ys → rest ≡ t ∷ later → k ≡ t.to → v ≡ w t
    → Raised k v ys zs → Going w all later xs zs
round_turn {w} {all} {rest} {t} later {xs} {ys} {zs} {k} {v} r e kt vt d =
    record {
      same_length = d.same_length ∙ r.same_length;
      at = λ j. (
          let a = r.at j in
          let b : largest (to_kind j w) rest ≡ max (cond (eqb k j) v 0) (largest (to_kind j w) later) = rw (e, kt, vt) refl in
          let c = d.at j in
          omega arith);
    }

module _ {qs ws : List ℕ} {s e : ℕ} (h : Part qs ws (span s e)) where
  abbrev from : ℕ → List Triple
  from i = part_of qs ws i (e - i)

  pub round_end : {w : Triple → ℕ} {i : ℕ} {xs ys : List ℕ} → e ≤ i → Going w (from s) (from i) xs ys → Raising w (from s) xs ys
  round_end {i = i} l r = round_over r (part_over qs ws i e l)

  module _ {i : ℕ} {x : Node} (l : i < e) (lx : Loaded ws i x) where
    to_is : x.to.0 ≡ (triple_of qs ws i).to
    to_is = ap (λ (n : Node). n.to.0) lx.is ∙ sym (triple_to qs ws i)

    from_is : x.from.0 ≡ (triple_of qs ws i).from
    from_is = ap (λ (n : Node). n.from.0) lx.is ∙ sym (triple_from qs ws i)

    pub size_is : x.size ≡ size_of (triple_of qs ws i)
    size_is = ap (λ (n : Node). n.size) lx.is ∙ sym (h.sound.good i l).sized

    pub weight_is : (best : List ℕ) {v : ℕ} → v ≡ extended (get_or best x.from.0 0) x.size → v ≡ weight best (triple_of qs ws i)
    weight_is best q = q ∙ ap₂ (λ (a b : ℕ). extended (get_or best a 0) b) from_is size_is

    pub round_next : {w : Triple → ℕ} {v : ℕ} {xs ys zs : List ℕ} → v ≡ w (triple_of qs ws i) → Going w (from s) (from i) xs ys → Raised x.to.0 v ys zs → Going w (from s) (from (i + 1)) xs zs
    round_next q r d = round_turn (from (i + 1)) r (part_next qs ws i e l) to_is q d

-- ---- whether each number is at most m: `all` tells that each is, or that one is not
pub decides_at_most : (m : ℕ) (r : Bool) (xs : List ℕ) → MatchBool r (AllWithin (λ x. x ≤ m) xs 0 (length xs)) ((k : ℕ) × (k < length xs) × HoldsAt (λ x. m < x) xs k)
    → Decides (AtMost m xs) r
decides_at_most m true xs h = decides_yes (λ k. ⊎_elim
    (λ (o : length xs ≤ k). let e : get_or xs k 0 ≡ 0 = get_or-eq_default xs 0 o in omega arith)
    (λ (o : k < length xs). h k 0 (omega arith) o)
    (le_or_lt (length xs) k))
decides_at_most m false xs w = decides_no (λ h. omega (arith, h w.0, w.2 0))

-- ---- the rounds
-- after n rounds: the largest walk of n + 1 triples to each kind, and none was over 48 yet
pub record Rounds (fs : List Triple) (n : ℕ) (xs : List ℕ) : Type 0 where
  pub long : length xs ≡ 64
  pub is : (k : ℕ) → get_or xs k 0 ≡ best fs n k
  pub below : (m k : ℕ) → m ≤ n → best fs m k ≤ 48

-- a number over 48 ends it
not_small : (fs : List Triple) (n : ℕ) (xs : List ℕ) → n ≤ 24 → ((k : ℕ) → get_or xs k 0 ≡ best fs n k) → ¬ Small xs → false ≡ short? (walks 24 fs fs)
not_small fs n xs h is not = go (short? (walks 24 fs fs)) refl
  where
    go : (b : Bool) → short? (walks 24 fs fs) ≡ b → false ≡ short? (walks 24 fs fs)
    go false e = sym e
    go true e =
        absurd (not (λ k. ⊎_elim (λ (l : get_or xs k 0 ≤ 48). l) (λ (l : 48 < get_or xs k 0). absurd (true≢false (sym e ∙ round_long fs n k h (omega (arith, is k))))) (le_or_lt (get_or xs k 0) 48)))

module _ {fs : List Triple} where
  first_is : {xs : List ℕ} → Raising size_of fs (replicate 64 0) xs → (k : ℕ) → get_or xs k 0 ≡ best fs 0 k
  first_is r k = omega (arith, r.at k, zero_at 64 k)

  pub first_long : {xs : List ℕ} → Raising size_of fs (replicate 64 0) xs → ¬ Small xs → false ≡ short? (walks 24 fs fs)
  first_long {xs} r not = not_small fs 0 xs (omega arith) (first_is r) not

  pub rounds_start : {xs : List ℕ} → Raising size_of fs (replicate 64 0) xs → Small xs → Rounds fs 0 xs
  rounds_start {xs} r h = record { long = r.same_length; is = first_is r; below = λ m k l. let e : m ≡ 0 = omega arith in rw e (omega (arith, h k, first_is r k)) }

  module _ {n : ℕ} {xs ys : List ℕ} (g : Rounds fs n xs) (r : Raising (weight xs) fs (replicate 64 0) ys) where
    same_weight : (k : ℕ) (ts : List Triple) → largest (to_kind k (weight xs)) ts ≡ largest (to_kind k (λ t. extended (best fs n t.from) (size t.path))) ts
    same_weight k [] = refl
    same_weight k (t ∷ ts) = ap₂ max (ap (λ (b : ℕ). cond (eqb t.to k) (extended b (size t.path)) 0) (g.is t.from)) (same_weight k ts)

    round_is : (k : ℕ) → get_or ys k 0 ≡ best fs (n + 1) k
    round_is k = rw (add-one n) (omega (arith, r.at k, zero_at 64 k, same_weight k fs))

    pub rounds_turn : Small ys → Rounds fs (n + 1) ys
    rounds_turn h =
        record {
          long = r.same_length;
          is = round_is;
          below = λ m k l. ⊎_elim (λ (e : m ≡ n + 1). rw e (omega (arith, h k, round_is k))) (λ (l : m < n + 1). g.below m k (omega arith)) (eq-or-lt_of_le l);
        }

    pub rounds_long : n < 24 → ¬ Small ys → false ≡ short? (walks 24 fs fs)
    rounds_long l not = not_small fs (n + 1) ys (omega arith) round_is not

  pub rounds_over : {n : ℕ} {xs : List ℕ} → Rounds fs n xs → 24 ≤ n → true ≡ short? (walks 24 fs fs)
  rounds_over g l = sym (rounds_short fs (λ m k h. g.below m k (omega arith)))

  -- no walk is left, so there is no longer one
  pub rounds_none : {n : ℕ} {xs : List ℕ} → Rounds fs n xs → AtMost 0 xs → true ≡ short? (walks 24 fs fs)
  rounds_none {n} g z =
      let none : (k : ℕ) → best fs n k ≡ 0 = λ k. omega (arith, z k, g.is k) in
      sym (rounds_short fs (λ m k h. ⊎_elim (λ (l : m ≤ n). g.below m k l) (λ (l : n < m). omega (arith, best_none fs n none m k (omega arith))) (le_or_lt m n)))
