-- The graph of a part's kinds: triple by triple, closed, and the walks that meet a cyclic kind.
-- Assumes nothing.
use mathlib.Core.Path.{◌≡◌, refl, sym, ap, ap₂, ◌∙◌}
use mathlib.Core.Bool.{Bool, true, false, ◌&&◌, ◌||◌, and-false, or-false, or_assoc}
use mathlib.Core.Logic.{inl, inr}
use mathlib.Core.List.{List, [], ◌∷◌}
use Prim.Native.Nat.{ℕ, ◌+◌, ◌-◌, ◌*◌, ◌/◌, ◌%◌, ◌<◌, ◌≤◌}
use native.Mathlib.Decide.{ℕ_discrete}
use native.Mathlib.Omega.{arith}
use lib.Dec.{eqb}
use lib.ListN.{length, get_or}
use borrow.Author.Tests.{eq-eqb, ne_eqb}
use Rattle.bits.specs.Bit.{bit_of}
use Rattle.theory.specs.TransitiveClosure.{Table, look, closure?}
use Rattle.theory.proofs.TransitiveClosure.{closure_same}
use Rattle.theory.specs.Inference.{Triple, adjacent?, reach, cyclic?, leads?, meets_cyclic?}
use Rattle.theory.specs.Evaluation.{join?}
use Rattle.rows.specs.Kept.{Wrote}
use Rattle.rows.specs.Row.{row_bit, Row, mask_of}
use Rattle.rows.proofs.Rows.{kept_bit}
use Rattle.rows.proofs.Masks.{mask_at}
use Rattle.rows.proofs.Ranges.{some_same}
use Rattle.relation.specs.Pairs.{pair_at, Made}
use Rattle.relation.proofs.Making.{made_clear}
use Rattle.triples.specs.declared.Node.{Node}
use Rattle.triples.specs.Table.{Loaded}
use Rattle.triples.specs.Parts.{part_of}
use Rattle.triples.proofs.Triples.{triple_from, triple_to}
use Rattle.triples.proofs.Growing.{part_next, part_over}
use Rattle.kind_graph.specs.Kinds.{Edges, KindGraph}

eqb_sym : (a b : ℕ) → eqb a b ≡ eqb b a
eqb_sym a b = go (ℕ_discrete a b)
  where
    go : Dec (a ≡ b) → eqb a b ≡ eqb b a
    go (yes e) = eq-eqb a b e ∙ sym (eq-eqb b a (sym e))
    go (no n) = ne_eqb a b n ∙ sym (ne_eqb b a (λ e. n (sym e)))

-- ---- triple by triple: what the words say, and what the rest of the part adds, is the graph of all
pub record Linking (all rest : List Triple) (xs : List ℕ) : Type 0 where
  pub long : length xs ≡ 128
  pub at : (a b : ℕ) → a < 64 → b / 64 < 1 → pair_at xs 0 1 a b || adjacent? rest a b ≡ adjacent? all a b

pub link_start : (ts : List Triple) {ws xs : List ℕ} → length ws ≡ 128 → Wrote 0 64 (λ j. 0) ws xs → Linking ts ts xs
link_start ts {ws} {xs} l p =
    let m : Made 0 64 1 (λ s t. false) ws xs = made_clear {b = 0} {n = 64} {w = 1} p in
    record { long = p.kept.len ∙ l; at = λ a b ha hb. ap (λ (x : Bool). x || adjacent? ts a b) (m.pair a b ha hb) }

link_turn : {all rest : List Triple} {t : Triple} (later : List Triple) {ys zs : List ℕ} {f g : ℕ} → Linking all rest ys → rest ≡ t ∷ later → f ≡ t.from → g ≡ t.to
    → Made 0 64 1 (λ i j. pair_at ys 0 1 i j || (eqb i f && eqb j g)) ys zs → Linking all later zs
link_turn {all} {rest} {t} later {ys} {zs} {f} {g} r e ft gt m =
    record {
      long = m.kept.len ∙ r.long;
      at = λ a b ha hb.
          let old : pair_at ys 0 1 a b || (eqb t.from a && eqb t.to b || adjacent? later a b) ≡ adjacent? all a b = rw e at (r.at a b ha hb) in
          rw (m.pair a b ha hb, ft, gt, eqb_sym a t.from, eqb_sym b t.to) (or_assoc (pair_at ys 0 1 a b) (eqb t.from a && eqb t.to b) (adjacent? later a b) ∙ old);
    }

link_end : {all rest : List Triple} {xs : List ℕ} → Linking all rest xs → rest ≡ [] → Edges all xs
link_end {all} {rest} {xs} r e =
    record { long = r.long; pair = λ a b ha hb. let q : pair_at xs 0 1 a b || false ≡ adjacent? all a b = rw e at (r.at a b ha hb) in sym (or-false (pair_at xs 0 1 a b)) ∙ q }

module _ (qs ws : List ℕ) (s e : ℕ) where
  abbrev from : ℕ → List Triple
  from i = part_of qs ws i (e - i)

  pub edges_end : {i : ℕ} {xs : List ℕ} → e ≤ i → Linking (from s) (from i) xs → Edges (from s) xs
  edges_end {i} l r = link_end r (part_over qs ws i e l)

  pub edges_next : {i : ℕ} {x : Node} {ys zs : List ℕ} → i < e → Loaded ws i x → Linking (from s) (from i) ys
      → Made 0 64 1 (λ a b. pair_at ys 0 1 a b || (eqb a x.from.0 && eqb b x.to.0)) ys zs → Linking (from s) (from (i + 1)) zs
  edges_next {i} {x} l lx r m =
      link_turn (from (i + 1)) r (part_next qs ws i e l)
      (ap (λ (n : Node). n.from.0) lx.is ∙ sym (triple_from qs ws i)) (ap (λ (n : Node). n.to.0) lx.is ∙ sym (triple_to qs ws i)) m

-- ---- a cyclic kind needs no test of its ends
module _ (w : Table) (a b z : ℕ) where
  leads_from : cyclic? w z ≡ true → leads? w a z ≡ look w a z
  leads_from c = go (ℕ_discrete a z)
    where
      go : Dec (a ≡ z) → leads? w a z ≡ look w a z
      go (yes e) = rw (eq-eqb a z e) (sym (ap (λ (k : ℕ). look w k z) e ∙ c))
      go (no n) = rw (ne_eqb a z n)

  leads_on : cyclic? w z ≡ true → leads? w z b ≡ look w z b
  leads_on c = go (ℕ_discrete z b)
    where
      go : Dec (z ≡ b) → leads? w z b ≡ look w z b
      go (yes e) = rw (eq-eqb z b e) (sym (ap (λ (k : ℕ). look w z k) (sym e) ∙ c))
      go (no n) = rw (ne_eqb z b n)

  and_true : (x y : Bool) → x && (y && true) ≡ x && y
  and_true true true = refl
  and_true true false = refl
  and_true false y = refl

  crosses : look w a z && (look w z b && look w z z) ≡ cyclic? w z && (leads? w a z && leads? w z b)
  crosses = go (look w z z) refl
    where
      go : (c : Bool) → look w z z ≡ c → look w a z && (look w z b && look w z z) ≡ cyclic? w z && (leads? w a z && leads? w z b)
      go true e = rw (leads_from e, leads_on e, e) (and_true (look w a z) (look w z b))
      go false e = rw (e, and-false (look w z b)) (and-false (look w a z))

-- ---- closed, doubled, and joined through the cyclic kinds
row_flat : (xs : List ℕ) (d a b : ℕ) → b < 64 → row_bit xs d (64 * a + b) ≡ row_bit xs (d + a) b
unfolding row_bit
row_flat xs d a b h =
    let q : d + (64 * a + b) / 64 ≡ d + a + b / 64 = omega arith in
    let r : (64 * a + b) % 64 ≡ b % 64 = omega arith in
    ap₂ (λ (i k : ℕ). bit_of (get_or xs i 0) k) q r

module _ {ts : List Triple} {xs ys zs us ms ns : List ℕ} (h : Edges ts xs) (closed : Made 0 64 1 (look (closure? 64 (pair_at xs 0 1))) xs ys)
    (masked : Row 0 1 (mask_of (λ z. row_bit ys z z) 64) ms ns) (doubled : Row 64 64 (row_bit ys 0) ys zs)
    (joined : Made 0 64 1 (join? 64 (row_bit ns 0) (pair_at zs 0 1) (pair_at zs 64 1)) zs us) where
  at_closed : (a b : ℕ) → a < 64 → b < 64 → row_bit ys a b ≡ look (reach 64 ts) a b
  unfolding reach
  at_closed a b ha hb =
      let z : 0 + a * 1 ≡ a = omega arith in
      ap (λ (k : ℕ). row_bit ys k b) (sym z) ∙ closed.pair a b ha (omega arith)
      ∙ ap (λ (t : Table). look t a b) (closure_same 64 (pair_at xs 0 1) (adjacent? ts) (λ i j hi hj. h.pair i j hi (omega arith)))

  low : (a b : ℕ) → a < 64 → b < 64 → pair_at zs 0 1 a b ≡ look (reach 64 ts) a b
  low a b ha hb =
      let z : 0 + a * 1 ≡ a = omega arith in
      ap (λ (k : ℕ). row_bit zs k b) z ∙ kept_bit a 1 b doubled.kept (inl (omega arith)) (omega arith) ∙ at_closed a b ha hb

  high : (a b : ℕ) → a < 64 → b < 64 → row_bit zs (64 + a) b ≡ look (reach 64 ts) a b
  high a b ha hb =
      let z : 0 + a ≡ a = omega arith in
      sym (row_flat zs 64 a b hb) ∙ doubled.bit (64 * a + b) (omega arith) ∙ row_flat ys 0 a b hb ∙ ap (λ (k : ℕ). row_bit ys k b) z ∙ at_closed a b ha hb

  ringed : (z : ℕ) → z < 64 → row_bit ns 0 z ≡ look (reach 64 ts) z z
  ringed z hz = masked.bit z (omega arith) ∙ mask_at (λ k. row_bit ys k k) 64 z hz ∙ at_closed z z hz hz

  joined_at : (a b z : ℕ) → a < 64 → b < 64 → z < 64 → pair_at zs 0 1 a z && (pair_at zs 64 1 z b && row_bit ns 0 z) ≡ cyclic? (reach 64 ts) z && (leads? (reach 64 ts) a z && leads? (reach 64 ts) z b)
  joined_at a b z ha hb hz =
      let k : 64 + z * 1 ≡ 64 + z = omega arith in
      ap₂ ◌&&◌ (low a z ha hz) (ap₂ ◌&&◌ (ap (λ (i : ℕ). row_bit zs i b) k ∙ high z b hz hb) (ringed z hz)) ∙ crosses (reach 64 ts) a b z

  pub linked : KindGraph ts us
  unfolding meets_cyclic?
  linked =
      record {
        long = joined.kept.len ∙ doubled.kept.len ∙ closed.kept.len ∙ h.long;
        reached = λ a b ha hb. kept_bit (64 + a) 1 b joined.kept (inr (omega arith)) (omega arith) ∙ high a b ha hb;
        met = λ a b ha hb.
            let z : 0 + a * 1 ≡ a = omega arith in
            ap (λ (k : ℕ). row_bit us k b) (sym z) ∙ joined.pair a b ha (omega arith)
            ∙ some_same (λ z. pair_at zs 0 1 a z && (pair_at zs 64 1 z b && row_bit ns 0 z)) (λ z. cyclic? (reach 64 ts) z && (leads? (reach 64 ts) a z && leads? (reach 64 ts) z b)) 64
            (λ z hz. joined_at a b z ha hb hz);
      }
