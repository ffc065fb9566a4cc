-- The route of a chain: laid link by link, and what its pairs are.
-- Assumes nothing.
use mathlib.Core.Path.{◌≡◌, sym, ap, ap₂, ◌∙◌, subst}
use mathlib.Core.Bool.{Bool, false, ◌&&◌, and-false, false≢true}
use mathlib.Core.List.{List}
use mathlib.Core.Logic.{inl, ⊎_elim}
use mathlib.Core.Option.{some}
use Prim.Native.Nat.{ℕ, zero, suc, ◌+◌, ◌*◌, ◌/◌, ◌≤◌, ◌<◌}
use native.Mathlib.Omega.{arith}
use lib.ListN.{length, get_or, set, length-set}
use Rattle.std.specs.Prelude.{Option}
use lib.Seq.{get_or-set_same}
use borrow.Author.Count.{below_more}
use Rattle.theory.specs.KindSet.{has}
use Rattle.theory.specs.PathExpr.{through, PathExpr}
use Rattle.theory.specs.Postfix.{path_of}
use Rattle.theory.specs.TransitiveClosure.{look}
use Rattle.theory.specs.Register.{Register, kind, records}
use Rattle.theory.specs.Evaluation.{passes?, join?, evaluate}
use Rattle.theory.proofs.TransitiveClosure.{look_all}
use Rattle.register.specs.Form.{register_in}
use Rattle.rows.specs.Kept.{Kept}
use Rattle.rows.specs.Row.{row_bit}
use Rattle.rows.proofs.Words.{le_or_lt}
use Rattle.rows.proofs.Ranges.{some_same, some_none}
use Rattle.rows.proofs.Rows.{kept_bit}
use Rattle.rows.proofs.Masks.{mask_at}
use Rattle.relation.specs.Pairs.{pair_at, Clean}
use Rattle.evaluation.specs.Grounded.{Grounded, symbols_in}
use Rattle.evaluation.specs.Stack.{Stored}
use Rattle.evaluation.proofs.Grounds.{limits, rows_hold, narrow}
use Rattle.evaluation.proofs.Tables.{evaluate_past}
use Rattle.kind_rows.specs.Kinds.{KindRows}
use Rattle.kind_rows.proofs.Tables.{set_has}
use Rattle.chains.specs.Chain.{IsStep, step_numbered, Chained, chain_path, Held, StillHeld, Leg, Joint, LinkLaid, Laid}
use Rattle.chains.specs.Routed.{routed, Routed, Leads}
use Rattle.chains.proofs.Holding.{before_end}
use Rattle.chains.proofs.Symbols.{chain_reads}

-- ---- link by link
-- a step that is held stays so, and so does where it lies
leg_kept : {lo hi : ℕ} {held held' : List (Option ℕ)} {bases bases' : List ℕ} (n w j c : ℕ)
    → Leg n w held bases j c → StillHeld held held' → Kept lo hi bases bases' → j < lo → Leg n w held' bases' j c
leg_kept n w j c l h k o = (l.0, l.1, h.more l.0 c l.1 l.2, k.below j o ∙ l.3)

-- the first step
pub laid_none : (n w : ℕ) (kinds numbers sets : List ℕ) (held : List (Option ℕ)) (bases masks : List ℕ) → Leg n w held bases 0 (get_or numbers 0 0) → Laid n w kinds numbers sets 0 held bases masks
laid_none n w kinds numbers sets held bases masks l = record { start = l; leg = λ j h. absurd (omega arith); joint = λ j h. absurd (omega arith) }

pub laid_more : {n w : ℕ} {kinds numbers sets : List ℕ} {held held' : List (Option ℕ)} {bases bases' masks masks' : List ℕ} (j : ℕ) → Laid n w kinds numbers sets j held bases masks
    → LinkLaid n w kinds (get_or numbers (2 * j + 1) 0) (get_or sets (2 * j + 2) 0) j held' bases bases' masks masks' → StillHeld held held' → w ≤ 16
    → Laid n w kinds numbers sets (j + 1) held' bases' masks'
laid_more {n} {w} {kinds} {numbers} {sets} {held} {held'} {bases} {bases'} {masks} {masks'} j l k h hw = record {
  start = leg_kept n w 0 (get_or numbers 0 0) l.start h k.bases_kept (omega arith);
  leg = below_more (λ i. Leg n w held' bases' (i + 1) (get_or numbers (2 * i + 1) 0)) j
      (λ i hi. leg_kept n w (i + 1) (get_or numbers (2 * i + 1) 0) (l.leg i hi) h k.bases_kept (omega arith)) k.leg;
  joint = below_more (λ i. Joint w kinds masks' i (get_or sets (2 * i + 2) 0)) j
      (λ i hi z hz. kept_bit (16 * i) w z k.masks_kept (inl (omega arith)) hz ∙ l.joint i hi z hz) k.joint;
}

pub laid_all : {n w m : ℕ} {kinds numbers sets : List ℕ} {held : List (Option ℕ)} {bases masks : List ℕ} (j : ℕ) → Laid n w kinds numbers sets j held bases masks → j ≡ m
    → Laid n w kinds numbers sets m held bases masks
laid_all {n} {w} {kinds = kinds} {numbers} {sets} {held} {bases} {masks} j l e = subst (λ (k : ℕ). Laid n w kinds numbers sets k held bases masks) e l

-- ---- its pairs
-- the pairs of a path are between records
stored_clean : {s : List ℕ} {n w b : ℕ} {xs : List ℕ} (ground : Grounded s n w) (p : PathExpr) → Stored xs b n w (look (evaluate (register_in s) p)) → Clean xs b n w
stored_clean {s} {n} ground p y i hi t ht e =
    ⊎_elim
    (λ (h : n ≤ t). absurd (false≢true (sym (evaluate_past (register_in s) (limits ground).formed p i t (omega (arith, ground.count))) ∙ sym (y.pair i t hi ht) ∙ e)))
    (λ (h : t < n). h)
    (le_or_lt n t)

module _ {s : List ℕ} {n w : ℕ} (ground : Grounded s n w) {kinds numbers sets : List ℕ} {held : List (Option ℕ)} {bases masks xs : List ℕ} {m : ℕ}
    (kinds-are : KindRows (register_in s) n w kinds) (steps : Held (register_in s) n w held xs)
    (c : Chained numbers m) (l : Laid n w kinds numbers sets m held bases masks) where
  abbrev r : Register
  r = register_in s

  stored : (j k : ℕ) → IsStep k → Leg n w held bases j k → Stored xs (get_or bases j 0) n w (look (evaluate r (step_numbered k)))
  stored j k h g = subst (λ (b : ℕ). Stored xs b n w (look (evaluate (register_in s) (step_numbered k)))) (sym g.3) (steps.stored g.0 k g.1 g.2 h)

  -- what a join through a set brings is no pair past the records
  joined_past : (set : ℕ) (p q : PathExpr) (i t : ℕ) → records r ≤ t → join? (records r) (passes? r (through set)) (look (evaluate r p)) (look (evaluate r q)) i t ≡ false
  joined_past set p q i t h = some_none (λ z. look (evaluate r p) i z && (look (evaluate r q) z t && has set (kind r z))) (records r)
      (λ z hz. rw (evaluate_past r (limits ground).formed q z t h) (and-false (look (evaluate r p) i z)))

  pub laid_pairs : (j : ℕ) → j ≤ m → (i t : ℕ) → i < n → t / 64 < w → routed xs bases masks n w j i t ≡ look (evaluate (register_in s) (chain_path numbers sets j)) i t
  laid_pairs zero hj i t hi ht = (stored 0 (get_or numbers 0 0) c.start l.start).pair i t hi ht
  laid_pairs (suc j) hj i t hi ht =
      let ks = get_or sets (2 * j + 2) 0 in
      let p = chain_path numbers sets j in
      let q = step_numbered (get_or numbers (2 * j + 1) 0) in
      let y = stored (j + 1) (get_or numbers (2 * j + 1) 0) (c.link j (omega arith)) (l.leg j (omega arith)) in
      some_same (λ z. routed xs bases masks n w j i z && (pair_at xs (get_or bases (j + 1) 0) w z t && row_bit masks (16 * j) z))
      (λ z. look (evaluate r p) i z && (look (evaluate r q) z t && has ks (kind r z))) n
      (λ z hz. ap₂ (λ (a b : Bool). a && b) (laid_pairs j (omega arith) i z hi (omega (arith, rows_hold ground)))
      (ap₂ (λ (a b : Bool). a && b) (y.pair z t hz ht) (l.joint j (omega arith) z (omega (arith, rows_hold ground)) ∙ set_has ground ks kinds-are z (omega (arith, rows_hold ground))
      ∙ mask_at (λ t. has ks (kind r t)) n z hz)))
      ∙ ap (λ (k : ℕ). join? k (passes? r (through ks)) (look (evaluate r p)) (look (evaluate r q)) i t) (sym ground.count)
      ∙ sym (look_all (records r) (join? (records r) (passes? r (through ks)) (look (evaluate r p)) (look (evaluate r q))) i t (omega (arith, ground.count)) (λ h. joined_past ks p q i t h))

  pub laid_leads : (size : ℕ) (p : PathExpr) → size ≡ 2 * m + 1 → path_of (symbols_in numbers sets size 0) ≡ some p → Leads (register_in s) xs bases masks n w m p
  laid_leads size p e q i t hi ht =
      let z : some (chain_path numbers sets m) ≡ some p = sym (chain_reads numbers sets m size e c) ∙ q in
      let y : chain_path numbers sets m ≡ p = cc in
      laid_pairs m (omega arith) i t hi ht ∙ ap (λ (x : PathExpr). look (evaluate r x) i t) y

  pub laid_routed : m < length bases → 16 * m ≤ length masks → 28 * (n * w) ≤ length xs → Routed xs bases masks n w m
  laid_routed hb hm hx = record {
    few = hb;
    narrow = narrow ground;
    wide = rows_hold ground;
    masks = hm;
    room = λ j h. end j (at j h);
    clean = λ j h. let g = at j h in stored_clean ground (step_numbered g.0) (stored j g.0 g.1 g.2);
  }
    where
      Lies : ℕ → Type 0
      Lies j = (k : ℕ) × IsStep k × Leg n w held bases j k

      at : (j : ℕ) → j ≤ m → Lies j
      at zero h = (get_or numbers 0 0, c.start, l.start)
      at (suc j) h = subst Lies (let e : j + 1 ≡ suc j = omega arith in e) (get_or numbers (2 * j + 1) 0, c.link j (omega arith), l.leg j (omega arith))

      end : (j : ℕ) → Lies j → get_or bases j 0 + n * w ≤ length xs
      end j g = omega (arith, g.2.3, before_end g.2.0 (n * w) g.2.1, hx)

-- ---- a path that was evaluated at the start is a route without a link
module _ {s : List ℕ} {n w : ℕ} (ground : Grounded s n w) {xs : List ℕ} (bases masks : List ℕ) (p : PathExpr) (y : Stored xs 0 n w (look (evaluate (register_in s) p))) where
  at_start : 0 < length bases → get_or (set bases 0 0) 0 0 ≡ 0
  at_start h = get_or-set_same bases 0 0 0 h

  pub single_routed : 0 < length bases → n * w ≤ length xs → Routed xs (set bases 0 0) masks n w 0
  single_routed h hx = record {
    few = omega (arith, length-set bases 0 0, h);
    narrow = narrow ground;
    wide = rows_hold ground;
    masks = omega arith;
    room = λ j l. let z : j ≡ 0 = omega arith in rw z (omega (arith, at_start h, hx));
    clean = λ j l. let z : j ≡ 0 = omega arith in rw (z, at_start h) (stored_clean ground p y);
  }

  pub single_leads : 0 < length bases → Leads (register_in s) xs (set bases 0 0) masks n w 0 p
  single_leads h i t hi ht = ap (λ (b : ℕ). pair_at xs b w i t) (at_start h) ∙ y.pair i t hi ht
