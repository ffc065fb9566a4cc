-- A relation some of whose rows are the closure's: one row more, and all.
-- Assumes nothing.
use mathlib.Core.Path.{◌≡◌, refl, sym, ap, ◌∙◌}
use mathlib.Core.Bool.{Bool, true, false, cond, ◌&&◌, ◌||◌, not, false≢true}
use mathlib.Core.List.{List}
use mathlib.Core.Logic.{⊎_elim}
use Prim.Native.Nat.{ℕ, ◌+◌, ◌*◌, ◌/◌, ◌≤◌, ◌<◌}
use native.Mathlib.Omega.{arith}
use lib.Dec.{eqb}
use lib.ListN.{length, replicate, length-replicate}
use borrow.Author.Tests.{eq-eqb, ne_eqb, eqb-true}
use Rattle.theory.specs.Lists.{some?, range}
use Rattle.theory.specs.TransitiveClosure.{look, closure?}
use Rattle.rows.specs.Row.{row_bit, Row, Put, mask_of, common, Least}
use Rattle.rows.proofs.Words.{kept_refl, kept_trans, le_or_lt}
use Rattle.rows.proofs.Rows.{eq_or_ne}
use Rattle.rows.proofs.Ranges.{some_no}
use Rattle.rows.proofs.Masks.{mask_at, mask_past}
use Rattle.relation.specs.Pairs.{pair_at, Made, Clean}
use Rattle.relation.proofs.Clean.{clean_past}
use Rattle.relation.proofs.Joining.{row_blank}
use Rattle.relation.proofs.Pair.{made_row}
use Rattle.transitive_closure.specs.Finishing.{closure_at, amount, PartlyClosed, Stage}
use Rattle.transitive_closure.proofs.Amounts.{amount_less}
use Rattle.transitive_closure.proofs.Paths.{closure_in, closure_edge, closure_trans, closure_ind}
use Rattle.transitive_closure.proofs.Rows.{or_either, and_yes, off, both_ways, lost, gone_off}

-- a row that is empty is empty in the closure
empty_row : {xs live pending finished : List ℕ} {b n w : ℕ} (k t : ℕ) → PartlyClosed xs live pending finished b n w → row_bit live 0 k ≡ false → closure_at xs b n w k t ≡ true → ⊥
empty_row {xs} {b = b} {n} {w} k t h d e =
    closure_ind n (pair_at xs b w) k (λ (j : ℕ). ⊥) (λ j hk hj q. false≢true (sym (h.empty k j hk (omega (arith, h.bits)) d) ∙ q)) (λ j i hj hi q p. q) t e

-- ---- the rows that are not empty are live and pending, and none is finished
pub ready_start : {xs os live os' pending : List ℕ} {b n w : ℕ} (m : ℕ) → b + n * w ≤ length xs → n ≤ 64 * w → w ≤ 16 → w ≤ m → w ≤ length live → w ≤ length pending → Clean xs b n w
    → Row 0 w (mask_of (λ t. some? (pair_at xs b w t) (range n)) n) os live → Row 0 w (row_bit live 0) os' pending → PartlyClosed xs live pending (replicate m 0) b n w
ready_start {xs} {live = live} {pending = pending} {b} {n} {w} m room bits words hm l o clean p q =
    record {
      room = room;
      bits = bits;
      words = words;
      live_room = l;
      pending_room = o;
      finished_room = omega (arith, length-replicate {A = ℕ} m 0);
      clean = clean;
      inner = λ t h e. ⊎_elim (λ (k : n ≤ t). absurd (false≢true (sym (mask_past test n t k) ∙ sym (p.bit t h) ∙ sym (q.bit t h) ∙ e))) (λ (k : t < n). k) (le_or_lt n t);
      empty = empty;
      settled = λ k h e. absurd (false≢true (sym (row_blank m k (omega arith)) ∙ e));
      closed = λ k t h d e. absurd (closure_ind n (pair_at xs b w) k (λ (j : ℕ). ⊥)
          (λ j hk hj y. false≢true (sym (empty k j hk (omega arith) (sym (q.bit k (omega arith)) ∙ d)) ∙ y)) (λ j i hj hi y z. y) t e);
    }
  where
    test : ℕ → Bool
    test t = some? (pair_at xs b w t) (range n)

    empty : (k t : ℕ) → k < n → t / 64 < w → row_bit live 0 k ≡ false → pair_at xs b w k t ≡ false
    empty k t h l d =
        ⊎_elim
        (λ (o : n ≤ t). clean_past xs (b + k * w) n w t (clean k h) l o)
        (λ (o : t < n). some_no (pair_at xs b w k) n t (sym (mask_at test n k h) ∙ sym (p.bit k (omega arith)) ∙ d) o)
        (le_or_lt n t)

-- ---- row s is finished
module _ {xs live pending finished : List ℕ} {b n w s : ℕ} (h : PartlyClosed xs live pending finished b n w) (hs : s < n) {ys pending' finished' : List ℕ}
    (r : Row (b + s * w) w (closure_at xs b n w s) xs ys) (p : Put 0 s (λ j. row_bit pending 0 j && not (eqb j s)) pending pending')
    (q : Put 0 s (λ j. row_bit finished 0 j || eqb j s) finished finished') where
  abbrev f : ℕ → ℕ → Bool
  f = pair_at xs b w

  abbrev g : ℕ → ℕ → Bool
  g = pair_at ys b w

  made : Made b n w (λ i j. cond (eqb i s) (closure_at xs b n w s j) (f i j)) xs ys
  made = made_row r hs

  elsewhere : (i t : ℕ) → i < n → t / 64 < w → (i ≡ s → ⊥) → g i t ≡ f i t
  elsewhere i t hi l m = made.pair i t hi l ∙ ap (λ (c : Bool). cond c (closure_at xs b n w s t) (f i t)) (ne_eqb i s m)

  up : (i t : ℕ) → i < n → t < n → f i t ≡ true → g i t ≡ true
  up i t hi ht e =
      ⊎_elim
      (λ (m : i ≡ s). rw m (r.bit t (omega (arith, h.bits)) ∙ closure_edge n f hs ht (rw m at e)))
      (λ (m : i ≡ s → ⊥). elsewhere i t hi (omega (arith, h.bits)) m ∙ e)
      (eq_or_ne i s)

  down : (i t : ℕ) → i < n → t / 64 < w → g i t ≡ true → closure_at xs b n w i t ≡ true
  down i t hi l e =
      ⊎_elim
      (λ (m : i ≡ s). rw m (sym (r.bit t l) ∙ (rw m at e)))
      (λ (m : i ≡ s → ⊥). let y = sym (elsewhere i t hi l m) ∙ e in closure_edge n f hi (h.clean i hi t l y) y)
      (eq_or_ne i s)

  same : (a c : ℕ) → closure_at ys b n w a c ≡ closure_at xs b n w a c
  same a c =
      both_ways (closure_at ys b n w a c) (closure_at xs b n w a c)
      (closure_ind n g a (λ (t : ℕ). closure_at xs b n w a t ≡ true) (λ t ha ht y. down a t ha (omega (arith, h.bits)) y)
      (λ k t hk ht y e. closure_trans n f a k t y (down k t hk (omega (arith, h.bits)) e)) c)
      (closure_ind n f a (λ (t : ℕ). closure_at ys b n w a t ≡ true) (λ t ha ht y. closure_edge n g ha ht (up a t ha ht y))
      (λ k t hk ht y e. closure_trans n g a k t y (closure_edge n g hk ht (up k t hk ht e))) c)

  hw : s / 64 < w
  hw = omega (arith, h.bits)

  pending_was : (k : ℕ) → k / 64 < w → row_bit pending' 0 k ≡ true → row_bit pending 0 k ≡ true
  pending_was k l e = (and_yes (row_bit pending 0 k) (not (eqb k s)) (sym ((p w hw).bit k l) ∙ e)).0

  closed : (k t : ℕ) → k < n → row_bit pending' 0 k ≡ false → closure_at ys b n w k t ≡ true → g k t ≡ true
  closed k t hk d e =
      let y = sym (same k t) ∙ e in
      let ht : t < n = (closure_in n f k t y).1 in
      ⊎_elim
      (λ (m : row_bit pending 0 k ≡ false). up k t hk ht (h.closed k t hk m y))
      (λ (m : eqb k s ≡ true). rw (eqb-true k s m) (r.bit t (omega (arith, h.bits)) ∙ (rw (eqb-true k s m) at y)))
      (lost (row_bit pending 0 k) (eqb k s) (sym ((p w hw).bit k (omega (arith, h.bits))) ∙ d))

  pub stage_has : row_bit pending' 0 s ≡ false
  stage_has = (p w hw).bit s hw ∙ gone_off (row_bit pending 0 s) (eqb s s) (eq-eqb s s refl)

  settled : (k : ℕ) → k < n → row_bit finished' 0 k ≡ true → row_bit pending' 0 k ≡ false
  settled k hk e =
      ⊎_elim
      (λ (m : row_bit finished 0 k ≡ true). off (row_bit pending' 0 k) (λ y. false≢true (sym (h.settled k hk m) ∙ pending_was k (omega (arith, h.bits)) y)))
      (λ (m : eqb k s ≡ true). rw (eqb-true k s m) stage_has)
      (or_either (row_bit finished 0 k) (eqb k s) (sym ((q w hw).bit k (omega (arith, h.bits))) ∙ e))

  pub stage_row : Stage b n w live xs pending finished ys pending' finished'
  stage_row =
      record {
        kept = made.kept;
        pending_len = (p w hw).kept.len;
        finished_len = (q w hw).kept.len;
        same = same;
        fewer = pending_was;
        ready = record {
          room = omega (arith, h.room, made.kept.len);
          bits = h.bits;
          words = h.words;
          live_room = h.live_room;
          pending_room = omega (arith, h.pending_room, (p w hw).kept.len);
          finished_room = omega (arith, h.finished_room, (q w hw).kept.len);
          clean = λ i hi t l e. (closure_in n f i t (down i t hi l e)).1;
          inner = λ k l e. h.inner k l (pending_was k l e);
          empty = λ k t hk l d. off (g k t) (λ e. empty_row k t h d (down k t hk l e));
          settled = settled;
          closed = closed;
        };
      }

-- ---- one stage after another
pub stage_none : {xs live pending finished : List ℕ} {b n w : ℕ} → PartlyClosed xs live pending finished b n w → Stage b n w live xs pending finished xs pending finished
stage_none {xs} {b = b} {n} {w} h = record { kept = kept_refl b (b + n * w) xs; pending_len = refl; finished_len = refl; same = λ s t. refl; fewer = λ k l e. e; ready = h }

pub stage_then : {b n w : ℕ} {live xs os fs ys os' fs' zs os'' fs'' : List ℕ} → Stage b n w live xs os fs ys os' fs' → Stage b n w live ys os' fs' zs os'' fs'' → Stage b n w live xs os fs zs os'' fs''
stage_then p q =
    record {
      kept = kept_trans p.kept q.kept (omega arith) (omega arith) (omega arith) (omega arith);
      pending_len = q.pending_len ∙ p.pending_len;
      finished_len = q.finished_len ∙ p.finished_len;
      same = λ s t. q.same s t ∙ p.same s t;
      fewer = λ k l e. p.fewer k l (q.fewer k l e);
      ready = q.ready;
    }

-- fewer rows are pending
pub stage_less : {b n w : ℕ} {live xs os fs ys os' fs' : List ℕ} (s : ℕ) → Stage b n w live xs os fs ys os' fs' → s < 64 * w → row_bit os 0 s ≡ true → row_bit os' 0 s ≡ false
    → amount (row_bit os' 0) (64 * w) < amount (row_bit os 0) (64 * w)
stage_less {w = w} {os = os} {os' = os'} s p l on out = amount_less (row_bit os 0) (row_bit os' 0) (64 * w) s (λ t m. p.fewer t (omega arith)) l on out

-- no row is pending
pub stage_all : {b n w : ℕ} {live xs os fs ys os' fs' : List ℕ} → Stage b n w live xs os fs ys os' fs' → ((s : ℕ) → s < 64 * w → row_bit os' 0 s ≡ false)
    → Made b n w (look (closure? n (pair_at xs b w))) xs ys
stage_all {b} {n} {w} {live} {xs} {ys = ys} p z =
    record {
      kept = p.kept;
      pair = λ s t hs l. both_ways (pair_at ys b w s t) (closure_at xs b n w s t)
          (λ e. sym (p.same s t) ∙ closure_edge n (pair_at ys b w) hs (p.ready.clean s hs t l e) e)
          (λ e. p.ready.closed s t hs (z s (omega (arith, p.ready.bits))) (p.same s t ∙ e));
    }

-- the first row that is pending, or none
module _ (os : List ℕ) (w : ℕ) {k : ℕ} (p : Least (common os 0 os os) (64 * w) k) where
  pub pending_first : k < 64 * w → row_bit os 0 k ≡ true
  pending_first l = (and_yes (row_bit os 0 k) (row_bit os 0 k && row_bit os 0 k) (p.here l)).0

  pub pending_none : 64 * w ≤ k → (s : ℕ) → s < 64 * w → row_bit os 0 s ≡ false
  pending_none l s h = off (row_bit os 0 s) (λ e. false≢true (sym (p.below s (omega arith)) ∙ rw e))
