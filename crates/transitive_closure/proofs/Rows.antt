-- One row that takes in the rows of its records until it is the closure's.
-- Assumes nothing.
use mathlib.Core.Path.{◌≡◌, refl, sym, ap, ◌∙◌}
use mathlib.Core.Bool.{Bool, true, false, ◌&&◌, ◌||◌, not, and-true, false≢true}
use mathlib.Core.List.{List}
use mathlib.Core.Logic.{◌⊎◌, inl, inr, ⊎_elim}
use Prim.Native.Nat.{ℕ, zero, suc, ◌+◌, ◌*◌, ◌/◌, ◌%◌, ◌^◌, ◌≤◌, ◌<◌}
use native.Mathlib.Nat.{zero-add}
use native.Mathlib.Omega.{arith}
use lib.Bits.{bit_and}
use lib.Dec.{eqb}
use lib.ListN.{length, get_or, set, replicate}
use lib.Seq.{get_or-set_same, get_or-set_other}
use borrow.Author.Tests.{eq-eqb, ne_eqb, eqb-true}
use Rattle.bits.specs.Bit.{bit_of, without}
use Rattle.bits.proofs.Bits.{bit_of_and, bit_without, bit_high}
use Rattle.theory.specs.Lists.{some?, range}
use Rattle.theory.proofs.Tests.{of_true, to_true, bool_eq}
use Rattle.rows.specs.Row.{row_bit, Row, Put, common, Least}
use Rattle.rows.proofs.Words.{kept_refl, kept_trans, kept_set, le_or_lt}
use Rattle.rows.proofs.Rows.{eq_or_ne, row_is, row_then}
use Rattle.rows.proofs.Ranges.{some_suc, some_one}
use Rattle.relation.specs.Pairs.{pair_at, taken}
use Rattle.relation.proofs.Joining.{row_blank}
use Rattle.relation.proofs.Making.{row_le}
use Rattle.transitive_closure.specs.Finishing.{closure_at, amount, PartlyClosed, Took, in_word, Growing, Grown, Stepped}
use Rattle.transitive_closure.proofs.Amounts.{amount_fewer, amount_less}
use Rattle.transitive_closure.proofs.Paths.{closure_in, closure_edge, closure_trans, closure_ind}

-- ---- tests that are true
pub or_first : (a b : Bool) → a ≡ true → a || b ≡ true
or_first true b e = refl
or_first false b e = absurd (false≢true e)

pub or_second : (a b : Bool) → b ≡ true → a || b ≡ true
or_second true b e = refl
or_second false b e = e

pub or_either : (a b : Bool) → a || b ≡ true → (a ≡ true) ⊎ (b ≡ true)
or_either true b e = inl refl
or_either false b e = inr e

pub and_yes : (a b : Bool) → a && b ≡ true → (a ≡ true) × (b ≡ true)
and_yes true b e = (refl, e)
and_yes false b e = absurd (false≢true e)

pub off : (b : Bool) → (b ≡ true → ⊥) → b ≡ false
off true f = absurd (f refl)
off false f = refl

pub both_ways : (a b : Bool) → (a ≡ true → b ≡ true) → (b ≡ true → a ≡ true) → a ≡ b
both_ways a b f g = bool_eq a b (λ t. of_true b (f (to_true a t))) (λ t. of_true a (g (to_true b t)))

-- a bit that is lost: it was not there, or it is one of those that go
pub lost : (a b : Bool) → a && not b ≡ false → (a ≡ false) ⊎ (b ≡ true)
lost true true e = inr refl
lost true false e = absurd (false≢true (sym e))
lost false b e = inl refl

pub gone_off : (a b : Bool) → b ≡ true → a && not b ≡ false
gone_off true b e = ap not e
gone_off false b e = refl

without_both : (a x y : Bool) → (a && not x) && not y ≡ a && not (x || y)
without_both true true y = refl
without_both true false y = refl
without_both false x y = refl

some_has : (f : ℕ → Bool) (n : ℕ) → some? f (range n) ≡ true → (z : ℕ) × (z < n) × (f z ≡ true)
some_has f zero e = absurd (false≢true e)
some_has f (suc n) e =
    ⊎_elim (λ m. let r = some_has f n m in (r.0, omega (arith, r.1), r.2)) (λ m. (n, omega arith, m)) (or_either (some? f (range n)) (f n) (sym (some_suc f n) ∙ e))

-- ---- a step of the code
-- one row, and what it has
pub took_finished : {w : ℕ} {row left row' left' left'' : List ℕ} (xs : List ℕ) (d k : ℕ) → Row 0 w (λ t. row_bit row 0 t || row_bit xs d t) row row'
    → Row 0 w (λ t. row_bit left 0 t && not (row_bit xs d t)) left left' → Put 0 k (λ t. row_bit left' 0 t && not (eqb t k)) left' left'' → k / 64 < w
    → Took w (row_bit xs d) (λ t. row_bit xs d t || eqb t k) row left row' left''
took_finished {w} {left = left} xs d k p q r h =
    record { row = p; left = row_is (row_then q (r w h)) (λ t l. rw (q.bit t l) (without_both (row_bit left 0 t) (row_bit xs d t) (eqb t k))) }

-- the rows of a word
pub took_word : {w m : ℕ} {all row left row' left' : List ℕ} (xs : List ℕ) (b i v : ℕ) → Row 0 w (taken (replicate m 0) xs b w (64 * i) v 64) (replicate m 0) all
    → Row 0 w (λ t. row_bit row 0 t || row_bit all 0 t) row row' → Row 0 w (λ t. row_bit left 0 t && not (row_bit all 0 t)) left left' → w ≤ m → i < w → i < length left'
    → Took w (in_word xs b w i v) (λ t. in_word xs b w i v t || (eqb (t / 64) i && bit_of v (t % 64))) row left row' (set left' i (without (get_or left' i 0) v))
unfolding taken row_bit
took_word {w} {m} {all} {row} {left} {left' = left'} xs b i v z p q hm hi l =
    record {
      row = row_is p (λ t o. ap (λ (y : Bool). row_bit row 0 t || y) (in_all t o));
      left = record {
        kept = kept_trans q.kept (kept_set left' i (without (get_or left' i 0) v)) (omega arith) (omega arith) (omega arith) (omega arith);
        bit = λ t o. lost_bit t o ∙ rw (q.bit t o, in_all t o) (without_both (row_bit left 0 t) (in_word xs b w i v t) (eqb (t / 64) i && bit_of v (t % 64)));
      };
    }
  where
    in_all : (t : ℕ) → t / 64 < w → row_bit all 0 t ≡ in_word xs b w i v t
    in_all t o = z.bit t o ∙ ap (λ (y : Bool). y || in_word xs b w i v t) (row_blank m t (omega arith))

    lost_bit : (t : ℕ) → t / 64 < w → row_bit (set left' i (without (get_or left' i 0) v)) 0 t ≡ row_bit left' 0 t && not (eqb (t / 64) i && bit_of v (t % 64))
    lost_bit t o =
        ⊎_elim
        (λ (e : t / 64 ≡ i). rw (eq-eqb (t / 64) i e, zero-add (t / 64), e, get_or-set_same left' i (without (get_or left' i 0) v) 0 l) (bit_without (get_or left' i 0) v (t % 64)))
        (λ (e : t / 64 ≡ i → ⊥). rw (ne_eqb (t / 64) i e, get_or-set_other left' i (0 + t / 64) (without (get_or left' i 0) v) 0 (λ y. e (sym (zero-add (t / 64)) ∙ y)))
        (sym (and-true (bit_of (get_or left' (0 + t / 64) 0) (t % 64)))))
        (eq_or_ne (t / 64) i)

-- a bit of the word of what the row has, is left and is finished
pub word_bits : (row left finished : List ℕ) (i j : ℕ) → get_or row i 0 < 2 ^ 64 → bit_of (bit_and (get_or row i 0) (bit_and (get_or left i 0) (get_or finished i 0))) j ≡ true
    → (j < 64) × (row_bit row 0 (64 * i + j) ≡ true) × (row_bit finished 0 (64 * i + j) ≡ true)
unfolding row_bit
word_bits row left finished i j l e =
    let x = get_or row i 0 in
    let y = get_or left i 0 in
    let z = get_or finished i 0 in
    let p = and_yes (bit_of x j) (bit_of (bit_and y z) j) (sym (bit_of_and x (bit_and y z) j) ∙ e) in
    let q = and_yes (bit_of y j) (bit_of z j) (sym (bit_of_and y z j) ∙ p.1) in
    let o : j < 64 = ⊎_elim (λ (o : 64 ≤ j). absurd (false≢true (sym (bit_high 64 x j l o) ∙ p.0))) (λ (o : j < 64). o) (le_or_lt 64 j) in
    let d : (64 * i + j) / 64 ≡ i = omega arith in
    let m : (64 * i + j) % 64 ≡ j = omega arith in
    (o, rw (d, m, zero-add i) p.0, rw (d, m, zero-add i) q.1)

-- ---- what the row took in, and what is left
module _ {w : ℕ} {new gone : ℕ → Bool} {row left row' left' : List ℕ} (p : Took w new gone row left row' left') where
  pub took_old : (t : ℕ) → t / 64 < w → row_bit row 0 t ≡ true → row_bit row' 0 t ≡ true
  took_old t l e = p.row.bit t l ∙ or_first (row_bit row 0 t) (new t) e

  took_new : (t : ℕ) → t / 64 < w → new t ≡ true → row_bit row' 0 t ≡ true
  took_new t l e = p.row.bit t l ∙ or_second (row_bit row 0 t) (new t) e

  fewer_left : (t : ℕ) → t < 64 * w → row_bit left' 0 t ≡ true → row_bit left 0 t ≡ true
  fewer_left t l e = (and_yes (row_bit left 0 t) (not (gone t)) (sym (p.left.bit t (omega arith)) ∙ e)).0

  pub took_fewer : amount (row_bit left' 0) (64 * w) ≤ amount (row_bit left 0) (64 * w)
  took_fewer = amount_fewer (row_bit left 0) (row_bit left' 0) (64 * w) fewer_left

  pub took_less : (k : ℕ) → k / 64 < w → row_bit left 0 k ≡ true → gone k ≡ true → amount (row_bit left' 0) (64 * w) < amount (row_bit left 0) (64 * w)
  took_less k l e g = amount_less (row_bit left 0) (row_bit left' 0) (64 * w) k fewer_left (omega arith) e (p.left.bit k l ∙ gone_off (row_bit left 0 k) (gone k) g)

  -- what is new lies in the closure's row, and has the successors of each record that goes
  pub grown : {xs : List ℕ} {b n s : ℕ} → n ≤ 64 * w → Growing xs b n w s row left → ((t : ℕ) → t / 64 < w → new t ≡ true → closure_at xs b n w s t ≡ true)
      → ((k t : ℕ) → k < n → t / 64 < w → gone k ≡ true → pair_at xs b w k t ≡ true → new t ≡ true) → Grown xs b n w s row left row' left'
  grown {xs} {b} {n} {s} hn g sound covered =
      record {
        growing = record {
          start = λ t l e. took_old t l (g.start t l e);
          sound = λ t l e. ⊎_elim (g.sound t l) (sound t l) (or_either (row_bit row 0 t) (new t) (sym (p.row.bit t l) ∙ e));
          covered = λ k t hk l e q. ⊎_elim
              (λ (m : row_bit left 0 k ≡ false). took_old t l (g.covered k t hk l m q))
              (λ (m : gone k ≡ true). took_new t l (covered k t hk l m q))
              (lost (row_bit left 0 k) (gone k) (sym (p.left.bit k (omega arith)) ∙ e));
        };
        kept = p.row.kept;
        len = p.left.kept.len;
        fewer = took_fewer;
      }

pub grown_none : {xs : List ℕ} {b n w s : ℕ} {row left : List ℕ} → Growing xs b n w s row left → Grown xs b n w s row left row left
grown_none {w = w} {row = row} g = record { growing = g; kept = kept_refl 0 (0 + w) row; len = refl; fewer = omega arith }

pub grown_then : {xs : List ℕ} {b n w s : ℕ} {row left row' left' row'' left'' : List ℕ} → Grown xs b n w s row left row' left' → Grown xs b n w s row' left' row'' left''
    → Grown xs b n w s row left row'' left''
grown_then p q =
    record {
      growing = q.growing;
      kept = kept_trans p.kept q.kept (omega arith) (omega arith) (omega arith) (omega arith);
      len = q.len ∙ p.len;
      fewer = omega (arith, p.fewer, q.fewer);
    }

-- ---- the rows that may be taken in
module _ {xs live pending finished : List ℕ} {b n w : ℕ} (h : PartlyClosed xs live pending finished b n w) where
  abbrev f : ℕ → ℕ → Bool
  f = pair_at xs b w

  abbrev cl : ℕ → ℕ → Bool
  cl s t = closure_at xs b n w s t

  edge : (a c : ℕ) → a < n → c / 64 < w → f a c ≡ true → cl a c ≡ true
  edge a c ha l e = closure_edge n f ha (h.clean a ha c l e) e

  -- at first: row s, and the live rows
  pub growing_none : {row₀ left₀ row left : List ℕ} {s : ℕ} → s < n → Row 0 w (row_bit xs (b + s * w)) row₀ row → Row 0 w (row_bit live 0) left₀ left → Growing xs b n w s row left
  growing_none {s = s} hs p z =
      record {
        start = λ t l e. p.bit t l ∙ e;
        sound = λ t l e. edge s t hs l (sym (p.bit t l) ∙ e);
        covered = λ k t hk l d e. absurd (false≢true (sym (h.empty k t hk l (sym (z.bit k (omega (arith, h.bits))) ∙ d)) ∙ e));
      }

  pub growing_in : {row left : List ℕ} {s : ℕ} (k : ℕ) → Growing xs b n w s row left → k / 64 < w → row_bit row 0 k ≡ true → k < n
  growing_in {s = s} k g l e = (closure_in n f s k (g.sound k l e)).1

  module _ {row left : List ℕ} {s : ℕ} (k : ℕ) (g : Growing xs b n w s row left) (hw : k / 64 < w) (e : row_bit row 0 k ≡ true) where
    hk : k < n
    hk = growing_in k g hw e

    -- what row k has lies in the closure's row
    reached : (t : ℕ) → t / 64 < w → f k t ≡ true → cl s t ≡ true
    reached t l q = closure_trans n f s k t (g.sound k hw e) (edge k t hk l q)

    -- it takes in row k
    pub grown_pending : {row' left' : List ℕ} → Took w (row_bit xs (b + k * w)) (λ t. eqb t k) row left row' left' → Grown xs b n w s row left row' left'
    grown_pending p = grown p h.bits g reached (λ j t hj l m q. rw (eqb-true j k m) at q)

    -- row k is finished
    pub grown_finished : {row' left' : List ℕ} → Took w (row_bit xs (b + k * w)) (λ t. row_bit xs (b + k * w) t || eqb t k) row left row' left' → row_bit finished 0 k ≡ true
        → Grown xs b n w s row left row' left'
    grown_finished p d =
        grown p h.bits g reached
        (λ j t hj l m q. ⊎_elim (λ (o : f k j ≡ true). through j t hj l o q) (λ (o : eqb j k ≡ true). rw (eqb-true j k o) at q) (or_either (f k j) (eqb j k) m))
      where
        through : (j t : ℕ) → j < n → t / 64 < w → f k j ≡ true → f j t ≡ true → f k t ≡ true
        through j t hj l o q = h.closed k t hk (h.settled k hk d) (closure_trans n f k j t (closure_edge n f hk hj o) (edge j t hj l q))

  -- so is a bit j of word i of it
  pub in_range : {row left : List ℕ} {s : ℕ} (i j : ℕ) → Growing xs b n w s row left → i < w → (j < 64) × (row_bit row 0 (64 * i + j) ≡ true) × (row_bit finished 0 (64 * i + j) ≡ true)
      → 64 * i + j < n
  in_range i j g l y = let o = y.0 in growing_in (64 * i + j) g (omega arith) y.1

  -- ---- a row that the row and two masks have
  pub ready_row : (k : ℕ) → k < n → b + k * w + w ≤ length xs
  ready_row k l = omega (arith, row_le w l, h.room)

  module _ {row left : List ℕ} {s : ℕ} (qs : List ℕ) (k : ℕ) (g : Growing xs b n w s row left) (p : Least (common row 0 left qs) (64 * w) k) (l : k < 64 * w) where
    both : (row_bit row 0 k ≡ true) × (row_bit left 0 k && row_bit qs 0 k ≡ true)
    both = and_yes (row_bit row 0 k) (row_bit left 0 k && row_bit qs 0 k) (p.here l)

    masks : (row_bit left 0 k ≡ true) × (row_bit qs 0 k ≡ true)
    masks = and_yes (row_bit left 0 k) (row_bit qs 0 k) both.1

    pub pick_word : k / 64 < w
    pick_word = omega arith

    pub pick_room : b + k * w + w ≤ length xs
    pick_room = ready_row k (growing_in k g pick_word both.0)

    pub stepped_pending : {row' left' : List ℕ} → Took w (row_bit xs (b + k * w)) (λ t. eqb t k) row left row' left' → Stepped xs b n w s row left row' left' true
    stepped_pending p =
        record { grown = grown_pending k g pick_word both.0 p; less = λ e. took_less p k pick_word masks.0 (eq-eqb k k refl); over = λ e. absurd (false≢true (sym e)) }

    -- a finished one, and then others
    pub picked_grown : {row' left' : List ℕ} → Took w (row_bit xs (b + k * w)) (λ t. row_bit xs (b + k * w) t || eqb t k) row left row' left' → qs ≡ finished → Grown xs b n w s row left row' left'
    picked_grown p e = grown_finished k g pick_word both.0 p (rw e at masks.1)

    pub stepped_finished : {row' left' row'' left'' : List ℕ} → Took w (row_bit xs (b + k * w)) (λ t. row_bit xs (b + k * w) t || eqb t k) row left row' left' → qs ≡ finished
        → Grown xs b n w s row' left' row'' left'' → Stepped xs b n w s row left row'' left'' true
    stepped_finished p e r =
        let m = took_less p k pick_word masks.0 (or_second (row_bit xs (b + k * w) k) (eqb k k) (eq-eqb k k refl)) in
        record { grown = grown_then (picked_grown p e) r; less = λ z. omega (arith, m, r.fewer); over = λ z. absurd (false≢true (sym z)) }

  -- ---- the finished rows of a word
  module _ {row left : List ℕ} {s : ℕ} (i v : ℕ) (g : Growing xs b n w s row left)
      (bits : (j : ℕ) → bit_of v j ≡ true → (64 * i + j < n) × (row_bit row 0 (64 * i + j) ≡ true) × (row_bit finished 0 (64 * i + j) ≡ true)) where
    one_of : (t : ℕ) → in_word xs b w i v t ≡ true → (j : ℕ) × (j < 64) × (bit_of v j ≡ true) × (f (64 * i + j) t ≡ true)
    one_of t e =
        let r = some_has (λ j. bit_of v j && f (64 * i + j) t) 64 e in
        let y = and_yes (bit_of v r.0) (f (64 * i + r.0) t) r.2 in
        (r.0, r.1, y.0, y.1)

    has_one : (j t : ℕ) → j < 64 → bit_of v j ≡ true → f (64 * i + j) t ≡ true → in_word xs b w i v t ≡ true
    has_one j t l a e = some_one (λ j. bit_of v j && f (64 * i + j) t) 64 j l (rw (a, e))

    all_reached : (t : ℕ) → t / 64 < w → in_word xs b w i v t ≡ true → cl s t ≡ true
    all_reached t l e =
        let r = one_of t e in
        let y = bits r.0 r.2 in
        reached (64 * i + r.0) g (omega (arith, y.0, h.bits)) y.1 t l r.3

    all_covered : (k t : ℕ) → k < n → t / 64 < w → in_word xs b w i v k || (eqb (k / 64) i && bit_of v (k % 64)) ≡ true → f k t ≡ true → in_word xs b w i v t ≡ true
    all_covered k t hk l m q =
        ⊎_elim
        (λ (o : in_word xs b w i v k ≡ true). through (one_of k o))
        (λ (o : eqb (k / 64) i && bit_of v (k % 64) ≡ true). let r = and_yes (eqb (k / 64) i) (bit_of v (k % 64)) o in itself (eqb-true (k / 64) i r.0) r.1)
        (or_either (in_word xs b w i v k) (eqb (k / 64) i && bit_of v (k % 64)) m)
      where
        through : (j : ℕ) × (j < 64) × (bit_of v j ≡ true) × (f (64 * i + j) k ≡ true) → in_word xs b w i v t ≡ true
        through r =
            let z = 64 * i + r.0 in
            let y = bits r.0 r.2 in
            has_one r.0 t r.1 r.2 (h.closed z t y.0 (h.settled z y.0 y.2) (closure_trans n f z k t (closure_edge n f y.0 hk r.3) (edge k t hk l q)))

        itself : k / 64 ≡ i → bit_of v (k % 64) ≡ true → in_word xs b w i v t ≡ true
        itself z a =
            let y : k ≡ 64 * i + k % 64 = omega arith in
            has_one (k % 64) t (omega arith) a (rw y at q)

    pub grown_word : {row' left' : List ℕ} → Took w (in_word xs b w i v) (λ t. in_word xs b w i v t || (eqb (t / 64) i && bit_of v (t % 64))) row left row' left' → Grown xs b n w s row left row' left'
    grown_word p = grown p h.bits g all_reached all_covered

  -- nothing that the row has is left
  pub growing_all : {row left : List ℕ} {s : ℕ} → Growing xs b n w s row left → ((t : ℕ) → t / 64 < w → row_bit row 0 t ≡ true → row_bit left 0 t ≡ false)
      → (t : ℕ) → t / 64 < w → row_bit row 0 t ≡ cl s t
  growing_all {row} {left} {s} g z t l =
      both_ways (row_bit row 0 t) (cl s t) (g.sound t l)
      (closure_ind n f s (λ (k : ℕ). row_bit row 0 k ≡ true) (λ j u hj q. g.start j (omega (arith, h.bits)) q)
      (λ k j hk hj q e. g.covered k j hk (omega (arith, h.bits)) (z k (omega (arith, h.bits)) q) e) t)
