-- The table of the records of each kind: how it is made, and the records of a set of kinds.
-- Assumes nothing.
use mathlib.Core.Path.{◌≡◌, refl, sym, ap, subst, ◌∙◌}
use mathlib.Core.Bool.{Bool, true, false, cond, ◌&&◌, ◌||◌, and-false, or-false, false≢true}
use mathlib.Core.List.{List}
use mathlib.Core.Logic.{⊎_elim}
use Prim.Native.Nat.{ℕ, ◌+◌, ◌*◌, ◌/◌, ◌^◌, ◌≤◌, ◌<◌}
use native.Mathlib.Nat.{zero-add, eq-or-lt_of_le}
use native.Mathlib.Omega.{arith}
use lib.Dec.{ltb, eqb}
use lib.ListN.{length}
use borrow.Author.Tests.{lt-ltb, le-ltb, eq-eqb, ne_eqb}
use Rattle.bits.specs.Bit.{bit_of}
use Rattle.bits.proofs.Bits.{bit_high}
use Rattle.theory.specs.KindSet.{has}
use Rattle.theory.specs.Lists.{some?, range}
use Rattle.theory.specs.Register.{Register, kind}
use Rattle.register.specs.Form.{register_in}
use Rattle.rows.specs.Kept.{Wrote}
use Rattle.rows.specs.Row.{row_bit, Row, Put, mask_of}
use Rattle.rows.proofs.Words.{le_or_lt}
use Rattle.rows.proofs.Ranges.{some_same, some_none, some_one}
use Rattle.rows.proofs.Rows.{eq_or_ne, row_is, row_then, row_zero}
use Rattle.rows.proofs.Masks.{mask_at, mask_past}
use Rattle.relation.specs.Pairs.{pair_at, Made, taken}
use Rattle.relation.proofs.Making.{made_clear}
use Rattle.relation.proofs.Pair.{made_row}
use Rattle.evaluation.specs.Grounded.{Grounded}
use Rattle.evaluation.proofs.Grounds.{limits}
use Rattle.kind_rows.specs.Kinds.{KindRows, in_set, OfRecords}

-- no record yet
pub kinds_none : {w : ℕ} {xs ys : List ℕ} (r : Register) → Wrote 0 (64 * w) (λ j. 0) xs ys → 64 * w ≤ length ys → KindRows r 0 w ys
kinds_none {w} r p l = record { room = l; row = λ k t hk ht. (made_clear {n = 64} p).pair k t hk ht ∙ sym (ap (λ (b : Bool). b && eqb (kind r t) k) (le-ltb t 0 (omega arith))) }

-- record m is in the row of its kind
pub kinds_more : {r : Register} {m w : ℕ} {xs ys : List ℕ} (k : ℕ) → KindRows r m w xs → Put (k * w) m (λ j. row_bit xs (k * w) j || eqb j m) xs ys → k ≡ kind r m → k < 64 → m / 64 < w
    → KindRows r (m + 1) w ys
kinds_more {r} {m} {w} {xs} {ys} k p q e hk hm =
    record { room = omega (arith, p.room, at.kept.len); row = λ i t hi ht. made.pair i t hi ht ∙ ⊎_elim (λ (o : i ≡ k). here i t o ht) (λ (o : i ≡ k → ⊥). there i t hi o ht) (eq_or_ne i k) }
  where
    at : Row (0 + k * w) w (λ j. row_bit xs (0 + k * w) j || eqb j m) xs ys
    at = rw (zero-add (k * w)) (q w hm)

    made : Made 0 64 w (λ i j. cond (eqb i k) (row_bit xs (0 + k * w) j || eqb j m) (pair_at xs 0 w i j)) xs ys
    made = made_row at hk

    here : (i t : ℕ) → i ≡ k → t / 64 < w → cond (eqb i k) (row_bit xs (0 + k * w) t || eqb t m) (pair_at xs 0 w i t) ≡ ltb t (m + 1) && eqb (kind r t) i
    here i t o ht =
        ap (λ (b : Bool). cond b (row_bit xs (0 + k * w) t || eqb t m) (pair_at xs 0 w i t)) (eq-eqb i k o) ∙ ap (λ (b : Bool). b || eqb t m) (p.row k t hk ht)
        ∙ ⊎_elim
        (λ (l : m ≤ t). ⊎_elim
        (λ (z : m ≡ t). rw (eq-eqb t m (sym z), lt-ltb t (m + 1) (omega arith), le-ltb t m l, eq-eqb (kind r t) i (ap (kind r) (sym z) ∙ sym e ∙ sym o)))
        (λ (z : m < t). rw (ne_eqb t m (λ y. omega arith), le-ltb t m l, le-ltb t (m + 1) (omega arith)))
        (eq-or-lt_of_le l))
        (λ (l : t < m). rw (ne_eqb t m (λ y. omega arith), lt-ltb t m l, lt-ltb t (m + 1) (omega arith), o) (or-false (eqb (kind r t) k)))
        (le_or_lt m t)

    there : (i t : ℕ) → i < 64 → (i ≡ k → ⊥) → t / 64 < w → cond (eqb i k) (row_bit xs (0 + k * w) t || eqb t m) (pair_at xs 0 w i t) ≡ ltb t (m + 1) && eqb (kind r t) i
    there i t hi o ht =
        ap (λ (b : Bool). cond b (row_bit xs (0 + k * w) t || eqb t m) (pair_at xs 0 w i t)) (ne_eqb i k o) ∙ p.row i t hi ht
        ∙ ⊎_elim
        (λ (l : m ≤ t). ⊎_elim
        (λ (z : m ≡ t). rw (le-ltb t m l, ne_eqb (kind r t) i (λ y. o (sym y ∙ ap (kind r) (sym z) ∙ sym e))) (sym (and-false (ltb t (m + 1)))))
        (λ (z : m < t). rw (le-ltb t m l, le-ltb t (m + 1) (omega arith)))
        (eq-or-lt_of_le l))
        (λ (l : t < m). rw (lt-ltb t m l, lt-ltb t (m + 1) (omega arith)))
        (le_or_lt m t)

pub kinds_all : {r : Register} {m n w : ℕ} {xs : List ℕ} → KindRows r m w xs → m ≡ n → KindRows r n w xs
kinds_all {r} {w = w} {xs} p e = subst (λ (k : ℕ). KindRows r k w xs) e p

-- ---- a set of kinds
-- a bit of the set is a kind
pub bit_kind : (set i : ℕ) → set < 2 ^ 64 → bit_of set i ≡ true → 0 + i < 64
bit_kind set i h e = ⊎_elim (λ (l : 64 ≤ i). absurd (false≢true (sym (bit_high 64 set i h l) ∙ e))) (λ (l : i < 64). omega arith) (le_or_lt 64 i)

pub set_taken : {w : ℕ} {ms ms' ms'' : List ℕ} (xs : List ℕ) (set : ℕ) → Wrote 0 w (λ j. 0) ms ms' → Row 0 w (taken ms' xs 0 w 0 set 64) ms' ms'' → Row 0 w (in_set xs w set) ms ms''
unfolding taken
set_taken {w} {ms' = ms'} xs set p q =
    row_is (row_then (row_zero p) q) (λ t h.
    ap (λ (b : Bool). b || some? (λ i. bit_of set i && pair_at xs 0 w (0 + i) t) (range 64)) ((row_zero p).bit t h)
    ∙ some_same (λ i. bit_of set i && pair_at xs 0 w (0 + i) t) (λ k. bit_of set k && pair_at xs 0 w k t) 64 (λ z l. ap (λ (k : ℕ). bit_of set z && pair_at xs 0 w k t) (zero-add z)))

-- no record of n or more
set_past : {r : Register} {n w : ℕ} {kinds : List ℕ} (set : ℕ) → KindRows r n w kinds → (t : ℕ) → n ≤ t → t / 64 < w → in_set kinds w set t ≡ false
set_past {r} {n} {w} {kinds} set p t l h =
    some_none (λ k. bit_of set k && pair_at kinds 0 w k t) 64
    (λ k hk. ap (λ (b : Bool). bit_of set k && b) (p.row k t hk h ∙ ap (λ (b : Bool). b && eqb (kind r t) k) (le-ltb t n l)) ∙ and-false (bit_of set k))

pub of_records : {r : Register} {n w : ℕ} {kinds : List ℕ} → KindRows r n w kinds → OfRecords n w kinds
of_records {n = n} p set t h e = ⊎_elim (λ (l : n ≤ t). absurd (false≢true (sym (set_past set p t l h) ∙ e))) (λ (l : t < n). l) (le_or_lt n t)

-- the records whose kind is in the set
pub set_has : {s : List ℕ} {n w : ℕ} {kinds : List ℕ} (ground : Grounded s n w) (set : ℕ) → KindRows (register_in s) n w kinds → (t : ℕ) → t / 64 < w
    → in_set kinds w set t ≡ mask_of (λ t. has set (kind (register_in s) t)) n t
unfolding has
set_has {s} {n} {w} {kinds} ground set p t h = ⊎_elim (λ (l : n ≤ t). past t l h) (λ (l : t < n). below t l h) (le_or_lt n t)
  where
    past : (t : ℕ) → n ≤ t → t / 64 < w → in_set kinds w set t ≡ mask_of (λ t. has set (kind (register_in s) t)) n t
    past t l h = set_past set p t l h ∙ sym (mask_past (λ t. has set (kind (register_in s) t)) n t l)

    at : (t k : ℕ) → t < n → k < 64 → t / 64 < w → pair_at kinds 0 w k t ≡ eqb (kind (register_in s) t) k
    at t k l hk h = p.row k t hk h ∙ ap (λ (b : Bool). b && eqb (kind (register_in s) t) k) (lt-ltb t n l)

    one : (t : ℕ) → t < n → t / 64 < w → (b : Bool) → bit_of set (kind (register_in s) t) ≡ b → in_set kinds w set t ≡ b
    one t l h true e =
        let x = (limits ground).kinds t in
        some_one (λ k. bit_of set k && pair_at kinds 0 w k t) 64 (kind (register_in s) t) x
        (rw (e, at t (kind (register_in s) t) l x h) (eq-eqb (kind (register_in s) t) (kind (register_in s) t) refl))
    one t l h false e =
        some_none (λ k. bit_of set k && pair_at kinds 0 w k t) 64 (λ k hk. ⊎_elim
        (λ (o : kind (register_in s) t ≡ k). ap (λ (b : Bool). b && pair_at kinds 0 w k t) (ap (bit_of set) (sym o) ∙ e))
        (λ (o : kind (register_in s) t ≡ k → ⊥). ap (λ (b : Bool). bit_of set k && b) (at t k l hk h ∙ ne_eqb (kind (register_in s) t) k o) ∙ and-false (bit_of set k))
        (eq_or_ne (kind (register_in s) t) k))

    below : (t : ℕ) → t < n → t / 64 < w → in_set kinds w set t ≡ mask_of (λ t. has set (kind (register_in s) t)) n t
    below t l h = one t l h (bit_of set (kind (register_in s) t)) refl ∙ sym (mask_at (λ t. has set (kind (register_in s) t)) n t l)
