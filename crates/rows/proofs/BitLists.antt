-- The bits of a word as a list, the lowest first: how it begins, and what is left of it.
-- Assumes nothing.
use mathlib.Core.Path.{◌≡◌, refl, sym, ap, ap₂, ◌∙◌}
use mathlib.Core.Bool.{Bool, true, false, ◌&&◌, not, and-true, and-false, true≢false, false≢true}
use mathlib.Core.List.{List, [], ◌∷◌}
use mathlib.Core.Logic.{⊎_elim}
use Prim.Native.Nat.{ℕ, zero, suc, ◌+◌, ◌-◌, ◌/◌, ◌%◌, ◌≤◌, ◌<◌}
use native.Mathlib.Nat.{eq-or-lt_of_le}
use native.Mathlib.Omega.{arith}
use lib.Bits.{bit_and}
use lib.Dec.{eqb, eqb-suc-zero, eqb-suc-suc}
use borrow.Author.Tests.{eq-eqb, ne_eqb}
use Rattle.theory.specs.Lists.{filter, tabulate}
use Rattle.bits.specs.Bit.{bit_of, Lowest}
use Rattle.bits.proofs.Bits.{bit_zero, bit_low_one, bit_low_zero, bit_suc, bit_of_and, digit_ind, digit}
use Rattle.rows.specs.BitList.{ones}

-- ---- a word less 1 has lost the lowest bit, and has all the others
low_one : (x : ℕ) → bit_of x 0 ≡ true → x % 2 ≡ 1
low_one x h = digit_ind (λ (d : ℕ). x % 2 ≡ d → x % 2 ≡ 1) (λ e. absurd (true≢false (sym h ∙ bit_low_zero x e))) (λ e. e) (x % 2) (digit x) refl

low_zero : (x : ℕ) → bit_of x 0 ≡ false → x % 2 ≡ 0
low_zero x h = digit_ind (λ (d : ℕ). x % 2 ≡ d → x % 2 ≡ 0) (λ e. e) (λ e. absurd (false≢true (sym h ∙ bit_low_one x e))) (x % 2) (digit x) refl

and_same : (a : Bool) → a && a ≡ a
and_same true = refl
and_same false = refl

pub without_lowest : (k y : ℕ) → bit_of y k ≡ true → ((i : ℕ) → i < k → bit_of y i ≡ false) → (j : ℕ) → bit_of (bit_and y (y - 1)) j ≡ bit_of y j && not (eqb j k)
without_lowest zero y h l zero =
    bit_of_and y (y - 1) 0 ∙ ap (λ (b : Bool). bit_of y 0 && b) (bit_low_zero (y - 1) (omega (arith, low_one y h)) ∙ ap not (sym (eq-eqb 0 0 refl)))
without_lowest zero y h l (suc j) =
    let e : (y - 1) / 2 ≡ y / 2 = omega (arith, low_one y h) in
    bit_of_and y (y - 1) (suc j)
    ∙ ap (λ (b : Bool). bit_of y (suc j) && b) (bit_suc (y - 1) j ∙ ap (λ (x : ℕ). bit_of x j) e ∙ sym (bit_suc y j))
    ∙ and_same (bit_of y (suc j))
    ∙ sym (ap (λ (b : Bool). bit_of y (suc j) && not b) (eqb-suc-zero j) ∙ and-true (bit_of y (suc j)))
without_lowest (suc k) y h l zero =
    let e = l 0 (omega arith) in
    bit_of_and y (y - 1) 0 ∙ ap (λ (b : Bool). b && bit_of (y - 1) 0) e ∙ sym (ap (λ (b : Bool). b && not (eqb 0 (suc k))) e)
without_lowest (suc k) y h l (suc j) =
    let e : (y - 1) / 2 ≡ y / 2 - 1 = omega (arith, low_zero y (l 0 (omega arith))) in
    bit_of_and y (y - 1) (suc j)
    ∙ ap₂ ◌&&◌ (bit_suc y j) (bit_suc (y - 1) j ∙ ap (λ (x : ℕ). bit_of x j) e)
    ∙ sym (bit_of_and (y / 2) (y / 2 - 1) j)
    ∙ without_lowest k (y / 2) (sym (bit_suc y k) ∙ h) (λ i m. sym (bit_suc y i) ∙ l (suc i) (omega arith)) j
    ∙ ap₂ (λ (a b : Bool). a && not b) (sym (bit_suc y j)) (sym (eqb-suc-suc j k))

-- ---- the numbers from p on, n of them, that pass a test
abbrev passing : (ℕ → Bool) → ℕ → ℕ → List ℕ
passing f p n = filter f (tabulate (λ k. k) p n)

passing_none : (f : ℕ → Bool) (n p : ℕ) → ((j : ℕ) → f j ≡ false) → passing f p n ≡ []
passing_none f zero p e = refl
passing_none f (suc n) p e = rw (e p) (passing_none f n (suc p) e)

passing_same : (f g : ℕ → Bool) (n p : ℕ) → ((j : ℕ) → p ≤ j → f j ≡ g j) → passing f p n ≡ passing g p n
passing_same f g zero p e = refl
passing_same f g (suc n) p e = rw (e p (omega arith), passing_same f g n (suc p) (λ j h. e j (omega arith)))

-- without the least
passing_least : (f g : ℕ → Bool) (k : ℕ) → f k ≡ true → ((j : ℕ) → j < k → f j ≡ false) → ((j : ℕ) → g j ≡ f j && not (eqb j k)) → (n p : ℕ) → p ≤ k → k < p + n
    → passing f p n ≡ k ∷ passing g p n
passing_least f g k h l e zero p a b = absurd (omega arith)
passing_least f g k h l e (suc n) p a b =
    ⊎_elim
    (λ (q : p ≡ k). here q)
    (λ (m : p < k). rw (l p m, gone p (l p m)) (passing_least f g k h l e n (suc p) (omega arith) (omega arith)))
    (eq-or-lt_of_le a)
  where
    gone : (j : ℕ) → f j ≡ false → g j ≡ false
    gone j q = e j ∙ ap (λ (b : Bool). b && not (eqb j k)) q

    later : (j : ℕ) → suc k ≤ j → f j ≡ g j
    later j m = sym (e j ∙ ap (λ (b : Bool). f j && not b) (ne_eqb j k (λ (q : j ≡ k). omega arith)) ∙ and-true (f j))

    here : p ≡ k → passing f p (suc n) ≡ k ∷ passing g p (suc n)
    here q =
        let s : g k ≡ false = e k ∙ ap (λ (b : Bool). f k && not b) (eq-eqb k k refl) ∙ and-false (f k) in
        rw (q, h, s) (ap (λ (xs : List ℕ). k ∷ xs) (passing_same f g n (suc k) later))

-- ---- of a word
pub ones_none : (v : ℕ) → v ≡ 0 → ones v ≡ []
unfolding ones
ones_none v e = passing_none (bit_of v) 64 0 (λ j. ap (λ (x : ℕ). bit_of x j) e ∙ bit_zero j)

pub ones_lowest : (v k : ℕ) → Lowest 64 v k → ones v ≡ k ∷ ones (bit_and v (v - 1))
unfolding ones
ones_lowest v k l = passing_least (bit_of v) (bit_of (bit_and v (v - 1))) k l.here l.below (without_lowest k v l.here l.below) 64 0 (omega arith) (omega (arith, l.small))

-- ---- a walk over them: those from p on are still to come
unfoldable pub ones_from : ℕ → ℕ → List ℕ
ones_from v p = passing (bit_of v) p (64 - p)

pub ones_start : (v : ℕ) → ones v ≡ ones_from v 0
unfolding ones ones_from
ones_start v = refl

-- k is the first of them
pub record Next (v p k : ℕ) : Type 0 where
  pub from : p ≤ k
  pub small : k < 64
  pub here : bit_of v k ≡ true
  pub below : (i : ℕ) → p ≤ i → i < k → bit_of v i ≡ false

-- the first number passes the test, or it does not and the others are all that is left
first_passes : (f : ℕ → Bool) (n p k : ℕ) (ys : List ℕ) → f p ≡ true → passing f p (suc n) ≡ k ∷ ys → (p ≡ k) × (passing f (suc p) n ≡ ys)
first_passes f n p k ys q e = let h : p ∷ passing f (suc p) n ≡ k ∷ ys = rw q at e in (cc, cc)

next_passing : (v m k : ℕ) (ys : List ℕ) (n p : ℕ) → n ≡ m - p → passing (bit_of v) p n ≡ k ∷ ys
    → (p ≤ k) × (k < m) × (bit_of v k ≡ true) × ((i : ℕ) → p ≤ i → i < k → bit_of v i ≡ false) × (ys ≡ passing (bit_of v) (k + 1) (m - (k + 1)))
next_passing v m k ys zero p s e = let z : ◌≡◌ {A = ℕ} 0 1 = cc in absurd (omega arith)
next_passing v m k ys (suc n) p s e = turn (bit_of v p) refl (λ h. next_passing v m k ys n (suc p) (omega arith) h)
  where
    Told : ℕ → Type 0
    Told p = (p ≤ k) × (k < m) × (bit_of v k ≡ true) × ((i : ℕ) → p ≤ i → i < k → bit_of v i ≡ false) × (ys ≡ passing (bit_of v) (k + 1) (m - (k + 1)))

    turn : (b : Bool) → bit_of v p ≡ b → (passing (bit_of v) (suc p) n ≡ k ∷ ys → Told (suc p)) → Told p
    turn true q later =
        let h = first_passes (bit_of v) n p k ys q e in
        let c = h.0 in
        (omega arith, omega arith, rw c at q, λ i a b. absurd (omega arith), sym h.1 ∙ ap₂ (λ (i j : ℕ). passing (bit_of v) i j) (omega arith) (omega arith))
    turn false q later =
        let t = later (rw q at e) in
        let c = t.0 in
        (omega arith, t.1, t.2, λ i a b. ⊎_elim (λ (r : p ≡ i). rw r at q) (λ (r : p < i). t.3 i (omega arith) b) (eq-or-lt_of_le a), t.4)

pub ones_next : (v p k : ℕ) (ys : List ℕ) → ones_from v p ≡ k ∷ ys → Next v p k × (ys ≡ ones_from v (k + 1))
unfolding ones_from
ones_next v p k ys e = let t = next_passing v 64 k ys (64 - p) p refl e in (record { from = t.0; small = t.1; here = t.2; below = t.3 }, t.4)

-- none is left
none_passing : (f : ℕ → Bool) (m i : ℕ) → i < m → (n p : ℕ) → n ≡ m - p → passing f p n ≡ [] → p ≤ i → f i ≡ false
none_passing f m i b zero p s e a = absurd (omega arith)
none_passing f m i b (suc n) p s e a = turn (f p) refl (λ h l. none_passing f m i b n (suc p) (omega arith) h l)
  where
    turn : (x : Bool) → f p ≡ x → (passing f (suc p) n ≡ [] → suc p ≤ i → f i ≡ false) → f i ≡ false
    turn true q later = let h : p ∷ passing f (suc p) n ≡ [] = rw q at e in let z : ◌≡◌ {A = ℕ} 0 1 = cc in absurd (omega arith)
    turn false q later = ⊎_elim (λ (r : p ≡ i). rw r at q) (λ (r : p < i). later (rw q at e) (omega arith)) (eq-or-lt_of_le a)

pub ones_end : (v p i : ℕ) → ones_from v p ≡ [] → p ≤ i → i < 64 → bit_of v i ≡ false
unfolding ones_from
ones_end v p i e a b = none_passing (bit_of v) 64 i b (64 - p) p refl e a
