-- A relation whose rows become those of its closure one after another. Of rows on the way: no caller needs to read this.
-- Assumes nothing.
use Rattle.std.specs.Prelude.{◌≡◌, Bool, true, false, cond, ◌&&◌, ◌||◌, not, List, ℕ, zero, suc, ◌+◌, ◌*◌, ◌/◌, ◌<◌, ◌≤◌, length, get_or}
use Rattle.bits.specs.Bit.{bit_of}
use Rattle.theory.specs.Lists.{some?, range}
use Rattle.theory.specs.TransitiveClosure.{look, closure?}
use Rattle.rows.specs.Kept.{Kept}
use Rattle.rows.specs.Row.{row_bit, Row}
use Rattle.relation.specs.Pairs.{pair_at, Clean, CleanRow}

-- the pair (s, t) of the closure of the relation at b
abbrev pub closure_at : List ℕ → ℕ → ℕ → ℕ → ℕ → ℕ → Bool
closure_at xs b n w s t = look (closure? n (pair_at xs b w)) s t

-- how many numbers below n pass a test
unfoldable pub amount : (ℕ → Bool) → ℕ → ℕ
amount f zero = 0
amount f (suc n) = cond (f n) (suc (amount f n)) (amount f n)

-- The relation at b, and three rows of marks: live rows are those that are not empty, pending ones are not finished yet. A row that is not
-- pending is the closure's.
pub record PartlyClosed (xs live pending finished : List ℕ) (b n w : ℕ) : Type 0 where
  pub room : b + n * w ≤ length xs
  pub bits : n ≤ 64 * w
  pub words : w ≤ 16
  pub live_room : w ≤ length live
  pub pending_room : w ≤ length pending
  pub finished_room : w ≤ length finished
  pub clean : Clean xs b n w
  pub inner : CleanRow pending 0 n w
  pub empty : (k t : ℕ) → k < n → t / 64 < w → row_bit live 0 k ≡ false → pair_at xs b w k t ≡ false
  pub settled : (k : ℕ) → k < n → row_bit finished 0 k ≡ true → row_bit pending 0 k ≡ false
  pub closed : (k t : ℕ) → k < n → row_bit pending 0 k ≡ false → closure_at xs b n w k t ≡ true → pair_at xs b w k t ≡ true

-- ---- one row
-- a row took in the bits `new`, and `gone` are no longer left
pub record Took (w : ℕ) (new gone : ℕ → Bool) (rs ls rs' ls' : List ℕ) : Type 0 where
  pub row : Row 0 w (λ t. row_bit rs 0 t || new t) rs rs'
  pub left : Row 0 w (λ t. row_bit ls 0 t && not (gone t)) ls ls'

-- t is in row 64 i + j of the relation at b, for some bit j of v
abbrev pub in_word : List ℕ → ℕ → ℕ → ℕ → ℕ → ℕ → Bool
in_word xs b w i v t = some? (λ j. bit_of v j && pair_at xs b w (64 * i + j) t) (range 64)

-- the row lies between row s and the closure's, and has the successors of each record that is not left
pub record Growing (xs : List ℕ) (b n w s : ℕ) (row left : List ℕ) : Type 0 where
  pub start : (t : ℕ) → t / 64 < w → pair_at xs b w s t ≡ true → row_bit row 0 t ≡ true
  pub sound : (t : ℕ) → t / 64 < w → row_bit row 0 t ≡ true → closure_at xs b n w s t ≡ true
  pub covered : (k t : ℕ) → k < n → t / 64 < w → row_bit left 0 k ≡ false → pair_at xs b w k t ≡ true → row_bit row 0 t ≡ true

-- it has grown, and no more are left than were
pub record Grown (xs : List ℕ) (b n w s : ℕ) (row left row' left' : List ℕ) : Type 0 where
  pub growing : Growing xs b n w s row' left'
  pub kept : Kept 0 (0 + w) row row'
  pub len : length left' ≡ length left
  pub fewer : amount (row_bit left' 0) (64 * w) ≤ amount (row_bit left 0) (64 * w)

-- one step of it: fewer are left, or what the row has is none of them
pub record Stepped (xs : List ℕ) (b n w s : ℕ) (row left row' left' : List ℕ) (took : Bool) : Type 0 where
  pub grown : Grown xs b n w s row left row' left'
  pub less : took ≡ true → amount (row_bit left' 0) (64 * w) < amount (row_bit left 0) (64 * w)
  pub over : took ≡ false → (t : ℕ) → t / 64 < w → row_bit row' 0 t ≡ true → row_bit left' 0 t ≡ false

-- ---- the rows, one after another
-- its closure is the one that it was, and the rows that were finished are
pub record Stage (b n w : ℕ) (live xs pending finished ys pending' finished' : List ℕ) : Type 0 where
  pub kept : Kept b (b + n * w) xs ys
  pub pending_len : length pending' ≡ length pending
  pub finished_len : length finished' ≡ length finished
  pub same : (s t : ℕ) → closure_at ys b n w s t ≡ closure_at xs b n w s t
  pub fewer : (k : ℕ) → k / 64 < w → row_bit pending' 0 k ≡ true → row_bit pending 0 k ≡ true
  pub ready : PartlyClosed ys live pending' finished' b n w

-- ---- the walk over the rows
-- those that lead to where it stands lie in the stack, and there are no more of them, with those that it has not met, than rows
pub record Trail (stack unseen : List ℕ) (n w : ℕ) : Type 0 where
  pub marks : w ≤ length unseen
  pub inner : CleanRow unseen 0 n w
  pub deep : length stack + amount (row_bit unseen 0) (64 * w) ≤ 64 * w
  pub rows : (i : ℕ) → i < length stack → get_or stack i 0 < n

-- k is a row that it has not met
pub record Ahead (unseen : List ℕ) (w k : ℕ) : Type 0 where
  pub low : k < 64 * w
  pub new : row_bit unseen 0 k ≡ true
