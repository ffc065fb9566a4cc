-- The loop that puts symbols: what holds at its head, and how it goes on.
-- Assumes nothing.
use Prim.Native.Nat.{ℕ, ◌+◌, ◌-◌, ◌<◌, ◌≤◌}
use mathlib.Core.Path.{◌≡◌, ap, ◌∙◌, subst}
use mathlib.Core.List.{List, ◌++◌}
use lib.ListN.{length, get_or}
use native.Mathlib.Omega.{arith}
use Rattle.symbols.specs.Writing.{symbol_bytes, symbols_bytes}
use Rattle.symbols.specs.Symbols.{symbol_given, symbols_given}
use Rattle.encode.specs.BytesWritten.{BytesWritten}
use Rattle.encode.proofs.Along.{Along, along_start, along_more, along_end, along_room}
use Rattle.encode.proofs.Parts.{symbols_more}

-- of n symbols from the k-th on, those before the i-th are written
pub record Symbols (o : List ℕ) (at : ℕ) (numbers sets : List ℕ) (k n : ℕ) (out : List ℕ) (a i : ℕ) : Type 0 where
  pub room : at + length (symbols_bytes (symbols_given numbers sets n k)) ≤ length o
  pub along : Along o out at a (symbols_bytes (symbols_given numbers sets n k)) (symbols_bytes (symbols_given numbers sets (k + n - i) i))

pub symbols_start : (o : List ℕ) (at : ℕ) (numbers sets : List ℕ) (k n : ℕ) → at + length (symbols_bytes (symbols_given numbers sets n k)) ≤ length o
    → Symbols o at numbers sets k n o at k
symbols_start o at numbers sets k n h =
    let whole = symbols_bytes (symbols_given numbers sets n k) in
    let e : n ≡ k + n - k = omega arith in
    record { room = h; along = subst (λ (m : ℕ). Along o o at at whole (symbols_bytes (symbols_given numbers sets m k))) e (along_start o at whole) }

module _ {o : List ℕ} {at : ℕ} {numbers sets : List ℕ} {k n : ℕ} {out : List ℕ} {a i : ℕ} (s : Symbols o at numbers sets k n out a i) where
  module _ (h : i < k + n) where
    abbrev first : List ℕ
    first = symbol_bytes (symbol_given (get_or numbers i 0) (get_or sets i 0))

    abbrev rest : List ℕ
    rest = symbols_bytes (symbols_given numbers sets (k + n - (i + 1)) (i + 1))

    parts : symbols_bytes (symbols_given numbers sets (k + n - i) i) ≡ first ++ rest
    parts =
        let e : k + n - i - 1 ≡ k + n - (i + 1) = omega arith in
        symbols_more numbers sets (k + n - i) i (omega arith) ∙ ap (λ (m : ℕ). first ++ symbols_bytes (symbols_given numbers sets m (i + 1))) e

    pub symbols_room : a + length (symbol_bytes (symbol_given (get_or numbers i 0) (get_or sets i 0))) ≤ length out
    symbols_room = along_room first rest s.along parts s.room

    pub symbols_next : {b : List ℕ} {y : ℕ} → BytesWritten out b a y (symbol_bytes (symbol_given (get_or numbers i 0) (get_or sets i 0)))
        → Symbols o at numbers sets k n b y (i + 1)
    symbols_next w = record { room = s.room; along = along_more first rest s.along parts w }

  pub symbols_end : k + n ≤ i → BytesWritten o out at a (symbols_bytes (symbols_given numbers sets n k))
  symbols_end h = along_end s.along (ap (λ (m : ℕ). symbols_bytes (symbols_given numbers sets m i)) (let z : k + n - i ≡ 0 = omega arith in z))
