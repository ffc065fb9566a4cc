-- A loop that writes a whole text piece by piece, into an area that has room for it.
-- Assumes nothing.
use mathlib.Core.Path.{◌≡◌, refl}
use mathlib.Core.List.{List, [], ◌∷◌, ◌++◌}
use Prim.Native.Nat.{ℕ, ◌+◌, ◌<◌, ◌≤◌}
use native.Mathlib.Numerals.{add-one}
use native.Mathlib.Omega.{arith}
use lib.ListN.{length, get_or, drop, drop_of_length-le, length-append}
use lib.Seq.{drop-cons}
use Rattle.encode.specs.BytesWritten.{BytesWritten}
use Rattle.encode.proofs.Along.{wrote_length, Along, along_start, along_more, along_end, along_room, along_length}

-- of the whole, the rest is still to be written
pub record Filling (o : List ℕ) (at : ℕ) (whole out : List ℕ) (a : ℕ) (rest : List ℕ) : Type 0 where
  pub room : at + length whole ≤ length o
  pub along : Along o out at a whole rest

pub filling_start : (o : List ℕ) (at : ℕ) (whole : List ℕ) → at + length whole ≤ length o → Filling o at whole o at whole
filling_start o at whole h = record { room = h; along = along_start o at whole }

module _ {o : List ℕ} {at : ℕ} {whole out : List ℕ} {a : ℕ} {rest : List ℕ} (f : Filling o at whole out a rest) where
  pub filling_length : length out ≡ length o
  filling_length = along_length f.along

  pub filling_room : (u r : List ℕ) → rest ≡ u ++ r → a + length u ≤ length out
  filling_room u r e = along_room u r f.along e f.room

  pub filling_next : {b : List ℕ} {y : ℕ} (u r : List ℕ) → rest ≡ u ++ r → BytesWritten out b a y u → Filling o at whole b y r
  filling_next u r e w = record { room = f.room; along = along_more u r f.along e w }

  pub filling_end : rest ≡ [] → BytesWritten o out at a whole
  filling_end e = along_end f.along e

-- ---- no piece; a second one
pub wrote_none : (o : List ℕ) (at : ℕ) → BytesWritten o o at at []
wrote_none o at = record { area = refl; next_is = omega arith }

pub second_room : {o out : List ℕ} {at a : ℕ} {u : List ℕ} (v : List ℕ) → BytesWritten o out at a u → at + length (u ++ v) ≤ length o → a + length v ≤ length out
second_room {u = u} v w h = omega (arith, length-append u v, wrote_length w, w.next_is)

-- ---- byte by byte: those from the i-th on are left
byte_first : (s : List ℕ) (i : ℕ) → i < length s → drop i s ≡ (get_or s i 0 ∷ []) ++ drop (i + 1) s
byte_first s i h = rw (add-one, drop-cons s i 0)

module _ {o : List ℕ} {at : ℕ} {s out : List ℕ} {a : ℕ} (i : ℕ) (f : Filling o at s out a (drop i s)) where
  pub byte_room : i < length s → a + 1 ≤ length out
  byte_room h = filling_room f (get_or s i 0 ∷ []) (drop (i + 1) s) (byte_first s i h)

  pub byte_next : {b : List ℕ} {y : ℕ} → i < length s → BytesWritten out b a y (get_or s i 0 ∷ []) → Filling o at s b y (drop (i + 1) s)
  byte_next h w = filling_next f (get_or s i 0 ∷ []) (drop (i + 1) s) (byte_first s i h) w

  pub bytes_end : length s ≤ i → BytesWritten o out at a s
  bytes_end h = filling_end f (drop_of_length-le s h)
