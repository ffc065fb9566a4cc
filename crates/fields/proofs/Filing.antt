-- A file in the area that is lent for it: from what the code did to what is due, and from what was told to what the area has.
-- Assumes nothing.
use mathlib.Core.Path.{◌≡◌, refl, sym, ap}
use mathlib.Core.Bool.{Bool, true, false}
use mathlib.Core.List.{List, ◌++◌}
use Prim.Native.Nat.{ℕ, ◌+◌, ◌≤◌, ◌<◌}
use native.Mathlib.Omega.{arith}
use lib.Dec.{ltb}
use lib.ListN.{length, take, drop}
use lib.Seq.{sets, length-sets, sets-eq, take-append_seam}
use borrow.Author.Tests.{lt-ltb, le-ltb, ltb-false}
use Rattle.fields.specs.declared.Source.TheVariants as source
use Rattle.fields.specs.Call.{refuses, accepts, output, Gives, Size, size, file_in}
use Rattle.fields.proofs.Calls.{not_accepted}

-- ---- 14 was told, or the file was put; n bytes are needed
module _ (count : ℕ) (bytes area : List ℕ) {n : ℕ} (e : n ≡ length bytes) where
  pub file_short : length area < n → Gives (file_in count bytes area) (refuses source.Work 14 n) area
  unfolding file_in
  file_short l = record { is = rw (lt-ltb (length area) (length bytes) (omega (arith, e)), e) }

  pub file_put : {area' : List ℕ} {m b : ℕ} → n ≤ length area → m ≡ count → b ≡ length bytes → area' ≡ sets area 0 bytes → Gives (file_in count bytes area) (accepts (size m b)) area'
  unfolding file_in
  file_put l f g h = record { is = rw (le-ltb (length area) (length bytes) (omega (arith, e)), f, g, h) }

-- ---- the area has the file, of the size that was told
pub record Filed (count : ℕ) (bytes before after : List ℕ) (z : Size) : Type 0 where
  pub counted : z.count ≡ count
  pub measured : z.bytes ≡ length bytes
  pub room : length bytes ≤ length before
  pub area : after ≡ sets before 0 bytes

module _ {count : ℕ} {bytes before after : List ℕ} {z : Size} (a : Filed count bytes before after z) where
  -- the file that was written: as many bytes of the area as the call told
  pub file_written : take z.bytes after ≡ bytes
  file_written =
      let e : sets before 0 bytes ≡ bytes ++ drop (0 + length bytes) before = sets-eq bytes before 0 (omega (arith, a.room)) in
      rw (a.measured, a.area, e) (take-append_seam bytes (drop (0 + length bytes) before))

  pub within : z.bytes ≤ length after
  within = omega (arith, a.measured, a.room, ap length a.area, length-sets before 0 bytes)

-- 14 was not told
pub filed : (count : ℕ) (bytes area : List ℕ) (z : Size) → (file_in count bytes area).outcome ≡ accepts z → Filed count bytes area (file_in count bytes area).areas z
unfolding file_in
filed count bytes area z e = by_room (ltb (length area) (length bytes)) refl
  where
    by_room : (b : Bool) → ltb (length area) (length bytes) ≡ b → Filed count bytes area (file_in count bytes area).areas z
    by_room true t = not_accepted source.Work 14 (length bytes) z (rw t at e)
    by_room false t =
        let y : accepts (size count (length bytes)) ≡ accepts z = rw t at e in
        let x : size count (length bytes) ≡ z = cc in
        record {
          counted = sym (ap (λ (w : Size). w.count) x);
          measured = sym (ap (λ (w : Size). w.bytes) x);
          room = ltb-false (length area) (length bytes) t;
          area = rw t;
        }

-- with bytes enough it is not
pub file_enough : (count : ℕ) (bytes area : List ℕ) → length bytes ≤ length area → file_in count bytes area ≡ output (accepts (size count (length bytes))) (sets area 0 bytes)
unfolding file_in
file_enough count bytes area h = rw (le-ltb (length area) (length bytes) h)
