-- Bytes that are copied into a part of the area, and the bytes of a number.
-- Assumes nothing.
use Prim.Native.Nat.{ℕ, ◌+◌, ◌/◌, ◌%◌, ◌^◌, ◌<◌, ◌≤◌}
use mathlib.Core.Path.{◌≡◌, ap, ◌∙◌, sym}
use mathlib.Core.List.{List, [], ◌∷◌, ◌++◌, append_assoc}
use lib.ListN.{length, take, drop}
use lib.Seq.{sets, sets-eq, drop-drop}
use borrow.Rule.Slice.PartMut.{put_mid}
use native.Mathlib.Omega.{arith}
use Rattle.std.specs.Int.{to_be_bytes}
use Rattle.std.proofs.Common.{w16, w64}
use Rattle.fields.specs.Writing.{two_bytes, eight_bytes}

pub copied : (out ys : List ℕ) (at k : ℕ) → k ≡ length ys → at + length ys ≤ length out → put_mid at k out ys ≡ sets out at ys
copied out ys at k e h =
    let rest = drop (at + length ys) out in
    ap (λ (n : ℕ). put_mid at n out ys) e ∙ ap (λ (l : List ℕ). take at out ++ (ys ++ l)) (drop-drop (length ys) at out)
    ∙ sym (append_assoc (take at out) ys rest) ∙ sym (sets-eq ys out at h)

pub two_is : (n : ℕ) → n < 2 ^ 16 → to_be_bytes w16 n ≡ two_bytes n
two_is n h = let a : n / 256 % 256 ≡ n / 256 = omega arith in λ i. a i ∷ n % 256 ∷ []

pub eight_is : (n : ℕ) → n < 2 ^ 64 → to_be_bytes w64 n ≡ eight_bytes n
eight_is n h =
    let a : n / 72057594037927936 % 256 ≡ (n / 281474976710656) / 256 = omega arith in
    let b : n / 281474976710656 % 256 ≡ (n / 281474976710656) % 256 = omega arith in
    let c : n / 1099511627776 % 256 ≡ (n / 4294967296 % 65536) / 256 = omega arith in
    let d : n / 4294967296 % 256 ≡ (n / 4294967296 % 65536) % 256 = omega arith in
    let e : n / 16777216 % 256 ≡ (n / 65536 % 65536) / 256 = omega arith in
    let f : n / 65536 % 256 ≡ (n / 65536 % 65536) % 256 = omega arith in
    let g : n / 256 % 256 ≡ (n % 65536) / 256 = omega arith in
    let h : n % 256 ≡ (n % 65536) % 256 = omega arith in
    λ i. a i ∷ b i ∷ c i ∷ d i ∷ e i ∷ f i ∷ g i ∷ h i ∷ []
