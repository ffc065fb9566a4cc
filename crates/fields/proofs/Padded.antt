-- An array filled from the front.
-- Assumes nothing.
use Prim.Native.Nat.{ℕ, zero, suc, ◌-◌, ◌<◌, ◌≤◌}
use mathlib.Core.Path.{◌≡◌, refl, ap, ◌∙◌, sym}
use mathlib.Core.List.{List, [], ◌∷◌, ◌++◌, append_assoc}
use lib.ListN.{length, get_or, set, replicate, length-append, length-replicate}
use lib.Seq.{set_at}
use native.Mathlib.Omega.{arith}
use Rattle.fields.specs.Padded.{padded}
use Rattle.fields.proofs.ReaderLoop.{suc_of}

pub pad_set : (n : ℕ) (xs : List ℕ) (v : ℕ) → length xs < n → set (padded n xs) (length xs) v ≡ padded n (xs ++ (v ∷ []))
unfolding padded
pad_set n xs v h =
    let (j, e) = suc_of (n - length xs) (omega arith) in
    let l = length-append xs (v ∷ []) in
    let i : j ≡ n - length (xs ++ (v ∷ [])) = omega arith in
    ap (λ (k : ℕ). set (xs ++ replicate k 0) (length xs) v) e
    ∙ set_at xs 0 (replicate j 0) v (length xs) refl
    ∙ sym (append_assoc xs (v ∷ []) (replicate j 0))
    ∙ ap (λ (k : ℕ). (xs ++ (v ∷ [])) ++ replicate k 0) i

pub pad_length : (n : ℕ) (xs : List ℕ) → length xs ≤ n → length (padded n xs) ≡ n
unfolding padded
pad_length n xs h = length-append xs (replicate (n - length xs) 0) ∙ omega (arith, length-replicate {A = ℕ} (n - length xs) 0)

-- an array of zeros has 0 everywhere, past its end too
pub zero_at : (n i : ℕ) → ◌≡◌ {A = ℕ} (get_or (replicate n 0) i 0) 0
zero_at zero i = refl
zero_at (suc n) zero = refl
zero_at (suc n) (suc i) = zero_at n i
