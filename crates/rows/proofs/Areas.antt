-- The words of an area that is lent: its first ones written over, or zero.
-- Assumes nothing.
use mathlib.Core.Path.{◌≡◌, sym, ap, subst, ◌∙◌}
use mathlib.Core.List.{List, ◌++◌}
use mathlib.Core.Logic.{⊎_elim}
use Prim.Native.Nat.{ℕ, ◌+◌, ◌-◌, ◌<◌, ◌≤◌}
use native.Mathlib.Nat.{zero-add}
use native.Mathlib.Omega.{arith}
use lib.ListN.{length, get_or, drop, replicate, length-replicate, get_or-replicate, get_or-append}
use lib.Seq.{sets, length-sets, sets-eq, ext_get_or, get_or-append-add, get_or-drop}
use Rattle.rows.specs.Kept.{Kept, Wrote}
use Rattle.rows.proofs.Words.{kept_trans, le_or_lt}

-- a list whose first words are us, and that is xs past them
pub written_over : (us xs ys : List ℕ) → Kept 0 (length us) xs ys → ((j : ℕ) → j < length us → get_or ys j 0 ≡ get_or us j 0) → length us ≤ length xs → ys ≡ sets xs 0 us
written_over us xs ys k e l =
    ext_get_or 0 ys (sets xs 0 us) (k.len ∙ sym (length-sets xs 0 us))
    (λ i h. ⊎_elim (λ (m : length us ≤ i). past i m) (λ (m : i < length us). within i m) (le_or_lt (length us) i))
  where
    parts : sets xs 0 us ≡ us ++ drop (length us) xs
    parts = sets-eq us xs 0 (omega arith) ∙ ap (λ (n : ℕ). us ++ drop n xs) (zero-add (length us))

    within : (i : ℕ) → i < length us → get_or ys i 0 ≡ get_or (sets xs 0 us) i 0
    within i h = e i h ∙ sym (ap (λ (l : List ℕ). get_or l i 0) parts ∙ get_or-append us (drop (length us) xs) 0 i h)

    past : (i : ℕ) → length us ≤ i → get_or ys i 0 ≡ get_or (sets xs 0 us) i 0
    past i h =
        let z : length us + (i - length us) ≡ i = omega arith in
        k.above i h
        ∙ sym (ap (λ (l : List ℕ). get_or l i 0) parts
        ∙ ap (λ (n : ℕ). get_or (us ++ drop (length us) xs) n 0) (sym z)
        ∙ get_or-append-add us (drop (length us) xs) (i - length us) 0
        ∙ get_or-drop (length us) xs (i - length us) 0
        ∙ ap (λ (n : ℕ). get_or xs n 0) z)

-- the first n words were changed, and then cleared
pub zero_words : {xs ys zs : List ℕ} (n : ℕ) → Kept 0 n xs ys → Wrote 0 n (λ j. 0) ys zs → n ≤ length xs → zs ≡ sets xs 0 (replicate n 0)
zero_words {xs} {ys} {zs} n k c l =
    let m : length {A = ℕ} (replicate n 0) ≡ n = length-replicate {A = ℕ} n 0 in
    written_over (replicate n 0) xs zs
    (subst (λ (i : ℕ). Kept 0 i xs zs) (sym m) (kept_trans k c.kept (omega arith) (omega arith) (omega arith) (omega arith)))
    (λ j h. ap (λ (i : ℕ). get_or zs i 0) (sym (zero-add j)) ∙ c.word j (omega arith) ∙ sym (get_or-replicate n j 0 0 (omega arith)))
    (omega arith)
