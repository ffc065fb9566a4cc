-- The head and the symbols of a question, put one after the other, are its file.
-- Assumes nothing.
use mathlib.Core.Path.{◌≡◌, refl, sym, ap, ap₂, ◌∙◌, subst}
use mathlib.Core.List.{List, [], ◌∷◌}
use Prim.Native.Nat.{ℕ, suc, ◌+◌, ◌≤◌}
use native.Mathlib.Omega.{arith}
use lib.ListN.{length, get_or, drop, replicate, get_or-replicate}
use lib.Seq.{sets, get_or-drop, drop-drop}
use Rattle.fields.specs.Table.{rows, tag_length, field_size}
use Rattle.fields.specs.Writing.{field_bytes}
use Rattle.symbols.specs.Symbols.{Numbered, symbol_given, symbols_given}
use Rattle.symbols.specs.Writing.{symbols_bytes}
use Rattle.encode.specs.BytesWritten.{BytesWritten}
use Rattle.encode.proofs.Along.{wrote_length, wrote_more}
use Rattle.question.specs.Writing.{numbered_codes, question_bytes}
use Rattle.question_writer.proofs.Measuring.{given_plain, question_length}

-- ---- symbols that are lent sets of 0 have none
given_from : (xs cs : List ℕ) (k : ℕ) → k + length xs ≤ 32 → drop k cs ≡ xs → symbols_given cs (replicate 32 0) (length xs) k ≡ numbered_codes xs
given_from [] cs k h e = refl
given_from (x ∷ xs) cs k h e =
    let c : get_or cs k 0 ≡ x = ap (λ (i : ℕ). get_or cs i 0) (let z : k ≡ k + 0 = omega arith in z) ∙ sym (get_or-drop k cs 0 0) ∙ ap (λ (l : List ℕ). get_or l 0 0) e in
    let d : drop (suc k) cs ≡ xs = ap (λ (i : ℕ). drop i cs) (let z : suc k ≡ k + 1 = omega arith in z) ∙ sym (drop-drop 1 k cs) ∙ ap (drop 1) e in
    ap₂ (λ (y : Numbered) (l : List Numbered). y ∷ l) (ap₂ symbol_given c (get_or-replicate 32 k 0 0 (omega arith)) ∙ given_plain x) (given_from xs cs (suc k) (omega arith) d)

module _ (cs : List ℕ) (few : length cs ≤ 32) where
  given_codes : symbols_given cs (replicate 32 0) (length cs) 0 ≡ numbered_codes cs
  given_codes = given_from cs cs 0 (omega (arith, few)) refl

  abbrev given_bytes : List ℕ
  given_bytes = symbols_bytes (symbols_given cs (replicate 32 0) (length cs) 0)

  pub head_room : {n : ℕ} → length (question_bytes cs) ≤ n → field_size 0x21 ≤ n
  unfolding field_size tag_length rows
  head_room h = omega (arith, question_length cs)

  module _ {o p : List ℕ} {x : ℕ} (w : BytesWritten o p 0 x (field_bytes 0x21 (length cs ∷ []))) where
    pub symbols_room : length (question_bytes cs) ≤ length o → x + length given_bytes ≤ length p
    symbols_room h = omega (arith, question_length cs, ap (λ (l : List Numbered). length (symbols_bytes l)) given_codes, wrote_length w, w.next_is)

    pub question_put : {q : List ℕ} {y : ℕ} → BytesWritten p q x y given_bytes → (q ≡ sets o 0 (question_bytes cs)) × (y ≡ length (question_bytes cs))
    unfolding question_bytes
    question_put {q} {y} v =
        let u = wrote_more w (subst (λ (l : List Numbered). BytesWritten p q x y (symbols_bytes l)) given_codes v) in
        (u.area, omega (arith, u.next_is))
