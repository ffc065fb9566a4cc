-- The table of permitted kinds says what the sheet permits.
-- Assumes nothing.
use mathlib.Core.Path.{◌≡◌, refl, ap, ap₂, sym, ◌∙◌}
use mathlib.Core.Bool.{Bool, true, false, ◌&&◌, ◌||◌, or-false, or_assoc}
use mathlib.Core.List.{List, [], ◌∷◌, ◌++◌, foldl, foldl-append}
use Prim.Native.Nat.{ℕ, ◌+◌, ◌*◌, ◌<◌}
use native.Mathlib.Omega.{arith}
use lib.Dec.{T, eqb, ltb→lt}
use lib.ListN.{length, get_or, set, replicate, length-set, length-replicate}
use lib.Seq.{get_or-set_same, get_or-set_other}
use borrow.Author.Tests.{eqb-true, eqb-false}
use Rattle.bits.specs.Bit.{bit_of, with_bit}
use Rattle.bits.proofs.Bits.{bit_zero, bit_with}
use Rattle.theory.specs.Lists.{some?, every?}
use Rattle.theory.specs.Register.{Edge, edge, same_edge?}
use Rattle.theory.specs.Sheet.{Sheet, sizes?, in_range?, sheet?, permits?}
use Rattle.theory.proofs.Tests.{tests, and_left, and_right}
use Rattle.theory.proofs.Sheet.{kinds_fit, names_fit}
use Rattle.fields.proofs.Padded.{zero_at}
use Rattle.sheet.specs.Table.{cell, permit, table_of}

-- one triple more, at the end
pub table_more : (es : List Edge) (e : Edge) → table_of (es ++ (e ∷ [])) ≡ permit (table_of es) e
unfolding table_of
table_more es e = foldl-append permit (replicate 4096 0) es (e ∷ [])

module _ (a l b : ℕ) (ha : a < 64) where
  -- one triple sets its own bit alone
  permit_bit : (t : List ℕ) (e : Edge) → length t ≡ 4096 → e.from < 64 → e.label < 64
      → bit_of (get_or (permit t e) (cell a l) 0) b ≡ bit_of (get_or t (cell a l) 0) b || same_edge? (edge a l b) e
  unfolding same_edge?
  permit_bit t e n hf hl = by_word (eqb a e.from) (eqb l e.label) refl refl
    where
      i : ℕ
      i = cell e.from e.label

      v : ℕ
      v = with_bit (get_or t i 0) e.to

      elsewhere : (cell a l ≡ i → ⊥) → bit_of (get_or (set t i v) (cell a l) 0) b ≡ bit_of (get_or t (cell a l) 0) b || false
      elsewhere h = ap (λ x. bit_of x b) (get_or-set_other t i (cell a l) v 0 h) ∙ sym (or-false _)

      by_word : (p q : Bool) → eqb a e.from ≡ p → eqb l e.label ≡ q
          → bit_of (get_or (set t i v) (cell a l) 0) b ≡ bit_of (get_or t (cell a l) 0) b || (p && q && eqb b e.to)
      by_word true true x y =
          let h : cell a l ≡ i = ap₂ cell (eqb-true a e.from x) (eqb-true l e.label y) in
          ap (λ j. bit_of (get_or (set t i v) j 0) b) h
          ∙ ap (λ w. bit_of w b) (get_or-set_same t i v 0 (omega arith))
          ∙ bit_with (get_or t i 0) e.to b
          ∙ ap (λ j. bit_of (get_or t j 0) b || eqb b e.to) (sym h)
      by_word true false x y = let h : l ≡ e.label → ⊥ = eqb-false l e.label y in elsewhere (λ z. h (omega arith))
      by_word false q x y = let h : a ≡ e.from → ⊥ = eqb-false a e.from x in elsewhere (λ z. h (omega arith))

  -- each of the triples sets its own
  fold_bit : (S : Sheet) → T (sheet? S) → (es : List Edge) (t : List ℕ) → length t ≡ 4096 → T (every? (in_range? S) es)
      → bit_of (get_or (foldl permit t es) (cell a l) 0) b ≡ bit_of (get_or t (cell a l) 0) b || some? (same_edge? (edge a l b)) es
  fold_bit S ok [] t n r = sym (or-false _)
  fold_bit S ok (e ∷ es) t n r =
      let k = kinds_fit S ok in
      let m = names_fit S ok in
      let h = and_left (in_range? S e) (every? (in_range? S) es) r in
      let hf : e.from < S.kinds = search (tests, ltb→lt) in
      let hl : e.label < S.link_names = search (tests, ltb→lt) in
      fold_bit S ok es (permit t e) (length-set t _ _ ∙ n) (and_right (in_range? S e) (every? (in_range? S) es) r)
      ∙ ap (λ x. x || some? (same_edge? (edge a l b)) es) (permit_bit t e n (omega arith) (omega arith))
      ∙ or_assoc (bit_of (get_or t (cell a l) 0) b) (same_edge? (edge a l b) e) (some? (same_edge? (edge a l b)) es)

pub table_permits : (S : Sheet) → T (sheet? S) → (a l b : ℕ) → a < 64 → bit_of (get_or (table_of S.permitted) (l * 64 + a) 0) b ≡ permits? S a l b
unfolding table_of permits? sheet?
table_permits S ok a l b ha =
    fold_bit a l b ha S ok S.permitted (replicate 4096 0) (length-replicate {A = ℕ} 4096 0) (and_right (sizes? S) (every? (in_range? S) S.permitted) ok)
    ∙ ap (λ x. bit_of x b || some? (same_edge? (edge a l b)) S.permitted) (zero_at 4096 (l * 64 + a))
    ∙ ap (λ x. x || some? (same_edge? (edge a l b)) S.permitted) (bit_zero b)
