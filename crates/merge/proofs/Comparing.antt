-- Codes in two arrays compared, and the expansion of a node at an array's front.
-- Assumes nothing.
use mathlib.Core.Path.{◌≡◌, refl, sym}
use mathlib.Core.Bool.{Bool, true, false, not}
use mathlib.Core.List.{List}
use Prim.Native.Nat.{ℕ, ◌≤◌}
use native.Mathlib.Omega.{arith}
use lib.ListN.{length, take}
use lib.Seq.{length-take-le}
use Rattle.std.specs.Prelude.{Some}
use Rattle.std.specs.Ordering.{nat_cmp, is_lt, is_some_and}
use Rattle.std.specs.Cmp.Lexicographic.{slice_partial_cmp}
use Rattle.std.proofs.lemmas.Cmp.{same_from_slice_cmp_tested}
use Rattle.std.proofs.Common.{rules}
use Rattle.std.proofs.lemmas.Slice.Eq.{slice_eq-Decides}
use Rattle.std.proofs.lemmas.Bool.Decides.{nat_tests, Decides-eqb}
use lib.Pointwise.{pointwise}
use lib.Dec.{eqb}
use Rattle.theory.specs.PathExpr.{codes, before?}
use Rattle.theory.specs.JoinSets.{sets_of}
use Rattle.triples.specs.Paths.{triple_of}
use Rattle.triples.specs.Expansion.{Expanded, Expandable}
use Rattle.symbols.proofs.Numbers.{length_codes}
use Rattle.merge.specs.Arrays.{segment}
use Rattle.merge.specs.Arranging.{Usable}
use Rattle.merge.proofs.Segments.{segment_wrote}

-- ---- std's comparisons of slices
pub tells_before : (xs ys : List ℕ) (r : Bool) → r ≡ is_some_and is_lt (slice_partial_cmp (λ x y. Some (nat_cmp x y)) xs ys) → r ≡ before? xs ys
tells_before = same_from_slice_cmp_tested nat_cmp is_lt before? refl (λ _ _. refl) (λ _ _. refl) (λ x y xs ys o h. grind (arith, nat_tests))

pub tells_same : (xs ys : List ℕ) (r : Bool) → r ≡ not (pointwise eqb xs ys) → r ≡ false → xs ≡ ys
tells_same xs ys r e f = search (rules, slice_eq-Decides, Decides-eqb)

pub tells_other : (xs ys : List ℕ) (r : Bool) → r ≡ not (pointwise eqb xs ys) → r ≡ true → ¬ (xs ≡ ys)
tells_other xs ys r e t = search (rules, slice_eq-Decides, Decides-eqb)

-- ---- the front of an array
pub whole : (n : ℕ) (xs : List ℕ) → n ≤ length xs → n ≡ length (take n xs)
whole n xs h = sym (length-take-le n xs h)

-- ---- the expansion of a node
module _ {qs ws : List ℕ} {used i : ℕ} (h : Usable qs ws used i) where
  fits : length (codes (triple_of qs ws i).path) ≤ 48
  fits = let z = length_codes (triple_of qs ws i).path in omega (arith, h.suits.short)

  pub ready : (xs ys : List ℕ) → length xs ≡ 48 → length ys ≡ 48 → Expandable qs ws used i 0 xs ys
  ready xs ys ex ey =
      let z = (h.has.sound.good i h.has.in_use).sized in
      record { has = h.has; codes_room = omega (arith, h.suits.short); sets_room = omega (arith, h.suits.short) }

  module _ {r : ℕ} {xs ys xs' ys' : List ℕ} (w : Expanded (triple_of qs ws i).path 0 xs ys xs' ys' r) where
    pub expanded_end : length xs ≡ 48 → r ≤ length xs'
    expanded_end ex = let z = fits in omega (arith, w.ends, w.codes_length)

    pub expanded_sets_end : length ys ≡ 48 → r ≤ length ys'
    expanded_sets_end ey = let z = fits in omega (arith, w.ends, w.sets_length)

    pub expanded_codes : length xs ≡ 48 → segment xs' 0 r ≡ codes (triple_of qs ws i).path
    expanded_codes ex =
        let z : r ≡ length (codes (triple_of qs ws i).path) = omega (arith, w.ends) in
        let y = fits in
        rw (z, w.codes_are) (segment_wrote xs (codes (triple_of qs ws i).path) (omega arith))

    pub expanded_sets : length ys ≡ 48 → segment ys' 0 r ≡ sets_of (triple_of qs ws i).path
    expanded_sets ey =
        let z : r ≡ length (sets_of (triple_of qs ws i).path) = omega (arith, w.ends, w.as_many) in
        let y = fits in
        rw (z, w.sets_are) (segment_wrote ys (sets_of (triple_of qs ws i).path) (omega (arith, w.as_many)))
