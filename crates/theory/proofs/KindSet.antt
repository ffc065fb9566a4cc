-- Kind sets: what is in the set of one kind, and in the union of two.
-- Assumes nothing.
use mathlib.Core.Path.{◌≡◌, sym, subst}
use mathlib.Core.Logic.{◌⊎◌}
use mathlib.Core.Bool.{◌||◌}
use Prim.Native.Nat.{ℕ, ◌<◌}
use lib.Dec.{T, eqb→eq, eqb_refl}
use lib.Pow.{pow-lt}
use lib.Bits.{or_lt}
use Rattle.bits.proofs.Bits.{bit_of_or, bit_pow}
use Rattle.theory.specs.KindSet.{width, has, singleton, set_union, IsSet}
use Rattle.theory.proofs.Tests.{or_left, or_right, or_cases}

pub has_singleton : (k : ℕ) → T (has (singleton k) k)
unfolding has singleton
has_singleton k = subst T (sym (bit_pow k k)) (eqb_refl k)

pub singleton_has : (k j : ℕ) → T (has (singleton k) j) → j ≡ k
unfolding has singleton
singleton_has k j t = eqb→eq j k (subst T (bit_pow k j) t)

pub union_has : (a b k : ℕ) → has (set_union a b) k ≡ has a k || has b k
unfolding has set_union
union_has a b k = bit_of_or a b k

pub has_union_left : (a b k : ℕ) → T (has a k) → T (has (set_union a b) k)
has_union_left a b k t = subst T (sym (union_has a b k)) (or_left (has a k) (has b k) t)

pub has_union_right : (a b k : ℕ) → T (has b k) → T (has (set_union a b) k)
has_union_right a b k t = subst T (sym (union_has a b k)) (or_right (has a k) (has b k) t)

pub has_union : (a b k : ℕ) → T (has (set_union a b) k) → T (has a k) ⊎ T (has b k)
has_union a b k t = or_cases (has a k) (has b k) (subst T (union_has a b k) t)

pub singleton_fits : (k : ℕ) → k < width → IsSet (singleton k)
unfolding singleton
singleton_fits k h = pow-lt h

pub union_fits : (a b : ℕ) → IsSet a → IsSet b → IsSet (set_union a b)
unfolding set_union
union_fits a b h k = or_lt width a b h k
