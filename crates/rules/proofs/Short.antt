-- Whether all paths of a list have at most 48 symbols: of two lists, and of a list whose repeats are left out.
-- Assumes nothing.
use mathlib.Core.Path.{◌≡◌, refl, sym, ◌∙◌}
use mathlib.Core.Bool.{Bool, true, false, ◌&&◌, cond}
use mathlib.Core.List.{List, [], ◌∷◌, ◌++◌}
use lib.Dec.{leb}
use Rattle.theory.specs.Lists.{guard}
use Rattle.theory.specs.PathExpr.{size}
use Rattle.theory.specs.Inference.{Triple, distinct}
use Rattle.theory.specs.Narrowing.{short?}
use Rattle.theory.proofs.Tests.{bool_eq}
use Rattle.theory.proofs.Lists.{every_in, in_every}
use Rattle.theory.proofs.Triples.{in_distinct, distinct_in}

abbrev pub short_path? : Triple → Bool
short_path? t = leb (size t.path) 48

and_assoc : (a b c : Bool) → a && (b && c) ≡ (a && b) && c
and_assoc true b c = refl
and_assoc false b c = refl

pub short_append : (xs ys : List Triple) → short? (xs ++ ys) ≡ short? xs && short? ys
short_append [] ys = refl
short_append (x ∷ xs) ys = rw (short_append xs ys) (and_assoc (short_path? x) (short? xs) (short? ys))

-- a part of a list that is short
pub short_left : (xs ys : List Triple) → short? (xs ++ ys) ≡ true → short? xs ≡ true
short_left xs ys e = go (short? xs) (short? ys) (sym (short_append xs ys) ∙ e)
  where
    go : (a b : Bool) → a && b ≡ true → a ≡ true
    go true b e = refl
    go false b e = e

pub short_right : (xs ys : List Triple) → short? (xs ++ ys) ≡ true → short? ys ≡ true
short_right xs ys e = go (short? xs) (short? ys) (sym (short_append xs ys) ∙ e)
  where
    go : (a b : Bool) → a && b ≡ true → b ≡ true
    go true b e = e
    go false b e = cc

pub short_guard : (b : Bool) (t : Triple) → cond b (short_path? t) true ≡ short? (guard b (t ∷ []))
short_guard true t = go (short_path? t)
  where
    go : (b : Bool) → b ≡ b && true
    go true = refl
    go false = refl
short_guard false t = refl

-- leaving repeats out changes no sizes
pub short_distinct : (ts : List Triple) → short? (distinct ts) ≡ short? ts
short_distinct ts =
    bool_eq (short? (distinct ts)) (short? ts)
    (λ h. in_every short_path? ts (λ t m. every_in short_path? h (distinct_in m)))
    (λ h. in_every short_path? (distinct ts) (λ t m. every_in short_path? h (in_distinct ts m)))
