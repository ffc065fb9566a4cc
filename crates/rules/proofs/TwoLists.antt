-- What two lists give under an operator of pairs, pair by pair.
-- Assumes nothing.
use mathlib.Core.Path.{◌≡◌, refl, sym, ap, ◌∙◌, subst}
use mathlib.Core.Bool.{Bool}
use mathlib.Core.List.{List, [], ◌∷◌, ◌++◌, append-nil}
use Prim.Native.Nat.{ℕ, suc, ◌+◌, ◌<◌}
use native.Mathlib.Omega.{arith}
use Rattle.theory.specs.Lists.{guard, concat_map}
use Rattle.theory.specs.PathExpr.{size, code}
use Rattle.theory.specs.Inference.{Triple, of_join, pairs}
use Rattle.symbols.specs.Symbols.{symbol_numbered}
use Rattle.triples.specs.declared.Node.{Node}
use Rattle.triples.specs.Paths.{of_node, Coded, Two, Founded}
use Rattle.rules.specs.declared.PairOperator.{PairOperator}
use Rattle.rules.specs.declared.PairOperator.TheVariants.{Join, Conjunction, BranchRight, BranchLeft}
use Rattle.rules.specs.PairRules.{pair_symbol, pair_code, of_two, fitting, giving, ends_of, pair_node}

-- ---- pairs in general
module _ (f : Triple → Triple → Bool) (g : Triple → Triple → Triple) where
  abbrev one : Triple → Triple → List Triple
  one x y = guard (f x y) (g x y ∷ [])

  abbrev row : Triple → List Triple → List Triple
  row x ys = concat_map (one x) ys

  pairs_row : (x : Triple) (ys : List Triple) → pairs f g (x ∷ []) ys ≡ row x ys
  pairs_row x ys = append-nil (row x ys)

  pairs_one : (x y : Triple) → pairs f g (x ∷ []) (y ∷ []) ≡ one x y
  pairs_one x y = pairs_row x (y ∷ []) ∙ append-nil (one x y)

  pairs_first : (x : Triple) (xs ys : List Triple) → pairs f g (x ∷ xs) ys ≡ pairs f g (x ∷ []) ys ++ pairs f g xs ys
  pairs_first x xs ys = ap (λ (l : List Triple). l ++ pairs f g xs ys) (sym (pairs_row x ys))

  pairs_second : (x y : Triple) (ys : List Triple) → pairs f g (x ∷ []) (y ∷ ys) ≡ pairs f g (x ∷ []) (y ∷ []) ++ pairs f g (x ∷ []) ys
  pairs_second x y ys =
      pairs_row x (y ∷ ys) ∙ ap (λ (l : List Triple). one x y ++ l) (sym (pairs_row x ys)) ∙ ap (λ (l : List Triple). l ++ pairs f g (x ∷ []) ys) (sym (pairs_one x y))

-- ---- an operator of pairs
pub two_join : (xs ys : List Triple) → of_two Join xs ys ≡ of_join xs ys
unfolding of_two
two_join xs ys = refl

two_pairs : (o : PairOperator) (xs ys : List Triple) → of_two o xs ys ≡ pairs (fitting o) (giving o) xs ys
unfolding of_two fitting giving
two_pairs Join xs ys = refl
two_pairs Conjunction xs ys = refl
two_pairs BranchRight xs ys = refl
two_pairs BranchLeft xs ys = refl

module _ (o : PairOperator) where
  pub two_one : (x y : Triple) → of_two o (x ∷ []) (y ∷ []) ≡ guard (fitting o x y) (giving o x y ∷ [])
  two_one x y = two_pairs o (x ∷ []) (y ∷ []) ∙ pairs_one (fitting o) (giving o) x y

  pub two_next : (x : Triple) (xs ys : List Triple) → of_two o (x ∷ xs) ys ≡ of_two o (x ∷ []) ys ++ of_two o xs ys
  two_next x xs ys = rw (two_pairs o (x ∷ xs) ys, two_pairs o (x ∷ []) ys, two_pairs o xs ys) (pairs_first (fitting o) (giving o) x xs ys)

  pub two_row : (x y : Triple) (ys : List Triple) → of_two o (x ∷ []) (y ∷ ys) ≡ of_two o (x ∷ []) (y ∷ []) ++ of_two o (x ∷ []) ys
  two_row x y ys = rw (two_pairs o (x ∷ []) (y ∷ ys), two_pairs o (x ∷ []) (y ∷ []), two_pairs o (x ∷ []) ys) (pairs_second (fitting o) (giving o) x y ys)

  pub two_none : (ys : List Triple) → of_two o [] ys ≡ []
  two_none ys = two_pairs o [] ys

  pub row_none : (x : Triple) → of_two o (x ∷ []) [] ≡ []
  row_none x = two_pairs o (x ∷ []) []

-- a branch left does not look at the end of its first triple
pub left_rows : (x y : Triple) (zs : List Triple) → x.from ≡ y.from → x.path ≡ y.path → of_two BranchLeft (x ∷ []) zs ≡ of_two BranchLeft (y ∷ []) zs
unfolding of_two
left_rows x y zs e f = rw (e, f)

-- ---- the pair's triple
pub giving_size : (o : PairOperator) (x y : Triple) → size (giving o x y).path ≡ suc (size x.path + size y.path)
unfolding giving
giving_size Join x y = refl
giving_size Conjunction x y = refl
giving_size BranchRight x y = refl
giving_size BranchLeft x y = refl

pub giving_small : (o : PairOperator) (x y : Triple) → x.to < 64 → y.to < 64 → (giving o x y).to < 64
unfolding giving
giving_small Join x y a b = b
giving_small Conjunction x y a b = a
giving_small BranchRight x y a b = a
giving_small BranchLeft x y a b = b

-- of the ends alone
pub fitting_ends : (o : PairOperator) (x y : Node) (X Y : Triple) → x.from.0 ≡ X.from → x.to.0 ≡ X.to → y.from.0 ≡ Y.from → y.to.0 ≡ Y.to
    → fitting o (ends_of x) (ends_of y) ≡ fitting o X Y
unfolding fitting
fitting_ends Join x y X Y a b c d = rw (b, c)
fitting_ends Conjunction x y X Y a b c d = rw (a, b, c, d)
fitting_ends BranchRight x y X Y a b c d = rw (b, c)
fitting_ends BranchLeft x y X Y a b c d = rw (a, c)

-- ---- the pair's node
pub pair_fits : (o : PairOperator) → pair_code o < 256
pair_fits Join = omega arith
pair_fits Conjunction = omega arith
pair_fits BranchRight = omega arith
pair_fits BranchLeft = omega arith

-- its code is that of its symbol
pair_numbered : (o : PairOperator) → symbol_numbered (pair_code o) 0 ≡ pair_symbol o
unfolding symbol_numbered
pair_numbered Join = refl
pair_numbered Conjunction = refl
pair_numbered BranchRight = refl
pair_numbered BranchLeft = refl

pub pair_coded : (o : PairOperator) → Coded (pair_code o)
pair_coded o = record { is = ap code (pair_numbered o) }

module _ (qs : List ℕ) where
  pub pair_founded : (o : PairOperator) {i : ℕ} {n : Node} → Two i n → Founded qs i n (symbol_numbered (pair_code o) 0)
  pair_founded o {i} {n} t = subst (Founded qs i n) (sym (pair_numbered o)) (go o)
    where
      go : (o : PairOperator) → Founded qs i n (pair_symbol o)
      go Join = t
      go Conjunction = t
      go BranchRight = t
      go BranchLeft = t

  pub node_gives : (o : PairOperator) (i j : ℕ) (x y : Node) (X Y : Triple) → x.from.0 ≡ X.from → x.to.0 ≡ X.to → y.to.0 ≡ Y.to → of_node qs (pair_node o i j x y) X Y ≡ giving o X Y
  unfolding symbol_numbered giving
  node_gives Join i j x y X Y e f g = rw (e, g)
  node_gives Conjunction i j x y X Y e f g = rw (e, f)
  node_gives BranchRight i j x y X Y e f g = rw (e, f)
  node_gives BranchLeft i j x y X Y e f g = rw (e, g)
