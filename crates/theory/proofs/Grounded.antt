-- In the list of a question's parts, each part stands behind its own parts: where those before it are short, its own are.
-- Assumes nothing.
use mathlib.Core.Path.{◌≡◌, sym, ap, ◌∙◌, subst}
use mathlib.Core.Logic.{◌⊎◌, inl, inr, ⊎_elim}
use mathlib.Core.List.Memᴰ.{append_cases as in-append}
use mathlib.Core.List.Memᴰ.{eq_of_singleton as in_one}
use mathlib.Core.List.{List, [], ◌∷◌, ◌++◌, append-nil, append_assoc, Memᴰ as In}
use lib.Dec.{T}
use Rattle.theory.specs.PathExpr.{PathExpr, step, join, op, closure, parts}
use Rattle.theory.specs.Sheet.{Sheet}
use Rattle.theory.specs.Inference.{triples}
use Rattle.theory.specs.Narrowing.{short?}
use Rattle.theory.proofs.Inference.{Short}
use Rattle.theory.proofs.Refusals.{ShortBelow}

module _ (S : Sheet) where
  -- of the parts xs, each has short parts of its own, if those of K and those before it are short
  abbrev pub Grounded : (PathExpr → Type 0) → List PathExpr → Type 0
  Grounded K [] = Unit {0}
  Grounded K (x ∷ xs) = (((u : PathExpr) → K u → T (short? (triples S u))) → ShortBelow S x) × Grounded (λ u. K u ⊎ (u ≡ x)) xs

  grounded_map : {K L : PathExpr → Type 0} → ((u : PathExpr) → K u → L u) → (xs : List PathExpr) → Grounded K xs → Grounded L xs
  grounded_map f [] g = tt
  grounded_map f (x ∷ xs) g = (λ h. g.0 (λ u k. h u (f u k)), grounded_map (λ u. ⊎_elim (λ k. inl (f u k)) (λ e. inr e)) xs g.1)

  one_part : (K : PathExpr → Type 0) (o : PathExpr) (rest : List PathExpr) → (((u : PathExpr) → K u → T (short? (triples S u))) → ShortBelow S o)
      → Grounded (λ u. K u ⊎ In u (o ∷ [])) rest → Grounded K (o ∷ rest)
  one_part K o rest h g = (h, grounded_map (λ u. ⊎_elim (λ k. inl k) (λ i. inr (in_one i))) rest g)

  -- o stands behind the parts of x and of y
  two_operands : (x y o : PathExpr) → (Short S x → Short S y → ShortBelow S o)
      → ((K : PathExpr → Type 0) (rest : List PathExpr) → Grounded (λ u. K u ⊎ In u (parts x)) rest → Grounded K (parts x ++ rest))
      → ((K : PathExpr → Type 0) (rest : List PathExpr) → Grounded (λ u. K u ⊎ In u (parts y)) rest → Grounded K (parts y ++ rest))
      → (K : PathExpr → Type 0) (rest : List PathExpr) → Grounded (λ u. K u ⊎ In u (parts x ++ (parts y ++ (o ∷ [])))) rest
      → Grounded K ((parts x ++ (parts y ++ (o ∷ []))) ++ rest)
  two_operands x y o below gx gy K rest g =
      subst (Grounded K) (sym (append_assoc (parts x) (parts y ++ (o ∷ [])) rest ∙ ap (λ l. parts x ++ l) (append_assoc (parts y) (o ∷ []) rest)))
      (gx K (parts y ++ (o ∷ rest)) (gy (λ u. K u ⊎ In u (parts x)) (o ∷ rest)
      (one_part (λ u. (K u ⊎ In u (parts x)) ⊎ In u (parts y)) o rest (λ h. below (λ u m. h u (inl (inr m))) (λ u m. h u (inr m))) (grounded_map place rest g))))
    where
      place : (u : PathExpr) → K u ⊎ In u (parts x ++ (parts y ++ (o ∷ []))) → ((K u ⊎ In u (parts x)) ⊎ In u (parts y)) ⊎ In u (o ∷ [])
      place u (inl k) = inl (inl (inl k))
      place u (inr m) = ⊎_elim (λ i. inl (inl (inr i))) (λ i. ⊎_elim (λ j. inl (inr j)) (λ j. inr j) (in-append (parts y) i)) (in-append (parts x) m)

  one_operand : (x o : PathExpr) → (Short S x → ShortBelow S o)
      → ((K : PathExpr → Type 0) (rest : List PathExpr) → Grounded (λ u. K u ⊎ In u (parts x)) rest → Grounded K (parts x ++ rest))
      → (K : PathExpr → Type 0) (rest : List PathExpr) → Grounded (λ u. K u ⊎ In u (parts x ++ (o ∷ []))) rest → Grounded K ((parts x ++ (o ∷ [])) ++ rest)
  one_operand x o below gx K rest g =
      subst (Grounded K) (sym (append_assoc (parts x) (o ∷ []) rest))
      (gx K (o ∷ rest) (one_part (λ u. K u ⊎ In u (parts x)) o rest (λ h. below (λ u m. h u (inr m))) (grounded_map place rest g)))
    where
      place : (u : PathExpr) → K u ⊎ In u (parts x ++ (o ∷ [])) → (K u ⊎ In u (parts x)) ⊎ In u (o ∷ [])
      place u (inl k) = inl (inl k)
      place u (inr m) = ⊎_elim (λ i. inl (inr i)) (λ i. inr i) (in-append (parts x) m)

  grounded_parts : (o : PathExpr) (K : PathExpr → Type 0) (rest : List PathExpr) → Grounded (λ u. K u ⊎ In u (parts o)) rest → Grounded K (parts o ++ rest)
  grounded_parts (step d l) K rest g = one_part K (step d l) rest (λ _. tt) g
  grounded_parts (join v x y) K rest g = two_operands x y (join v x y) (λ a b. (a, b)) (grounded_parts x) (grounded_parts y) K rest g
  grounded_parts (op o x y) K rest g = two_operands x y (op o x y) (λ a b. (a, b)) (grounded_parts x) (grounded_parts y) K rest g
  grounded_parts (closure x) K rest g = one_operand x (closure x) (λ a. a) (grounded_parts x) K rest g

  pub grounded : (q : PathExpr) → Grounded (λ u. ⊥) (parts q)
  grounded q = subst (Grounded (λ u. ⊥)) (append-nil (parts q)) (grounded_parts q (λ u. ⊥) [] tt)
