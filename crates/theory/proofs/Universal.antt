-- The universal register of a sheet: a record for each kind, a link for each permitted triple. It conforms, and each triple of a question is there a pair
-- of its own path, and so of the question.
-- Assumes nothing.
use mathlib.Core.Path.{◌≡◌, refl, sym, subst, subst₂}
use mathlib.Core.Bool.{◌&&◌}
use mathlib.Core.List.Memᴰ.{eq_of_singleton as in_one}
use mathlib.Core.List.Memᴰ.{head as here}
use mathlib.Core.List.{List, [], ◌∷◌, Memᴰ as In}
use Prim.Native.Nat.{ℕ, ◌<◌}
use lib.Dec.{T, ltb, lt→ltb}
use lib.ListN.{length}
use Rattle.theory.specs.Lists.{every?, guard, concat_map, range}
use Rattle.theory.specs.KindSet.{has, singleton}
use Rattle.theory.specs.PathExpr.{Direction, Label, follows?, Via, any, through, Op, PathExpr, step, join, op, closure, plain?}
use Rattle.theory.specs.Register.{Edge, edge, Register, kind, well_formed?, Linked, Holds}
use Rattle.theory.specs.Sheet.{Sheet, sheet?, permits?, kind_known?, link_permitted?, conforms?}
use Rattle.theory.specs.Derivation.{along, back, joins, Operate, union_left, union_right, conjoins, branches_right, branches_left, Walk, first, then, Closure, kept, unrolled, Derives}
use Rattle.theory.specs.Demand3.{Witness}
use Rattle.theory.proofs.Tests.{tests, and_both}
use Rattle.theory.proofs.Lists.{in_guard, guard_in, in_concat_map, concat_map_in, in_every, range_in, in_range, range_at, length_tabulate}
use Rattle.theory.proofs.KindSet.{has_singleton}
use Rattle.theory.proofs.Sheet.{permits_inside}
use Rattle.theory.proofs.Rules.{walk_map}
use Rattle.theory.proofs.KindsOfSheet.{derives_inside}
use Rattle.theory.proofs.Soundness.{erase_holds, walk_sound, derives_sound}

-- the permitted triples from a, those of link l among them, and all
abbrev edges_at : Sheet → ℕ → ℕ → List Edge
edges_at S a l = concat_map (λ b. guard (permits? S a l b) (edge a l b ∷ [])) (range S.kinds)

abbrev edges_from : Sheet → ℕ → List Edge
edges_from S a = concat_map (edges_at S a) (range S.link_names)

unfoldable edges : Sheet → List Edge
edges S = concat_map (edges_from S) (range S.kinds)

pub universal : Sheet → Register
universal S = record { kinds = range S.kinds; links = edges S }

kind_universal : (S : Sheet) (k : ℕ) → k < S.kinds → kind (universal S) k ≡ k
unfolding universal
kind_universal S k h = range_at S.kinds k h

in_edges : (S : Sheet) {e : Edge} → In e (edges S) → T (permits? S e.from e.label e.to)
unfolding edges
in_edges S m =
    let x = in_concat_map (edges_from S) (range S.kinds) m in
    let y = in_concat_map (edges_at S x.0) (range S.link_names) x.2 in
    let z = in_concat_map (λ b. guard (permits? S x.0 y.0 b) (edge x.0 y.0 b ∷ [])) (range S.kinds) y.2 in
    let g = in_guard (permits? S x.0 y.0 z.0) (edge x.0 y.0 z.0 ∷ []) z.2 in
    subst (λ u. T (permits? S u.from u.label u.to)) (sym (in_one g.1)) g.0

module _ (S : Sheet) (ok : T (sheet? S)) where
  edges_in : {a l b : ℕ} → T (permits? S a l b) → In (edge a l b) (edges S)
  unfolding edges
  edges_in {a} {l} {b} t =
      let i = permits_inside S ok t in
      concat_map_in (edges_from S) (range_in S.kinds a i.0)
      (concat_map_in (edges_at S a) (range_in S.link_names l i.1)
      (concat_map_in (λ b. guard (permits? S a l b) (edge a l b ∷ [])) (range_in S.kinds b i.2) (guard_in (permits? S a l b) t (here refl))))

  universal_linked : {a b : ℕ} (l : Label) (m : ℕ) → T (follows? l m) → T (permits? S a m b) → Linked (universal S) l a b
  unfolding universal
  universal_linked l m f t = (m, f, edges_in t)

  universal_well_formed : T (well_formed? (universal S))
  unfolding universal well_formed?
  universal_well_formed = in_every (λ e. ltb e.from n && ltb e.to n) (edges S) there_are
    where
      n : ℕ
      n = length (range S.kinds)

      there_are : (e : Edge) → In e (edges S) → T (ltb e.from n && ltb e.to n)
      there_are e m =
          let i = permits_inside S ok (in_edges S m) in
          let f : T (ltb e.from S.kinds) = lt→ltb e.from S.kinds i.0 in
          let g : T (ltb e.to S.kinds) = lt→ltb e.to S.kinds i.2 in
          subst (λ x. T (ltb e.from x && ltb e.to x)) (sym (length_tabulate (λ k. k) 0 S.kinds)) (search tests)

  universal_conforms : T (conforms? S (universal S))
  unfolding universal conforms?
  universal_conforms =
      and_both (every? (kind_known? S) (range S.kinds)) (every? (link_permitted? S U) (edges S))
      (in_every (kind_known? S) (range S.kinds) (λ k m. lt→ltb k S.kinds (in_range S.kinds m)))
      (in_every (link_permitted? S U) (edges S) links)
    where
      U : Register
      U = record { kinds = range S.kinds; links = edges S }

      links : (e : Edge) → In e (edges S) → T (link_permitted? S U e)
      links e m =
          let p = in_edges S m in
          let i = permits_inside S ok p in
          subst₂ (λ x y. T (permits? S x e.label y)) (sym (kind_universal S e.from i.0)) (sym (kind_universal S e.to i.2)) p

  -- ---- a derived triple is there a pair of its own path
  abbrev U : Register
  U = universal S

  at_kind : (k : ℕ) → k < S.kinds → T (has (singleton k) (kind U k))
  at_kind k h = subst (λ j. T (has (singleton k) j)) (sym (kind_universal S k h)) (has_singleton k)

  abbrev Own : PathExpr → Type 0
  Own o = (a : ℕ) (p : PathExpr) (b : ℕ) → Derives S o a p b → Holds U p a b

  step_own : (d : Direction) (l : Label) → Own (step d l)
  step_own d l a p b (along m f t) = universal_linked l m f t
  step_own d l a p b (back m f t) = universal_linked l m f t

  join_own : (v : Via) (o₁ o₂ : PathExpr) → Own o₁ → Own o₂ → Own (join v o₁ o₂)
  join_own v o₁ o₂ f g a p b (joins {b = z} {p = p₁} {q = p₂} x y) = (z, f a p₁ z x, g z p₂ b y, at_kind z (derives_inside S ok o₁ a p₁ z x).1)

  op_own : (o₁ o₂ : PathExpr) → Own o₁ → Own o₂ → {o : Op} {a b : ℕ} {p : PathExpr} → Operate (Derives S o₁) (Derives S o₂) o a p b → Holds U p a b
  op_own o₁ o₂ f g (union_left {a} {b} {p} x) = f a p b x
  op_own o₁ o₂ f g (union_right {a} {b} {q} y) = g a q b y
  op_own o₁ o₂ f g (conjoins {a} {b} {p} {q} x y) = (f a p b x, g a q b y)
  op_own o₁ o₂ f g (branches_right {a} {b} {c} {p} {q} x y) = (f a p b x, (c, g b q c y))
  op_own o₁ o₂ f g (branches_left {a} {b} {c} {p} {q} x y) = (g a q b y, (c, f a p c x))

  walk_own : (o : PathExpr) → Own o → {a b : ℕ} {p : PathExpr} {ks : List ℕ} → Walk (Derives S o) a p b ks → Holds U p a b
  walk_own o f (first {a} {b} {p} x) = f a p b x
  walk_own o f (then {b = z} {c = c} {q = q} w x) = (z, walk_own o f w, f z q c x, at_kind z (derives_inside S ok o z q c x).0)

  -- a kept closure holds what its walk holds, which is sound
  closure_own : (o : PathExpr) → T (plain? o) → Own o → {a b : ℕ} {p : PathExpr} → Closure (Derives S o) o a p b → Holds U p a b
  closure_own o e f (kept {a} {b} {p = p} {ks = ks} w i r) = walk_sound U o a p b ks (walk_map (derives_sound U S o) w) e a b (erase_holds U p a b (walk_own o f w))
  closure_own o e f (unrolled w un) = walk_own o f w

  pub derives_own : (o : PathExpr) → T (plain? o) → Own o
  derives_own (step d l) e = step_own d l
  derives_own (join any o₁ o₂) e = join_own any o₁ o₂ (derives_own o₁ (search tests)) (derives_own o₂ (search tests))
  derives_own (join (through m) o₁ o₂) e = absurd e
  derives_own (op o o₁ o₂) e = λ a p b x. op_own o₁ o₂ (derives_own o₁ (search tests)) (derives_own o₂ (search tests)) x
  derives_own (closure o) e = λ a p b x. closure_own o e (derives_own o e) x

  -- so it is a pair of the question
  pub derives_held : (o : PathExpr) → T (plain? o) → (a : ℕ) (p : PathExpr) (b : ℕ) → Derives S o a p b → Holds U o a b
  derives_held o e a p b x = derives_sound U S o a p b x e a b (erase_holds U p a b (derives_own o e a p b x))

  -- a pair there of kinds that are so is a witness
  pub universal_witness : (q : PathExpr) (P : ℕ → ℕ → Type 0) (a b : ℕ) → a < S.kinds → b < S.kinds → Holds U q a b → P a b → Witness S q P
  universal_witness q P a b f g h e = record {
    register = U;
    well_formed = universal_well_formed;
    conforms = universal_conforms;
    from = a;
    to = b;
    holds = h;
    kinds = subst₂ P (sym (kind_universal S a f)) (sym (kind_universal S b g)) e;
  }
