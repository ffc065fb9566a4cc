-- What a step follows: the tests of links and of permitted triples are what the definitions say, and the step of one name has the links of that name alone.
-- Assumes nothing.
use mathlib.Core.Path.{◌≡◌, refl, sym, subst, subst₂}
use mathlib.Core.Logic.{◌↔◌}
use mathlib.Core.Bool.{◌&&◌}
use mathlib.Core.List.{Memᴰ as In}
use Prim.Native.Nat.{ℕ, ◌≤◌}
use native.Mathlib.Nat.{lt_of_lt_of_le}
use lib.Dec.{T, eqb→eq, eqb_refl, ltb→lt, lt→ltb}
use Rattle.theory.specs.Lists.{some?, range}
use Rattle.theory.specs.PathExpr.{forward, reverse, Label, named, follows?, below?}
use Rattle.theory.specs.Register.{edge, same_edge?, Register, Linked}
use Rattle.theory.specs.Sheet.{Sheet, sheet?, permits?}
use Rattle.theory.specs.Inference.{linkable?, stepped?}
use Rattle.theory.specs.Evaluation.{follows_link?, linked?}
use Rattle.theory.proofs.Tests.{tests, bool_eq}
use Rattle.theory.proofs.Lists.{some_in, in_some, range_in}
use Rattle.theory.proofs.Sheet.{permits_inside}

pub below_mono : {m n : ℕ} → m ≤ n → (l : Label) → T (below? l m) → T (below? l n)
below_mono {m} {n} h (named l) t = lt→ltb l n (lt_of_lt_of_le (ltb→lt l m t) h)

-- ---- links of a register
module _ (r : Register) where
  pub find_linked : (l : Label) (s t : ℕ) → T (linked? r l s t) → Linked r l s t
  find_linked l s t x =
      let (e, i, u) = some_in (follows_link? l s t) r.links x in
      let f : s ≡ e.from = search (tests, eqb→eq) in
      let g : t ≡ e.to = search (tests, eqb→eq) in
      (e.label, search tests, subst₂ (λ a b. In (edge a e.label b) r.links) (sym f) (sym g) i)

  pub found_linked : (l : Label) (s t : ℕ) → Linked r l s t → T (linked? r l s t)
  found_linked l s t (m, f, i) = in_some (follows_link? l s t) i (search (tests, eqb_refl))

  -- of one name
  pub linked_named : (l s t : ℕ) → Linked r (named l) s t ↔ In (edge s l t) r.links
  linked_named l s t = (λ h. subst (λ m. In (edge s m t) r.links) (sym (eqb→eq l h.0 h.1)) h.2, λ i. (l, eqb_refl l, i))

  pub linked_same : (l s t : ℕ) → linked? r (named l) s t ≡ some? (same_edge? (edge s l t)) r.links
  unfolding same_edge?
  linked_same l s t = refl

-- ---- permitted triples of a sheet
module _ (S : Sheet) where
  pub find_linkable : (l : Label) (a b : ℕ) → T (linkable? S l a b) → (m : ℕ) × T (follows? l m) × T (permits? S a m b)
  find_linkable l a b x = let (m, i, u) = some_in (λ m. follows? l m && permits? S a m b) (range S.link_names) x in (m, search tests, search tests)

  module _ (ok : T (sheet? S)) where
    pub found_linkable : (l : Label) (a m b : ℕ) → T (follows? l m) → T (permits? S a m b) → T (linkable? S l a b)
    found_linkable l a m b f p = in_some (λ m. follows? l m && permits? S a m b) (range_in S.link_names m (permits_inside S ok p).1) (search tests)

    -- of one name
    linkable_named : (l a b : ℕ) → linkable? S (named l) a b ≡ permits? S a l b
    linkable_named l a b = bool_eq (linkable? S (named l) a b) (permits? S a l b)
        (λ x. let (m, f, p) = find_linkable (named l) a b x in subst (λ k. T (permits? S a k b)) (sym (eqb→eq l m f)) p)
        (λ p. found_linkable (named l) a l b (eqb_refl l) p)

    pub stepped_forward : (l a b : ℕ) → stepped? S forward (named l) a b ≡ permits? S a l b
    stepped_forward l a b = linkable_named l a b

    pub stepped_reverse : (l a b : ℕ) → stepped? S reverse (named l) a b ≡ permits? S b l a
    stepped_reverse l a b = linkable_named l b a
