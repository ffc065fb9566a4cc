-- Node numbers sorted in an array: the turns of the two loops; the members of a part are its sorted nodes, with neighbours merged.
-- Assumes nothing.
use mathlib.Core.Path.{◌≡◌, refl, sym, ap, ap₂, ◌∙◌, subst}
use mathlib.Core.Bool.{Bool, true, false}
use mathlib.Core.Logic.{⊎_elim}
use mathlib.Core.List.{List, [], ◌∷◌, ◌++◌, map, append_assoc, Memᴰ as In}
use Prim.Native.Nat.{ℕ, zero, suc, ◌+◌, ◌-◌, ◌<◌, ◌≤◌}
use native.Mathlib.Nat.{eq-or-lt_of_le}
use native.Mathlib.Omega.{arith}
use lib.Dec.{T}
use lib.ListN.{length, get_or, set, length-set}
use lib.Seq.{get_or-set_same, get_or-set_other}
use Rattle.theory.specs.Lists.{tabulate}
use Rattle.theory.specs.PathExpr.{PathExpr, plain?, links?, size}
use Rattle.theory.specs.Sheet.{Sheet}
use Rattle.theory.specs.Inference.{Triple, triples}
use Rattle.theory.specs.Merging.{Member, of_triple, members}
use Rattle.algorithms.specs.Sorting.{place, sorted, ahead?, grouped}
use Rattle.theory.proofs.Lists.{tabulate_in}
use Rattle.algorithms.proofs.Sorting.{sorted_map, members_sorted}
use Rattle.theory.proofs.TriplePaths.{triples_linked, triples_inferred}
use Rattle.rows.proofs.Words.{le_or_lt}
use Rattle.triples.specs.Paths.{triple_of}
use Rattle.triples.specs.Parts.{part_of}
use Rattle.merge.specs.Arrays.{segment}
use Rattle.merge.specs.Arranging.{earlier?, member_at, Suits, Usable, Placing, Placed, Arranging, Arranged}
use Rattle.merge.proofs.Segments.{segment_next, segment_end, segment_same, segment_set}

-- ---- node t at k: those before k stand, those behind it are to be compared
pub record Going (qs ws xs ys : List ℕ) (used i n t k : ℕ) : Type 0 where
  pub from_i : i ≤ k
  pub to_n : k < n
  pub same_length : length ys ≡ length xs
  pub left : segment ys i k ++ place (earlier? qs ws) t (segment ys (k + 1) n) ≡ place (earlier? qs ws) t (segment xs (i + 1) n)
  pub done : (j : ℕ) → i ≤ j → j < k → Usable qs ws used (get_or ys j 0)
  pub rest : (j : ℕ) → k < j → j < n → Usable qs ws used (get_or ys j 0)

module _ {qs ws xs : List ℕ} {used i n t : ℕ} (h : Placing qs ws xs used i n t) where
  pub place_start : Going qs ws xs xs used i n t i
  place_start =
      record {
        from_i = omega arith;
        to_n = h.inside;
        same_length = refl;
        left = rw (segment_end xs i i (omega arith));
        done = λ j a b. absurd (omega arith);
        rest = h.items;
      }

  module _ {ys : List ℕ} {k : ℕ} (g : Going qs ws xs ys used i n t k) where
    in_array : k < length ys
    in_array = omega (arith, g.to_n, h.fits, g.same_length)

    other : (v j : ℕ) → ¬ (j ≡ k) → Usable qs ws used (get_or ys j 0) → Usable qs ws used (get_or (set ys k v) j 0)
    other v j d u = subst (λ (x : ℕ). Usable qs ws used x) (sym (get_or-set_other ys k j v 0 (omega arith))) u

    set_items : (v : ℕ) → Usable qs ws used v → (j : ℕ) → i ≤ j → j < k + 1 → Usable qs ws used (get_or (set ys k v) j 0)
    set_items v s j a b =
        ⊎_elim (λ (e : j ≡ k). subst (λ (x : ℕ). Usable qs ws used x) (sym (ap (λ (m : ℕ). get_or (set ys k v) m 0) e ∙ get_or-set_same ys k v 0 in_array)) s)
        (λ (l : j < k). other v j (omega arith) (g.done j a l))
        (eq-or-lt_of_le (omega arith))

    all_items : (v : ℕ) → Usable qs ws used v → (j : ℕ) → i ≤ j → j < n → Usable qs ws used (get_or (set ys k v) j 0)
    all_items v s j a b = ⊎_elim (λ (l : j ≤ k). set_items v s j a (omega arith)) (λ (l : k < j). other v j (omega arith) (g.rest j l b)) (le_or_lt j k)

    ends : place (earlier? qs ws) t (segment ys (k + 1) n) ≡ t ∷ segment ys (k + 1) n → Placed qs ws xs (set ys k t) used i n t
    ends e =
        record {
          same_length = length-set ys k t ∙ g.same_length;
          is = segment_set ys i k n t g.from_i g.to_n in_array ∙ ap (λ us. segment ys i k ++ us) (sym e) ∙ g.left;
          items = all_items t h.item;
        }

    pub place_over : n ≤ k + 1 → Placed qs ws xs (set ys k t) used i n t
    place_over l = ends (rw (segment_end ys (k + 1) n l))

    module _ (l : k + 1 < n) where
      pub place_asks : Usable qs ws used (get_or ys (k + 1) 0) × Usable qs ws used t
      place_asks = (g.rest (k + 1) (omega arith) l, h.item)

      pub place_found : {r : Bool} → r ≡ earlier? qs ws (get_or ys (k + 1) 0) t → r ≡ false → Placed qs ws xs (set ys k t) used i n t
      place_found d f = ends (rw (segment_next ys (k + 1) n l, sym d ∙ f))

      pub place_turn : {r : Bool} → r ≡ earlier? qs ws (get_or ys (k + 1) 0) t → r ≡ true → Going qs ws xs (set ys k (get_or ys (k + 1) 0)) used i n t (k + 1)
      place_turn d f =
          let u = get_or ys (k + 1) 0 in
          let a : segment (set ys k u) i (k + 1) ≡ segment ys i k ++ (u ∷ []) = segment_set ys i k (k + 1) u g.from_i (omega arith) in_array ∙ rw (segment_end ys (k + 1) (k + 1) (omega arith)) in
          let b : segment (set ys k u) (k + 1 + 1) n ≡ segment ys (k + 1 + 1) n = segment_same (set ys k u) ys (k + 1 + 1) n (λ j x y. get_or-set_other ys k j u 0 (omega arith)) in
          let e : place (earlier? qs ws) t (segment ys (k + 1) n) ≡ u ∷ place (earlier? qs ws) t (segment ys (k + 1 + 1) n) = rw (segment_next ys (k + 1) n l, sym d ∙ f) in
          record {
            from_i = omega (arith, g.from_i);
            to_n = l;
            same_length = length-set ys k u ∙ g.same_length;
            left = rw (a, b) (append_assoc (segment ys i k) (u ∷ []) (place (earlier? qs ws) t (segment ys (k + 1 + 1) n)) ∙ ap (λ us. segment ys i k ++ us) (sym e) ∙ g.left);
            done = set_items u place_asks.0;
            rest = λ j x y. other u j (omega arith) (g.rest j (omega arith) y);
          }

-- ---- all of a part
module _ {qs ws xs : List ℕ} {used s n : ℕ} (h : Arranging qs ws xs used s n) where
  pub node_usable : (j : ℕ) → s ≤ j → j < s + n → Usable qs ws used j
  unfolding part_of
  node_usable j a b =
      let e : s + (j - s) ≡ j = omega arith in
      record {
        has = record { in_use = omega (arith, h.in_use); in_table = h.in_table; sound = h.sound };
        suits = h.suits (triple_of qs ws j) (subst (λ (k : ℕ). In (triple_of qs ws k) (tabulate (triple_of qs ws) s n)) e (tabulate_in (triple_of qs ws) s n (j - s) (omega arith)));
      }

  pub arrange_start : Arranged qs ws xs xs used s n n
  arrange_start =
      record {
        in_n = omega arith;
        same_length = refl;
        is = (let z : n - n ≡ 0 = omega arith in rw (segment_end xs n n (omega arith), z));
        items = λ k a b. absurd (omega arith);
      }

  module _ {ys : List ℕ} {i : ℕ} (g : Arranged qs ws xs ys used s n i) (l : 0 < i) where
    pub arrange_asks : Placing qs ws ys used (i - 1) n (s + (i - 1))
    arrange_asks =
        record {
          inside = omega (arith, g.in_n);
          fits = omega (arith, h.fits, g.same_length);
          items = λ k a b. g.items k (omega arith) b;
          item = node_usable (s + (i - 1)) (omega arith) (omega (arith, g.in_n));
        }

    pub arrange_turn : {zs : List ℕ} → Placed qs ws ys zs used (i - 1) n (s + (i - 1)) → Arranged qs ws xs zs used s n (i - 1)
    arrange_turn d =
        let a : i - 1 + 1 ≡ i = omega arith in
        let b : n - (i - 1) ≡ suc (n - i) = omega (arith, g.in_n) in
        let c : suc (s + (i - 1)) ≡ s + i = omega arith in
        record {
          in_n = omega (arith, g.in_n);
          same_length = d.same_length ∙ g.same_length;
          is = d.is ∙ rw (a, b, c) (ap (place (earlier? qs ws) (s + (i - 1))) g.is);
          items = d.items;
        }

  pub arrange_over : {ys : List ℕ} {i : ℕ} → Arranged qs ws xs ys used s n i → i ≤ 0 → Arranged qs ws xs ys used s n 0
  arrange_over {ys} {i} g l = let z : i ≡ 0 = omega arith in subst (λ (k : ℕ). Arranged qs ws xs ys used s n k) z g

  -- so the members are the nodes as arranged, with neighbours merged
  pub members_arranged : {ys : List ℕ} → Arranged qs ws xs ys used s n 0 → members (part_of qs ws s n) ≡ grouped (map (member_at qs ws) (segment ys 0 n))
  unfolding part_of earlier?
  members_arranged {ys} g =
      let e : s + 0 ≡ s = omega arith in
      let q : n - 0 ≡ n = omega arith in
      members_sorted (part_of qs ws s n) (λ t i. (h.suits t i).linked)
      ∙ ap (λ ms. grouped (sorted ahead? ms)) (map_tabulate s n)
      ∙ ap grouped (sorted_map (earlier? qs ws) ahead? (member_at qs ws) (λ x y. refl) (tabulate (λ k. k) s n)
      ∙ ap (map (member_at qs ws)) (sym (g.is ∙ ap₂ (λ (a b : ℕ). sorted (earlier? qs ws) (tabulate (λ k. k) a b)) e q)))
    where
      map_tabulate : (s n : ℕ) → map of_triple (tabulate (triple_of qs ws) s n) ≡ map (member_at qs ws) (tabulate (λ k. k) s n)
      map_tabulate s zero = refl
      map_tabulate s (suc n) = ap {B = List Member} (λ ms. member_at qs ws s ∷ ms) (map_tabulate (suc s) n)

-- ---- the triples of a question are such ones
pub question_suits : (S : Sheet) (q : PathExpr) → T (plain? q) → T (links? 64 q) → ((t : Triple) → In t (triples S q) → size t.path ≤ 48) → (t : Triple) → In t (triples S q) → Suits t
question_suits S q p l short t i = record { short = short t i; inferred = triples_inferred S q p t i; linked = triples_linked S q l t i }
