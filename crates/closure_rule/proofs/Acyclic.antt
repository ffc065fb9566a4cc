-- The triples of a part that meet no cyclic kind, copied node by node.
-- Assumes nothing.
use mathlib.Core.Path.{◌≡◌, sym, ap, ◌∙◌, subst}
use mathlib.Core.Bool.{Bool, true, false, cond}
use mathlib.Core.List.{List, [], ◌∷◌}
use Prim.Native.Nat.{ℕ, ◌+◌, ◌<◌, ◌≤◌}
use native.Mathlib.Omega.{arith}
use lib.ListN.{length}
use Rattle.theory.specs.Lists.{filter}
use Rattle.theory.specs.Inference.{Triple, triple, distinct, reach, acyclic?, free}
use Rattle.triples.specs.declared.Node.{Node}
use Rattle.triples.specs.Table.{Loaded}
use Rattle.triples.specs.Paths.{triple_of}
use Rattle.triples.specs.Parts.{Candidate, Added, span}
use Rattle.triples.proofs.Triples.{triple_kept, triple_from, triple_to}
use Rattle.triples.proofs.Growing.{part_next, part_over}
use Rattle.rules.specs.Outcome.{Done}
use Rattle.rules.specs.Requirements.{Room, part}
use Rattle.rules.proofs.Grows.{Growing, rule_starts, grows_room, grows_over, grows_turn}
use Rattle.rules.proofs.Copies.{copy_candidate, copy_added}
use Rattle.kind_graph.specs.Kinds.{TellsAcyclic}
use Rattle.closure_rule.specs.Requirements.{CopyAcyclic}

-- the nodes p to j are looked at: those from j on are left
pub record AcyclicGrowing (qs ws₀ ws : List ℕ) (s p d count j : ℕ) : Type 0 where
  pub to : j ≤ d
  pub fewer : p + count ≤ j
  pub grows : Growing qs ws₀ ws s s count (distinct (free 64 (part qs ws₀ p d))) (filter (acyclic? (reach 64 (part qs ws₀ p d))) (part qs ws₀ j d))

module _ {qs ws₀ xs : List ℕ} {s p d : ℕ} (h : CopyAcyclic qs ws₀ xs s (span p d)) where
  abbrev test : Triple → Bool
  test = acyclic? (reach 64 (part qs ws₀ p d))

  pub acyclic_start : AcyclicGrowing qs ws₀ ws₀ s p d 0 p
  acyclic_start = record { to = h.lies.ordered; fewer = omega arith; grows = rule_starts (free 64 (part qs ws₀ p d)) h.room }

  module _ {ws : List ℕ} {count j : ℕ} (g : AcyclicGrowing qs ws₀ ws s p d count j) where
    pub acyclic_over : d ≤ j → Done qs ws₀ ws s s count (distinct (free 64 (part qs ws₀ p d))) × (count ≤ 128)
    acyclic_over l = (grows_over g.grows (ap (filter test) (part_over qs ws₀ j d l)), g.grows.few)

    module _ (l : j < d) where
      room : Room qs ws s count
      room = grows_room g.grows h.room

      below : j < s + count
      below = omega (arith, h.lies.below)

      pub acyclic_load : j < length ws
      acyclic_load = omega (arith, room.room, h.lies.below)

      module _ {n : Node} (x : Loaded ws j n) where
        pub acyclic_asks : Candidate qs ws s count n
        acyclic_asks = copy_candidate room below x

        kept : triple_of qs ws j ≡ triple_of qs ws₀ j
        kept = triple_kept g.grows.kept qs j (omega (arith, h.lies.below))

        -- the test is of the node's ends
        ends : triple n.from.0 (triple_of qs ws j).path n.to.0 ≡ triple_of qs ws₀ j
        ends =
            let a : n.from.0 ≡ (triple_of qs ws j).from = ap (λ (m : Node). m.from.0) x.is ∙ sym (triple_from qs ws j) in
            let b : n.to.0 ≡ (triple_of qs ws j).to = ap (λ (m : Node). m.to.0) x.is ∙ sym (triple_to qs ws j) in
            (λ i. record { from = a i; path = (triple_of qs ws j).path; to = b i }) ∙ kept

        module _ {r : Bool} (tells : TellsAcyclic xs n.from.0 n.to.0 r) where
          told : r ≡ test (triple_of qs ws₀ j)
          told = tells (part qs ws₀ p d) h.linked (triple_of qs ws j).path ∙ ap test ends

          next : filter test (part qs ws₀ j d) ≡ cond r (triple_of qs ws₀ j ∷ filter test (part qs ws₀ (j + 1) d)) (filter test (part qs ws₀ (j + 1) d))
          next = ap (filter test) (part_next qs ws₀ j d l) ∙ rw told

          pub acyclic_skip : r ≡ false → AcyclicGrowing qs ws₀ ws s p d count (j + 1)
          acyclic_skip f =
              record {
                to = omega arith;
                fewer = omega (arith, g.fewer);
                grows = subst (λ (rest : List Triple). Growing qs ws₀ ws s s count (distinct (free 64 (part qs ws₀ p d))) rest) (next ∙ rw f) g.grows;
              }

          pub acyclic_turn : r ≡ true → {ws' : List ℕ} {k : ℕ} → Added qs ws ws' s count n k → AcyclicGrowing qs ws₀ ws' s p d k (j + 1)
          acyclic_turn f a =
              record {
                to = omega arith;
                fewer = omega (arith, g.fewer, a.at_most);
                grows = grows_turn g.grows (triple_of qs ws j ∷ []) (triple_of qs ws₀ j ∷ []) (filter test (part qs ws₀ (j + 1) d)) (copy_added room below x a)
                    (ap (λ (t : Triple). t ∷ []) kept) (next ∙ rw f) (omega (arith, g.fewer, a.at_most, h.few));
              }
