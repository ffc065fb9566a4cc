-- The rule of a closure, piece after piece.
-- Assumes nothing.
use mathlib.Core.Path.{◌≡◌, sym, ap, ap₂, ◌∙◌, subst}
use mathlib.Core.Bool.{Bool, true, false}
use mathlib.Core.List.{List}
use Prim.Native.Nat.{ℕ, ◌+◌, ◌-◌, ◌<◌, ◌≤◌}
use native.Mathlib.Omega.{arith}
use lib.ListN.{length}
use Rattle.theory.specs.Lists.{adjoin_all, NoRepeat}
use Rattle.theory.specs.PathExpr.{PathExpr}
use Rattle.theory.specs.Inference.{Triple, triple?, distinct, reach, acyclic?, walks, of_closure, free, kept_closures}
use Rattle.theory.specs.Narrowing.{short?}
use Rattle.theory.proofs.Distinct.{adjoin_all_longer}
use Rattle.algorithms.proofs.Growth.{filter_norepeat, distinct_whole, closure_distinct, closure_short}
use Rattle.rows.specs.Kept.{Kept}
use Rattle.rows.proofs.Words.{kept_trans}
use Rattle.triples.specs.Paths.{original}
use Rattle.triples.specs.Parts.{part_of, span}
use Rattle.std.specs.Prelude.{Err}
use Rattle.rules.specs.declared.Excess.TheVariants.{Many, Long}
use Rattle.rules.specs.Outcome.{few_of, Ruled, Done, Adds, with_new}
use Rattle.rules.specs.Requirements.{part}
use Rattle.rules.specs.EdgeTriples.{edges_of, leaf_path, AddEdges}
use Rattle.rules.proofs.RuleOutcome.{ruled_long, ruled_many, ruled_few}
use Rattle.kind_graph.specs.Kinds.{KindGraph}
use Rattle.kind_graph.specs.Sizes.{Part}
use Rattle.closure_rule.specs.Requirements.{Closing, CopyAcyclic, GrowWalks, kept_node}
use Rattle.closure_rule.proofs.Keeping.{copied_size, kept_leaf, kept_edges}

module _ {qs ws₀ : List ℕ} {s p d o n : ℕ} (h : Closing qs ws₀ s (span p d) o n) where
  abbrev ts : List Triple
  ts = part qs ws₀ p d

  abbrev path : PathExpr
  path = original qs o n

  abbrev fs : List Triple
  fs = free 64 ts

  abbrev all : List Triple
  all = distinct (of_closure 64 path ts)

  pub rule_copies : {xs : List ℕ} → KindGraph (part qs ws₀ p d) xs → CopyAcyclic qs ws₀ xs s (span p d)
  rule_copies l = record { room = h.room; lies = h.lies; few = h.few; linked = l }

  module _ {ws₁ : List ℕ} {f : ℕ} (c : Done qs ws₀ ws₁ s s f (distinct (free 64 (part qs ws₀ p d))) × (f ≤ 128)) where
    norepeat : NoRepeat fs
    norepeat = filter_norepeat (acyclic? (reach 64 ts)) ts h.norepeat

    part_is : part_of qs ws₁ s f ≡ fs
    part_is = c.0.few c.1 ∙ distinct_whole fs norepeat

    pub rule_walks : Part qs ws₁ (span s (s + f))
    rule_walks = record { sound = c.0.sound; in_table = omega (arith, h.room.room, c.0.kept.len); ordered = omega arith }

    module _ {r : Bool} (k : r ≡ short? (walks 24 (part_of qs ws₁ s (s + f - s)) (part_of qs ws₁ s (s + f - s)))) where
      walks_short : short? (walks 24 fs fs) ≡ r
      walks_short =
          let z : s + f - s ≡ f = omega arith in
          let e : part_of qs ws₁ s (s + f - s) ≡ fs = ap (part_of qs ws₁ s) z ∙ part_is in
          sym (k ∙ ap (λ (l : List Triple). short? (walks 24 l l)) e)

      all_short : short? all ≡ r
      all_short = closure_short 64 path ts (omega (arith, copied_size h.copied, h.symbols)) ∙ walks_short

      pub rule_long : r ≡ false → Ruled qs ws₀ ws₁ s (distinct (of_closure 64 (original qs o n) (part qs ws₀ p d))) (Err Long)
      rule_long e = ruled_long all (all_short ∙ e) c.0.kept

      module _ (e : r ≡ true) where
        pub rule_grows : GrowWalks qs ws₁ s f
        rule_grows =
            record {
              room = record { room = omega (arith, h.room.room, c.0.kept.len); numbers = h.room.numbers; sound = c.0.sound; few = c.1 };
              norepeat = subst (λ (l : List Triple). NoRepeat l) (sym part_is) norepeat;
              short = ap (λ (l : List Triple). short? (walks 24 l l)) part_is ∙ walks_short ∙ e;
            }

        module _ {ws₂ : List ℕ} {w : ℕ} (g : Done qs ws₁ ws₂ (s + f) s w (distinct (walks 24 (part_of qs ws₁ s f) (part_of qs ws₁ s f)))) where
          walks_are : distinct (walks 24 (part_of qs ws₁ s f) (part_of qs ws₁ s f)) ≡ distinct (walks 24 fs fs)
          walks_are = ap (λ (l : List Triple). distinct (walks 24 l l)) part_is

          kept_two : Kept s (s + 129) ws₀ ws₂
          kept_two = kept_trans c.0.kept g.kept (omega arith) (omega arith) (omega arith) (omega arith)

          -- what is kept only makes the list longer
          too_many : 128 < w → Done qs ws₀ ws₂ s s w all
          too_many m =
              record {
                kept = kept_two;
                sound = g.sound;
                few = λ l. absurd (omega arith);
                many = λ l. omega (arith, g.many m, ap length walks_are, ap length (closure_distinct 64 path ts), adjoin_all_longer triple? (distinct (walks 24 fs fs)) (kept_closures 64 path ts));
                bound = g.bound;
              }

          pub rule_many : 128 < w → Ruled qs ws₀ ws₂ s (distinct (of_closure 64 (original qs o n) (part qs ws₀ p d))) (Err Many)
          rule_many m = ruled_many (all_short ∙ e) (too_many m) m

          module _ {xs : List ℕ} (l : KindGraph (part qs ws₀ p d) xs) (m : w ≤ 128) where
            pub rule_keeps : AddEdges qs ws₂ xs 64 (kept_node o n) s w
            rule_keeps =
                record {
                  leaf = kept_leaf h.copied h.place h.symbols;
                  room = record { room = omega (arith, h.room.room, kept_two.len); numbers = h.room.numbers; sound = g.sound; few = m };
                  rows = omega (arith, l.long);
                  kinds = omega arith;
                }

            module _ {ws₃ : List ℕ} {k₃ : ℕ} (a : Adds qs ws₂ ws₃ s w k₃ (edges_of xs (leaf_path qs (kept_node o n)) 64)) where
              all_are : with_new qs ws₂ s w (edges_of xs (leaf_path qs (kept_node o n)) 64) ≡ all
              all_are = ap₂ (λ (ys zs : List Triple). adjoin_all triple? ys zs) (g.few m ∙ walks_are) (kept_edges l qs o n) ∙ sym (closure_distinct 64 path ts)

              done : Done qs ws₀ ws₃ s s k₃ all
              done =
                  record {
                    kept = kept_trans kept_two a.kept (omega arith) (omega arith) (omega arith) (omega arith);
                    sound = a.sound;
                    few = λ b. a.few b ∙ all_are;
                    many = λ b. omega (arith, a.many b, ap length all_are);
                    bound = a.bound;
                  }

              pub rule_told : Ruled qs ws₀ ws₃ s (distinct (of_closure 64 (original qs o n) (part qs ws₀ p d))) (few_of k₃)
              rule_told = ruled_few (all_short ∙ e) done
