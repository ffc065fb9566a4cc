-- The walks over a part's triples, made by joining each triple of the part, as it grows, with each of those it began with.
-- Assumes nothing.
use mathlib.Core.Path.{◌≡◌, sym, ap, ◌∙◌, subst}
use mathlib.Core.Bool.{true}
use mathlib.Core.Logic.{⊎_elim}
use mathlib.Core.List.Memᴰ.{append_left as in_left}
use mathlib.Core.List.Memᴰ.{eq_of_singleton as in_one}
use mathlib.Core.List.{List, [], ◌∷◌, Memᴰ as In}
use Prim.Native.Nat.{ℕ, suc, ◌+◌, ◌-◌, ◌<◌, ◌≤◌}
use native.Mathlib.Omega.{arith}
use lib.Dec.{leb→le}
use lib.ListN.{length}
use Rattle.theory.specs.Lists.{adjoin_all}
use Rattle.theory.specs.PathExpr.{size}
use Rattle.theory.specs.Inference.{Triple, triple?, distinct, end_to_end?, joined, of_join, walks}
use Rattle.theory.specs.Narrowing.{short?}
use Rattle.algorithms.specs.Growth.{grown, grow}
use Rattle.theory.proofs.Tests.{of_true, to_true}
use Rattle.theory.proofs.Lists.{every_in, in_every, tabulate_in}
use Rattle.theory.proofs.Distinct.{in_adjoin_all, adjoin_all_longer}
use Rattle.theory.proofs.Triples.{in_pairs, pairs_in}
use Rattle.theory.proofs.Walks.{level, in_walks, all_walks}
use Rattle.algorithms.proofs.Growth.{grow_over, grow_turn, grow_longer, few_grown, many_grown}
use Rattle.rows.specs.Kept.{Kept}
use Rattle.rows.proofs.Words.{kept_refl, kept_trans}
use Rattle.triples.specs.Paths.{triple_of, Sound}
use Rattle.triples.specs.Parts.{part_of, span}
use Rattle.triples.proofs.Growing.{length_part, part_kept}
use Rattle.rules.specs.declared.PairOperator.TheVariants.{Join}
use Rattle.rules.specs.Outcome.{Done, Adds}
use Rattle.rules.specs.Requirements.{part, row_of, AddRow}
use Rattle.rules.proofs.Short.{short_path?}
use Rattle.rules.proofs.TwoLists.{two_join}
use Rattle.rules.proofs.Rows.{row_grown}
use Rattle.closure_rule.specs.Requirements.{GrowWalks}

-- ---- a walk and one triple more are a walk: with all walks of up to 25 triples short, there is no longer one
module _ (fs : List Triple) (short : short? (walks 24 fs fs) ≡ true) where
  small : (t : Triple) → In t (walks 24 fs fs) → size t.path ≤ 48
  small t m = leb→le (size t.path) 48 (every_in short_path? (of_true (short? (walks 24 fs fs)) short) m)

  longer_walk : {x : Triple} → In x (walks 24 fs fs) → {t : Triple} → In t (of_join (x ∷ []) fs) → In t (walks 24 fs fs)
  longer_walk {x} m {t} k =
      let r = in_pairs end_to_end? joined (x ∷ []) fs k in
      let j = in_walks fs 24 0 m in
      let y : In r.fst (level fs j.0) = subst (λ (u : Triple). In u (level fs j.0)) (sym (in_one r.in_xs)) j.1 in
      subst (λ (u : Triple). In u (walks 24 fs fs)) (sym r.given) (all_walks fs small (suc j.0) (pairs_in end_to_end? joined y r.in_ys r.fit))

-- the nodes s to i have been joined
pub record WalksGrowing (qs ws₀ ws : List ℕ) (s f count i : ℕ) : Type 0 where
  pub kept : Kept (s + f) (s + 129) ws₀ ws
  pub sound : Sound qs ws (s + count)
  pub from : s ≤ i
  pub to : i ≤ s + count
  pub few : count ≤ 128
  pub more : f ≤ count
  pub left : grow (129 - (i - s)) (part_of qs ws₀ s f) (part_of qs ws s count) (i - s) ≡ grow 129 (part_of qs ws₀ s f) (part_of qs ws₀ s f) 0
  pub walk : (t : Triple) → In t (part_of qs ws s count) → In t (walks 24 (part_of qs ws₀ s f) (part_of qs ws₀ s f))

module _ {qs ws₀ : List ℕ} {s f : ℕ} (h : GrowWalks qs ws₀ s f) where
  abbrev fs : List Triple
  fs = part_of qs ws₀ s f

  pub walks_start : WalksGrowing qs ws₀ ws₀ s f f s
  walks_start =
      let z : s - s ≡ 0 = omega arith in
      record {
        kept = kept_refl (s + f) (s + 129) ws₀;
        sound = h.room.sound;
        from = omega arith;
        to = omega arith;
        few = h.room.few;
        more = omega arith;
        left = rw z;
        walk = λ t m. in_left (walks 23 (of_join fs fs) fs) m;
      }

  module _ {ws : List ℕ} {count i : ℕ} (g : WalksGrowing qs ws₀ ws s f count i) where
    abbrev ts : List Triple
    ts = part_of qs ws s count

    pub walks_over : s + count ≤ i → Done qs ws₀ ws (s + f) s count (distinct (walks 24 (part_of qs ws₀ s f) (part_of qs ws₀ s f)))
    walks_over l =
        let e : part_of qs ws s count ≡ grow 129 fs fs 0 = sym (grow_over fs (129 - (i - s)) ts (i - s) (omega (arith, length_part qs ws s count))) ∙ g.left in
        let n : length (grow 129 fs fs 0) ≤ 128 = omega (arith, ap length e, length_part qs ws s count, g.few) in
        record {
          kept = g.kept;
          sound = g.sound;
          few = λ m. e ∙ few_grown fs h.norepeat h.short n;
          many = λ m. absurd (omega (arith, g.few));
          bound = omega (arith, g.few);
        }

    module _ (l : i < s + count) where
      -- the triples that are joined with are those of the start
      same : part qs ws s (s + f) ≡ part_of qs ws₀ s f
      same = let z : s + f - s ≡ f = omega arith in rw z (part_kept g.kept qs s f (omega arith))

      at_i : In (triple_of qs ws i) (part_of qs ws s count)
      unfolding part_of
      at_i = let z : s + (i - s) ≡ i = omega (arith, g.from) in subst (λ (k : ℕ). In (triple_of qs ws k) (part_of qs ws s count)) z
          (tabulate_in (triple_of qs ws) s count (i - s) (omega (arith, g.from)))

      row : row_of qs ws Join i s (s + f) ≡ of_join (triple_of qs ws i ∷ []) fs
      row = two_join (triple_of qs ws i ∷ []) (part qs ws s (s + f)) ∙ ap (of_join (triple_of qs ws i ∷ [])) same

      row_walk : (t : Triple) → In t (row_of qs ws Join i s (s + f)) → In t (walks 24 fs fs)
      row_walk t m = longer_walk fs h.short (g.walk (triple_of qs ws i) at_i) (subst (λ (ys : List Triple). In t ys) row m)

      pub walks_asks : AddRow qs ws Join s count i (span s (s + f))
      walks_asks =
          record {
            room = record { room = omega (arith, h.room.room, g.kept.len); numbers = h.room.numbers; sound = g.sound; few = g.few };
            i_below = l;
            lies = record { ordered = omega arith; below = omega (arith, g.more) };
            short = to_true (short? (row_of qs ws Join i s (s + f)))
                (in_every short_path? (row_of qs ws Join i s (s + f)) (λ t m. every_in short_path? (of_true (short? (walks 24 fs fs)) h.short) (row_walk t m)));
          }

      module _ {ws' : List ℕ} {r : ℕ} (d : Adds qs ws ws' s count r (row_of qs ws Join i s (s + f))) where
        turned : adjoin_all triple? ts (row_of qs ws Join i s (s + f)) ≡ grown fs ts (i - s)
        turned = row_grown qs ws s count i s (s + f) g.from l ∙ ap (λ (ys : List Triple). grown ys ts (i - s)) same

        -- one turn of the growth
        onward : grow (129 - (i + 1 - s)) fs (grown fs ts (i - s)) (i + 1 - s) ≡ grow 129 fs fs 0
        onward =
            let a : 129 - (i - s) ≡ suc (129 - (i + 1 - s)) = omega (arith, g.from, g.few) in
            let b : i + 1 - s ≡ suc (i - s) = omega (arith, g.from) in
            let e : grow (suc (129 - (i + 1 - s))) fs ts (i - s) ≡ grow 129 fs fs 0 = rw a at g.left in
            rw b (rw b at (sym (grow_turn fs (129 - (i + 1 - s)) ts (i - s) (omega (arith, g.from, length_part qs ws s count))) ∙ e))

        kept_both : Kept (s + f) (s + 129) ws₀ ws'
        kept_both = kept_trans g.kept d.kept (omega arith) (omega (arith, g.more)) (omega arith) (omega arith)

        pub walks_turn : r ≤ 128 → WalksGrowing qs ws₀ ws' s f r (i + 1)
        walks_turn m =
            let p = d.few m in
            let n : count ≤ r = omega (arith, ap length p, length_part qs ws s count, length_part qs ws' s r, adjoin_all_longer triple? ts (row_of qs ws Join i s (s + f))) in
            record {
              kept = kept_both;
              sound = d.sound;
              from = omega (arith, g.from);
              to = omega arith;
              few = m;
              more = omega (arith, g.more);
              left = rw (p, turned) onward;
              walk = λ t k. ⊎_elim (g.walk t) (row_walk t) (in_adjoin_all triple? ts (row_of qs ws Join i s (s + f)) (subst (λ (ys : List Triple). In t ys) p k));
            }

        pub walks_many : 128 < r → Done qs ws₀ ws' (s + f) s r (distinct (walks 24 (part_of qs ws₀ s f) (part_of qs ws₀ s f)))
        walks_many m =
            let n : 128 < length (grow 129 fs fs 0) = omega (arith, d.many m, ap length turned, ap length onward, grow_longer fs (129 - (i + 1 - s)) (grown fs ts (i - s)) (i + 1 - s)) in
            record {
              kept = kept_both;
              sound = d.sound;
              few = λ k. absurd (omega arith);
              many = λ k. many_grown fs h.norepeat h.short n;
              bound = d.bound;
            }
