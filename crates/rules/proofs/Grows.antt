-- A part that grows by a list, piece by piece: what is left to add, put onto what stands, makes the whole.
-- Assumes nothing.
use mathlib.Core.Path.{◌≡◌, refl, sym, ap, ◌∙◌}
use mathlib.Core.List.{List, [], ◌∷◌, ◌++◌}
use Prim.Native.Nat.{ℕ, ◌+◌, ◌<◌, ◌≤◌}
use native.Mathlib.Omega.{arith}
use lib.ListN.{length}
use Rattle.theory.specs.Lists.{adjoin_all}
use Rattle.theory.specs.Inference.{Triple, triple?, distinct}
use Rattle.theory.proofs.Distinct.{adjoin_all_append, adjoin_all_longer}
use Rattle.rows.specs.Kept.{Kept}
use Rattle.rows.proofs.Words.{kept_refl, kept_trans, kept_in}
use Rattle.triples.specs.declared.Node.{Node}
use Rattle.triples.specs.Paths.{triple_of, Sound}
use Rattle.triples.specs.Parts.{part_of, Added}
use Rattle.triples.proofs.Growing.{length_part, added_kept}
use Rattle.rules.specs.Outcome.{Done, Adds, with_new}
use Rattle.rules.specs.Requirements.{Room}

-- the part from s on has come from ws₀ to ws and `count` triples, and `rest` is still to be added to make `all`
pub record Growing (qs ws₀ ws : List ℕ) (u s count : ℕ) (all rest : List Triple) : Type 0 where
  pub kept : Kept u (s + 129) ws₀ ws
  pub sound : Sound qs ws (s + count)
  pub total : with_new qs ws s count rest ≡ all
  pub few : count ≤ 128
  pub more : u ≤ s + count

pub grows_start : {qs ws : List ℕ} {s count : ℕ} (rest : List Triple) → Room qs ws s count → Growing qs ws ws (s + count) s count (with_new qs ws s count rest) rest
grows_start {ws = ws} {s} {count} rest h = record { kept = kept_refl (s + count) (s + 129) ws; sound = h.sound; total = refl; few = h.few; more = omega arith }

-- a rule's part: nothing stands yet
pub rule_starts : {qs ws : List ℕ} {s : ℕ} (rest : List Triple) → Room qs ws s 0 → Growing qs ws ws s s 0 (distinct rest) rest
unfolding part_of
rule_starts {ws = ws} {s} rest h = record { kept = kept_refl s (s + 129) ws; sound = h.sound; total = refl; few = h.few; more = omega arith }

module _ {qs ws₀ ws : List ℕ} {u s count : ℕ} {all rest : List Triple} (g : Growing qs ws₀ ws u s count all rest) where
  -- what the next piece's function asks
  pub grows_room : {k : ℕ} → Room qs ws₀ s k → Room qs ws s count
  grows_room h = record { room = omega (arith, h.room, g.kept.len); numbers = h.numbers; sound = g.sound; few = g.few }

  pub grows_over : rest ≡ [] → Done qs ws₀ ws u s count all
  grows_over e =
      record {
        kept = g.kept;
        sound = g.sound;
        few = λ h. ap (adjoin_all triple? (part_of qs ws s count)) (sym e) ∙ g.total;
        many = λ h. absurd (omega (arith, g.few));
        bound = omega (arith, g.few);
      }

  -- a piece is added: what it is is said over the words as they stand, and over those of the start
  module _ {ws' : List ℕ} {r : ℕ} (here here₀ later : List Triple) (d : Adds qs ws ws' s count r here) (e : here ≡ here₀) (f : rest ≡ here₀ ++ later) where
    kept_both : Kept u (s + 129) ws₀ ws'
    kept_both = kept_trans g.kept d.kept (omega arith) g.more (omega arith) (omega arith)

    whole : adjoin_all triple? (with_new qs ws s count here) later ≡ all
    whole =
        ap (λ (l : List Triple). adjoin_all triple? (with_new qs ws s count l) later) e
        ∙ sym (adjoin_all_append triple? (part_of qs ws s count) here₀ later)
        ∙ ap (adjoin_all triple? (part_of qs ws s count)) (sym f)
        ∙ g.total

    pub grows_turn : r ≤ 128 → Growing qs ws₀ ws' u s r all later
    grows_turn m =
        let p = d.few m in
        record {
          kept = kept_both;
          sound = d.sound;
          total = ap (λ (l : List Triple). adjoin_all triple? l later) p ∙ whole;
          few = m;
          more = omega (arith, g.more, length_part qs ws s count, length_part qs ws' s r, ap length p, adjoin_all_longer triple? (part_of qs ws s count) here);
        }

    pub grows_many : 128 < r → Done qs ws₀ ws' u s r all
    grows_many m =
        record {
          kept = kept_both;
          sound = d.sound;
          few = λ h. absurd (omega arith);
          many = λ h. omega (arith, d.many m, ap length whole, adjoin_all_longer triple? (with_new qs ws s count here) later);
          bound = d.bound;
        }

-- all of a rule's part at once
pub rule_added : {qs ws ws' : List ℕ} {s r : ℕ} (all : List Triple) → Adds qs ws ws' s 0 r all → Done qs ws ws' s s r (distinct all)
unfolding part_of
rule_added {s = s} all d = let q : s + 0 ≡ s = omega arith in rw q at d

-- ---- one node
pub none_added : {qs ws : List ℕ} {s count : ℕ} (here : List Triple) → Room qs ws s count → here ≡ [] → Adds qs ws ws s count count here
none_added here h e = grows_over (grows_start here h) e

pub one_added : {qs ws ws' : List ℕ} {s count r : ℕ} {n : Node} (t : Triple) (here : List Triple) → Room qs ws s count → Added qs ws ws' s count n r → triple_of qs ws' (s + count) ≡ t → here ≡ t ∷ []
    → Adds qs ws ws' s count r here
one_added {qs} {ws} {ws'} {s} {count} {r} t here h a e f =
    let p : part_of qs ws' s r ≡ with_new qs ws s count here = a.part_is ∙ rw (e, f) in
    record {
      kept = kept_in (added_kept a) (omega arith) (omega (arith, h.few));
      sound = a.sound;
      few = λ l. p;
      many = λ l. omega (arith, ap length p, length_part qs ws' s r);
      bound = omega (arith, a.at_most, h.few);
    }
