-- From a part that is done to a rule's outcome; what the outcome says of the part.
-- Assumes nothing.
use mathlib.Core.Path.{◌≡◌, refl, sym, ap, ◌∙◌, subst}
use mathlib.Core.Bool.{Bool, true, false, cond}
use Rattle.std.specs.Prelude.{Result, Ok, Err}
use mathlib.Core.List.{List}
use Prim.Native.Nat.{ℕ, ◌+◌, ◌<◌, ◌≤◌}
use native.Mathlib.Omega.{arith}
use lib.ListN.{length}
use lib.Dec.{leb}
use borrow.Author.Tests.{le-leb, lt-leb, leb-true, leb-false}
use Rattle.theory.specs.PathExpr.{PathExpr}
use Rattle.theory.specs.Sheet.{Sheet}
use Rattle.theory.specs.Inference.{Triple, triples}
use Rattle.theory.specs.Narrowing.{short?, few?, part_fault}
use Rattle.rows.specs.Kept.{Kept}
use Rattle.triples.specs.Paths.{Sound}
use Rattle.triples.specs.Parts.{part_of}
use Rattle.triples.proofs.Growing.{length_part}
use Rattle.rules.specs.declared.Excess.{Excess}
use Rattle.rules.specs.declared.Excess.TheVariants.{Many, Long}
use Rattle.rules.specs.Outcome.{outcome, few_of, fault_of, Ruled, Done}

abbrev Made : ℕ → Result ℕ Excess
Made n = Ok n

made_is : {m n : ℕ} → Made m ≡ Made n → m ≡ n
made_is e = cc

not_made : {A : Type 0} (x : Excess) (n : ℕ) → Err x ≡ Made n → A
not_made x n e = let z : ◌≡◌ {A = ℕ} 0 1 = cc in absurd (omega arith)

refuses : {qs ws ws' : List ℕ} {s : ℕ} {all : List Triple} (x : Excess) → Err x ≡ outcome all → Kept s (s + 129) ws ws' → Ruled qs ws ws' s all (Err x)
refuses x e k = record { is = e; kept = k; sound = λ n z. not_made x n z; part = λ n z. not_made x n z; few = λ n z. not_made x n z }

pub ruled_long : {qs ws ws' : List ℕ} {s : ℕ} (all : List Triple) → short? all ≡ false → Kept s (s + 129) ws ws' → Ruled qs ws ws' s all (Err Long)
unfolding outcome
ruled_long all e k = refuses Long (rw e) k

-- ---- the number of a part's triples, told
pub few_made : {m n : ℕ} → Made m ≡ few_of n → (m ≡ n) × (n ≤ 128)
few_made {m} {n} e = go (leb n 128) refl e
  where
    go : (b : Bool) → leb n 128 ≡ b → Made m ≡ cond b (Made n) (Err Many) → (m ≡ n) × (n ≤ 128)
    go true t e = (made_is e, leb-true n 128 t)
    go false t e = not_made Many m (sym e)

pub few_not : {x : Excess} {n : ℕ} → Err x ≡ few_of n → (x ≡ Many) × (128 < n)
few_not {x} {n} e = go (leb n 128) refl e
  where
    go : (b : Bool) → leb n 128 ≡ b → Err x ≡ cond b (Made n) (Err Many) → (x ≡ Many) × (128 < n)
    go true t e = not_made x n e
    go false t e = ((cc), leb-false n 128 t)

pub ruled_by : {qs ws ws' : List ℕ} {s : ℕ} {all : List Triple} (n : ℕ) → (n ≤ 128 → Ruled qs ws ws' s all (Ok n)) → (128 < n → Ruled qs ws ws' s all (Err Many))
    → Ruled qs ws ws' s all (few_of n)
ruled_by {qs} {ws} {ws'} {s} {all} n made many = go (leb n 128) refl
  where
    go : (b : Bool) → leb n 128 ≡ b → Ruled qs ws ws' s all (cond b (Made n) (Err Many))
    go true t = made (leb-true n 128 t)
    go false t = many (leb-false n 128 t)

module _ {qs ws ws' : List ℕ} {s count : ℕ} {all : List Triple} (e : short? all ≡ true) (d : Done qs ws ws' s s count all) where
  pub ruled_many : 128 < count → Ruled qs ws ws' s all (Err Many)
  unfolding outcome
  ruled_many l = refuses Many (rw (e, lt-leb (length all) 128 (d.many l))) d.kept

  pub ruled_made : count ≤ 128 → Ruled qs ws ws' s all (Made count)
  unfolding outcome
  ruled_made l =
      let p = d.few l in
      let n : length all ≡ count = ap length (sym p) ∙ length_part qs ws' s count in
      record {
        is = rw (e, n, le-leb count 128 l);
        kept = d.kept;
        sound = λ m r. subst (λ (k : ℕ). Sound qs ws' (s + k)) (made_is r) d.sound;
        part = λ m r. subst (λ (k : ℕ). part_of qs ws' s k ≡ all) (made_is r) p;
        few = λ m r. omega (arith, made_is r);
      }

  pub ruled_few : Ruled qs ws ws' s all (few_of count)
  ruled_few = ruled_by count ruled_made ruled_many

-- ---- what an outcome says of the list
pub made_short : (all : List Triple) (n : ℕ) → Made n ≡ outcome all → short? all ≡ true
unfolding outcome
made_short all n e = go (short? all) (few? all) e
  where
    go : (a b : Bool) → Made n ≡ cond a (cond b (Made (length all)) (Err Many)) (Err Long) → a ≡ true
    go true b f = refl
    go false b f = not_made Long n (sym f)

-- the refusal of a part of the question
pub outcome_fault : (S : Sheet) (p : PathExpr) → fault_of (outcome (triples S p)) ≡ part_fault S p
unfolding outcome part_fault
outcome_fault S p = go (short? (triples S p)) (few? (triples S p))
  where
    go : (a b : Bool) → fault_of (cond a (cond b (Made (length (triples S p))) (Err Many)) (Err Long)) ≡ cond a (cond b 0 12) 13
    go true true = refl
    go true false = refl
    go false b = refl
