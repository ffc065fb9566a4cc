-- A part that grows by a list for each number of a range, number by number.
-- Assumes nothing.
use mathlib.Core.Path.{◌≡◌, refl, sym, subst}
use mathlib.Core.List.{List, [], ◌++◌}
use Prim.Native.Nat.{ℕ, suc, ◌+◌, ◌-◌, ◌<◌, ◌≤◌}
use native.Mathlib.Numerals.{add-one}
use native.Mathlib.Omega.{arith}
use Rattle.theory.specs.Lists.{concat_map, tabulate, range}
use Rattle.theory.specs.Inference.{Triple}
use Rattle.rules.specs.Outcome.{Done, Adds, with_new}
use Rattle.rules.specs.Requirements.{Room}
use Rattle.rules.proofs.Grows.{Growing, grows_start, grows_room, grows_over, grows_turn, grows_many}

-- what is left of a range: the lists of numbers j to e
abbrev pub ahead : (ℕ → List Triple) → ℕ → ℕ → List Triple
ahead f j e = concat_map f (tabulate (λ k. k) j (e - j))

module _ (f : ℕ → List Triple) (j e : ℕ) where
  ahead_next : j < e → ahead f j e ≡ f j ++ ahead f (j + 1) e
  ahead_next h = let q : e - j ≡ suc (e - (j + 1)) = omega arith in rw (q, add-one j)

  ahead_over : e ≤ j → ahead f j e ≡ []
  ahead_over h = let q : e - j ≡ 0 = omega arith in rw q

ahead_all : (f : ℕ → List Triple) (e : ℕ) → ahead f 0 e ≡ concat_map f (range e)
ahead_all f e = let q : e - 0 ≡ e = omega arith in rw q

pub record Ranging (qs ws₀ ws : List ℕ) (u s count : ℕ) (all : List Triple) (f : ℕ → List Triple) (j e : ℕ) : Type 0 where
  pub to : j ≤ e
  pub grows : Growing qs ws₀ ws u s count all (ahead f j e)

pub ranging_start : {qs ws : List ℕ} {s start : ℕ} (f : ℕ → List Triple) (e : ℕ) → Room qs ws s start
    → Ranging qs ws ws (s + start) s start (with_new qs ws s start (concat_map f (range e))) f 0 e
ranging_start {qs} {ws} {s} {start} f e h =
    record {
      to = omega arith;
      grows = subst (λ (l : List Triple). Growing qs ws ws (s + start) s start (with_new qs ws s start (concat_map f (range e))) l) (sym (ahead_all f e))
          (grows_start (concat_map f (range e)) h);
    }

module _ {qs ws₀ ws : List ℕ} {u s count : ℕ} {all : List Triple} {f : ℕ → List Triple} {j e : ℕ} (g : Ranging qs ws₀ ws u s count all f j e) where
  pub ranging_room : {k : ℕ} → Room qs ws₀ s k → Room qs ws s count
  ranging_room h = grows_room g.grows h

  pub ranging_over : e ≤ j → Done qs ws₀ ws u s count all
  ranging_over l = grows_over g.grows (ahead_over f j e l)

  module _ (l : j < e) {ws' : List ℕ} {r : ℕ} (d : Adds qs ws ws' s count r (f j)) where
    pub ranging_turn : r ≤ 128 → Ranging qs ws₀ ws' u s r all f (j + 1) e
    ranging_turn m = record { to = omega arith; grows = grows_turn g.grows (f j) (f j) (ahead f (j + 1) e) d refl (ahead_next f j e l) m }

    pub ranging_many : 128 < r → Done qs ws₀ ws' u s r all
    ranging_many m = grows_many g.grows (f j) (f j) (ahead f (j + 1) e) d refl (ahead_next f j e l) m
