-- A walk over the rows: it goes down into a row that it has not met, or back.
-- Assumes nothing.
use mathlib.Core.Path.{◌≡◌, refl, sym, ◌∙◌}
use mathlib.Core.Bool.{true, ◌&&◌, not}
use mathlib.Core.List.{List, [], ◌∷◌, ◌++◌}
use Rattle.std.specs.Prelude.{Option, Some, None, IfSome}
use mathlib.Core.Logic.{⊎_elim}
use Prim.Native.Nat.{ℕ, ◌*◌, ◌/◌, ◌≤◌, ◌<◌}
use native.Mathlib.Nat.{eq-or-lt_of_le}
use native.Mathlib.Omega.{arith}
use lib.Dec.{eqb}
use lib.ListN.{length, get_or-append}
use Rattle.std.proofs.lemmas.List.{length-append, get_or_at}
use borrow.Author.Tests.{eq-eqb}
use Rattle.rows.specs.Row.{row_bit, Put, common, Found}
use Rattle.relation.specs.Pairs.{CleanRow}
use Rattle.transitive_closure.specs.Finishing.{amount, Trail, Ahead}
use Rattle.transitive_closure.proofs.Amounts.{amount_le, amount_less}
use Rattle.transitive_closure.proofs.Rows.{and_yes, gone_off}

-- no row yet
pub trail_none : {unseen : List ℕ} {n w : ℕ} → CleanRow unseen 0 n w → w ≤ length unseen → Trail [] unseen n w
trail_none {unseen} {w = w} c m = record { marks = m; inner = c; deep = omega (arith, amount_le (row_bit unseen 0) (64 * w)); rows = λ i h. absurd (omega arith) }

-- a row that it has not met, among those of any row
pub ahead_found : (xs : List ℕ) (r : ℕ) (unseen : List ℕ) (w : ℕ) (o : Option ℕ) → Found (common xs r unseen unseen) (64 * w) o → IfSome o (Ahead unseen w)
ahead_found xs r unseen w (Some k) p =
    record { low = p.0; new = (and_yes (row_bit unseen 0 k) (row_bit unseen 0 k) (and_yes (row_bit xs r k) (row_bit unseen 0 k && row_bit unseen 0 k) (p.1.here p.0)).1).0 }
ahead_found xs r unseen w None p = tt

-- down
module _ {unseen unseen' : List ℕ} {n k : ℕ} (w : ℕ) (p : Put 0 k (λ j. row_bit unseen 0 j && not (eqb j k)) unseen unseen') (a : Ahead unseen w k)
    {stack : List ℕ} (t : Trail stack unseen n w) (hk : w ≤ 16) where
  hw : k / 64 < w
  hw = omega (arith, a.low)

  was : (j : ℕ) → j / 64 < w → row_bit unseen' 0 j ≡ true → row_bit unseen 0 j ≡ true
  was j l e = (and_yes (row_bit unseen 0 j) (not (eqb j k)) (sym ((p w hw).bit j l) ∙ e)).0

  pub trail_fewer : amount (row_bit unseen' 0) (64 * w) < amount (row_bit unseen 0) (64 * w)
  trail_fewer =
      amount_less (row_bit unseen 0) (row_bit unseen' 0) (64 * w) k (λ j l. was j (omega arith)) a.low a.new ((p w hw).bit k hw ∙ gone_off (row_bit unseen 0 k) (eqb k k) (eq-eqb k k refl))

  pub trail_room : length stack < 1024
  trail_room = omega (arith, trail_fewer, t.deep)

  pub trail_down : Trail (stack ++ k ∷ []) unseen' n w
  trail_down = record {
    marks = omega (arith, (p w hw).kept.len, t.marks);
    inner = λ j l e. t.inner j l (was j l e);
    deep = omega (arith, trail_fewer, t.deep, length-append stack (k ∷ []));
    rows = λ i q. ⊎_elim
        (λ (z : i ≡ length stack). rw (z, get_or_at stack k [] 0 (length stack) refl) (t.inner k hw a.new))
        (λ (z : i < length stack). rw (get_or-append stack (k ∷ []) 0 i z) (t.rows i z))
        (eq-or-lt_of_le (omega (arith, q, length-append stack (k ∷ []))));
  }
