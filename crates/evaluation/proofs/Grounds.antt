-- A register's file in rows: what is known of its sizes.
-- Assumes nothing.
use mathlib.Core.Path.{◌≡◌, refl, sym, ap}
use mathlib.Core.Bool.{true, false≢true}
use mathlib.Core.Option.{Option, none, some}
use Rattle.theory.specs.PathExpr.{PathExpr}
use mathlib.Core.List.{List}
use Prim.Native.Nat.{ℕ, ◌*◌, ◌≤◌}
use native.Mathlib.Nat.{mul-le-mul}
use native.Mathlib.Omega.{arith}
use Rattle.theory.specs.Register.{records}
use Rattle.theory.specs.Words.{row_words}
use Rattle.register.specs.LinksAhead.{Accepted}
use Rattle.register.specs.Form.{register_in}
use Rattle.register.proofs.AcceptedRegister.{Limits, accepted_register}
use Rattle.evaluation.specs.Grounded.{Grounded, path?}
use Rattle.evaluation.specs.declared.ground.Ground.{Ground}

module _ {s : List ℕ} {n w : ℕ} (g : Grounded s n w) where
  pub limits : Limits (register_in s)
  limits = accepted_register s (register_in s) g.accepted

  pub few : n ≤ 1024
  few = omega (arith, g.count, limits.few_records)

  pub rows_hold : n ≤ 64 * w
  rows_hold = omega (arith, g.wide)

  pub narrow : w ≤ 16
  narrow = omega (arith, g.wide, few)

  pub small : n * w ≤ 16384
  small = omega (arith, mul-le-mul few narrow)

pub stands : {s : List ℕ} {n w : ℕ} → Accepted s → records (register_in s) ≡ n → w ≡ row_words n → Grounded s n w
stands a c w = record { accepted = a; count = c; wide = sym w }

-- a path that is there
pub path_is : (o : Option PathExpr) → path? o ≡ true → (p : PathExpr) × (o ≡ some p)
path_is none e = absurd (false≢true e)
path_is (some p) e = (p, refl)

pub is_path : {o : Option PathExpr} {p : PathExpr} → o ≡ some p → path? o ≡ true
is_path e = ap path? e

pub grounded : (g : Ground) → Grounded g.register.file.now g.register.records g.words
grounded g = record { accepted = g.register.accepted; count = sym g.register.counted; wide = g.wide }
