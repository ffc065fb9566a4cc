-- The length of a field that was found, and that one was due.
-- Assumes nothing.
use mathlib.Core.Path.{◌≡◌, refl, ◌∙◌}
use mathlib.Core.Bool.{Bool, true, false, cond, ◌&&◌}
use mathlib.Core.List.{List, [], ◌∷◌}
use Prim.Native.Nat.{ℕ, ◌+◌, ◌<◌}
use native.Mathlib.Omega.{arith}
use borrow.Author.Tests.{eqb-false}
use lib.Dec.{eqb}
use Rattle.fields.specs.Table.{tag_length, rows, rows_of}
use Rattle.fields.specs.Reading.{body, field_at, due_rows, tags_due}
use Rattle.fields.proofs.Rows.{OneOf}
use Rattle.fields.proofs.Fields.{found, found_one}
use Rattle.fields.specs.declared.File.TheVariants as file
use Rattle.register.specs.declared.Progress.{Progress}
use Rattle.field_reader.specs.declared.Standing.{Standing}
use Rattle.field_reader.specs.declared.Standing.TheVariants.{Head, Within}
use Rattle.register.specs.Form.{due_tag, due, complete?}
use Rattle.register.specs.Internal.{BodyReady}

pub head_length : (s : List ℕ) (at t n : ℕ) → field_at (due Head) s at ≡ body t n → n ≡ 4
unfolding due_rows rows_of rows
head_length s at t n e = (found_one file.Register (0x31 ∷ []) false false (found (due Head) s at t n e)).1.1

module _ (q : Progress) (s : List ℕ) (at t n : ℕ) (e : field_at (due (Within q)) s at ≡ body t n) where
  pub entry_due : complete? q ≡ false
  entry_due = (found_one file.Register (due_tag q ∷ []) (complete? q) (complete? q) (found (due (Within q)) s at t n e)).0

  pub entry_length : n ≡ cond (eqb q.kindless 0) 5 1
  unfolding due_rows rows_of rows
  entry_length = by_kind (eqb q.kindless 0) (found_one file.Register (due_tag q ∷ []) (complete? q) (complete? q) (found (due (Within q)) s at t n e)).1
    where
      by_kind : (c : Bool) → OneOf (due_rows (tags_due file.Register (cond c 0x33 0x32 ∷ []) (complete? q) false)) t n → n ≡ cond c 5 1
      by_kind true o = o.1
      by_kind false o = o.1

-- where not both are 0, one is due
pub some_due : (q : Progress) → complete? q ≡ false → 0 < q.kindless + q.left
some_due q e = by_tests (eqb q.kindless 0) (eqb q.left 0) refl refl e
  where
    by_tests : (x y : Bool) → eqb q.kindless 0 ≡ x → eqb q.left 0 ≡ y → (x && y) ≡ false → 0 < q.kindless + q.left
    by_tests true true a b e = let z : ◌≡◌ {A = ℕ} 0 1 = cc in absurd (omega arith)
    by_tests true false a b e = let h : q.left ≡ 0 → ⊥ = eqb-false q.left 0 b in omega arith
    by_tests false y a b e = let h : q.kindless ≡ 0 → ⊥ = eqb-false q.kindless 0 a in omega arith

pub ready : (st : Standing Progress) (s : List ℕ) (at t n : ℕ) → field_at (due st) s at ≡ body t n → BodyReady st n
unfolding tag_length rows
ready Head s at t n e = head_length s at t n e
ready (Within q) s at t n e = (entry_length q s at t n e ∙ by_kind (eqb q.kindless 0), some_due q (entry_due q s at t n e))
  where
    by_kind : (c : Bool) → cond c 5 1 ≡ tag_length (cond c 0x33 0x32)
    by_kind true = refl
    by_kind false = refl
