-- What is known where a symbol's field was found.
-- Assumes nothing.
use Prim.Native.Nat.{ℕ, ◌+◌, ◌<◌, ◌≤◌}
use mathlib.Core.Path.{◌≡◌, refl, ap, sym, ◌∙◌}
use mathlib.Core.Logic.{inl, inr}
use mathlib.Core.Bool.{false}
use mathlib.Core.List.{List, [], ◌∷◌}
use lib.ListN.{length, take, drop}
use lib.Dec.{eqb}
use native.Mathlib.Omega.{arith}
use borrow.Author.Tests.{eqb-false}
use Rattle.fields.specs.declared.File.{File}
use Rattle.fields.specs.declared.File.TheVariants.{Sheet, Question, Register, Narrowed}
use Rattle.fields.specs.Table.{rows, rows_of, tag_length}
use Rattle.fields.specs.Reading.{body, field_at, due_rows, tags_due}
use Rattle.fields.proofs.Rows.{OneOf}
use Rattle.fields.proofs.Fields.{Found, found, found_one, body_length}
use Rattle.symbols.specs.declared.Stack.{Stack}
use Rattle.symbols.specs.Symbols.{due_symbols, symbol_length}

-- within a path, a field that fits has a symbol's tag and its length, and a symbol is due
record SymbolDue (q : Stack) (t n : ℕ) : Type 0 where
  some : q.left ≡ 0 → ⊥
  low : 0x43 ≤ t
  high : t ≤ 0x45
  len : n ≡ symbol_length t

symbol_due : (f : File) (q : Stack) (s : List ℕ) (at t n : ℕ) → Found (due_symbols f q) s at t n → SymbolDue q t n
unfolding due_rows rows_of rows tag_length
symbol_due f q s at t n r =
    let (b, o) = found_one f (0x43 ∷ 0x44 ∷ 0x45 ∷ []) (eqb q.left 0) (eqb q.left 0) r in
    by_file f (eqb-false q.left 0 b) o
  where
    is : (u m : ℕ) → (q.left ≡ 0 → ⊥) → 0x43 ≤ u → u ≤ 0x45 → m ≡ symbol_length u → (t ≡ u) × (n ≡ m) → SymbolDue q t n
    is u m some low high e h = record { some = some; low = omega (arith, h.0); high = omega (arith, h.0); len = h.1 ∙ e ∙ ap symbol_length (sym h.0) }

    by_file : (f : File) → (q.left ≡ 0 → ⊥) → OneOf (due_rows (tags_due f (0x43 ∷ 0x44 ∷ 0x45 ∷ []) false false)) t n → SymbolDue q t n
    by_file Sheet some o = absurd o
    by_file Register some o = absurd o
    by_file Question some (inl h) = is 0x43 2 some (omega arith) (omega arith) refl h
    by_file Question some (inr h) = is 0x44 1 some (omega arith) (omega arith) refl h
    by_file Narrowed some (inl h) = is 0x43 2 some (omega arith) (omega arith) refl h
    by_file Narrowed some (inr (inl h)) = is 0x44 1 some (omega arith) (omega arith) refl h
    by_file Narrowed some (inr (inr h)) = is 0x45 8 some (omega arith) (omega arith) refl h

-- what is known where a symbol's field was found
pub record InPath (q : Stack) (s : List ℕ) (at t n : ℕ) : Type 0 where
  pub room : at + 3 + n ≤ length s
  pub long : length (take n (drop (at + 3) s)) ≡ symbol_length t
  pub low : 0x43 ≤ t
  pub high : t ≤ 0x45
  pub some : 0 < q.left

pub in_path : (f : File) (q : Stack) (s : List ℕ) (at t n : ℕ) → field_at (due_symbols f q) s at ≡ body t n → InPath q s at t n
in_path f q s at t n e =
    let r = found (due_symbols f q) s at t n e in
    let g = symbol_due f q s at t n r in
    record { room = r.room; long = body_length r ∙ g.len; low = g.low; high = g.high; some = omega (arith, g.some) }
