-- What is to come, from a place on in a file that is accepted: the members whose bytes are there.
-- Assumes nothing.
use Prim.Native.Nat.{ℕ, ◌<◌, ◌≤◌}
use mathlib.Core.Path.{◌≡◌, ap, ap₂, ◌∙◌, sym}
use mathlib.Core.Bool.{true}
use mathlib.Core.List.{List, [], ◌∷◌, ◌++◌, append_assoc}
use lib.ListN.{length, get_or, drop}
use Rattle.theory.specs.PathExpr.{before?}
use Rattle.fields.specs.Reading.{word, eight}
use Rattle.symbols.specs.Symbols.{Numbered}
use Rattle.symbols.specs.declared.Stack.{Stack}
use Rattle.narrowed_question.specs.declared.Standing.{Standing}
use Rattle.narrowed_question.specs.declared.Standing.TheVariants.{Head, Between, Within}
use Rattle.narrowed_question.specs.Form.{Flat, flat, order_codes, Gathered, gathered}
use Rattle.fields.specs.Writing.{Bytes, two_bytes, eight_bytes, field_bytes}
use Rattle.symbols.specs.Writing.{symbols_bytes}
use Rattle.narrowed_question.specs.Writing.{head_bytes, members_bytes, encode}
use Rattle.symbols.specs.Symbols.{Runs}
use Rattle.narrowed_question.specs.Formed.{InOrder, WellFormed}
use Rattle.fields.proofs.Bytes.{listed, two_word, eight_of}

-- the open member, by its symbols; and these with one more
abbrev pub member_of : Gathered → List Numbered → Flat
member_of g xs = flat g.from g.to xs

abbrev pub one_more : Gathered → Numbered → List Numbered
one_more g x = g.sofar ++ (x ∷ [])

-- ---- what is to come, from a place on
-- the members, whose bytes are there
pub record Rest (s : List ℕ) (left : ℕ) (g : Gathered) (at : ℕ) (v : List Flat) : Type 0 where
  pub rest : List Flat
  pub whole : v ≡ g.members ++ rest
  pub count : length rest ≡ left
  pub bytes : drop at s ≡ members_bytes rest
  pub order : InOrder g.prev rest

-- the open member's symbols, and the members
pub record Inside (s : List ℕ) (left : ℕ) (q : Stack) (g : Gathered) (at : ℕ) (v : List Flat) : Type 0 where
  pub ys : List Numbered
  pub rest : List Flat
  pub whole : v ≡ g.members ++ (member_of g (g.sofar ++ ys) ∷ rest)
  pub long : length ys ≡ q.left
  pub count : length rest ≡ left
  pub bytes : drop at s ≡ symbols_bytes ys ++ members_bytes rest
  pub runs : Runs q ys
  pub above : before? g.prev (order_codes (g.sofar ++ ys)) ≡ true
  pub order : InOrder (order_codes (g.sofar ++ ys)) rest

pub record Back (s : List ℕ) (v : List Flat) : Type 0 where
  pub bytes : encode v ≡ s
  pub formed : WellFormed v

abbrev pub Ahead : List ℕ → Standing × Gathered → ℕ → List Flat → Type 0
Ahead s (Head, g) at v = g ≡ gathered [] [] 0 0 [] → at ≡ 0 → Back s v
Ahead s (Between left, g) at v = at ≤ length s → Rest s left g at v
Ahead s (Within left p q, g) at v = at ≤ length s → 0 < q.left → Inside s left q g at v

-- ---- the bytes of 41 and 42
pub head_case : (s b : List ℕ) (v : List Flat) (r : List ℕ) → Bytes b → length b ≡ 2 → length v ≡ word b 0 → s ≡ field_bytes 0x41 b ++ r → r ≡ members_bytes v → encode v ≡ s
unfolding encode
head_case s b v r h l c e f =
    ap₂ (λ (x y : List ℕ). field_bytes 0x41 x ++ y) (ap two_bytes c ∙ two_word (get_or b 0 0) (get_or b 1 0) (h 0) (h 1) ∙ sym (listed 2 b l)) (sym f) ∙ sym e

open_bytes : (b : List ℕ) → Bytes b → length b ≡ 17 → b ≡ get_or b 0 0 ∷ (eight_bytes (eight b 1) ++ eight_bytes (eight b 9))
open_bytes b h l = listed 17 b l ∙ ap₂ (λ (x y : List ℕ). get_or b 0 0 ∷ (x ++ y)) (sym (eight_of b h 1)) (sym (eight_of b h 9))

pub member_case : (b r : List ℕ) (ys : List Numbered) (rest : List Flat) → Bytes b → length b ≡ 17 → length ys ≡ get_or b 0 0 → r ≡ symbols_bytes ys ++ members_bytes rest
    → field_bytes 0x42 b ++ r ≡ members_bytes (flat (eight b 1) (eight b 9) ys ∷ rest)
member_case b r ys rest i l c e =
    let m = flat (eight b 1) (eight b 9) ys in
    ap₂ (λ (x y : List ℕ). field_bytes 0x42 x ++ y) (open_bytes b i l ∙ ap (λ (k : ℕ). k ∷ (eight_bytes m.from ++ eight_bytes m.to)) (sym c)) e
    ∙ sym (append_assoc (head_bytes m) (symbols_bytes ys) (members_bytes rest))
