-- What is written of a well-formed question is read as that question: `read (encode v) ≡ got v`.
-- Assumes nothing.
use Prim.Native.Nat.{ℕ, suc, ◌+◌, ◌-◌, ◌<◌}
use mathlib.Core.Path.{◌≡◌, refl, ap, ◌∙◌, sym, subst}
use mathlib.Core.Bool.{true}
use mathlib.Core.List.{List, [], ◌∷◌, ◌++◌, append_assoc, append-nil}
use lib.ListN.{length, take, drop}
use native.Mathlib.Omega.{arith}
use borrow.Author.Tests.{le-leb, eq-eqb, ne_eqb}
use Rattle.theory.specs.PathExpr.{before?}
use Rattle.symbols.specs.declared.Stack.{Stack}
use Rattle.theory.specs.Result.{Result, got}
use Rattle.fields.specs.Table.{rows, rows_of}
use Rattle.fields.specs.Reading.{eight, due_rows, fitting, kept, read}
use Rattle.symbols.specs.Symbols.{Numbered, arity, push}
use Rattle.symbols.proofs.Symbols.{push_got, push_anywhere}
use Rattle.fields.proofs.ReaderLoop.{Going, going_start, going_ends, going_more}
use Rattle.narrowed_question.specs.declared.Standing.{Standing}
use Rattle.narrowed_question.specs.declared.Standing.TheVariants.{Head, Between, Within}
use Rattle.narrowed_question.specs.Form.{Flat, order_codes, due, count_of, fresh, open_of, grown, member_symbol, Gathered, gathered, narrowed_format, narrowed_form}
use Rattle.fields.specs.Writing.{two_bytes, eight_bytes}
use Rattle.symbols.specs.Writing.{symbol_tag, symbol_body, symbol_bytes, symbols_bytes}
use Rattle.narrowed_question.specs.Writing.{head_bytes, members_bytes, encode}
use Rattle.symbols.specs.Symbols.{Fine, Runs}
use Rattle.narrowed_question.specs.Formed.{Formed, InOrder, WellFormed}
use Rattle.fields.proofs.Bytes.{word_back, eight_back}
use Rattle.fields.proofs.Lies.{field_lies, ends_lie}
use Rattle.symbols.proofs.Bytes.{symbol_fits, symbol_short, symbol_reads}
use Rattle.narrowed_question.proofs.MembersAhead.{member_of, one_more}

pub head_fits : fitting (due Head) 0x41 2 ≡ true
unfolding fitting due_rows rows_of rows
head_fits = refl

pub open_fits : (left : ℕ) → 0 < left → fitting (due (Between left)) 0x42 17 ≡ true
unfolding fitting due_rows rows_of rows
open_fits left h = rw (ne_eqb left 0 (omega arith)) refl

-- what is kept once its 42 opens a member
abbrev pub opened : Gathered → Flat → Gathered
opened g m = gathered g.prev g.members m.from m.to []

-- the body of its 42
abbrev pub head_body : Flat → List ℕ
head_body m = length m.symbols ∷ (eight_bytes m.from ++ eight_bytes m.to)

pub from_back : (m : Flat) → eight (head_body m) 1 ≡ m.from
unfolding eight
from_back m = eight_back m.from

pub to_back : (m : Flat) → eight (head_body m) 9 ≡ m.to
unfolding eight
to_back m = eight_back m.to

module _ (s : List ℕ) (A : Result (List Flat)) where
  -- a state is reached at a place from which r lies
  abbrev Reaches : Standing × Gathered → List ℕ → Type 0
  Reaches st r = (a : ℕ) × Going narrowed_form s A st a × (drop a s ≡ r)

  module _ (left : ℕ) where
    -- one symbol's field
    one_forth : (place : ℕ) (o : Stack) (g : Gathered) (at : ℕ) (x : Numbered) (r : List ℕ) (q : Stack) (st : Standing × Gathered) → Going narrowed_form s A (Within left place o, g) at
        → drop at s ≡ symbol_bytes x ++ r → Fine x → 0 < o.left → push o 0 0 (arity x.number) ≡ got q → kept narrowed_format g (got (grown left place x q)) ≡ got st
        → Reaches st r
    unfolding member_symbol
    one_forth place o g at x r q st go e f l p w =
        let t = symbol_tag x in
        let b = symbol_body x in
        let n = length b in
        let y = field_lies (due (Within left place o)) s at t b r e (symbol_short x) (symbol_fits o x l) in
        let j : narrowed_form.judge (Within left place o, g) at (at + 3 + n) t (take n (drop (at + 3) s)) ≡ got st =
        rw (y.inner, symbol_reads at x f, push_anywhere o 0 0 at (at + 3 + n) (arity x.number) q p) w in
        (at + 3 + n, going_more narrowed_form s A (Within left place o, g) at go t n y.seen st j, y.after)

    -- the symbols of an open member
    abbrev Done : Gathered → List Numbered → List ℕ → Type 0
    Done g xs r = Reaches (Between left, gathered (order_codes xs) (g.members ++ (member_of g xs ∷ [])) 0 0 []) r

    symbols_forth : (place : ℕ) (ys : List Numbered) (o : Stack) (g : Gathered) (at : ℕ) (r : List ℕ) → Going narrowed_form s A (Within left place o, g) at → drop at s ≡ symbols_bytes ys ++ r
        → Runs o ys → length ys ≡ o.left → 0 < o.left → before? g.prev (order_codes (g.sofar ++ ys)) ≡ true → Done g (g.sofar ++ ys) r
    symbols_forth place [] o g at r go e u l k b = absurd (omega arith)
    symbols_forth place (x ∷ []) o g at r go e u l k b =
        let q = u.1.0 in
        let hq = (push_got o 0 0 (arity x.number) q u.1.1).0 in
        let z : q.left ≡ 0 = omega arith in
        one_forth place o g at x r q _ go (e ∙ ap (λ (m : List ℕ). m ++ r) (append-nil (symbol_bytes x))) u.0 k u.1.1 (simp (eq-eqb q.left 0 z, b))
    symbols_forth place (x ∷ (y ∷ ys)) o g at r go e u l k b =
        let q = u.1.0 in
        let hq = (push_got o 0 0 (arity x.number) q u.1.1).0 in
        let z : q.left ≡ 0 → ⊥ = omega arith in
        let g' : Gathered = gathered g.prev g.members g.from g.to (one_more g x) in
        let (a, go', e') = one_forth place o g at x (symbols_bytes (y ∷ ys) ++ r) q (Within left place q, g') go (e ∙ append_assoc (symbol_bytes x) (symbols_bytes (y ∷ ys)) r) u.0 k u.1.1
        (simp (ne_eqb q.left 0 z)) in
        let c = append_assoc g.sofar (x ∷ []) (y ∷ ys) in
        subst (λ (m : List Numbered). Done g m r) c
        (symbols_forth place (y ∷ ys) q g' a r go' e' u.1.2 (omega arith) (omega arith) (subst (λ (m : List Numbered). before? g.prev (order_codes m) ≡ true) (sym c) b))

    -- 42
    open_forth : (m : Flat) (g : Gathered) (at : ℕ) (r : List ℕ) → Formed m → Going narrowed_form s A (Between (suc left), g) at → drop at s ≡ head_bytes m ++ r
        → Reaches (Within left at (fresh (length m.symbols)), opened g m) r
    unfolding open_of
    open_forth m g at r f go e =
        let y = field_lies (due (Between (suc left))) s at 0x42 (head_body m) r e (omega arith) (open_fits (suc left) (omega arith)) in
        let i : suc left - 1 ≡ left = omega arith in
        let n = length m.symbols in
        let j : narrowed_form.judge (Between (suc left), g) at (at + 3 + 17) 0x42 (take 17 (drop (at + 3) s)) ≡ got (Within left at (fresh n), opened g m) =
        rw (y.inner, le-leb 1 n f.some, le-leb n 48 f.few, from_back m, to_back m) (ap (λ (k : ℕ). got (Within k at (fresh n), opened g m)) i) in
        (at + 3 + 17, going_more narrowed_form s A (Between (suc left), g) at go 0x42 17 y.seen (Within left at (fresh n), opened g m) j, y.after)

  members_forth : (rest : List Flat) (g : Gathered) (at : ℕ) → Going narrowed_form s A (Between (length rest), g) at → drop at s ≡ members_bytes rest
      → InOrder g.prev rest → A ≡ got (g.members ++ rest)
  members_forth [] g at go e c = going_ends narrowed_form s A (Between 0, g) at go (ends_lie (due (Between 0)) s at e refl) ∙ ap got (sym (append-nil g.members))
  members_forth (m ∷ rest) g at go e c =
      let n = length rest in
      let f = c.0 in
      let (a, g₁, e₁) = open_forth n m g at (symbols_bytes m.symbols ++ members_bytes rest) f go (e ∙ append_assoc (head_bytes m) (symbols_bytes m.symbols) (members_bytes rest)) in
      let (a₂, g₂, e₂) = symbols_forth n at m.symbols (fresh (length m.symbols)) (opened g m) a (members_bytes rest) g₁ e₁ f.runs refl f.some c.1.0 in
      members_forth rest _ a₂ g₂ e₂ c.1.1 ∙ ap got (append_assoc g.members (m ∷ []) rest)

pub read_encode : (v : List Flat) → WellFormed v → read narrowed_form (encode v) ≡ got v
unfolding encode count_of
read_encode v w =
    let s = encode v in
    let A = read narrowed_form s in
    let empty = gathered [] [] 0 0 [] in
    let y = field_lies (due Head) s 0 0x41 (two_bytes (length v)) (members_bytes v) refl (omega arith) head_fits in
    let h = word_back (length v) in
    let j : narrowed_form.judge (Head, empty) 0 5 0x41 (take 2 (drop 3 s)) ≡ got (Between (length v), empty) = rw (h, le-leb (length v) 128 w.few) in
    members_forth s A v empty 5 (going_more narrowed_form s A (Head, empty) 0 (going_start narrowed_form s) 0x41 2 y.seen (Between (length v), empty) j) y.after w.in_order
