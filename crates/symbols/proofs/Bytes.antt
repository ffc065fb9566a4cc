-- A symbol's field, both ways: its bytes as they were read, and what is read from its bytes.
-- Assumes nothing.
use Prim.Native.Nat.{ℕ, zero, suc, ◌-◌, ◌<◌, ◌≤◌}
use mathlib.Core.Path.{◌≡◌, refl, ap, ◌∙◌, sym, subst}
use mathlib.Core.Logic.{inl, inr}
use mathlib.Core.Bool.{Bool, true, false, cond, ◌&&◌}
use mathlib.Core.List.{List, [], ◌∷◌}
use lib.ListN.{length, get_or}
use lib.Dec.{leb, ltb, eqb, ltb→lt, lt→ltb}
use native.Mathlib.Omega.{arith}
use borrow.Author.Tests.{eqb-true, eqb-false, ltb-true, leb-true, lt-ltb, le-leb, lt-leb, ne_eqb}
use Rattle.theory.specs.Result.{got, refused}
use Rattle.fields.specs.Reading.{eight, fitting, due_rows, tags_due}
use Rattle.theory.specs.PathExpr.{forward, reverse, named, any, through, union, conjunction, branch_right, branch_left, Symbol, s_step, s_join, s_op, s_closure}
use Rattle.symbols.specs.Symbols.{Numbered, numbered, symbol_of, symbol_numbered, operator_numbered, number_symbol, direction_numbered, symbol_given}
use Rattle.symbols.specs.Symbols.{step_of, operator_of, symbol_in, symbol_length, due_symbols}
use Rattle.fields.proofs.Bools.{cond_then, not_got, and_left, and_right}
use Rattle.fields.specs.Writing.{Bytes, eight_bytes, field_bytes}
use Rattle.symbols.specs.Writing.{direction_number, tag_of, body_of, symbol_tag, symbol_body, symbol_bytes}
use Rattle.symbols.specs.Symbols.{Fine}
use Rattle.fields.specs.declared.File.TheVariants as file
use Rattle.symbols.specs.declared.Stack.{Stack}
use Rattle.fields.specs.Table.{rows, tag_length, field_size, rows_of}
use Rattle.symbols.proofs.Numbers.{Held, number_of, symbol_comes, operator_number, given_symbol}
use Rattle.fields.proofs.Bytes.{listed, eight_of, eight_set, eight_back}

-- ---- a symbol that was read: its field's bytes, and its ranges
abbrev Split : ℕ → List ℕ → Numbered → Type 0
Split t b x = (field_bytes t b ≡ symbol_bytes x) × Fine x

-- the bytes of a symbol, by its number
numbered_bytes : (s : Symbol) → Held s → symbol_bytes (number_symbol s) ≡ field_bytes (tag_of s) (body_of (number_symbol s).number s)
numbered_bytes s h = ap (λ (r : Symbol). field_bytes (tag_of r) (body_of (number_symbol s).number r)) (number_of s h).back

direction_back : (d : ℕ) → d < 2 → direction_number (direction_numbered d) ≡ d
direction_back zero h = refl
direction_back (suc zero) h = refl
direction_back (suc (suc d)) h = absurd (omega arith)

step_split : (at : ℕ) (b : List ℕ) (x : Numbered) → length b ≡ 2 → step_of at b ≡ got x → Split 0x43 b x
unfolding step_of
step_split at b x l e =
    let d = get_or b 0 0 in
    let k = get_or b 1 0 in
    let a = cond_then (ltb d 2 && ltb k 64) (not_got 3 at x) e in
    let s = s_step (direction_numbered d) (named k) in
    let z : number_symbol s ≡ x = cc a.1 in
    let hd = ltb-true d 2 (and_left _ (ltb k 64) a.0) in
    let hk = ltb-true k 64 (and_right (ltb d 2) _ a.0) in
    let held = lt→ltb k 64 hk in
    let y = numbered_bytes s held ∙ ap (λ (n : ℕ). field_bytes 0x43 (n ∷ k ∷ [])) (direction_back d hd) in
    subst (λ (u : Numbered). Split 0x43 b u) z (ap (field_bytes 0x43) (listed 2 b l) ∙ sym y, (number_of s held).fine)

-- an operator has its number as body
operator_field : (c k : ℕ) → field_bytes (tag_of (operator_numbered k)) (body_of c (operator_numbered k)) ≡ field_bytes 0x44 (c ∷ [])
operator_field c zero = refl
operator_field c (suc zero) = refl
operator_field c (suc (suc zero)) = refl
operator_field c (suc (suc (suc zero))) = refl
operator_field c (suc (suc (suc (suc zero)))) = refl
operator_field c (suc (suc (suc (suc (suc k))))) = refl

pub operator_bytes : (c m : ℕ) → 128 ≤ c → ¬ (c ≡ 255) → symbol_bytes (numbered c m) ≡ field_bytes 0x44 (c ∷ [])
operator_bytes c m l n = ap (λ (s : Symbol). field_bytes (tag_of s) (body_of c s)) (operator_number c m l n) ∙ operator_field c (c - 128)

operator_split : (at : ℕ) (b : List ℕ) (x : Numbered) → length b ≡ 1 → operator_of at b ≡ got x → Split 0x44 b x
unfolding operator_of
operator_split at b x l e =
    let o = get_or b 0 0 in
    let a = cond_then (leb 128 o && leb o 133) (not_got 3 at x) e in
    let z : numbered o 0 ≡ x = cc a.1 in
    let low = leb-true 128 o (and_left _ (leb o 133) a.0) in
    let high = leb-true o 133 (and_right (leb 128 o) _ a.0) in
    let y = operator_bytes o 0 low (λ e. omega arith) in
    subst (λ (u : Numbered). Split 0x44 b u) z (ap (field_bytes 0x44) (listed 1 b l) ∙ sym y, inl (omega arith, refl))

pub symbol_split : (at t : ℕ) (b : List ℕ) (x : Numbered) → Bytes b → 0x43 ≤ t → t ≤ 0x45 → length b ≡ symbol_length t → symbol_in at t b ≡ got x → Split t b x
unfolding symbol_in tag_length rows symbol_numbered
symbol_split at t b x h low high l e = by_tag (eqb t 0x43) (eqb t 0x44) refl refl l e
  where
    by_tag : (p q : Bool) → eqb t 0x43 ≡ p → eqb t 0x44 ≡ q → length b ≡ cond p (tag_length 0x43) (cond q (tag_length 0x44) (tag_length 0x45))
        → cond p (step_of at b) (cond q (operator_of at b) (got (numbered 255 (eight b 0)))) ≡ got x → Split t b x
    by_tag true q ep eq l e = subst (λ (u : ℕ). Split u b x) (sym (eqb-true t 0x43 ep)) (step_split at b x l e)
    by_tag false true ep eq l e = subst (λ (u : ℕ). Split u b x) (sym (eqb-true t 0x44 eq)) (operator_split at b x l e)
    by_tag false false ep eq l e =
        let y : t ≡ 0x43 → ⊥ = eqb-false t 0x43 ep in
        let z : t ≡ 0x44 → ⊥ = eqb-false t 0x44 eq in
        let w : 0x45 ≡ t = omega (arith, low, high) in
        let v : numbered 255 (eight b 0) ≡ x = cc in
        subst (λ (u : ℕ). Split u b x) w (subst (λ (u : Numbered). Split 0x45 b u) v (ap (field_bytes 0x45) (listed 8 b l ∙ sym (eight_of b h 0)), inr (refl, eight_set b h 0)))

-- ---- a symbol's bytes are read as it
pub symbol_fits : (q : Stack) (x : Numbered) → 0 < q.left → fitting (due_symbols file.Narrowed q) (symbol_tag x) (length (symbol_body x)) ≡ true
unfolding fitting due_rows rows_of rows
symbol_fits q x h = rw (ne_eqb q.left 0 (omega arith)) (go (symbol_of x))
  where
    go : (s : Symbol) → fitting (tags_due file.Narrowed (0x43 ∷ 0x44 ∷ 0x45 ∷ []) false false) (tag_of s) (length (body_of x.number s)) ≡ true
    go (s_step d l) = refl
    go (s_join any) = refl
    go (s_join (through m)) = refl
    go (s_op o) = refl
    go s_closure = refl

pub symbol_short : (x : Numbered) → length (symbol_body x) < 65536
symbol_short x = go (symbol_of x)
  where
    go : (s : Symbol) → length (body_of x.number s) < 65536
    go (s_step d l) = omega arith
    go (s_join any) = omega arith
    go (s_join (through m)) = omega arith
    go (s_op o) = omega arith
    go s_closure = omega arith

-- whatever the set is
pub through_reads : (at m : ℕ) → symbol_in at 0x45 (eight_bytes m) ≡ got (numbered 255 m)
unfolding symbol_in
through_reads at m = ap (λ (n : ℕ). got (numbered 255 n)) (eight_back m)

body_reads : (at : ℕ) (s : Symbol) → Held s → symbol_in at (tag_of s) (body_of (number_symbol s).number s) ≡ got (number_symbol s)
unfolding symbol_in step_of operator_of
body_reads at (s_step forward (named l)) h = rw (lt-ltb l 64 (ltb→lt l 64 h))
body_reads at (s_step reverse (named l)) h = rw (lt-ltb l 64 (ltb→lt l 64 h))
body_reads at (s_join any) h = refl
body_reads at (s_join (through m)) h = through_reads at m
body_reads at (s_op union) h = refl
body_reads at (s_op conjunction) h = refl
body_reads at (s_op branch_right) h = refl
body_reads at (s_op branch_left) h = refl
body_reads at s_closure h = refl

pub symbol_reads : (at : ℕ) (x : Numbered) → Fine x → symbol_in at (symbol_tag x) (symbol_body x) ≡ got x
symbol_reads at x f =
    let c = symbol_comes x f in
    ap (λ (y : Numbered). symbol_in at (symbol_tag x) (body_of y.number (symbol_of x))) (sym c.1) ∙ body_reads at (symbol_of x) c.0 ∙ ap got c.1

-- ---- the bytes of a symbol of two arrays
pub given_bytes : (c m : ℕ) {s : Symbol} → symbol_numbered c m ≡ s → symbol_bytes (symbol_given c m) ≡ field_bytes (tag_of s) (body_of c s)
given_bytes c m e = ap (λ (s : Symbol). field_bytes (tag_of s) (body_of c s)) (given_symbol c m ∙ e)

-- its field is as long as the tag says
pub field_length : (c : ℕ) (s : Symbol) → length (field_bytes (tag_of s) (body_of c s)) ≡ field_size (tag_of s)
unfolding field_size tag_length rows
field_length c (s_step d l) = refl
field_length c (s_join any) = refl
field_length c (s_join (through m)) = refl
field_length c (s_op o) = refl
field_length c s_closure = refl

-- the set does not matter to the tag
pub tag_same : (c m : ℕ) → tag_of (symbol_numbered c m) ≡ tag_of (symbol_numbered c 0)
unfolding symbol_numbered
tag_same c m = go (ltb c 64) (ltb c 128) (eqb c 255)
  where
    go : (a b e : Bool) → tag_of (cond a (s_step forward (named c)) (cond b (s_step reverse (named (c - 64))) (cond e (s_join (through m)) (operator_numbered (c - 128)))))
        ≡ tag_of (cond a (s_step forward (named c)) (cond b (s_step reverse (named (c - 64))) (cond e (s_join (through 0)) (operator_numbered (c - 128)))))
    go true b e = refl
    go false true e = refl
    go false false true = refl
    go false false false = refl

-- ---- a number that is no symbol's is refused where its field is read
pub operator_refused : (at c : ℕ) → 134 ≤ c → operator_of at (c ∷ []) ≡ refused 3 at
unfolding operator_of
operator_refused at c l = rw (le-leb 128 c (omega arith), lt-leb c 133 (omega arith))
