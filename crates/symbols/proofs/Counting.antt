-- Operands counted, as a file's reader does, are paths on theory's stack: a path's symbols run, and symbols that run make a path.
-- Assumes nothing.
use Prim.Native.Nat.{ℕ, suc, zero, ◌+◌, ◌-◌, ◌<◌, ◌≤◌}
use mathlib.Core.Path.{◌≡◌, refl, sym, ap, ap₂, ◌∙◌}
use mathlib.Core.Logic.{◌⊎◌, inl, inr}
use mathlib.Core.Bool.{Bool, true, false, not, ◌&&◌}
use mathlib.Core.List.{List, [], ◌∷◌, map}
use mathlib.Core.Option.{Option, none, some}
use lib.Dec.{ltb, eqb}
use lib.ListN.{length}
use native.Mathlib.Omega.{arith}
use borrow.Author.Tests.{le-ltb, eq-eqb, ne_eqb, ltb-false, eqb-true}
use Rattle.theory.specs.PathExpr.{PathExpr, step, join, op, closure, Symbol, s_step, s_join, s_op, s_closure}
use Rattle.theory.specs.Postfix.{push as push-path, go_on, read as read-paths}
use Rattle.theory.proofs.Postfix.{none_some}
use Rattle.symbols.specs.declared.Stack.{Stack}
use Rattle.theory.specs.Result.{got}
use Rattle.symbols.specs.Symbols.{Numbered, symbol_of, operands, arity, push}
use Rattle.fields.proofs.Bools.{cond_else, not_got}
use Rattle.symbols.proofs.Symbols.{push_got}
use Rattle.symbols.specs.Symbols.{Runs}
use Rattle.symbols.specs.Symbols.{number_symbol}
use Rattle.symbols.proofs.Numbers.{AllHeld, number_of, symbol_comes}

-- ---- theory's stack: a symbol lacks an operand, or takes its operands and leaves one path
record Pushed (s : Symbol) (st : List PathExpr) : Type 0 where
  next : List PathExpr
  pushed : push-path s st ≡ some next
  enough : operands s ≤ length st
  count : length next ≡ length st - operands s + 1

abbrev Lacks : Symbol → List PathExpr → Type 0
Lacks s st = (push-path s st ≡ none) × (length st < operands s)

push_case : (s : Symbol) (st : List PathExpr) → Lacks s st ⊎ Pushed s st
push_case (s_step d l) st = inr (record { next = step d l ∷ st; pushed = refl; enough = omega arith; count = omega arith })
push_case (s_join v) [] = inl (refl, omega arith)
push_case (s_join v) (q ∷ []) = inl (refl, omega arith)
push_case (s_join v) (q ∷ p ∷ st) = inr (record { next = join v p q ∷ st; pushed = refl; enough = omega arith; count = omega arith })
push_case (s_op o) [] = inl (refl, omega arith)
push_case (s_op o) (q ∷ []) = inl (refl, omega arith)
push_case (s_op o) (q ∷ p ∷ st) = inr (record { next = op o p q ∷ st; pushed = refl; enough = omega arith; count = omega arith })
push_case s_closure [] = inl (refl, omega arith)
push_case s_closure (p ∷ st) = inr (record { next = closure p ∷ st; pushed = refl; enough = omega arith; count = omega arith })

go_on_is : (s : Symbol) (ss : List Symbol) (st : List PathExpr) (o : Option (List PathExpr)) → push-path s st ≡ o → read-paths (s ∷ ss) st ≡ go_on o (read-paths ss)
go_on_is s ss st o e = ap (λ (x : Option (List PathExpr)). go_on x (read-paths ss)) e

-- ---- the counters
abbrev counters : ℕ → ℕ → Stack
counters n d = record { left = n; depth = d }

push_counts : (n d k e : ℕ) → k ≤ d → e ≡ d - k + 1 → (n ≡ 0 → e ≡ 1) → push (counters (suc n) d) 0 0 k ≡ got (counters n e)
unfolding push
push_counts zero d k e h c l = let z = l refl in rw (le-ltb d k h, eq-eqb (d - k + 1) 1 (omega arith)) (ap (λ (x : ℕ). got (counters 0 x)) (sym c))
push_counts (suc n) d k e h c l = let i : suc (suc n) - 1 ≡ suc n = omega arith in rw (le-ltb d k h, ne_eqb (suc (suc n)) 1 (omega arith)) (ap₂ (λ (x y : ℕ). got (counters x y)) i (sym c))

-- what a push that is not refused says
push_enough : (q : Stack) (k : ℕ) (q' : Stack) → push q 0 0 k ≡ got q' → (k ≤ q.depth) × (q.left ≡ 1 → q'.depth ≡ 1)
unfolding push
push_enough q k q' e =
    let d = (push_got q 0 0 k q' e).1 in
    let a = cond_else (ltb q.depth k) (not_got 6 0 q') e in
    let b = cond_else (eqb q.left 1 && not (eqb (q.depth - k + 1) 1)) (not_got 6 0 q') a.1 in
    (ltb-false q.depth k a.0, λ l. d ∙ eqb-true (q.depth - k + 1) 1 (last (eqb q.left 1) (eqb (q.depth - k + 1) 1) (eq-eqb q.left 1 l) b.0))
  where
    last : (x y : Bool) → x ≡ true → (x && not y) ≡ false → y ≡ true
    last true true p n = refl
    last true false p n = sym n
    last false y p n = absurd (let z : ◌≡◌ {A = ℕ} 0 1 = cc in omega arith)

-- ---- a path's symbols run
at_last : (ss : List Symbol) (st : List PathExpr) (p : PathExpr) → read-paths ss st ≡ some (p ∷ []) → length ss ≡ 0 → length st ≡ 1
at_last [] st p e h = let z : st ≡ p ∷ [] = cc in ap length z
at_last (s ∷ ss) st p e h = absurd (omega arith)

pub read_runs : (ss : List Symbol) (st : List PathExpr) (p : PathExpr) → AllHeld ss → read-paths ss st ≡ some (p ∷ []) → Runs (counters (length ss) (length st)) (map number_symbol ss)
read_runs [] st p g e = refl
read_runs (s ∷ ss) st p g e = go (push_case s st) (λ next h. read_runs ss next p g.1 h)
  where
    go : Lacks s st ⊎ Pushed s st → ((next : List PathExpr) → read-paths ss next ≡ some (p ∷ []) → Runs (counters (length ss) (length next)) (map number_symbol ss))
        → Runs (counters (suc (length ss)) (length st)) (number_symbol s ∷ map number_symbol ss)
    go (inl l) rest = none_some (sym (go_on_is s ss st none l.0) ∙ e)
    go (inr r) rest =
        let x = number_of s g.0 in
        let h : read-paths ss r.next ≡ some (p ∷ []) = sym (go_on_is s ss st (some r.next) r.pushed) ∙ e in
        let k = x.takes in
        let m = r.enough in
        let c = r.count in
        (x.fine, (counters (length ss) (length r.next), push_counts (length ss) (length st) _ (length r.next) (omega arith) (omega arith) (at_last ss r.next p h), rest r.next h))

-- ---- symbols that run make a path
one_path : (st : List PathExpr) → length st ≡ 1 → (p : PathExpr) × (st ≡ p ∷ [])
one_path [] e = absurd (omega arith)
one_path (p ∷ []) e = (p, refl)
one_path (p ∷ q ∷ st) e = absurd (omega arith)

pub runs_read : (xs : List Numbered) (q : Stack) (st : List PathExpr) → Runs q xs → q.left ≡ length xs → q.depth ≡ length st → 0 < length xs
    → (p : PathExpr) × (read-paths (map symbol_of xs) st ≡ some (p ∷ []))
runs_read [] q st r l d h = absurd (omega arith)
runs_read (x ∷ xs) q st r l d h = go (push_case (symbol_of x) st) xs r.1.2 l (λ next. runs_read xs r.1.0 next r.1.2)
  where
    q' : Stack
    q' = r.1.0

    k : ℕ
    k = arity x.number

    takes : k ≡ operands (symbol_of x)
    takes = let c = symbol_comes x r.0 in ap (λ (y : Numbered). arity y.number) (sym c.1) ∙ (number_of (symbol_of x) c.0).takes

    got_it : (k ≤ q.depth) × (q.left ≡ 1 → q'.depth ≡ 1)
    got_it = push_enough q k q' r.1.1

    left_depth : (q'.left ≡ q.left - 1) × (q'.depth ≡ q.depth - k + 1)
    left_depth = push_got q 0 0 k q' r.1.1

    go : Lacks (symbol_of x) st ⊎ Pushed (symbol_of x) st → (ys : List Numbered) → Runs q' ys → q.left ≡ length (x ∷ ys)
        → ((next : List PathExpr) → q'.left ≡ length ys → q'.depth ≡ length next → 0 < length ys → (p : PathExpr) × (read-paths (map symbol_of ys) next ≡ some (p ∷ [])))
        → (p : PathExpr) × (read-paths (symbol_of x ∷ map symbol_of ys) st ≡ some (p ∷ []))
    go (inl a) ys u l rest = absurd (omega (arith, a.1, takes, got_it.0))
    go (inr a) [] u l rest =
        let c = a.count in
        let (p, e) = one_path a.next (omega (arith, takes, left_depth.1, got_it.1 l)) in
        (p, go_on_is (symbol_of x) [] st (some a.next) a.pushed ∙ ap some e)
    go (inr a) (y ∷ ys) u l rest =
        let c = a.count in
        let (p, e) = rest a.next (omega (arith, left_depth.0)) (omega (arith, takes, left_depth.1)) (omega arith) in
        (p, go_on_is (symbol_of x) (map symbol_of (y ∷ ys)) st (some a.next) a.pushed ∙ e)
