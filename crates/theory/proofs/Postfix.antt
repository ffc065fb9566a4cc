-- Postfix order says the same as the path: each path is read back from its symbols, and what is read has those symbols.
-- Assumes nothing.
use mathlib.Core.Path.{◌≡◌, refl, sym, ap, ◌∙◌}
use mathlib.Core.List.{List, [], ◌∷◌, ◌++◌, append-nil, append_assoc}
use mathlib.Core.Option.{Option, none, some}
use Prim.Native.Nat.{ℕ}
use native.Mathlib.Omega.{arith}
use Rattle.theory.specs.PathExpr.{PathExpr, step, join, op, closure, Symbol, s_step, s_join, s_op, s_closure, postfix, parts}
use Rattle.theory.specs.Postfix.{Stack, push, go_on, read, single_path, path_of, ended}

read_postfix : (p : PathExpr) (ss : List Symbol) (st : Stack) → read (postfix p ++ ss) st ≡ read ss (p ∷ st)
read_postfix (step d l) ss st = refl
read_postfix (join v p q) ss st =
    ap (λ x. read x st) (append_assoc (postfix p) (postfix q ++ (s_join v ∷ [])) ss ∙ ap (λ x. postfix p ++ x) (append_assoc (postfix q) (s_join v ∷ []) ss))
    ∙ read_postfix p (postfix q ++ (s_join v ∷ ss)) st ∙ read_postfix q (s_join v ∷ ss) (p ∷ st)
read_postfix (op o p q) ss st =
    ap (λ x. read x st) (append_assoc (postfix p) (postfix q ++ (s_op o ∷ [])) ss ∙ ap (λ x. postfix p ++ x) (append_assoc (postfix q) (s_op o ∷ []) ss))
    ∙ read_postfix p (postfix q ++ (s_op o ∷ ss)) st ∙ read_postfix q (s_op o ∷ ss) (p ∷ st)
read_postfix (closure p) ss st = ap (λ x. read x st) (append_assoc (postfix p) (s_closure ∷ []) ss) ∙ read_postfix p (s_closure ∷ ss) st

pub path_of_postfix : (p : PathExpr) → path_of (postfix p) ≡ some p
path_of_postfix p = ap single_path (ap (λ x. read x []) (sym (append-nil (postfix p))) ∙ read_postfix p [] [])

-- ---- the symbols of a stack, from the bottom
abbrev pub symbols : Stack → List Symbol
symbols [] = []
symbols (p ∷ st) = symbols st ++ postfix p

pub none_some : {A B : Type 0} {x : A} → Path (Option A) none (some x) → B
none_some e = let z : ◌≡◌ {A = ℕ} 0 1 = cc in absurd (omega arith)

-- a stack whose path is p holds p alone
pub single : (o : Option Stack) (p : PathExpr) → single_path o ≡ some p → o ≡ some (p ∷ [])
single none p e = none_some e
single (some []) p e = none_some e
single (some (x ∷ [])) p e = let z : x ≡ p = cc in ap (λ (y : PathExpr). some (y ∷ [])) z
single (some (x ∷ y ∷ st)) p e = none_some e

-- one symbol adds itself
pub push_symbols : (s : Symbol) (st st' : Stack) → push s st ≡ some st' → symbols st' ≡ symbols st ++ (s ∷ [])
push_symbols (s_step d l) st st' e = let f : step d l ∷ st ≡ st' = cc in ap symbols (sym f)
push_symbols (s_join v) [] st' e = none_some e
push_symbols (s_join v) (q ∷ []) st' e = none_some e
push_symbols (s_join v) (q ∷ p ∷ st) st' e =
    let f : join v p q ∷ st ≡ st' = cc in
    ap symbols (sym f) ∙ sym (append_assoc (symbols st) (postfix p) (postfix q ++ (s_join v ∷ []))) ∙ sym (append_assoc (symbols st ++ postfix p) (postfix q) (s_join v ∷ []))
push_symbols (s_op o) [] st' e = none_some e
push_symbols (s_op o) (q ∷ []) st' e = none_some e
push_symbols (s_op o) (q ∷ p ∷ st) st' e =
    let f : op o p q ∷ st ≡ st' = cc in
    ap symbols (sym f) ∙ sym (append_assoc (symbols st) (postfix p) (postfix q ++ (s_op o ∷ []))) ∙ sym (append_assoc (symbols st ++ postfix p) (postfix q) (s_op o ∷ []))
push_symbols s_closure [] st' e = none_some e
push_symbols s_closure (p ∷ st) st' e =
    let f : closure p ∷ st ≡ st' = cc in
    ap symbols (sym f) ∙ sym (append_assoc (symbols st) (postfix p) (s_closure ∷ []))

-- symbols that come to one path find their operands
pub record Step (x : Symbol) (ss : List Symbol) (st : Stack) (p : PathExpr) : Type 0 where
  pub next : Stack
  pub pushes : push x st ≡ some next
  pub reads : read ss next ≡ some (p ∷ [])

pub read_step : (x : Symbol) (ss : List Symbol) (st : Stack) (p : PathExpr) → read (x ∷ ss) st ≡ some (p ∷ []) → Step x ss st p
read_step x ss st p e = go (push x st) refl e
  where
    go : (o : Option Stack) → push x st ≡ o → go_on o (read ss) ≡ some (p ∷ []) → Step x ss st p
    go none q h = none_some h
    go (some next) q h = record { next = next; pushes = q; reads = h }

read_symbols : (ss : List Symbol) (st st' : Stack) → read ss st ≡ some st' → symbols st' ≡ symbols st ++ ss
read_symbols [] st st' e = let f : st ≡ st' = cc in ap symbols (sym f) ∙ sym (append-nil (symbols st))
read_symbols (s ∷ ss) st st' e = go (push s st) refl e (λ x h. read_symbols ss x st' h)
  where
    go : (o : Option Stack) → push s st ≡ o → go_on o (read ss) ≡ some st' → ((x : Stack) → read ss x ≡ some st' → symbols st' ≡ symbols x ++ ss)
        → symbols st' ≡ symbols st ++ (s ∷ ss)
    go none p h rest = none_some h
    go (some x) p h rest = rest x h ∙ ap (λ l. l ++ ss) (push_symbols s st x p) ∙ append_assoc (symbols st) (s ∷ []) ss

pub postfix_path_of : (ss : List Symbol) (p : PathExpr) → path_of ss ≡ some p → postfix p ≡ ss
postfix_path_of ss p e = read_symbols ss [] (p ∷ []) (single (read ss []) p e)

-- ---- symbol i ends part i
ended_postfix : (p : PathExpr) (ss : List Symbol) (st : Stack) → ended (postfix p ++ ss) st ≡ parts p ++ ended ss (p ∷ st)
ended_postfix (step d l) ss st = refl
ended_postfix (join v p q) ss st =
    ap (λ x. ended x st) (append_assoc (postfix p) (postfix q ++ (s_join v ∷ [])) ss ∙ ap (λ x. postfix p ++ x) (append_assoc (postfix q) (s_join v ∷ []) ss))
    ∙ ended_postfix p (postfix q ++ (s_join v ∷ ss)) st
    ∙ ap (λ x. parts p ++ x) (ended_postfix q (s_join v ∷ ss) (p ∷ st))
    ∙ sym (append_assoc (parts p) (parts q ++ (join v p q ∷ [])) (ended ss (join v p q ∷ st)) ∙ ap (λ x. parts p ++ x) (append_assoc (parts q) (join v p q ∷ []) (ended ss (join v p q ∷ st))))
ended_postfix (op o p q) ss st =
    ap (λ x. ended x st) (append_assoc (postfix p) (postfix q ++ (s_op o ∷ [])) ss ∙ ap (λ x. postfix p ++ x) (append_assoc (postfix q) (s_op o ∷ []) ss))
    ∙ ended_postfix p (postfix q ++ (s_op o ∷ ss)) st
    ∙ ap (λ x. parts p ++ x) (ended_postfix q (s_op o ∷ ss) (p ∷ st))
    ∙ sym (append_assoc (parts p) (parts q ++ (op o p q ∷ [])) (ended ss (op o p q ∷ st)) ∙ ap (λ x. parts p ++ x) (append_assoc (parts q) (op o p q ∷ []) (ended ss (op o p q ∷ st))))
ended_postfix (closure p) ss st =
    ap (λ x. ended x st) (append_assoc (postfix p) (s_closure ∷ []) ss)
    ∙ ended_postfix p (s_closure ∷ ss) st
    ∙ sym (append_assoc (parts p) (closure p ∷ []) (ended ss (closure p ∷ st)))

pub ended_parts : (p : PathExpr) → ended (postfix p) [] ≡ parts p
ended_parts p = ap (λ x. ended x []) (sym (append-nil (postfix p))) ∙ ended_postfix p [] [] ∙ append-nil (parts p)
