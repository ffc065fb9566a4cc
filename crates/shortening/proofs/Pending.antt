-- A path's codes gone over from the last to the first: the operands that are still to come, the codes that are left of them, and what these will become.
-- Assumes nothing.
use mathlib.Core.Path.{◌≡◌, refl, sym, ap, ◌∙◌, subst}
use mathlib.Core.Bool.{◌&&◌}
use mathlib.Core.List.{List, [], ◌∷◌, ◌++◌, map, append_assoc, append-nil, map-append}
use Prim.Native.Nat.{ℕ, suc, ◌+◌, ◌≤◌, ◌<◌}
use native.Mathlib.Omega.{arith}
use lib.Dec.{T}
use lib.ListN.{length, get_or, set, take, length-set}
use lib.Seq.{get_or-set_same, get_or-set_other}
use Rattle.theory.specs.PathExpr.{Direction, Label, any, through, Op, union, conjunction, branch_right, branch_left, PathExpr, step, join, op, closure}
use Rattle.theory.specs.PathExpr.{Symbol, s_step, s_join, s_op, s_closure, postfix, code, codes, plain?, links?}
use Rattle.theory.specs.Simplification.{closed, tested, operated, normal_form}
use Rattle.theory.proofs.Tests.{and_left, and_right}
use Rattle.theory.proofs.Simplification.{tested_closed}
use Rattle.symbols.specs.Symbols.{symbol_numbered, operands}
use Rattle.symbols.proofs.Numbers.{number_of}
use Rattle.shortening.specs.declared.Context.{Context}
use Rattle.shortening.specs.declared.Context.TheVariants.{Elsewhere, Closure, Test}
use Rattle.shortening.specs.Pass.{turned, closure_kept, kept, closure_context, first_of, second_of, first_context, second_context}
use Rattle.shortening.proofs.Contexts.{Stays, turned_same, NoSet}

-- ---- where an operand stands, and what becomes of its normal form there
abbrev bare : PathExpr → PathExpr
bare (step d l) = step d l
bare (join v p q) = join v p q
bare (op o p q) = op o p q
bare (closure p) = p

abbrev pub placed : Context → PathExpr → PathExpr
placed Elsewhere p = p
placed Closure p = bare p
placed Test p = tested p

closed_bare : (p : PathExpr) → closed p ≡ closure (bare p)
closed_bare (step d l) = refl
closed_bare (join v p q) = refl
closed_bare (op o p q) = refl
closed_bare (closure p) = refl

placed_step : (k : Context) (d : Direction) (l : Label) → placed k (step d l) ≡ step d l
placed_step Elsewhere d l = refl
placed_step Closure d l = refl
placed_step Test d l = refl

placed_op : (k : Context) (o : Op) (p q : PathExpr) → placed k (op o p q) ≡ op o p q
placed_op Elsewhere o p q = refl
placed_op Closure o p q = refl
placed_op Test o p q = refl

-- an operator says where its operands stand
operated_op : (k : Context) (o : Op) (p q : PathExpr) → operated o p q ≡ op o (placed (first_of o) p) (placed (second_of o) q)
operated_op k union p q = refl
operated_op k conjunction p q = refl
operated_op k branch_right p q = refl
operated_op k branch_left p q = refl

-- ---- a path that is to come
-- a question may have it
abbrev pub Askable : PathExpr → Type 0
Askable p = T (plain? p) × T (links? 64 p)

pub record Pend : Type 0 where
  pub context : Context
  pub path : PathExpr
  pub askable : Askable path

abbrev pub pend : (k : Context) (p : PathExpr) → Askable p → Pend
pend k p g = record { context = k; path = p; askable = g }

-- the codes that are left
abbrev pub before : List Pend → List ℕ
before [] = []
before (x ∷ xs) = before xs ++ codes x.path

abbrev becoming : Context → PathExpr → List ℕ
becoming k p = codes (placed k (normal_form p))

-- what stands there in the end, in front of what is there
abbrev pub after : List Pend → List ℕ → List ℕ
after [] out = out
after (x ∷ xs) out = after xs (becoming x.context x.path ++ out)

-- the symbol in which a path ends
abbrev pub last : PathExpr → Symbol
last (step d l) = s_step d l
last (join v p q) = s_join v
last (op o p q) = s_op o
last (closure p) = s_closure

-- it has no set, and comes back from its code
pub last_plain : (p : PathExpr) → Askable p → NoSet (last p)
last_plain (step d l) g = tt
last_plain (join any p q) g = tt
last_plain (join (through m) p q) g = absurd g.0
last_plain (op o p q) g = tt
last_plain (closure p) g = tt

pub last_back : (p : PathExpr) → Askable p → symbol_numbered (code (last p)) 0 ≡ last p
last_back (step d l) g = (number_of (s_step d l) g.1).back
last_back (join any p q) g = (number_of (s_join any) tt).back
last_back (join (through m) p q) g = absurd g.0
last_back (op o p q) g = (number_of (s_op o) tt).back
last_back (closure p) g = (number_of s_closure tt).back

-- ---- the stack of contexts, from the bottom
pub data Stacked (a : List Context) : ℕ → List Pend → Type 0 where
  bottom : Stacked a 0 []
  upon : {d : ℕ} {xs : List Pend} (x : Pend) → get_or a d Elsewhere ≡ x.context → Stacked a d xs → Stacked a (suc d) (x ∷ xs)

-- what is written above it does not matter
stacked_set : {a : List Context} {d : ℕ} {xs : List Pend} (i : ℕ) (v : Context) → d ≤ i → Stacked a d xs → Stacked (set a i v) d xs
stacked_set i v h bottom = bottom
stacked_set {a} i v h (upon {d} x e s) = upon x (get_or-set_other a i d v Elsewhere (λ (z : d ≡ i). omega arith) ∙ e) (stacked_set i v (omega arith) s)

-- two contexts put on it, of which none, one or both count
module _ {a : List Context} {d : ℕ} {xs : List Pend} (h : d + 1 < length a) (s : Stacked a d xs) where
  stacked_none : (v w : Context) → Stacked (set (set a d v) (d + 1) w) d xs
  stacked_none v w = stacked_set (d + 1) w (omega arith) (stacked_set d v (omega arith) s)

  stacked_one : (x : Pend) (w : Context) → Stacked (set (set a d x.context) (d + 1) w) (suc d) (x ∷ xs)
  stacked_one x w =
      upon x (get_or-set_other (set a d x.context) (d + 1) d w Elsewhere (λ (z : d ≡ d + 1). omega arith) ∙ get_or-set_same a d x.context Elsewhere (omega arith))
      (stacked_none x.context w)

  stacked_two : (x y : Pend) → Stacked (set (set a d x.context) (d + 1) y.context) (suc (suc d)) (y ∷ (x ∷ xs))
  stacked_two x y =
      let b = set a d x.context in
      let top : get_or (set b (d + 1) y.context) (d + 1) Elsewhere ≡ y.context = get_or-set_same b (d + 1) y.context Elsewhere (omega (arith, length-set a d x.context)) in
      upon y (subst (λ (i : ℕ). get_or (set b (d + 1) y.context) i Elsewhere ≡ y.context) (let z : d + 1 ≡ suc d = omega arith in z) top) (stacked_one x y.context)

-- ---- one turn: the path on top, of which d are below, gives way to its operands
abbrev pub pushed : List Context → ℕ → Context → Symbol → List Context
pushed a d k c = set (set a d (first_context k c)) (d + 1) (second_context c)

-- l is its last symbol, c what becomes of that
pub record Turn (k : Context) (p : PathExpr) (rest : List Pend) (l c : Symbol) : Type 0 where
  pub next : List Pend
  pub lefts : before rest ++ codes p ≡ before next ++ (code l ∷ [])
  pub becomes : (out : List ℕ) → after rest (becoming k p ++ out) ≡ after next (take (kept k c) (code c ∷ []) ++ out)
  pub stacks : (a : List Context) (d : ℕ) → d + 1 < length a → Stacked a d rest → Stacked (pushed a d k c) (d + operands c) next

codes_one : (p : PathExpr) (s : Symbol) → map code (postfix p ++ (s ∷ [])) ≡ codes p ++ (code s ∷ [])
codes_one p s = map-append code (postfix p) (s ∷ [])

codes_two : (p q : PathExpr) (s : Symbol) → map code (postfix p ++ (postfix q ++ (s ∷ []))) ≡ codes p ++ (codes q ++ (code s ∷ []))
codes_two p q s = map-append code (postfix p) (postfix q ++ (s ∷ [])) ∙ ap (λ (u : List ℕ). codes p ++ u) (codes_one q s)

-- no operand, one, or two
module _ (k : Context) (whole : PathExpr) (rest : List Pend) (l c : Symbol) where
  no_operand : codes whole ≡ code l ∷ [] → becoming k whole ≡ code c ∷ [] → kept k c ≡ 1 → operands c ≡ 0 → Turn k whole rest l c
  no_operand e f o n =
      record {
        next = rest;
        lefts = ap (λ (u : List ℕ). before rest ++ u) e;
        becomes = λ out. ap (λ (u : List ℕ). after rest (u ++ out)) (f ∙ ap (λ (j : ℕ). take j (code c ∷ [])) (sym o));
        stacks = λ a d m s.
            let z : d ≡ d + operands c = omega (arith, n) in
            subst (λ (j : ℕ). Stacked (pushed a d k c) j rest) z (stacked_none m s (first_context k c) (second_context c));
      }

  one_operand : (p : PathExpr) → Askable p → codes whole ≡ codes p ++ (code l ∷ [])
      → becoming k whole ≡ becoming (first_context k c) p ++ take (kept k c) (code c ∷ []) → operands c ≡ 1 → Turn k whole rest l c
  one_operand p g e f n =
      let x = pend (first_context k c) p g in
      record {
        next = x ∷ rest;
        lefts = ap (λ (u : List ℕ). before rest ++ u) e ∙ sym (append_assoc (before rest) (codes p) (code l ∷ []));
        becomes = λ out. ap (after rest) (ap (λ (u : List ℕ). u ++ out) f ∙ append_assoc (becoming x.context p) (take (kept k c) (code c ∷ [])) out);
        stacks = λ a d m s.
            let z : suc d ≡ d + operands c = omega (arith, n) in
            subst (λ (j : ℕ). Stacked (pushed a d k c) j (x ∷ rest)) z (stacked_one m s x (second_context c));
      }

  two_operands : (p q : PathExpr) → Askable p → Askable q → codes whole ≡ codes p ++ (codes q ++ (code l ∷ []))
      → becoming k whole ≡ becoming (first_context k c) p ++ (becoming (second_context c) q ++ (code c ∷ [])) → kept k c ≡ 1 → operands c ≡ 2 → Turn k whole rest l c
  two_operands p q g h e f o n =
      let x = pend (first_context k c) p g in
      let y = pend (second_context c) q h in
      let s = becoming x.context p in
      let t = becoming y.context q in
      record {
        next = y ∷ (x ∷ rest);
        lefts = ap (λ (u : List ℕ). before rest ++ u) e ∙ sym (append_assoc (before rest) (codes p) (codes q ++ (code l ∷ []))) ∙ sym (append_assoc (before rest ++ codes p) (codes q) (code l ∷ []));
        becomes = λ out.
            ap (after rest) (
            ap (λ (u : List ℕ). u ++ out) f ∙ append_assoc s (t ++ (code c ∷ [])) out
            ∙ ap (λ (u : List ℕ). s ++ u) (append_assoc t (code c ∷ []) out ∙ ap (λ (j : ℕ). t ++ (take j (code c ∷ []) ++ out)) (sym o)));
        stacks = λ a d m r.
            let z : suc (suc d) ≡ d + operands c = omega (arith, n) in
            subst (λ (j : ℕ). Stacked (pushed a d k c) j (y ∷ (x ∷ rest))) z (stacked_two m r x y);
      }

-- ---- by the symbol
step_turn : (k : Context) (d : Direction) (l : Label) (rest : List Pend) → Turn k (step d l) rest (s_step d l) (s_step d l)
step_turn k d l rest = no_operand k (step d l) rest (s_step d l) (s_step d l) refl (ap codes (placed_step k d l)) refl refl

join_turn : (k : Context) (p q : PathExpr) (rest : List Pend) → Askable p → Askable q → Turn k (join any p q) rest (s_join any) (turned k (s_join any))
join_turn Elsewhere p q rest g h =
    two_operands Elsewhere (join any p q) rest (s_join any) (s_join any) p q g h (codes_two p q (s_join any)) (codes_two (normal_form p) (normal_form q) (s_join any)) refl refl
join_turn Closure p q rest g h =
    two_operands Closure (join any p q) rest (s_join any) (s_join any) p q g h (codes_two p q (s_join any)) (codes_two (normal_form p) (normal_form q) (s_join any)) refl refl
join_turn Test p q rest g h =
    two_operands Test (join any p q) rest (s_join any) (s_op branch_right) p q g h (codes_two p q (s_join any)) (codes_two (normal_form p) (tested (normal_form q)) (s_op branch_right)) refl refl

op_turn : (k : Context) (o : Op) (p q : PathExpr) (rest : List Pend) → Askable p → Askable q → Turn k (op o p q) rest (s_op o) (s_op o)
op_turn k o p q rest g h =
    let s = placed (first_of o) (normal_form p) in
    let t = placed (second_of o) (normal_form q) in
    let e : becoming k (op o p q) ≡ codes (op o s t) = ap (λ (x : PathExpr). codes (placed k x)) (operated_op k o (normal_form p) (normal_form q)) ∙ ap codes (placed_op k o s t) in
    two_operands k (op o p q) rest (s_op o) (s_op o) p q g h (codes_two p q (s_op o)) (e ∙ codes_two s t (s_op o)) refl refl

closure_becomes : (k : Context) (s : PathExpr) → codes (placed k (closed s)) ≡ codes (placed (closure_context k) s) ++ take (closure_kept k) (133 ∷ [])
closure_becomes Elsewhere s = ap codes (closed_bare s) ∙ codes_one (bare s) s_closure
closure_becomes Closure s = ap (λ (p : PathExpr). codes (bare p)) (closed_bare s) ∙ sym (append-nil (codes (bare s)))
closure_becomes Test s = ap codes (tested_closed s) ∙ sym (append-nil (codes (tested s)))

closure_turn : (k : Context) (p : PathExpr) (rest : List Pend) → Askable p → Turn k (closure p) rest s_closure s_closure
closure_turn k p rest g = one_operand k (closure p) rest s_closure s_closure p g (codes_one p s_closure) (closure_becomes k (normal_form p)) refl

both_askable : (p q : PathExpr) → T (plain? p && plain? q) × T (links? 64 p && links? 64 q) → Askable p × Askable q
both_askable p q (g, h) = ((and_left (plain? p) (plain? q) g, and_left (links? 64 p) (links? 64 q) h), (and_right (plain? p) (plain? q) g, and_right (links? 64 p) (links? 64 q) h))

-- only a join becomes another symbol
same_symbol : {k : Context} {p : PathExpr} {rest : List Pend} (x : Symbol) → Stays x → Turn k p rest x x → Turn k p rest x (turned k x)
same_symbol {k} {p} {rest} x h t = subst (λ (y : Symbol). Turn k p rest x y) (turned_same k x h) t

pub turn_of : (k : Context) (p : PathExpr) (rest : List Pend) → Askable p → Turn k p rest (last p) (turned k (last p))
turn_of k (step d l) rest g = same_symbol (s_step d l) tt (step_turn k d l rest)
turn_of k (join any p q) rest g = let (x, y) = both_askable p q g in join_turn k p q rest x y
turn_of k (join (through m) p q) rest g = absurd g.0
turn_of k (op o p q) rest g = let (x, y) = both_askable p q g in same_symbol (s_op o) tt (op_turn k o p q rest x y)
turn_of k (closure p) rest g = same_symbol s_closure tt (closure_turn k p rest g)
