-- The loop over a question's codes from the last to the first: what holds at its head, and how it goes on.
-- Assumes nothing.
use mathlib.Core.Path.{◌≡◌, refl, sym, ap, ap₂, ◌∙◌, subst}
use mathlib.Core.List.{List, [], ◌∷◌, ◌++◌, append-nil}
use Prim.Native.Nat.{ℕ, zero, suc, ◌+◌, ◌-◌, ◌≤◌, ◌<◌}
use native.Mathlib.Omega.{arith}
use lib.ListN.{length, get_or, set, take, drop, replicate, length-set, length-append, length-replicate}
use lib.Seq.{drop-cons, drop-set-lt, get_or-set_same}
use Rattle.theory.specs.PathExpr.{PathExpr, Symbol, code, codes}
use Rattle.theory.specs.Simplification.{normal_form}
use Rattle.theory.proofs.Walks.{size_pos}
use Rattle.symbols.specs.Symbols.{symbol_numbered, number_symbol, operands}
use Rattle.symbols.proofs.Numbers.{length_codes}
use Rattle.shortening.specs.declared.Context.{Context}
use Rattle.shortening.specs.declared.Context.TheVariants.{Elsewhere}
use Rattle.shortening.specs.Pass.{turned, kept, first_context, second_context, CodesOf}
use Rattle.shortening.proofs.Contexts.{plain_number, turned_plain, kept_few, operands_few}
use Rattle.shortening.proofs.Pending.{Pend, pend, before, after, last, last_plain, last_back, Stacked, bottom, upon, pushed, turn_of}

-- ---- some codes are left; the output begins at the start, the stack of contexts ends at the depth
pub record Room (left : List ℕ) (out : List ℕ) (contexts : List Context) (depth start : ℕ) : Type 0 where
  pub out_size : length out ≡ 32
  pub contexts_size : length contexts ≡ 33
  pub room : length left ≤ start
  pub start_in : start ≤ 32
  pub deep : depth + length left ≤ 33

-- the codes that are left are those of the paths to come, and with what these become the output is that of the normal form
pub record Pass (left : List ℕ) (p : PathExpr) (out : List ℕ) (contexts : List Context) (depth start : ℕ) : Type 0 where
  pub pending : List Pend
  pub lefts : left ≡ before pending
  pub whole : after pending (drop start out) ≡ codes (normal_form p)
  pub stacked : Stacked contexts depth pending
  pub fits : Room left out contexts depth start

pub pass_start : (qs : List ℕ) (p : PathExpr) → CodesOf qs p → Pass qs p (replicate 32 0) (replicate 33 Elsewhere) 1 32
pass_start qs p h =
    let x = pend Elsewhere p (h.plain, h.links) in
    record {
      pending = x ∷ [];
      lefts = sym h.are;
      whole = append-nil (codes (normal_form p));
      stacked = upon x refl bottom;
      fits = record {
        out_size = length-replicate {A = ℕ} 32 0;
        contexts_size = length-replicate {A = Context} 33 Elsewhere;
        room = h.few;
        start_in = omega arith;
        deep = omega (arith, h.few);
      };
    }

-- ---- one turn
snoc_same : (xs ys : List ℕ) (x y : ℕ) → xs ++ (x ∷ []) ≡ ys ++ (y ∷ []) → (xs ≡ ys) × (x ≡ y)
snoc_same [] [] x y e = (refl, cc)
snoc_same [] (b ∷ ys) x y e = absurd (let z : ◌≡◌ {A = List ℕ} [] (ys ++ (y ∷ [])) = cc in omega (arith, ap length z, length-append ys (y ∷ [])))
snoc_same (a ∷ xs) [] x y e = absurd (let z : ◌≡◌ {A = List ℕ} (xs ++ (x ∷ [])) [] = cc in omega (arith, ap length z, length-append xs (x ∷ [])))
snoc_same (a ∷ xs) (b ∷ ys) x y e =
    let z : a ≡ b = cc in
    let r = snoc_same xs ys x y (cc) in
    (ap₂ (λ (u : ℕ) (l : List ℕ). u ∷ l) z r.0, r.1)

-- a code is written in front of those that stand there, and counts or not
put : (out : List ℕ) (start c n : ℕ) → 0 < start → start ≤ length out → n ≤ 1 → drop (start - n) (set out (start - 1) c) ≡ take n (c ∷ []) ++ drop start out
put out start c zero h l n = ap (λ (k : ℕ). drop k (set out (start - 1) c)) (let z : start - 0 ≡ start = omega arith in z) ∙ drop-set-lt start out (start - 1) c (omega arith)
put out start c (suc zero) h l n =
    let m = start - 1 in
    let z : suc m ≡ start = omega arith in
    drop-cons (set out m c) m 0 (omega (arith, length-set out m c))
    ∙ ap₂ (λ (x : ℕ) (k : ℕ). x ∷ drop k (set out m c)) (get_or-set_same out m c 0 (omega arith)) z
    ∙ ap (λ (u : List ℕ). c ∷ u) (drop-set-lt start out m c (omega arith))
put out start c (suc (suc n)) h l k = absurd (omega arith)

-- the code m comes off the end
module _ (left : List ℕ) (m : ℕ) (p : PathExpr) (out : List ℕ) (contexts : List Context) (start : ℕ) where
  -- what holds after a turn: of the path on top, above d others, in context k, with c for its last symbol
  abbrev Next : ℕ → Context → Symbol → Type 0
  Next d k c = Pass left p (set out (start - 1) (number_symbol c).number) (pushed contexts d k c) (d + operands c) (start - kept k c)

  abbrev Turned : ℕ → Type 0
  Turned d = let k = get_or contexts d Elsewhere in Next d k (turned k (symbol_numbered m 0))

  room_next : {d : ℕ} (k : Context) (c : Symbol) → Room (left ++ (m ∷ [])) out contexts (suc d) start
      → Room left (set out (start - 1) (number_symbol c).number) (pushed contexts d k c) (d + operands c) (start - kept k c)
  room_next {d} k c r =
      let n = kept_few k c in
      let o = operands_few c in
      let l = length-append left (m ∷ []) in
      record {
        out_size = length-set out (start - 1) (number_symbol c).number ∙ r.out_size;
        contexts_size = length-set (set contexts d (first_context k c)) (d + 1) (second_context c) ∙ length-set contexts d (first_context k c) ∙ r.contexts_size;
        room = omega (arith, r.room);
        start_in = omega (arith, r.start_in);
        deep = omega (arith, r.deep);
      }

  -- x is on top
  on_top : (d : ℕ) (x : Pend) (rest : List Pend) → get_or contexts d Elsewhere ≡ x.context → Stacked contexts d rest → left ++ (m ∷ []) ≡ before (x ∷ rest)
      → after (x ∷ rest) (drop start out) ≡ codes (normal_form p) → Room (left ++ (m ∷ [])) out contexts (suc d) start → Turned d
  on_top d x rest e s l w r =
      let k = x.context in
      let t = turn_of k x.path rest x.askable in
      let (u, v) = snoc_same left (before t.next) m (code (last x.path)) (l ∙ t.lefts) in
      let c = turned k (last x.path) in
      let n = plain_number c (turned_plain k (last x.path) (last_plain x.path x.askable)) in
      let same = ap (λ (i : ℕ). symbol_numbered i 0) v ∙ last_back x.path x.askable in
      let few = length-append left (m ∷ []) in
      let next : Next d k c = record {
        pending = t.next;
        lefts = u;
        whole =
            ap (after t.next) (
            put out start (number_symbol c).number (kept k c) (omega (arith, r.room)) (omega (arith, r.start_in, r.out_size)) (kept_few k c)
            ∙ ap (λ (i : ℕ). take (kept k c) (i ∷ []) ++ drop start out) n)
            ∙ sym (t.becomes (drop start out)) ∙ w;
        stacked = t.stacks contexts d (omega (arith, r.contexts_size, r.deep)) s;
        fits = room_next k c r;
      } in
      subst (λ (h : Context). Next d h (turned h (symbol_numbered m 0))) (sym e) (subst (λ (h : Symbol). Next d k (turned k h)) (sym same) next)

  -- while codes are left there is an operand to come, and room
  pub record Top (depth : ℕ) : Type 0 where
    pub some : 0 < depth
    pub room : 0 < start
    pub next : Turned (depth - 1)

  by_stack : {depth : ℕ} {xs : List Pend} → Stacked contexts depth xs → left ++ (m ∷ []) ≡ before xs → after xs (drop start out) ≡ codes (normal_form p)
      → Room (left ++ (m ∷ [])) out contexts depth start → Top depth
  by_stack bottom l w r = absurd (omega (arith, ap length l, length-append left (m ∷ [])))
  by_stack (upon {d} {xs} x e s) l w r =
      let z : d ≡ suc d - 1 = omega arith in
      record { some = omega arith; room = omega (arith, r.room, length-append left (m ∷ [])); next = subst Turned z (on_top d x xs e s l w r) }

  pub pass_top : {depth : ℕ} {now : List ℕ} → now ≡ left ++ (m ∷ []) → Pass now p out contexts depth start → Top depth
  pass_top {depth} e h = let g = subst (λ (l : List ℕ). Pass l p out contexts depth start) e h in by_stack g.stacked g.lefts g.whole g.fits

-- ---- no codes are left
nothing : (xs : List Pend) → before xs ≡ [] → xs ≡ []
nothing [] e = refl
nothing (x ∷ xs) e = absurd (omega (arith, ap length e, length-append (before xs) (codes x.path), length_codes x.path, size_pos x.path))

empty : (l : List ℕ) → length l ≡ 0 → l ≡ []
empty [] e = refl
empty (x ∷ l) e = absurd (omega arith)

pub pass_end : {left : List ℕ} {p : PathExpr} {out : List ℕ} {contexts : List Context} {depth start : ℕ} → Pass left p out contexts depth start → length left ≡ 0
    → drop start out ≡ codes (normal_form p)
pass_end {left} {p} {out} {contexts} {depth} {start} h l =
    let e = nothing h.pending (sym h.lefts ∙ empty left l) in
    ap (λ (xs : List Pend). after xs (drop start out)) (sym e) ∙ h.whole
