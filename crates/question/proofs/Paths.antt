-- A question that was accepted: its symbols are 1 to 32, in range, and make one plain path.
-- Assumes nothing.
use Prim.Native.Nat.{ℕ, zero, suc, ◌+◌, ◌<◌, ◌≤◌}
use mathlib.Core.Path.{◌≡◌, refl, ap, ap₂, ◌∙◌, sym, subst}
use mathlib.Core.Logic.{inl, ⊎_elim}
use mathlib.Core.Bool.{false≢true, ◌&&◌}
use mathlib.Core.List.{List, [], ◌∷◌, ◌++◌, map, append_assoc, append-nil}
use mathlib.Core.Option.{some, none}
use lib.Dec.{T, leb, eqb}
use lib.ListN.{length, get_or, take, drop, length-map}
use native.Mathlib.Omega.{arith}
use borrow.Author.Tests.{eqb-true, leb-true}
use Rattle.theory.specs.PathExpr.{below?, any, through, PathExpr, step, join, op, closure, Symbol, s_step, s_join, s_op, s_closure, postfix, size, code, codes, plain?, links?}
use Rattle.theory.specs.Postfix.{single_path, path_of}
use Rattle.theory.proofs.Tests.{and_both}
use Rattle.theory.proofs.Postfix.{postfix_path_of}
use Rattle.fields.specs.declared.File.TheVariants as file
use Rattle.symbols.specs.declared.Stack.{Stack}
use Rattle.theory.specs.Result.{got}
use Rattle.fields.specs.Table.{rows, rows_of}
use Rattle.fields.specs.Reading.{ends, body, field_at, read, due_rows, collected}
use Rattle.symbols.specs.Symbols.{Numbered, numbered, symbol_in, symbol_numbered, number_symbol, arity, push, due_symbols, Runs, symbol_of}
use Rattle.fields.proofs.Bools.{onward_got, cond_then, not_got, and_left, and_right, got_same, got_both}
use Rattle.fields.proofs.Fields.{found, ended, Found, found_one}
use Rattle.symbols.proofs.InPath.{in_path}
use Rattle.fields.proofs.Accepted.{accepted_ind, taken}
use Rattle.symbols.proofs.Symbols.{symbol_plain, push_got, push_anywhere}
use Rattle.symbols.proofs.Numbers.{Held, symbol_comes, code_number, length_postfix}
use Rattle.symbols.proofs.Counting.{runs_read}
use Rattle.field_reader.specs.declared.Standing.{Standing}
use Rattle.field_reader.specs.declared.Standing.TheVariants.{Head, Within}
use Rattle.question.specs.Form.{question_format, question_form, due, head_of, fresh, one_more, question_symbols}
use Rattle.question.specs.Writing.{numbered_codes}

-- ---- a field that was taken
pub head_got : (at : ℕ) (b : List ℕ) (n : ℕ) → head_of at b ≡ got n → (get_or b 0 0 ≡ n) × (1 ≤ n) × (n ≤ 32)
unfolding head_of
head_got at b n e =
    let k = cond_then (leb 1 (get_or b 0 0) && leb (get_or b 0 0) 32) (not_got 3 at n) e in
    let z : get_or b 0 0 ≡ n = cc k.1 in
    let some = leb-true 1 (get_or b 0 0) (and_left _ (leb (get_or b 0 0) 32) k.0) in
    let few = leb-true (get_or b 0 0) 32 (and_right (leb 1 (get_or b 0 0)) _ k.0) in
    (z, omega arith, omega arith)

module _ (cs : List ℕ) (at next t : ℕ) (b : List ℕ) (st : Standing Stack × List ℕ) where
  pub head_taken : question_form.judge (Head, cs) at next t b ≡ got st → (n : ℕ) × (head_of at b ≡ got n) × (◌≡◌ {A = Standing Stack × List ℕ} (Within (fresh n), cs) st)
  head_taken j =
      let r = taken question_format Head cs at next t b st j in
      let (n, h, w) = onward_got (λ n. got (Within (fresh n), none)) (head_of at b) _ r.judged in
      let v = got_both w in
      let k : collected cs none ≡ got st.1 = ap (collected cs) v.1 ∙ r.kept in
      (n, h, λ i. (v.0 i, got_same k i))

  pub symbol_taken : (q : Stack) → question_form.judge (Within q, cs) at next t b ≡ got st
      → (x : Numbered) × (q' : Stack) × (symbol_in at t b ≡ got x) × (push q at next (arity x.number) ≡ got q')
      × (◌≡◌ {A = Standing Stack × List ℕ} (Within q', cs ++ (x.number ∷ [])) st)
  symbol_taken q j =
      let r = taken question_format (Within q) cs at next t b st j in
      let (x, hx, j') = onward_got (one_more q at next) (symbol_in at t b) _ r.judged in
      let (q', hq, w) = onward_got (λ p. got (Within p, some x.number)) (push q at next (arity x.number)) _ j' in
      let v = got_both w in
      let k : collected cs (some x.number) ≡ got st.1 = ap (collected cs) v.1 ∙ r.kept in
      (x, q', hx, hq, λ i. (v.0 i, got_same k i))

-- field 45 is not a question's
no_through : (q : Stack) (s : List ℕ) (at t n : ℕ) → Found (due_symbols file.Question q) s at t n → t ≡ 0x45 → ⊥
unfolding due_rows rows_of rows
no_through q s at t n r h =
    let (b, o) = found_one file.Question (0x43 ∷ 0x44 ∷ 0x45 ∷ []) (eqb q.left 0) (eqb q.left 0) r in
    ⊎_elim (λ x. omega (arith, x.0)) (λ x. omega (arith, x.0)) o

-- each is a symbol without a set
abbrev pub Small : List ℕ → Type 0
Small [] = Unit {0}
Small (c ∷ cs) = (c < 134) × Small cs

-- what is to come, from a state on
abbrev Ahead : Standing Stack × List ℕ → ℕ → List ℕ → Type 0
Ahead (Head, cs) at v = cs ≡ [] → (1 ≤ length v) × (length v ≤ 32) × Runs (fresh (length v)) (numbered_codes v) × Small v
Ahead (Within q, cs) at v = (ys : List ℕ) × (v ≡ cs ++ ys) × (length ys ≡ q.left) × Runs q (numbered_codes ys) × Small ys

module _ (s : List ℕ) where
  at_end : (st : Standing Stack × List ℕ) (at : ℕ) → field_at (question_form.due st) s at ≡ ends → Ahead st at (question_form.value st)
  at_end (Head, cs) at e = absurd (false≢true (ended (due Head) s at e).may)
  at_end (Within q, cs) at e = let z = eqb-true q.left 0 (ended (due (Within q)) s at e).may in ([], sym (append-nil cs), sym z, z, tt)

  body_head : (cs : List ℕ) (at t n : ℕ) (st' : Standing Stack × List ℕ) (v : List ℕ) → question_form.judge (Head, cs) at (at + 3 + n) t (take n (drop (at + 3) s)) ≡ got st'
      → Ahead st' (at + 3 + n) v → Ahead (Head, cs) at v
  body_head cs at t n st' v j ih none_yet =
      let b = take n (drop (at + 3) s) in
      let (m, h, w) = head_taken cs at (at + 3 + n) t b st' j in
      let k = head_got at b m h in
      let (ys, e, l, r, a) : Ahead (Within (fresh m), cs) (at + 3 + n) v = subst (λ (st : Standing Stack × List ℕ). Ahead st (at + 3 + n) v) (sym w) ih in
      let e' : v ≡ ys = e ∙ ap (λ (l : List ℕ). l ++ ys) none_yet in
      let c : length v ≡ m = ap length e' ∙ l in
      let runs = subst (λ (i : ℕ). Runs (fresh i) (numbered_codes ys)) (sym l) r in
      (omega (arith, k.1), omega (arith, k.2), subst (λ (u : List ℕ). Runs (fresh (length u)) (numbered_codes u)) (sym e') runs, subst Small (sym e') a)

  body_within : (q : Stack) (cs : List ℕ) (at t n : ℕ) (st' : Standing Stack × List ℕ) (v : List ℕ) → field_at (due (Within q)) s at ≡ body t n
      → question_form.judge (Within q, cs) at (at + 3 + n) t (take n (drop (at + 3) s)) ≡ got st' → Ahead st' (at + 3 + n) v → Ahead (Within q, cs) at v
  body_within q cs at t n st' v e j ih =
      let b = take n (drop (at + 3) s) in
      let f = in_path file.Question q s at t n e in
      let h = no_through q s at t n (found (due (Within q)) s at t n e) in
      let (x, q', hx, hq, w) = symbol_taken cs at (at + 3 + n) t b st' q j in
      let (ys, d, l, r, a) : Ahead (Within q', cs ++ (x.number ∷ [])) (at + 3 + n) v = subst (λ (st : Standing Stack × List ℕ). Ahead st (at + 3 + n) v) (sym w) ih in
      let plain = symbol_plain at t b x f.low (omega (arith, f.high)) hx in
      let g = push_got q at (at + 3 + n) (arity x.number) q' hq in (
        x.number ∷ ys,
        d ∙ append_assoc cs (x.number ∷ []) ys,
        omega (arith, g.0, f.some),
        (inl (plain.0, refl), (q', push_anywhere q at (at + 3 + n) 0 0 (arity x.number) q' hq, r)),
        (plain.0, a),
      )

  at_body : (st : Standing Stack × List ℕ) (at t n : ℕ) (st' : Standing Stack × List ℕ) (v : List ℕ) → field_at (question_form.due st) s at ≡ body t n
      → question_form.judge st at (at + 3 + n) t (take n (drop (at + 3) s)) ≡ got st' → Ahead st' (at + 3 + n) v → Ahead st at v
  at_body (Head, cs) at t n st' v e j ih = body_head cs at t n st' v j ih
  at_body (Within q, cs) at t n st' v e j ih = body_within q cs at t n st' v e j ih

  ahead : (v : List ℕ) → read question_form s ≡ got v → Ahead (Head, []) 0 v
  unfolding read
  ahead v e = accepted_ind question_form s Ahead at_end at_body (suc (length s)) (Head, []) 0 v e

-- ---- its path
-- a symbol that a question may have
abbrev pub Asked : Symbol → Type 0
Asked (s_step d l) = T (below? l 64)
Asked (s_join any) = Unit {0}
Asked (s_join (through m)) = ⊥
Asked (s_op o) = Unit {0}
Asked s_closure = Unit {0}

abbrev pub AllAsked : List Symbol → Type 0
AllAsked [] = Unit {0}
AllAsked (s ∷ ss) = Asked s × AllAsked ss

split : (xs ys : List Symbol) → AllAsked (xs ++ ys) → AllAsked xs × AllAsked ys
split [] ys h = (tt, h)
split (x ∷ xs) ys h = let (a, b) = split xs ys h.1 in ((h.0, a), b)

plain_path : (p : PathExpr) → AllAsked (postfix p) → T (plain? p) × T (links? 64 p)
plain_path (step d l) h = (tt, h.0)
plain_path (join any p q) h =
    let (a, b) = split (postfix p) (postfix q ++ (s_join any ∷ [])) h in
    let (c, d) = split (postfix q) (s_join any ∷ []) b in
    let i = plain_path p a in
    let j = plain_path q c in
    (and_both (plain? p) (plain? q) i.0 j.0, and_both (links? 64 p) (links? 64 q) i.1 j.1)
plain_path (join (through m) p q) h =
    let (a, b) = split (postfix p) (postfix q ++ (s_join (through m) ∷ [])) h in
    let (c, d) = split (postfix q) (s_join (through m) ∷ []) b in
    absurd d.0
plain_path (op o p q) h =
    let (a, b) = split (postfix p) (postfix q ++ (s_op o ∷ [])) h in
    let (c, d) = split (postfix q) (s_op o ∷ []) b in
    let i = plain_path p a in
    let j = plain_path q c in
    (and_both (plain? p) (plain? q) i.0 j.0, and_both (links? 64 p) (links? 64 q) i.1 j.1)
plain_path (closure p) h = let (a, b) = split (postfix p) (s_closure ∷ []) h in plain_path p a

asked : (s : Symbol) → Held s → (number_symbol s).number < 134 → Asked s
asked (s_step d l) h n = h
asked (s_join any) h n = tt
asked (s_join (through m)) h n = absurd (omega (arith, n))
asked (s_op o) h n = tt
asked s_closure h n = tt

small_asked : (cs : List ℕ) → Small cs → AllAsked (question_symbols cs)
small_asked [] h = tt
small_asked (c ∷ cs) h =
    let (k, e) = symbol_comes (numbered c 0) (inl (h.0, refl)) in
    (asked (symbol_numbered c 0) k (subst (λ (x : Numbered). x.number < 134) (sym e) h.0), small_asked cs h.1)

pub symbols_are : (cs : List ℕ) → map symbol_of (numbered_codes cs) ≡ question_symbols cs
symbols_are [] = refl
symbols_are (c ∷ cs) = ap (λ (l : List Symbol). symbol_numbered c 0 ∷ l) (symbols_are cs)

-- each is the code of a symbol
abbrev pub Known : List ℕ → Type 0
Known cs = (k : ℕ) → k < length cs → get_or cs k 0 < 134

small_known : (cs : List ℕ) → Small cs → Known cs
small_known [] h k l = absurd (omega arith)
small_known (c ∷ cs) h zero l = h.0
small_known (c ∷ cs) h (suc k) l = small_known cs h.1 k (omega arith)

pub known_codes : (cs : List ℕ) → Known cs → map code (question_symbols cs) ≡ cs
known_codes [] h = refl
known_codes (c ∷ cs) h = ap₂ (λ (x : ℕ) (l : List ℕ). x ∷ l) (code_number c (h 0 (omega arith))) (known_codes cs (λ k l. h (suc k) (omega arith)))

-- a question of codes cs asks for path p
pub record Asks (cs : List ℕ) (p : PathExpr) : Type 0 where
  pub path : path_of (question_symbols cs) ≡ some p
  pub known : Known cs
  pub same_codes : codes p ≡ cs
  pub plain : T (plain? p)
  pub links : T (links? 64 p)
  pub few : size p ≤ 32
  pub count : length cs ≡ size p

pub accepted_question : (s cs : List ℕ) → read question_form s ≡ got cs → (p : PathExpr) × Asks cs p
accepted_question s cs e =
    let (some-symbols, few, runs, small) = ahead s cs e refl in
    let n : length (numbered_codes cs) ≡ length cs = length-map cs (λ c. numbered c 0) in
    let (p, h) = runs_read (numbered_codes cs) (record { left = length cs; depth = 0 }) [] runs (sym n) refl (omega (arith, n, some-symbols)) in
    let a : path_of (question_symbols cs) ≡ some p = ap path_of (sym (symbols_are cs)) ∙ ap single_path h in
    let b : postfix p ≡ question_symbols cs = postfix_path_of (question_symbols cs) p a in
    let known = small_known cs small in
    let c = ap (map code) b ∙ known_codes cs known in
    let i = plain_path p (subst AllAsked (sym b) (small_asked cs small)) in
    let z : length cs ≡ size p = sym (length-map cs (λ x. symbol_numbered x 0)) ∙ ap length (sym b) ∙ length_postfix p in
    (p, record { path = a; known = known; same_codes = c; plain = i.0; links = i.1; few = omega (arith, few, z); count = z })
