-- What is written of a question's path is read as its codes, which ask for that path.
-- Assumes nothing.
use mathlib.Core.Path.{◌≡◌, refl, sym, ap, ap₂, ◌∙◌, subst}
use mathlib.Core.Bool.{true, false}
use mathlib.Core.Logic.{inl}
use mathlib.Core.List.{List, [], ◌∷◌, ◌++◌, map, append_assoc, append-nil}
use mathlib.Core.Option.{some}
use Prim.Native.Nat.{ℕ, ◌+◌, ◌<◌, ◌≤◌}
use native.Mathlib.Omega.{arith}
use lib.Dec.{T, ltb→lt}
use lib.ListN.{length, take, drop, length-map}
use borrow.Author.Tests.{eq-eqb, ne_eqb, le-leb}
use Rattle.theory.specs.PathExpr.{forward, reverse, any, through, union, conjunction, branch_right, branch_left, PathExpr, step, join, op, closure}
use Rattle.theory.specs.PathExpr.{named, Symbol, s_step, s_join, s_op, s_closure, postfix, code, codes, size, plain?, links?}
use Rattle.theory.specs.Postfix.{read as read-paths, path_of}
use Rattle.theory.proofs.Tests.{and_left, and_right}
use Rattle.theory.proofs.Postfix.{path_of_postfix, single}
use Rattle.theory.proofs.Members.{plain_sets}
use Rattle.theory.proofs.Walks.{size_pos}
use Rattle.fields.specs.declared.File.TheVariants as file
use Rattle.theory.specs.Result.{Result, got}
use Rattle.fields.specs.Table.{rows, rows_of}
use Rattle.fields.specs.Reading.{due_rows, tags_due, fitting, read}
use Rattle.fields.proofs.ReaderLoop.{Going, going_start, going_ends, going_more}
use Rattle.fields.proofs.Lies.{field_lies, ends_lie}
use Rattle.symbols.specs.declared.Stack.{Stack}
use Rattle.symbols.specs.Symbols.{Numbered, numbered, symbol_numbered, arity, due_symbols, number_symbol, Runs, symbol_of}
use Rattle.symbols.specs.Writing.{tag_of, body_of, symbol_tag, symbol_body, symbols_bytes}
use Rattle.symbols.proofs.Symbols.{push_got, push_anywhere}
use Rattle.symbols.proofs.Numbers.{symbol_comes, held_postfix, numbered_symbols, length_codes}
use Rattle.symbols.proofs.Bytes.{symbol_short, symbol_reads}
use Rattle.symbols.proofs.Counting.{read_runs}
use Rattle.field_reader.specs.declared.Standing.{Standing}
use Rattle.field_reader.specs.declared.Standing.TheVariants.{Head, Within}
use Rattle.question.specs.Form.{question_form, due, head_of, fresh, question_symbols}
use Rattle.question.specs.Writing.{numbered_codes, question_bytes}
use Rattle.question.proofs.Paths.{Small, Asked, AllAsked, symbols_are}

-- ---- the symbols of a question's path, by their codes
asked_append : (xs ys : List Symbol) → AllAsked xs → AllAsked ys → AllAsked (xs ++ ys)
asked_append [] ys g h = h
asked_append (x ∷ xs) ys g h = (g.0, asked_append xs ys g.1 h)

asked_postfix : (p : PathExpr) → T (plain? p) → T (links? 64 p) → AllAsked (postfix p)
asked_postfix (step d l) g h = (h, tt)
asked_postfix (join any p q) g h =
    asked_append (postfix p) (postfix q ++ (s_join any ∷ [])) (asked_postfix p (and_left (plain? p) (plain? q) g) (and_left (links? 64 p) (links? 64 q) h))
    (asked_append (postfix q) (s_join any ∷ []) (asked_postfix q (and_right (plain? p) (plain? q) g) (and_right (links? 64 p) (links? 64 q) h)) (tt, tt))
asked_postfix (join (through m) p q) g h = absurd g
asked_postfix (op o p q) g h =
    asked_append (postfix p) (postfix q ++ (s_op o ∷ [])) (asked_postfix p (and_left (plain? p) (plain? q) g) (and_left (links? 64 p) (links? 64 q) h))
    (asked_append (postfix q) (s_op o ∷ []) (asked_postfix q (and_right (plain? p) (plain? q) g) (and_right (links? 64 p) (links? 64 q) h)) (tt, tt))
asked_postfix (closure p) g h = asked_append (postfix p) (s_closure ∷ []) (asked_postfix p g h) (tt, tt)

asked_number : (s : Symbol) → Asked s → (number_symbol s ≡ numbered (code s) 0) × (code s < 134)
asked_number (s_step forward (named l)) h = (refl, omega (arith, ltb→lt l 64 h))
asked_number (s_step reverse (named l)) h = (refl, omega (arith, ltb→lt l 64 h))
asked_number (s_join any) h = (refl, omega arith)
asked_number (s_join (through m)) h = absurd h
asked_number (s_op union) h = (refl, omega arith)
asked_number (s_op conjunction) h = (refl, omega arith)
asked_number (s_op branch_right) h = (refl, omega arith)
asked_number (s_op branch_left) h = (refl, omega arith)
asked_number s_closure h = (refl, omega arith)

asked_numbers : (ss : List Symbol) → AllAsked ss → (map number_symbol ss ≡ numbered_codes (map code ss)) × Small (map code ss)
asked_numbers [] h = (refl, tt)
asked_numbers (s ∷ ss) h =
    let x = asked_number s h.0 in
    let r = asked_numbers ss h.1 in
    (ap₂ (λ (y : Numbered) (l : List Numbered). y ∷ l) x.0 r.0, (x.1, r.1))

-- ---- their bytes are read as these codes
code_fits : (q : Stack) (c : ℕ) → 0 < q.left → c < 134 → fitting (due_symbols file.Question q) (symbol_tag (numbered c 0)) (length (symbol_body (numbered c 0))) ≡ true
unfolding fitting due_rows rows_of rows
code_fits q c l h = rw (ne_eqb q.left 0 (omega arith)) (go (symbol_numbered c 0) (symbol_comes (numbered c 0) (inl (h, refl))).1)
  where
    go : (s : Symbol) → number_symbol s ≡ numbered c 0 → fitting (tags_due file.Question (0x43 ∷ 0x44 ∷ 0x45 ∷ []) false false) (tag_of s) (length (body_of c s)) ≡ true
    go (s_step d l) e = refl
    go (s_join any) e = refl
    go (s_join (through m)) e = let z : 255 ≡ c = ap (λ (x : Numbered). x.number) e in absurd (omega arith)
    go (s_op o) e = refl
    go s_closure e = refl

module _ (s : List ℕ) (A : Result (List ℕ)) where
  symbols_forth : (ys : List ℕ) (q : Stack) (cs : List ℕ) (at : ℕ) → Going question_form s A (Within q, cs) at → drop at s ≡ symbols_bytes (numbered_codes ys) → Runs q (numbered_codes ys) → Small ys
      → length ys ≡ q.left → A ≡ got (cs ++ ys)
  symbols_forth [] q cs at g e u small l =
      going_ends question_form s A (Within q, cs) at g (ends_lie (due (Within q)) s at e (eq-eqb q.left 0 (omega arith))) ∙ ap got (sym (append-nil cs))
  symbols_forth (y ∷ ys) q cs at g e u small l =
      let x = numbered y 0 in
      let t = symbol_tag x in
      let b = symbol_body x in
      let n = length b in
      let q' = u.1.0 in
      let hq = (push_got q 0 0 (arity y) q' u.1.1).0 in
      let f = field_lies (due_symbols file.Question q) s at t b (symbols_bytes (numbered_codes ys)) e (symbol_short x) (code_fits q y (omega arith) small.0) in
      let st : Standing Stack × List ℕ = (Within q', cs ++ (y ∷ [])) in
      let j : question_form.judge (Within q, cs) at (at + 3 + n) t (take n (drop (at + 3) s)) ≡ got st =
      rw (f.inner, symbol_reads at x u.0, push_anywhere q 0 0 at (at + 3 + n) (arity y) q' u.1.1) in
      symbols_forth ys q' (cs ++ (y ∷ [])) (at + 3 + n) (going_more question_form s A (Within q, cs) at g t n f.seen st j) f.after u.1.2 small.1 (omega arith)
      ∙ ap got (append_assoc cs (y ∷ []) ys)

head_fits : fitting (due Head) 0x21 1 ≡ true
unfolding fitting due_rows rows_of rows
head_fits = refl

read_codes : (cs : List ℕ) → 1 ≤ length cs → length cs ≤ 32 → Runs (record { left = length cs; depth = 0 }) (numbered_codes cs) → Small cs → read question_form (question_bytes cs) ≡ got cs
unfolding question_bytes head_of
read_codes cs any_code few runs small =
    let s = question_bytes cs in
    let A = read question_form s in
    let n = length cs in
    let f = field_lies (due Head) s 0 0x21 (n ∷ []) (symbols_bytes (numbered_codes cs)) refl (omega arith) head_fits in
    let j : question_form.judge (Head, []) 0 4 0x21 (take 1 (drop 3 s)) ≡ got (Within (fresh n), []) = rw (le-leb 1 n any_code, le-leb n 32 few) in
    let g = going_more question_form s A (Head, []) 0 (going_start question_form s) 0x21 1 f.seen (Within (fresh n), []) j in
    symbols_forth s A cs (fresh n) [] 4 g f.after runs small refl

-- ---- of a question's path
module _ (p : PathExpr) (g : T (plain? p)) (h : T (links? 64 p)) where
  abbrev ss : List Symbol
  ss = postfix p

  numbers : (map number_symbol ss ≡ numbered_codes (codes p)) × Small (codes p)
  numbers = asked_numbers ss (asked_postfix p g h)

  pub read_bytes : size p ≤ 32 → read question_form (question_bytes (codes p)) ≡ got (codes p)
  read_bytes few =
      let n = length_codes p in
      let runs = read_runs ss [] p (held_postfix p h (plain_sets p g)) (single (read-paths ss []) p (path_of_postfix p)) in
      let z : length ss ≡ length (codes p) = sym (length-map ss code) in
      read_codes (codes p) (omega (arith, n, size_pos p)) (omega (arith, n))
      (subst (λ (k : ℕ). Runs (record { left = k; depth = 0 }) (numbered_codes (codes p))) z (subst (Runs (record { left = length ss; depth = 0 })) numbers.0 runs)) numbers.1

  -- the path comes back
  pub codes_path : path_of (question_symbols (codes p)) ≡ some p
  codes_path = ap path_of (sym (symbols_are (codes p)) ∙ ap (map symbol_of) (sym numbers.0) ∙ numbered_symbols ss (held_postfix p h (plain_sets p g))) ∙ path_of_postfix p
