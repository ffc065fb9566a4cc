-- The codes that were read from a file of bytes, written, are that file: `question_bytes cs ≡ s`.
-- Assumes nothing.
use mathlib.Core.Path.{◌≡◌, refl, sym, ap, ◌∙◌, subst}
use mathlib.Core.Logic.{inl, inr}
use mathlib.Core.Bool.{false, false≢true}
use mathlib.Core.List.{List, [], ◌∷◌, ◌++◌, append_assoc, append-nil}
use Prim.Native.Nat.{ℕ, suc, ◌+◌, ◌<◌}
use native.Mathlib.Omega.{arith}
use lib.ListN.{length, get_or, take, drop, length-append, drop_of_length-le}
use lib.Seq.{get_or-append_seam}
use borrow.Author.Tests.{eqb-true}
use Rattle.fields.specs.declared.File.TheVariants as file
use Rattle.symbols.specs.declared.Stack.{Stack}
use Rattle.theory.specs.Result.{got}
use Rattle.fields.specs.Table.{rows, rows_of}
use Rattle.fields.specs.Reading.{ends, body, field_at, due_rows, read}
use Rattle.symbols.specs.Symbols.{Numbered, numbered, arity, Fine}
use Rattle.fields.proofs.Fields.{found, found_one, body_length, ended}
use Rattle.symbols.proofs.InPath.{in_path}
use Rattle.symbols.proofs.Symbols.{push_got}
use Rattle.fields.proofs.Accepted.{accepted_ind}
use Rattle.fields.specs.Writing.{Bytes, field_bytes}
use Rattle.symbols.specs.Writing.{symbol_bytes, symbols_bytes}
use Rattle.fields.proofs.Bytes.{bytes_take, bytes_drop, listed}
use Rattle.fields.proofs.Lies.{field_split}
use Rattle.symbols.proofs.Bytes.{symbol_split}
use Rattle.field_reader.specs.declared.Standing.{Standing}
use Rattle.field_reader.specs.declared.Standing.TheVariants.{Head, Within}
use Rattle.question.specs.Form.{question_form, due}
use Rattle.question.proofs.Paths.{head_got, head_taken, symbol_taken, Known, accepted_question}
use Rattle.question.specs.Writing.{numbered_codes, question_bytes}

-- a symbol whose number is a code has no set
set_less : (x : Numbered) → Fine x → x.number < 134 → x ≡ numbered x.number 0
set_less x (inl (h, z)) l = ap (λ (m : ℕ). numbered x.number m) z
set_less x (inr (e, h)) l = absurd (omega arith)

module _ (s : List ℕ) (bytes : Bytes s) where
  -- what is to come, from a state on: its bytes
  abbrev Ahead : Standing Stack × List ℕ → ℕ → List ℕ → Type 0
  Ahead (Head, cs) at v = cs ≡ [] → Known v → drop at s ≡ question_bytes v
  Ahead (Within q, cs) at v = Known v → (ys : List ℕ) × (v ≡ cs ++ ys) × (length ys ≡ q.left) × (drop at s ≡ symbols_bytes (numbered_codes ys))

  at_end : (st : Standing Stack × List ℕ) (at : ℕ) → field_at (question_form.due st) s at ≡ ends → Ahead st at (question_form.value st)
  at_end (Head, cs) at e = absurd (false≢true (ended (due Head) s at e).may)
  at_end (Within q, cs) at e = λ known.
      let r = ended (due (Within q)) s at e in
      ([], sym (append-nil cs), sym (eqb-true q.left 0 r.may), drop_of_length-le s r.past)

  body_head : (cs : List ℕ) (at t n : ℕ) (st' : Standing Stack × List ℕ) (v : List ℕ) → field_at (due Head) s at ≡ body t n
      → question_form.judge (Head, cs) at (at + 3 + n) t (take n (drop (at + 3) s)) ≡ got st' → Ahead st' (at + 3 + n) v → Ahead (Head, cs) at v
  unfolding due_rows rows_of rows question_bytes
  body_head cs at t n st' v e j ih none_yet known =
      let b = take n (drop (at + 3) s) in
      let f = found (due Head) s at t n e in
      let o = (found_one file.Question (0x21 ∷ []) false false f).1 in
      let (m, h, w) = head_taken cs at (at + 3 + n) t b st' j in
      let (ys, c, l, r) = subst (λ (st : Standing Stack × List ℕ). Ahead st (at + 3 + n) v) (sym w) ih known in
      let c' : v ≡ ys = c ∙ ap (λ (l : List ℕ). l ++ ys) none_yet in
      let i : get_or b 0 0 ≡ length v = (head_got at b m h).0 ∙ sym l ∙ ap length (sym c') in
      let u : b ≡ length v ∷ [] = listed 1 b (body_length f ∙ o.1) ∙ ap (λ (x : ℕ). x ∷ []) i in
      field_split (due Head) s at t n bytes f
      ∙ ap (λ (x : ℕ). field_bytes x b ++ drop (at + 3 + n) s) o.0
      ∙ ap (λ (x : List ℕ). field_bytes 0x21 x ++ drop (at + 3 + n) s) u
      ∙ ap (λ (x : List ℕ). field_bytes 0x21 (length v ∷ []) ++ x) (r ∙ ap (λ (x : List ℕ). symbols_bytes (numbered_codes x)) (sym c'))

  body_within : (q : Stack) (cs : List ℕ) (at t n : ℕ) (st' : Standing Stack × List ℕ) (v : List ℕ) → field_at (due (Within q)) s at ≡ body t n
      → question_form.judge (Within q, cs) at (at + 3 + n) t (take n (drop (at + 3) s)) ≡ got st' → Ahead st' (at + 3 + n) v → Ahead (Within q, cs) at v
  body_within q cs at t n st' v e j ih known =
      let b = take n (drop (at + 3) s) in
      let f = in_path file.Question q s at t n e in
      let (x, q', hx, hq, w) = symbol_taken cs at (at + 3 + n) t b st' q j in
      let (ys, d, l, r) = subst (λ (st : Standing Stack × List ℕ). Ahead st (at + 3 + n) v) (sym w) ih known in
      let d' = d ∙ append_assoc cs (x.number ∷ []) ys in
      let c = x.number in
      let here = ap (λ (l : List ℕ). get_or l (length cs) 0) d' ∙ get_or-append_seam cs c ys 0 in
      let small : c < 134 = subst (λ (y : ℕ). y < 134) here (known (length cs) (omega (arith, ap length d', length-append cs (c ∷ ys)))) in
      let (p, fine) = symbol_split at t b x (bytes_take n (drop (at + 3) s) (bytes_drop (at + 3) s bytes)) f.low f.high f.long hx in
      let g = push_got q at (at + 3 + n) (arity c) q' hq in (
        c ∷ ys,
        d',
        omega (arith, g.0, f.some),
        field_split (due (Within q)) s at t n bytes (found (due (Within q)) s at t n e)
            ∙ ap (λ (y : List ℕ). y ++ drop (at + 3 + n) s) (p ∙ ap symbol_bytes (set_less x fine small))
            ∙ ap (λ (y : List ℕ). symbol_bytes (numbered c 0) ++ y) r,
      )

  at_body : (st : Standing Stack × List ℕ) (at t n : ℕ) (st' : Standing Stack × List ℕ) (v : List ℕ) → field_at (question_form.due st) s at ≡ body t n
      → question_form.judge st at (at + 3 + n) t (take n (drop (at + 3) s)) ≡ got st' → Ahead st' (at + 3 + n) v → Ahead st at v
  at_body (Head, cs) at t n st' v e j ih = body_head cs at t n st' v e j ih
  at_body (Within q, cs) at t n st' v e j ih = body_within q cs at t n st' v e j ih

  pub bytes_read : (cs : List ℕ) → read question_form s ≡ got cs → question_bytes cs ≡ s
  unfolding read
  bytes_read cs e = sym (accepted_ind question_form s Ahead at_end at_body (suc (length s)) (Head, []) 0 cs e refl (accepted_question s cs e).1.known)
