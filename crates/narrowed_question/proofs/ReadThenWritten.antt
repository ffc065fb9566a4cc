-- What was read from a file of bytes is well formed and, written, is that file: `encode (read s) ≡ s`.
-- Assumes nothing.
use Prim.Native.Nat.{ℕ, suc, ◌+◌, ◌-◌, ◌<◌, ◌≤◌}
use mathlib.Core.Path.{◌≡◌, refl, ap, ◌∙◌, sym, subst}
use mathlib.Core.Bool.{true, false, false≢true}
use mathlib.Core.List.{List, [], ◌∷◌, ◌++◌, append_assoc, append-nil}
use lib.ListN.{length, get_or, take, drop, drop_of_length-le}
use lib.Dec.{eqb}
use native.Mathlib.Omega.{arith}
use borrow.Author.Tests.{eqb-true, eqb-false}
use Rattle.theory.specs.PathExpr.{before?}
use Rattle.fields.specs.declared.File.TheVariants as file
use Rattle.symbols.specs.declared.Stack.{Stack}
use Rattle.theory.specs.Result.{got}
use Rattle.fields.specs.Table.{rows, rows_of}
use Rattle.fields.specs.Reading.{ends, body, field_at, due_rows, word, eight, read}
use Rattle.symbols.specs.Symbols.{Numbered, arity, push}
use Rattle.fields.proofs.Bools.{got_same, cond_then, not_got}
use Rattle.fields.proofs.Fields.{found, found_one, body_length, ended}
use Rattle.symbols.proofs.InPath.{in_path}
use Rattle.symbols.proofs.Symbols.{push_anywhere, push_got}
use Rattle.fields.proofs.Accepted.{accepted_ind, taken}
use Rattle.narrowed_question.specs.declared.Standing.{Standing}
use Rattle.narrowed_question.specs.declared.Standing.TheVariants.{Head, Between, Within}
use Rattle.narrowed_question.specs.Form.{Flat, order_codes, Item, nothing, opens, due, fresh, grown, Gathered, gathered, keep, narrowed_format, narrowed_form}
use Rattle.fields.specs.Writing.{Bytes, field_bytes}
use Rattle.symbols.specs.Writing.{symbol_bytes, symbols_bytes}
use Rattle.narrowed_question.specs.Writing.{members_bytes, encode}
use Rattle.symbols.specs.Symbols.{Fine, Runs}
use Rattle.narrowed_question.specs.Formed.{Formed, InOrder, WellFormed}
use Rattle.fields.proofs.Bytes.{bytes_take, bytes_drop, eight_set}
use Rattle.fields.proofs.Lies.{field_split}
use Rattle.symbols.proofs.Bytes.{symbol_split}
use Rattle.narrowed_question.proofs.MembersAhead.{member_of, one_more, Inside, Back, Ahead, head_case, member_case}
use Rattle.narrowed_question.proofs.Moves.{count_got, open_got, symbol_got, by_left}

module _ (s : List ℕ) (h : Bytes s) where
  body_bytes : (n a : ℕ) → Bytes (take n (drop a s))
  body_bytes n a = bytes_take n (drop a s) (bytes_drop a s h)

  at_end : (st : Standing × Gathered) (at : ℕ) → field_at (narrowed_form.due st) s at ≡ ends → Ahead s st at (narrowed_form.value st)
  at_end (Head, g) at e = absurd (false≢true (ended (due Head) s at e).may)
  at_end (Between left, g) at e = λ i.
      let r = ended (due (Between left)) s at e in
      record { rest = []; whole = sym (append-nil g.members); count = sym (eqb-true left 0 r.may); bytes = drop_of_length-le s r.past; order = tt }
  at_end (Within left p q, g) at e = λ i k.
      let z : q.left ≡ 0 = eqb-true q.left 0 (ended (due (Within left p q)) s at e).may in
      absurd (omega arith)

  body_head : (g : Gathered) (at t n : ℕ) (st' : Standing × Gathered) (v : List Flat) → field_at (due Head) s at ≡ body t n
      → narrowed_form.judge (Head, g) at (at + 3 + n) t (take n (drop (at + 3) s)) ≡ got st' → Ahead s st' (at + 3 + n) v → Ahead s (Head, g) at v
  unfolding due_rows rows_of rows
  body_head g at t n st' v e j ih none_yet z =
      let b = take n (drop (at + 3) s) in
      let f = found (due Head) s at t n e in
      let o = (found_one file.Narrowed (0x41 ∷ []) false false f).1 in
      let y = taken narrowed_format Head g at (at + 3 + n) t b st' j in
      let (w, i, few) = count_got at b (st'.0, y.item) y.judged in
      let k : keep g nothing ≡ got st'.1 = ap (keep g) i ∙ y.kept in
      let x : ◌≡◌ {A = Standing × Gathered} (Between (word b 0), gathered [] [] 0 0 []) st' = λ i. (w i, (sym none_yet ∙ got_same k) i) in
      let r = subst (λ (x : Standing × Gathered). Ahead s x (at + 3 + n) v) (sym x) ih f.room in
      let c : length v ≡ word b 0 = ap length r.whole ∙ r.count in
      record {
        bytes = head_case s b v (drop (at + 3 + n) s) (body_bytes n (at + 3)) (body_length f ∙ o.1) c
            (ap (λ (i : ℕ). drop i s) (sym z) ∙ field_split (due Head) s at t n h f ∙ ap (λ (u : ℕ). field_bytes u b ++ drop (at + 3 + n) s) o.0)
            (r.bytes ∙ ap members_bytes (sym r.whole));
        formed = record { few = omega (arith, few); in_order = subst (λ (x : List Flat). InOrder [] x) (sym r.whole) r.order };
      }

  body_between : (left : ℕ) (g : Gathered) (at t n : ℕ) (st' : Standing × Gathered) (v : List Flat) → field_at (due (Between left)) s at ≡ body t n
      → narrowed_form.judge (Between left, g) at (at + 3 + n) t (take n (drop (at + 3) s)) ≡ got st' → Ahead s st' (at + 3 + n) v → Ahead s (Between left, g) at v
  unfolding due_rows rows_of rows
  body_between left g at t n st' v e j ih i =
      let b = take n (drop (at + 3) s) in
      let hb = body_bytes n (at + 3) in
      let d = due (Between left) in
      let f = found d s at t n e in
      let (more, u) = found_one file.Narrowed (0x42 ∷ []) (eqb left 0) (eqb left 0) f in
      let hl : left ≡ 0 → ⊥ = eqb-false left 0 more in
      let y = taken narrowed_format (Between left) g at (at + 3 + n) t b st' j in
      let (w, i, lo, hi) = open_got left at b (st'.0, y.item) y.judged in
      let g₀ = gathered g.prev g.members (eight b 1) (eight b 9) [] in
      let k : keep g (opens (get_or b 0 0) (eight b 1) (eight b 9)) ≡ got st'.1 = ap (keep g) i ∙ y.kept in
      let x : ◌≡◌ {A = Standing × Gathered} (Within (left - 1) at (fresh (get_or b 0 0)), g₀) st' = λ i. (w i, got_same k i) in
      let r = subst (λ (x : Standing × Gathered). Ahead s x (at + 3 + n) v) (sym x) ih f.room lo in
      let long = r.long in
      let m = member_of g₀ r.ys in
      let formed : Formed m =
      record { some = omega arith; few = omega arith; from = eight_set b hb 1; to = eight_set b hb 9; runs = subst (λ (l : ℕ). Runs (fresh l) r.ys) (sym long) r.runs } in
      record {
        rest = m ∷ r.rest;
        whole = r.whole;
        count = (let c = r.count in let c' : suc (length r.rest) ≡ left = omega arith in c');
        bytes = field_split d s at t n h f ∙ ap (λ (x : ℕ). field_bytes x b ++ drop (at + 3 + n) s) u.0
            ∙ member_case b (drop (at + 3 + n) s) r.ys r.rest hb (body_length f ∙ u.1) long r.bytes;
        order = (formed, (r.above, r.order));
      }

  -- ---- symbols
  module _ (left p : ℕ) (stack : Stack) (g : Gathered) (at a : ℕ) (x : Numbered) (q : Stack) (st' : Standing × Gathered) (v : List Flat)
      (room : a ≤ length s) (some : 0 < stack.left) (fine : Fine x) (pushed : push stack 0 0 (arity x.number) ≡ got q)
      (here : drop at s ≡ symbol_bytes x ++ drop a s) (ih : Ahead s st' a v) where
    fewer : q.left ≡ stack.left - 1
    fewer = (push_got stack 0 0 (arity x.number) q pushed).0

    -- the member is done
    last_case : q.left ≡ 0 → before? g.prev (order_codes (one_more g x)) ≡ true
        → ◌≡◌ {A = Standing × Gathered} (Between left, gathered (order_codes (one_more g x)) (g.members ++ (member_of g (one_more g x) ∷ [])) 0 0 []) st' → Inside s left stack g at v
    last_case z b w =
        let r = subst (λ (y : Standing × Gathered). Ahead s y a v) (sym w) ih room in
        record {
          ys = x ∷ [];
          rest = r.rest;
          whole = r.whole ∙ append_assoc g.members _ r.rest;
          long = (let y = fewer in let l : 1 ≡ stack.left = omega arith in l);
          count = r.count;
          bytes = here ∙ ap (λ (l : List ℕ). symbol_bytes x ++ l) r.bytes ∙ ap (λ (l : List ℕ). l ++ members_bytes r.rest) (sym (append-nil (symbol_bytes x)));
          runs = (fine, (q, pushed, z));
          above = b;
          order = r.order;
        }

    -- it is not
    more_case : (q.left ≡ 0 → ⊥) → ◌≡◌ {A = Standing × Gathered} (Within left p q, gathered g.prev g.members g.from g.to (one_more g x)) st' → Inside s left stack g at v
    more_case z w =
        let r = subst (λ (y : Standing × Gathered). Ahead s y a v) (sym w) ih room (omega arith) in
        let c = append_assoc g.sofar (x ∷ []) r.ys in
        record {
          ys = x ∷ r.ys;
          rest = r.rest;
          whole = r.whole ∙ ap (λ (l : List Numbered). g.members ++ (member_of g l ∷ r.rest)) c;
          long = (let y = fewer in let k = r.long in let l : suc (length r.ys) ≡ stack.left = omega arith in l);
          count = r.count;
          bytes = here ∙ ap (λ (l : List ℕ). symbol_bytes x ++ l) r.bytes ∙ sym (append_assoc (symbol_bytes x) (symbols_bytes r.ys) (members_bytes r.rest));
          runs = (fine, (q, pushed, r.runs));
          above = subst (λ (l : List Numbered). before? g.prev (order_codes l) ≡ true) c r.above;
          order = subst (λ (l : List Numbered). InOrder (order_codes l) r.rest) c r.order;
        }

    grown_case : (i : Item) → grown left p x q ≡ (st'.0, i) → keep g i ≡ got st'.1 → Inside s left stack g at v
    grown_case i e k =
        by_left left p x q (λ w. Inside s left stack g at v) (st'.0, i) e
        (λ z w j.
        let u = cond_then (before? g.prev (order_codes (one_more g x))) (not_got 4 p st'.1) (ap (keep g) j ∙ k) in
        last_case z u.0 (λ i. (w i, got_same u.1 i)))
        (λ z w j. more_case z (λ i. (w i, got_same (ap (keep g) j ∙ k) i)))

  body_within : (left p : ℕ) (q : Stack) (g : Gathered) (at t n : ℕ) (st' : Standing × Gathered) (v : List Flat) → field_at (due (Within left p q)) s at ≡ body t n
      → narrowed_form.judge (Within left p q, g) at (at + 3 + n) t (take n (drop (at + 3) s)) ≡ got st' → Ahead s st' (at + 3 + n) v → Ahead s (Within left p q, g) at v
  body_within left p q g at t n st' v e j ih _ _ =
      let b = take n (drop (at + 3) s) in
      let y = taken narrowed_format (Within left p q) g at (at + 3 + n) t b st' j in
      let m = symbol_got left p q at (at + 3 + n) t b (st'.0, y.item) y.judged in
      let r = in_path file.Narrowed q s at t n e in
      let z = symbol_split at t b m.x (body_bytes n (at + 3)) r.low r.high r.long m.sym_is in
      grown_case left p q g at (at + 3 + n) m.x m.q' st' v r.room r.some z.1 (push_anywhere q at (at + 3 + n) 0 0 (arity m.x.number) m.q' m.push_is)
      (field_split (due (Within left p q)) s at t n h (found _ s at t n e) ∙ ap (λ (l : List ℕ). l ++ drop (at + 3 + n) s) z.0) ih y.item m.grown_is y.kept

  at_body : (st : Standing × Gathered) (at t n : ℕ) (st' : Standing × Gathered) (v : List Flat) → field_at (narrowed_form.due st) s at ≡ body t n
      → narrowed_form.judge st at (at + 3 + n) t (take n (drop (at + 3) s)) ≡ got st' → Ahead s st' (at + 3 + n) v → Ahead s st at v
  at_body (Head, g) at t n st' v e j ih = body_head g at t n st' v e j ih
  at_body (Between left, g) at t n st' v e j ih = body_between left g at t n st' v e j ih
  at_body (Within left p q, g) at t n st' v e j ih = body_within left p q g at t n st' v e j ih

  back : (v : List Flat) → read narrowed_form s ≡ got v → Back s v
  unfolding read
  back v e = accepted_ind narrowed_form s (Ahead s) at_end at_body (suc (length s)) (Head, gathered [] [] 0 0 []) 0 v e refl refl

  -- what was read, written, is the file
  pub encode_read : (v : List Flat) → read narrowed_form s ≡ got v → encode v ≡ s
  encode_read v e = (back v e).bytes

  -- and it is well formed
  pub accepted_formed : (v : List Flat) → read narrowed_form s ≡ got v → WellFormed v
  accepted_formed v e = (back v e).formed
