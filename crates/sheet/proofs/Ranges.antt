-- The numbers of a sheet that was accepted are in range.
-- Assumes nothing.
use mathlib.Core.Path.{◌≡◌, refl, ap, sym, subst, ◌∙◌}
use mathlib.Core.Bool.{Bool, false≢true, ◌&&◌}
use mathlib.Core.List.{List, [], ◌∷◌, ◌++◌}
use mathlib.Core.Option.{none, some}
use Prim.Native.Nat.{ℕ, suc, ◌+◌}
use lib.Dec.{T, leb, ltb}
use lib.ListN.{length, get_or, take, drop}
use Rattle.theory.specs.Lists.{every?}
use Rattle.theory.specs.Register.{Edge}
use Rattle.theory.specs.Sheet.{Sheet, in_range?, sheet?}
use Rattle.theory.proofs.Tests.{tests, and_left, and_right, and_both, of_true}
use Rattle.theory.specs.Result.{got}
use Rattle.fields.specs.Reading.{ends, body, field_at, collected, read}
use Rattle.fields.proofs.Bools.{cond_then, not_got, onward_got, got_same, got_both}
use Rattle.fields.proofs.Fields.{ended}
use Rattle.fields.proofs.Accepted.{accepted_ind, taken}
use Rattle.sheet.specs.declared.Triples.{Triples}
use Rattle.field_reader.specs.declared.Standing.{Standing}
use Rattle.field_reader.specs.declared.Standing.TheVariants.{Head, Within}
use Rattle.sheet.specs.Form.{due, fresh, head_of, key, edge_of, next, value, sheet_format, sheet_form}

every_more : (f : Edge → Bool) (es : List Edge) (e : Edge) → T (every? f es) → T (f e) → T (every? f (es ++ (e ∷ [])))
every_more f [] e t u = and_both (f e) _ u tt
every_more f (x ∷ es) e t u = and_both (f x) _ (and_left (f x) (every? f es) t) (every_more f es e (and_right (f x) (every? f es) t) u)

-- the sheet so far
abbrev pub so_far : Triples → List Edge → Sheet
so_far q es = value (Within q) es

-- ---- after the head
pub head_got : (at : ℕ) (b : List ℕ) (q : Triples) → head_of at b ≡ got q → T (sheet? (so_far q [])) × (q.count ≡ 0)
unfolding head_of sheet?
head_got at b q e =
    let k = cond_then (leb 1 (get_or b 0 0) && leb (get_or b 0 0) 64) (not_got 3 at q) e in
    let l = cond_then (leb 1 (get_or b 1 0) && leb (get_or b 1 0) 64) (not_got 3 at q) k.1 in
    let h : fresh (get_or b 0 0) (get_or b 1 0) ≡ q = cc l.1 in
    let tk : T (leb 1 (get_or b 0 0) && leb (get_or b 0 0) 64) = of_true _ k.0 in
    let tl : T (leb 1 (get_or b 1 0) && leb (get_or b 1 0) 64) = of_true _ l.0 in
    let s : T (sheet? (so_far (fresh (get_or b 0 0) (get_or b 1 0)) [])) = search (tests, tt) in
    subst (λ (p : Triples). T (sheet? (so_far p [])) × (p.count ≡ 0)) h (s, refl)

-- ---- after a triple
pub record Next (q : Triples) (b : List ℕ) (q' : Triples) : Type 0 where
  pub range : T (in_range? (so_far q []) (edge_of b))
  pub kinds : q'.kinds ≡ q.kinds
  pub links : q'.links ≡ q.links
  pub count : q'.count ≡ q.count + 1

pub next_got : (q : Triples) (at : ℕ) (b : List ℕ) (q' : Triples) → next q at b ≡ got q' → Next q b q'
unfolding next
next_got q at b q' e =
    let a = cond_then (ltb (get_or b 0 0) q.kinds && ltb (get_or b 1 0) q.links && ltb (get_or b 2 0) q.kinds) (not_got 3 at q') e in
    let c = cond_then (leb q.floor (key b)) (not_got 4 at q') a.1 in
    let h : record { kinds = q.kinds; links = q.links; count = q.count + 1; floor = key b + 1 } ≡ q' = cc c.1 in
    record {
      range = of_true _ a.0;
      kinds = sym (ap (λ (p : Triples). p.kinds) h);
      links = sym (ap (λ (p : Triples). p.links) h);
      count = sym (ap (λ (p : Triples). p.count) h);
    }

pub sheet_more : (q : Triples) (es : List Edge) (b : List ℕ) (q' : Triples) → T (sheet? (so_far q es)) → Next q b q' → T (sheet? (so_far q' (es ++ (edge_of b ∷ []))))
unfolding sheet?
sheet_more q es b q' t n =
    let r : T (every? (in_range? (so_far q es)) es) = search tests in
    let m = every_more (in_range? (so_far q es)) es (edge_of b) r n.range in
    let g : T (sheet? (so_far q (es ++ (edge_of b ∷ [])))) = search tests in
    rw (n.kinds, n.links) g

-- ---- to the end
abbrev Ahead : Standing Triples × List Edge → ℕ → Sheet → Type 0
Ahead (Head, es) at S = es ≡ [] → T (sheet? S)
Ahead (Within q, es) at S = T (sheet? (so_far q es)) → T (sheet? S)

module _ (s : List ℕ) where
  at_end : (st : Standing Triples × List Edge) (at : ℕ) → field_at (sheet_form.due st) s at ≡ ends → Ahead st at (sheet_form.value st)
  at_end (Head, es) at e = absurd (false≢true (ended (due Head) s at e).may)
  at_end (Within q, es) at e = λ t. t

  at_body : (st : Standing Triples × List Edge) (at t n : ℕ) (st' : Standing Triples × List Edge) (S : Sheet) → field_at (sheet_form.due st) s at ≡ body t n
      → sheet_form.judge st at (at + 3 + n) t (take n (drop (at + 3) s)) ≡ got st' → Ahead st' (at + 3 + n) S → Ahead st at S
  at_body (Head, es) at t n st' S e j ih = λ z.
      let b = take n (drop (at + 3) s) in
      let r = taken sheet_format Head es at (at + 3 + n) t b st' j in
      let (q, h, w) = onward_got (λ q. got (Within q, none)) (head_of at b) _ r.judged in
      let v = got_both w in
      let k : collected es none ≡ got st'.1 = ap (collected es) v.1 ∙ r.kept in
      let u : ◌≡◌ {A = Standing Triples × List Edge} (Within q, []) st' = λ i. (v.0 i, (sym z ∙ got_same k) i) in
      subst (λ (x : Standing Triples × List Edge). Ahead x (at + 3 + n) S) (sym u) ih (head_got at b q h).0
  at_body (Within q, es) at t n st' S e j ih = λ u.
      let b = take n (drop (at + 3) s) in
      let r = taken sheet_format (Within q) es at (at + 3 + n) t b st' j in
      let (q', h, w) = onward_got (λ q'. got (Within q', some (edge_of b))) (next q at b) _ r.judged in
      let v = got_both w in
      let k : collected es (some (edge_of b)) ≡ got st'.1 = ap (collected es) v.1 ∙ r.kept in
      let x : ◌≡◌ {A = Standing Triples × List Edge} (Within q', es ++ (edge_of b ∷ [])) st' = λ i. (v.0 i, got_same k i) in
      subst (λ (x : Standing Triples × List Edge). Ahead x (at + 3 + n) S) (sym x) ih (sheet_more q es b q' u (next_got q at b q' h))

pub accepted_sheet : (s : List ℕ) (S : Sheet) → read sheet_form s ≡ got S → T (sheet? S)
unfolding read
accepted_sheet s S e = accepted_ind sheet_form s Ahead (at_end s) (at_body s) (suc (length s)) (Head, []) 0 S e refl
