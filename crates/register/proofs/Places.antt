-- Where the kinds and links of an accepted file lie: kind i has its field at byte 7 + 4 i, and the links come after the last kind, up to the end.
-- Assumes nothing.
use mathlib.Core.Path.{◌≡◌, refl, sym, ap, ap₂, subst, ◌∙◌}
use mathlib.Core.Bool.{false≢true}
use mathlib.Core.List.{List, [], ◌∷◌, ◌++◌, append_assoc, append-nil}
use Prim.Native.Nat.{ℕ, zero, suc, ◌+◌, ◌*◌, ◌-◌, ◌<◌, ◌≤◌}
use native.Mathlib.Omega.{arith}
use borrow.Author.Tests.{eqb-true, eq-eqb, ne_eqb}
use lib.Dec.{eqb}
use lib.ListN.{length, get_or, take, drop}
use Rattle.theory.specs.Register.{Edge, edge, Register, records, kind}
use Rattle.fields.specs.Table.{rows, tag_length, field_size}
use Rattle.theory.specs.Result.{Result, got, refused}
use Rattle.fields.specs.Reading.{ends, body, field_at, word, read}
use Rattle.fields.proofs.Bools.{and_left, and_right}
use Rattle.fields.proofs.Fields.{found, ended, body_get}
use Rattle.fields.proofs.Accepted.{accepted_ind}
use Rattle.register.specs.declared.Progress.{Progress}
use Rattle.field_reader.specs.declared.Standing.{Standing}
use Rattle.field_reader.specs.declared.Standing.TheVariants.{Head, Within}
use Rattle.register.specs.Form.{due, with_kind, with_link, no_register, register_form, value_of, register_in, edge_of, after_head}
use Rattle.register.specs.LinksAhead.{Accepted, cursor_at, OnLinks, to_come}
use Rattle.register.proofs.Fields.{head_length, entry_length}
use Rattle.register.proofs.Walk.{no_length, to_come_length, to_come_next}
use Rattle.register.proofs.Sound.{by_head, by_entry, head_got, kind_got, link_got}

-- ---- a file from a place on
-- the kinds ks lie one after the other
abbrev KindsLie : List ℕ → ℕ → List ℕ → Type 0
KindsLie s at [] = Unit {0}
KindsLie s at (k ∷ ks) = (at + 4 ≤ length s) × (get_or s (at + 3) 0 ≡ k) × KindsLie s (at + 4) ks

-- the link in the field at a place
abbrev edge_at : List ℕ → ℕ → Edge
edge_at s at = edge (word s (at + 3)) (get_or s (at + 3 + 2) 0) (word s (at + 3 + 3))

-- the links es lie one after the other, from a place to the file's end
abbrev Lie : List ℕ → ℕ → List Edge → Type 0
Lie s at [] = at ≡ length s
Lie s at (e ∷ es) = (edge_at s at ≡ e) × Lie s (at + 8) es

-- the register v is the kinds and links of r, and after them those that lie from a place on
record Rest (s : List ℕ) (q : Progress) (r : Register) (at : ℕ) (v : Register) : Type 0 where
  more_kinds : List ℕ
  more_links : List Edge
  kinds : v.kinds ≡ r.kinds ++ more_kinds
  links : v.links ≡ r.links ++ more_links
  kindless : length more_kinds ≡ q.kindless
  left : length more_links ≡ q.left
  kinds_lie : KindsLie s at more_kinds
  links_lie : Lie s (at + 4 * length more_kinds) more_links

-- the register v is the file from its beginning
record Placed (s : List ℕ) (v : Register) : Type 0 where
  head : 7 ≤ length s
  kinds : records v ≡ word s 3
  links : length v.links ≡ word s 5
  kinds_lie : KindsLie s 7 v.kinds
  links_lie : Lie s (7 + 4 * records v) v.links

abbrev Ends : List ℕ → Standing Progress × Register → ℕ → Register → Type 0
Ends s (Head, r) at v = r ≡ no_register → at ≡ 0 → Placed s v
Ends s (Within q, r) at v = at ≤ length s → Rest s q r at v

module _ (s : List ℕ) where
  at_end : (st : Standing Progress × Register) (at : ℕ) → field_at (register_form.due st) s at ≡ ends → Ends s st at (register_form.value st)
  at_end (Head, r) at e = absurd (false≢true (ended (due Head) s at e).may)
  at_end (Within q, r) at e = λ inside.
      let x = ended (due (Within q)) s at e in
      record {
        more_kinds = [];
        more_links = [];
        kinds = sym (append-nil r.kinds);
        links = sym (append-nil r.links);
        kindless = sym (eqb-true q.kindless 0 (and_left _ (eqb q.left 0) x.may));
        left = sym (eqb-true q.left 0 (and_right (eqb q.kindless 0) _ x.may));
        kinds_lie = tt;
        links_lie = omega (arith, x.past);
      }

  -- a word of a body is a word of the file
  body_word : (at n i j : ℕ) → i + 1 < n → at + 3 + i ≡ j → word (take n (drop (at + 3) s)) i ≡ word s j
  body_word at n i j h e =
      ap₂ (λ (x y : ℕ). x * 256 + y) (body_get s (at + 3) n i j (omega arith) e) (body_get s (at + 3) n (i + 1) (j + 1) h (omega arith))

  after_31 : (at n : ℕ) (v : Register) → n ≡ 4 → at ≡ 0 → at + 3 + n ≤ length s → Rest s (after_head (take n (drop (at + 3) s))) no_register (at + 3 + n) v → Placed s v
  after_31 at n v hn z room r =
      let p : at + 3 + n ≡ 7 = omega arith in
      let m : length r.more_kinds ≡ records v = sym (ap length r.kinds) in
      record {
        head = omega arith;
        kinds = sym m ∙ r.kindless ∙ body_word at n 0 3 (omega arith) (omega arith);
        links = ap length r.links ∙ r.left ∙ body_word at n 2 5 (omega arith) (omega arith);
        kinds_lie = subst (KindsLie s 7) (sym r.kinds) (subst (λ (a : ℕ). KindsLie s a r.more_kinds) p r.kinds_lie);
        links_lie = subst (λ (l : List Edge). Lie s (7 + 4 * records v) l) (sym r.links)
            (subst (λ (a : ℕ). Lie s a r.more_links) (let h : at + 3 + n + 4 * length r.more_kinds ≡ 7 + 4 * records v = omega arith in h) r.links_lie);
      }

  after_32 : (q q' : Progress) (x : Register) (at n : ℕ) (v : Register) → n ≡ 1 → at + 3 + n ≤ length s → q.kindless ≡ suc q'.kindless → q.left ≡ q'.left
      → Rest s q' (with_kind x (get_or (take n (drop (at + 3) s)) 0 0)) (at + 3 + n) v → Rest s q x at v
  after_32 q q' x at n v hn room hk hl r =
      let k = get_or (take n (drop (at + 3) s)) 0 0 in
      let p : at + 3 + n ≡ at + 4 = omega arith in
      record {
        more_kinds = k ∷ r.more_kinds;
        more_links = r.more_links;
        kinds = r.kinds ∙ append_assoc x.kinds _ _;
        links = r.links;
        kindless = omega (arith, r.kindless);
        left = r.left ∙ sym hl;
        kinds_lie = (omega arith, sym (body_get s (at + 3) n 0 (at + 3) (omega arith) (omega arith)), subst (λ (a : ℕ). KindsLie s a r.more_kinds) p r.kinds_lie);
        links_lie = subst (λ (a : ℕ). Lie s a r.more_links) (let h : at + 3 + n + 4 * length r.more_kinds ≡ at + 4 * suc (length r.more_kinds) = omega arith in h) r.links_lie;
      }

  body_edge : (at n : ℕ) → n ≡ 5 → edge_at s at ≡ edge_of (take n (drop (at + 3) s))
  body_edge at n hn =
      let a = body_word at n 0 (at + 3) (omega arith) (omega arith) in
      let b = body_get s (at + 3) n 2 (at + 3 + 2) (omega arith) (omega arith) in
      let c = body_word at n 3 (at + 3 + 3) (omega arith) (omega arith) in
      sym (λ i. record { from = a i; label = b i; to = c i })

  after_33 : (q q' : Progress) (x : Register) (at n : ℕ) (v : Register) → n ≡ 5 → at + 3 + n ≤ length s → q.kindless ≡ 0 → q'.kindless ≡ 0 → q.left ≡ suc q'.left
      → Rest s q' (with_link x (edge_of (take n (drop (at + 3) s)))) (at + 3 + n) v → Rest s q x at v
  after_33 q q' x at n v hn room hk hk' hl r =
      let e = edge_of (take n (drop (at + 3) s)) in
      let z : length r.more_kinds ≡ 0 = r.kindless ∙ hk' in
      record {
        more_kinds = [];
        more_links = e ∷ r.more_links;
        kinds = r.kinds ∙ ap (λ (l : List ℕ). x.kinds ++ l) (no_length r.more_kinds z);
        links = r.links ∙ append_assoc x.links _ _;
        kindless = sym hk;
        left = omega (arith, r.left);
        kinds_lie = tt;
        links_lie =
            let h : at + 3 + n + 4 * length r.more_kinds ≡ at + 4 * 0 + 8 = omega arith in
            let o : at + 4 * 0 ≡ at = omega arith in
            (ap (edge_at s) o ∙ body_edge at n hn, subst (λ (a : ℕ). Lie s a r.more_links) h r.links_lie);
      }

  at_body : (st : Standing Progress × Register) (at t n : ℕ) (st' : Standing Progress × Register) (v : Register) → field_at (register_form.due st) s at ≡ body t n
      → register_form.judge st at (at + 3 + n) t (take n (drop (at + 3) s)) ≡ got st' → Ends s st' (at + 3 + n) v → Ends s st at v
  at_body (Head, x) at t n st' v e j ih = λ w z.
      by_head (λ y. Ends s y (at + 3 + n) v → Placed s v) x at (at + 3 + n) t (take n (drop (at + 3) s)) st' j
      (λ q g r.
      let h = (head_got at (take n (drop (at + 3) s)) q g).2 in
      let room = (found (due Head) s at t n e).room in
      let here = subst (λ (p : Progress). Rest s p x (at + 3 + n) v) (sym h) (r room) in
      after_31 at n v (head_length s at t n e) z room (subst (λ (y : Register). Rest s (after_head (take n (drop (at + 3) s))) y (at + 3 + n) v) w here))
      ih
  at_body (Within q, x) at t n st' v e j ih = λ inside.
      let f = found (due (Within q)) s at t n e in
      let b = take n (drop (at + 3) s) in
      by_entry (λ y. Ends s y (at + 3 + n) v → Rest s q x at v) q x s at t n st' e j
      (λ q' k l g r.
      let h = (link_got q at b q' g).1 in
      let hn : n ≡ 5 = entry_length q s at t n e ∙ simp (eq-eqb _ _ k) in
      after_33 q q' x at n v hn f.room k (omega (arith, ap (λ (p : Progress). p.kindless) h)) (omega (arith, ap (λ (p : Progress). p.left) h)) (r f.room))
      (λ q' k g r.
      let h = (kind_got q at b q' g).1 in
      let hn : n ≡ 1 = entry_length q s at t n e ∙ simp (ne_eqb q.kindless 0 (omega arith)) in
      after_32 q q' x at n v hn f.room (omega (arith, ap (λ (p : Progress). p.kindless) h)) (ap (λ (p : Progress). p.left) h) (r f.room))
      ih

  placed : (v : Register) → read register_form s ≡ got v → Placed s v
  unfolding read
  placed v e = accepted_ind register_form s (Ends s) at_end at_body (suc (length s)) (Head, no_register) 0 v e refl refl

-- ---- kind i
kinds_at : (s : List ℕ) (at : ℕ) (ks : List ℕ) (i : ℕ) → KindsLie s at ks → i < length ks → (at + 4 * i + 3 < length s) × (get_or s (at + 4 * i + 3) 0 ≡ get_or ks i 0)
kinds_at s at [] i l h = absurd (omega arith)
kinds_at s at (k ∷ ks) zero l h =
    let z : at + 4 * 0 + 3 ≡ at + 3 = omega arith in
    (omega (arith, l.0), ap (λ (a : ℕ). get_or s a 0) z ∙ l.1)
kinds_at s at (k ∷ ks) (suc i) l h =
    let z : at + 4 * suc i + 3 ≡ at + 4 + 4 * i + 3 = omega arith in
    let r = kinds_at s (at + 4) ks i l.2 (omega arith) in
    (omega (arith, r.0), ap (λ (a : ℕ). get_or s a 0) z ∙ r.1)

pub kind_lies : (s : List ℕ) (i : ℕ) → i < records (register_in s) → (10 + 4 * i < length s) × (get_or s (10 + 4 * i) 0 ≡ kind (register_in s) i)
unfolding register_in
kind_lies s i h = by_answer (read register_form s) refl h
  where
    by_answer : (a : Result Register) → read register_form s ≡ a → i < records (value_of a) → (10 + 4 * i < length s) × (get_or s (10 + 4 * i) 0 ≡ kind (value_of a) i)
    by_answer (refused n p) e h = absurd (omega arith)
    by_answer (got v) e h =
        let r = kinds_at s 7 v.kinds i (placed s v e).kinds_lie h in
        let z : 10 + 4 * i ≡ 7 + 4 * i + 3 = omega arith in
        (omega (arith, r.0), ap (λ (a : ℕ). get_or s a 0) z ∙ r.1)

-- ---- the links
lie_end : (s : List ℕ) (at : ℕ) (es : List Edge) → Lie s at es → at + 8 * length es ≡ length s
lie_end s at [] l = omega (arith, l)
lie_end s at (e ∷ es) l = omega (arith, lie_end s (at + 8) es l.1)

lie_drop : (s : List ℕ) (at : ℕ) (es : List Edge) (k : ℕ) → Lie s at es → k ≤ length es → Lie s (at + 8 * k) (drop k es)
lie_drop s at es zero l h = let z : at ≡ at + 8 * 0 = omega arith in subst (λ (a : ℕ). Lie s a es) z l
lie_drop s at [] (suc k) l h = absurd (omega arith)
lie_drop s at (e ∷ es) (suc k) l h =
    let z : at + 8 + 8 * k ≡ at + 8 * suc k = omega arith in
    subst (λ (a : ℕ). Lie s a (drop k es)) z (lie_drop s (at + 8) es k l.1 (omega arith))

whole_length : (s : List ℕ) (v : Register) → Placed s v → 7 + 4 * records v + 8 * length v.links ≡ length s
whole_length s v p = lie_end s (7 + 4 * records v) v.links p.links_lie

-- a cursor's place, with the eight bytes of a link's field
cursor_place : (s : List ℕ) (k : ℕ) → cursor_at s k ≡ length s - 8 * k
unfolding cursor_at field_size tag_length rows
cursor_place s k = refl

-- the numbers of its head are those of its kinds and links
pub head_room : (s : List ℕ) → Accepted s → 7 ≤ length s
head_room s e = (placed s (register_in s) e).head

pub head_kinds : (s : List ℕ) → Accepted s → word s 3 ≡ length (register_in s).kinds
head_kinds s e = sym (placed s (register_in s) e).kinds

pub head_links : (s : List ℕ) → Accepted s → word s 5 ≡ length (register_in s).links
head_links s e = sym (placed s (register_in s) e).links

-- the first link lies after the kinds
pub start_room : (s : List ℕ) (n : ℕ) → Accepted s → n ≡ length (register_in s).kinds → 7 + 4 * n ≤ length s
start_room s n e h = omega (arith, whole_length s (register_in s) (placed s (register_in s) e))

pub on_start : (s : List ℕ) (n l : ℕ) → Accepted s → n ≡ length (register_in s).kinds → l ≡ length (register_in s).links → OnLinks s (7 + 4 * n) l
on_start s n l e hn hl = record {
  accepted = e;
  few = omega (arith, hl);
  placed = omega (arith, cursor_place s l, whole_length s (register_in s) (placed s (register_in s) e));
}

module _ (s : List ℕ) (at left : ℕ) (h : OnLinks s at left) where
  -- those to come lie from the cursor on
  lies : Lie s at (to_come s left)
  unfolding to_come
  lies =
      let p = placed s (register_in s) h.accepted in
      let n = length (register_in s).links in
      let z : 7 + 4 * records (register_in s) + 8 * (n - left) ≡ at = omega (arith, whole_length s (register_in s) p, h.few, h.placed, cursor_place s left) in
      subst (λ (a : ℕ). Lie s a (to_come s left)) z (lie_drop s (7 + 4 * records (register_in s)) (register_in s).links (n - left) p.links_lie (omega arith))

  module _ (some : left ≡ 0 → ⊥) where
    pub next_room : at + 8 ≤ length s
    next_room = omega (arith, lie_end s at (to_come s left) lies, to_come_length s left h.few)

    -- the cursor after the first of the links to come
    pub on_next : OnLinks s (at + 8) (left - 1)
    on_next = record {
      accepted = h.accepted;
      few = omega (arith, h.few);
      placed = omega (arith, lie_end s at (to_come s left) lies, to_come_length s left h.few, cursor_place s (left - 1));
    }

    pub next_link : (from label to : ℕ) → from ≡ word s (at + 3 + 0) → label ≡ get_or s (at + 3 + 2) 0 → to ≡ word s (at + 3 + 3)
        → to_come s left ≡ edge from label to ∷ to_come s (left - 1)
    next_link from label to hf hl ht = by_links (to_come s left) refl lies
      where
        by_links : (es : List Edge) → to_come s left ≡ es → Lie s at es → to_come s left ≡ edge from label to ∷ to_come s (left - 1)
        by_links [] e l = absurd (some (sym (to_come_length s left h.few) ∙ ap length e))
        by_links (x ∷ es) e l =
            let o : at + 3 + 0 ≡ at + 3 = omega arith in
            let z : edge from label to ≡ x = (λ i. edge ((hf ∙ ap (word s) o) i) (hl i) (ht i)) ∙ l.0 in
            e ∙ (λ i. sym z i ∷ sym (to_come_next s left h.few x es e) i)
