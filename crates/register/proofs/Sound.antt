-- What holds of the kinds and links so far, at each field.
-- Assumes nothing.
use mathlib.Core.Path.{◌≡◌, refl, sym, ap, subst, ◌∙◌}
use mathlib.Core.Bool.{Bool, true, false, cond, ◌&&◌}
use mathlib.Core.List.{List, [], ◌∷◌, ◌++◌}
use Prim.Native.Nat.{ℕ, ◌+◌, ◌<◌, ◌≤◌}
use native.Mathlib.Omega.{arith}
use borrow.Author.Tests.{eqb-true, eqb-false, leb-true}
use lib.Dec.{leb, eqb}
use lib.ListN.{length, get_or, take, drop, length-append}
use Rattle.theory.specs.Lists.{every?}
use Rattle.theory.specs.Register.{Register}
use Rattle.theory.specs.Result.{got}
use Rattle.fields.specs.Reading.{word, body, field_at}
use Rattle.fields.proofs.Bools.{cond_then, and_left, and_right, not_got, onward_got, got_same, got_both}
use Rattle.fields.proofs.Accepted.{taken}
use Rattle.register.specs.declared.Progress.{Progress}
use Rattle.field_reader.specs.declared.Standing.{Standing}
use Rattle.field_reader.specs.declared.Standing.TheVariants.{Head, Within}
use Rattle.register.specs.Form.{due, head_of, kind_of, link_of, entry_of, after_head, after_kind, after_link, kind?, link?, edge_of, key}
use Rattle.register.specs.Form.{no_entry, kind_entry, link_entry, handed_over, with_kind, with_link, keep, no_register, register_format, register_form}
use Rattle.register.proofs.Fields.{entry_due, some_due}

-- ---- a field that was taken: its numbers are in range, and how far the reading has come
pub head_got : (at : ℕ) (b : List ℕ) (q : Progress) → head_of at b ≡ got q → (word b 0 ≤ 1024) × (word b 2 ≤ 4096) × (after_head b ≡ q)
unfolding head_of
head_got at b q e =
    let a = cond_then (leb (word b 0) 1024 && leb (word b 2) 4096) (not_got 3 at q) e in
    let h : after_head b ≡ q = cc a.1 in
    (leb-true (word b 0) 1024 (and_left _ (leb (word b 2) 4096) a.0), leb-true (word b 2) 4096 (and_right (leb (word b 0) 1024) _ a.0), h)

pub kind_got : (q : Progress) (at : ℕ) (b : List ℕ) (q' : Progress) → kind_of q at b ≡ got q' → (kind? (get_or b 0 0) ≡ true) × (after_kind q ≡ q')
unfolding kind_of
kind_got q at b q' e =
    let a = cond_then (kind? (get_or b 0 0)) (not_got 3 at q') e in
    let h : after_kind q ≡ q' = cc a.1 in
    (a.0, h)

pub link_got : (q : Progress) (at : ℕ) (b : List ℕ) (q' : Progress) → link_of q at b ≡ got q' → (link? q.records (edge_of b) ≡ true) × (after_link q b ≡ q')
unfolding link_of
link_got q at b q' e =
    let a = cond_then (link? q.records (edge_of b)) (not_got 3 at q') e in
    let d = cond_then (leb q.floor (key b)) (not_got 4 at q') a.1 in
    let h : after_link q b ≡ q' = cc d.1 in
    (a.0, h)

-- a field within the file is a link or a kind, and there is one due
module _ (P : Standing Progress × Register → Type 0) (q : Progress) (r : Register) (s : List ℕ) (at t n : ℕ) (st : Standing Progress × Register) (e : field_at (due (Within q)) s at ≡ body t n) where
  abbrev B : List ℕ
  B = take n (drop (at + 3) s)

  abbrev Link : Type 0
  Link = (q' : Progress) → q.kindless ≡ 0 → 0 < q.left → link_of q at B ≡ got q' → P (Within q', with_link r (edge_of B))

  abbrev Kind : Type 0
  Kind = (q' : Progress) → 0 < q.kindless → kind_of q at B ≡ got q' → P (Within q', with_kind r (get_or B 0 0))

  by_test : (c : Bool) → eqb q.kindless 0 ≡ c → (q' : Progress) → cond c (link_of q at B) (kind_of q at B) ≡ got q' → Within q' ≡ st.0
      → keep r (cond c (link_entry (edge_of B)) (kind_entry (get_or B 0 0))) ≡ got st.1 → Link → Kind → P st
  by_test true z q' g u k link kind =
      let l : q.kindless ≡ 0 = eqb-true q.kindless 0 z in
      subst P (λ i. (u i, got_same k i)) (link q' l (omega (arith, some_due q (entry_due q s at t n e))) g)
  by_test false z q' g u k link kind =
      let l : q.kindless ≡ 0 → ⊥ = eqb-false q.kindless 0 z in
      subst P (λ i. (u i, got_same k i)) (kind q' (omega arith) g)

  pub by_entry : register_form.judge (Within q, r) at (at + 3 + n) t B ≡ got st → Link → Kind → P st
  unfolding entry_of
  by_entry j =
      let x = taken register_format (Within q) r at (at + 3 + n) t B st j in
      let (q', g, w) = onward_got (λ q'. got (Within q', handed_over (Within q) B)) (entry_of q at B) _ x.judged in
      let v = got_both w in
      by_test (eqb q.kindless 0) refl q' g v.0 (ap (keep r) v.1 ∙ x.kept)

pub by_head : (P : Standing Progress × Register → Type 0) (r : Register) (at next t : ℕ) (b : List ℕ) (st : Standing Progress × Register) → register_form.judge (Head, r) at next t b ≡ got st
    → ((q : Progress) → head_of at b ≡ got q → P (Within q, r)) → P st
by_head P r at next t b st j head =
    let x = taken register_format Head r at next t b st j in
    let (q, g, w) = onward_got (λ q. got (Within q, no_entry)) (head_of at b) _ x.judged in
    let v = got_both w in
    let k : keep r no_entry ≡ got st.1 = ap (keep r) v.1 ∙ x.kept in
    subst P (λ i. (v.0 i, got_same k i)) (head q g)

-- ---- those so far and those due add up to the numbers in the head, and all are in range
pub record Sound (q : Progress) (r : Register) : Type 0 where
  pub records : length r.kinds + q.kindless ≡ q.records
  pub links : length r.links + q.left ≡ q.links
  pub few_records : q.records ≤ 1024
  pub few_links : q.links ≤ 4096
  pub kinds : every? kind? r.kinds ≡ true
  pub edges : every? (link? q.records) r.links ≡ true

abbrev pub SoundState : Standing Progress × Register → Type 0
SoundState (Head, r) = r ≡ no_register
SoundState (Within q, r) = Sound q r

every_snoc : {A : Type 0} (f : A → Bool) (xs : List A) (x : A) → every? f xs ≡ true → f x ≡ true → every? f (xs ++ (x ∷ [])) ≡ true
every_snoc f [] x e h = rw h
every_snoc f (y ∷ ys) x e h = rw (and_left (f y) (every? f ys) e, every_snoc f ys x (and_right (f y) (every? f ys) e) h)

pub sound_more : (st : Standing Progress × Register) (s : List ℕ) (at t n : ℕ) (st' : Standing Progress × Register) → field_at (register_form.due st) s at ≡ body t n
    → register_form.judge st at (at + 3 + n) t (take n (drop (at + 3) s)) ≡ got st' → SoundState st → SoundState st'
sound_more (Head, r) s at t n st' e j w =
    by_head SoundState r at (at + 3 + n) t (take n (drop (at + 3) s)) st' j (λ q g.
    let h = head_got at (take n (drop (at + 3) s)) q g in
    subst (λ (p : Progress). Sound p r) h.2
    (subst (λ (x : Register). Sound (after_head (take n (drop (at + 3) s))) x) (sym w)
    (record { records = omega arith; links = omega arith; few_records = h.0; few_links = h.1; kinds = refl; edges = refl })))
sound_more (Within q, r) s at t n st' e j w =
    by_entry SoundState q r s at t n st' e j
    (λ q' k l g.
    let b = take n (drop (at + 3) s) in
    let h = link_got q at b q' g in
    subst (λ (p : Progress). Sound p (with_link r (edge_of b))) h.1 (record {
      records = w.records;
      links = omega (arith, w.links, length-append r.links (edge_of b ∷ []));
      few_records = w.few_records;
      few_links = w.few_links;
      kinds = w.kinds;
      edges = every_snoc (link? q.records) r.links (edge_of b) w.edges h.0;
    }))
    (λ q' k g.
    let b = take n (drop (at + 3) s) in
    let h = kind_got q at b q' g in
    subst (λ (p : Progress). Sound p (with_kind r (get_or b 0 0))) h.1 (record {
      records = omega (arith, w.records, length-append r.kinds (get_or b 0 0 ∷ []));
      links = w.links;
      few_records = w.few_records;
      few_links = w.few_links;
      kinds = every_snoc kind? r.kinds (get_or b 0 0) w.kinds h.0;
      edges = w.edges;
    }))
