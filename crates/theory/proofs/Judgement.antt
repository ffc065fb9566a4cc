-- The outcome of narrowing is the one that the rules alone give: 11, 12 and 13 are exact, with their places.
-- Assumes nothing.
use mathlib.Core.Path.{◌≡◌, refl, sym, ap₂, ◌∙◌, subst}
use mathlib.Core.Logic.{◌⊎◌, inl, inr, ◌↔◌}
use mathlib.Core.Bool.{Bool, true, false, cond}
use mathlib.Core.List.Memᴰ.{head as here}
use mathlib.Core.List.Memᴰ.{tail as there}
use mathlib.Core.List.{List, [], ◌∷◌, Memᴰ as In}
use Prim.Native.Nat.{ℕ}
use native.Mathlib.Nat.{zero-add}
use native.Mathlib.Omega.{arith}
use lib.Dec.{T}
use Rattle.theory.specs.Lists.{First, now, later}
use Rattle.theory.specs.PathExpr.{below?, Symbol, s_step, s_join, s_op, s_closure, PathExpr, postfix, parts}
use Rattle.theory.specs.Sheet.{Sheet, sheet?}
use Rattle.theory.specs.Inference.{triples}
use Rattle.theory.specs.Merging.{members}
use Rattle.theory.specs.Narrowing.{Narrowing, link_fault, short?, part_fault, refuse, narrow, Unnamed, Named, TooLong, Faulty, Judged, unnamed, too_long, too_many, sound}
use Rattle.theory.specs.Result.{got, refused}
use Rattle.theory.proofs.FirstFailing.{first_map, first_holds, scan, Fault, fault?, no_fault, first_refused, none_refused}
use Rattle.theory.proofs.Narrowing.{fault_short}
use Rattle.theory.proofs.Refusals.{PartIs, fine, many, long, part_is}
use Rattle.theory.proofs.Grounded.{Grounded, grounded}

-- ---- a part's refusal, read as what it says
module _ {S : Sheet} {p : PathExpr} where
  is_faulty : {n : ℕ} → PartIs S p n → ¬ (n ≡ 0) → Faulty S p
  is_faulty (fine f) c = absurd (c refl)
  is_faulty (many n m) c = inr m
  is_faulty (long l) c = inl l

  is_fine : {n : ℕ} → PartIs S p n → n ≡ 0 → ¬ Faulty S p
  is_fine (fine f) e = f
  is_fine (many n m) e = absurd (omega arith)
  is_fine (long l) e = absurd (omega arith)

  long_is : {n : ℕ} → PartIs S p n → TooLong S p → n ≡ 13
  long_is (fine f) l = absurd (f (inl l))
  long_is (many n m) l = absurd (n l)
  long_is (long k) l = refl

  many_is : {n : ℕ} → PartIs S p n → Faulty S p → ¬ TooLong S p → n ≡ 12
  many_is (fine f) h n = absurd (f h)
  many_is (many k m) h n = refl
  many_is (long l) h n = absurd (n l)

-- the parts up to the first that is refused
data Scanned (S : Sheet) : List PathExpr → Type 0 where
  end : Scanned S []
  stop : {x : PathExpr} {xs : List PathExpr} → PartIs S x (part_fault S x) → Fault (part_fault S) x → Scanned S (x ∷ xs)
  pass : {x : PathExpr} {xs : List PathExpr} → PartIs S x (part_fault S x) → part_fault S x ≡ 0 → Scanned S xs → Scanned S (x ∷ xs)

module _ (S : Sheet) (ok : T (sheet? S)) where
  scanned : (K : PathExpr → Type 0) (xs : List PathExpr) → Grounded S K xs → ((u : PathExpr) → K u → T (short? (triples S u))) → Scanned S xs
  scanned K [] g h = end
  scanned K (x ∷ xs) g h = go (fault? (part_fault S) x) (λ e. scanned (λ u. K u ⊎ (u ≡ x)) xs g.1 (with_x e))
    where
      with_x : part_fault S x ≡ 0 → (u : PathExpr) → K u ⊎ (u ≡ x) → T (short? (triples S u))
      with_x e u (inl k) = h u k
      with_x e u (inr d) = subst (λ y. T (short? (triples S y))) (sym d) (fault_short S x e)

      go : Fault (part_fault S) x ⊎ ¬ Fault (part_fault S) x → (part_fault S x ≡ 0 → Scanned S xs) → Scanned S (x ∷ xs)
      go (inl c) rest = stop (part_is S ok x (g.0 h)) c
      go (inr n) rest = let e = no_fault (part_fault S) x n in pass (part_is S ok x (g.0 h)) e (rest e)

module _ {S : Sheet} where
  -- the first that is refused is the first that is faulty
  first_rule : {xs : List PathExpr} → Scanned S xs → {i : ℕ} {p : PathExpr} → First (Fault (part_fault S)) xs i p → First (Faulty S) xs i p × PartIs S p (part_fault S p)
  first_rule end f = elim f [ ]
  first_rule (stop is c) (now d) = (now (is_faulty is d), is)
  first_rule (stop is c) (later n f) = absurd (n c)
  first_rule (pass is e sc) (now d) = absurd (d e)
  first_rule (pass is e sc) (later n f) = let r = first_rule sc f in (later (is_fine is e) r.0, r.1)

  rule_first : {xs : List PathExpr} → Scanned S xs → {i : ℕ} {p : PathExpr} → First (Faulty S) xs i p → First (Fault (part_fault S)) xs i p × PartIs S p (part_fault S p)
  rule_first end f = elim f [ ]
  rule_first (stop is c) (now d) = (now c, is)
  rule_first (stop is c) (later n f) = absurd (n (is_faulty is c))
  rule_first (pass is e sc) (now d) = absurd (is_fine is e d)
  rule_first (pass is e sc) (later n f) = let r = rule_first sc f in (later (λ c. c e) r.0, r.1)

  none_rule : {xs : List PathExpr} → Scanned S xs → ((p : PathExpr) → In p xs → part_fault S p ≡ 0) → (p : PathExpr) → In p xs → ¬ Faulty S p
  none_rule end h p m = elim m [ ]
  none_rule (stop {x = x} is c) h p m = absurd (c (h x (here refl)))
  none_rule (pass is e sc) h p (here d) = subst (λ u. ¬ Faulty S u) (sym d) (is_fine is e)
  none_rule (pass is e sc) h p (there m) = none_rule sc (λ u i. h u (there i)) p m

  rule_none : {xs : List PathExpr} → Scanned S xs → ((p : PathExpr) → In p xs → ¬ Faulty S p) → (p : PathExpr) → In p xs → part_fault S p ≡ 0
  rule_none end h p m = elim m [ ]
  rule_none (stop {x = x} is c) h p m = absurd (h x (here refl) (is_faulty is c))
  rule_none (pass is e sc) h p (here d) = subst (λ u. part_fault S u ≡ 0) (sym d) e
  rule_none (pass is e sc) h p (there m) = rule_none sc (λ u i. h u (there i)) p m

-- ---- links
module _ (E : ℕ) where
  unnamed_fault : (s : Symbol) → Unnamed E s → link_fault E s ≡ 11
  unnamed_fault (s_step d l) h = go (below? l E) h
    where
      go : (b : Bool) → ¬ T b → ◌≡◌ {A = ℕ} (cond b 0 11) 11
      go true n = absurd (n tt)
      go false n = refl
  unnamed_fault (s_join v) h = absurd h
  unnamed_fault (s_op o) h = absurd h
  unnamed_fault s_closure h = absurd h

  fault_unnamed : (s : Symbol) → Fault (link_fault E) s → Unnamed E s
  fault_unnamed (s_step d l) c = go (below? l E) c
    where
      go : (b : Bool) → ¬ (◌≡◌ {A = ℕ} (cond b 0 11) 0) → ¬ T b
      go true c t = c refl
      go false c t = t
  fault_unnamed (s_join v) c = absurd (c refl)
  fault_unnamed (s_op o) c = absurd (c refl)
  fault_unnamed s_closure c = absurd (c refl)

  named_fault : (s : Symbol) → Unnamed E s → Fault (link_fault E) s
  named_fault s h z = let e = unnamed_fault s h in absurd (omega arith)

-- ---- the outcome
module _ (S : Sheet) (ok : T (sheet? S)) (q : PathExpr) where
  abbrev E : ℕ
  E = S.link_names

  abbrev inferred : Narrowing
  inferred = refuse (part_fault S) 0 (parts q) (got (members (triples S q)))

  walked : Scanned S (parts q)
  walked = scanned S ok (λ u. ⊥) (parts q) (grounded S q) (λ u k. absurd k)

  past_links : Named S q → narrow S q ≡ inferred
  unfolding narrow
  past_links n = none_refused (link_fault E) (postfix q) (λ s m. no_fault (link_fault E) s (λ c. n s m (fault_unnamed E s c))) 0 inferred

  of_judged : {o : Narrowing} → Judged S q o → narrow S q ≡ o
  unfolding narrow
  of_judged (unnamed {i = i} {s = s} f) =
      first_refused (link_fault E) (first_map (named_fault E) (fault_unnamed E) f) 0 inferred ∙ ap₂ refused (unnamed_fault E s (first_holds f)) (zero-add i)
  of_judged (too_long {i = i} n f l) =
      let r = rule_first walked f in
      past_links n ∙ first_refused (part_fault S) r.0 0 (got (members (triples S q))) ∙ ap₂ refused (long_is r.1 l) (zero-add i)
  of_judged (too_many {i = i} n f h) =
      let r = rule_first walked f in
      past_links n ∙ first_refused (part_fault S) r.0 0 (got (members (triples S q))) ∙ ap₂ refused (many_is r.1 (first_holds f) h) (zero-add i)
  of_judged (sound n h) = past_links n ∙ none_refused (part_fault S) (parts q) (rule_none walked h) 0 (got (members (triples S q)))

  judged : (o : Narrowing) × Judged S q o
  judged = go (scan (fault? (link_fault E)) (postfix q)) (scan (fault? (part_fault S)) (parts q))
    where
      by_part : {i : ℕ} {p : PathExpr} {n : ℕ} → Named S q → First (Faulty S) (parts q) i p → PartIs S p n → (o : Narrowing) × Judged S q o
      by_part n f (fine h) = absurd (h (first_holds f))
      by_part {i} n f (many h m) = (refused 12 i, too_many n f h)
      by_part {i} n f (long l) = (refused 13 i, too_long n f l)

      go : ((i : ℕ) × (s : Symbol) × First (Fault (link_fault E)) (postfix q) i s) ⊎ ((s : Symbol) → In s (postfix q) → ¬ Fault (link_fault E) s)
          → ((i : ℕ) × (p : PathExpr) × First (Fault (part_fault S)) (parts q) i p) ⊎ ((p : PathExpr) → In p (parts q) → ¬ Fault (part_fault S) p)
          → (o : Narrowing) × Judged S q o
      go (inl f) rest = (refused 11 f.0, unnamed (first_map (fault_unnamed E) (named_fault E) f.2))
      go (inr n) (inl f) = let r = first_rule walked f.2 in by_part (λ s m h. n s m (named_fault E s h)) r.0 r.1
      go (inr n) (inr h) =
          (got (members (triples S q)), sound (λ s m u. n s m (named_fault E s u)) (none_rule walked (λ p m. no_fault (part_fault S) p (h p m))))

  pub narrow_exact : (o : Narrowing) → (narrow S q ≡ o) ↔ Judged S q o
  narrow_exact o = (λ e. let j = judged in subst (Judged S q) (sym (of_judged j.1) ∙ e) j.1, λ j. of_judged j)
