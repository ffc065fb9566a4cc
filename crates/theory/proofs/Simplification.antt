-- Simplifying: whatever way is taken ends, and in the normal form, which is no longer and has the same pairs on every register.
-- Assumes nothing.
use mathlib.Core.Path.{◌≡◌, refl, sym, ap, ◌∙◌}
use mathlib.Core.Bool.{Bool, ◌&&◌}
use mathlib.Core.Logic.{◌↔◌}
use Prim.Native.Nat.{ℕ, ◌+◌, ◌≤◌, ◌<◌}
use native.Mathlib.Omega.{arith}
use Rattle.theory.specs.TransitiveClosure.{TransitiveClosure, single, extend}
use Rattle.theory.specs.PathExpr.{any, through, Op, union, conjunction, branch_right, branch_left, PathExpr, step, join, op, closure, size, plain?, links?}
use Rattle.theory.specs.Register.{Register, Holds}
use Rattle.theory.specs.Simplification.{Simplifies, closure_closure, closure_right, closure_left, join_right, join_left, in_join_first, in_join_second, in_op_first, in_op_second, in_closure}
use Rattle.theory.specs.Simplification.{Reduces, done, next, Irreducible, closed, tested, operated, normal_form}
use Rattle.theory.proofs.TransitiveClosure.{closure_append}
use Rattle.theory.proofs.Inclusion.{Under, under_refl, under_trans, passing_refl, join_under, op_under, closure_under}

-- what no simplification changes, none of them one after the other do
along : {A : Type 0} {p q : PathExpr} (f : PathExpr → A) → ((p q : PathExpr) → Simplifies p q → f p ≡ f q) → Reduces p q → f p ≡ f q
along f k done = refl
along f k (next s l) = k _ _ s ∙ along f k l

-- ---- a simplification leaves the normal form as it is
closed_closed : (p : PathExpr) → closed (closed p) ≡ closed p
closed_closed (step d l) = refl
closed_closed (join v p q) = refl
closed_closed (op o p q) = refl
closed_closed (closure p) = refl

pub tested_closed : (p : PathExpr) → tested (closed p) ≡ tested p
tested_closed (step d l) = refl
tested_closed (join v p q) = refl
tested_closed (op o p q) = refl
tested_closed (closure p) = refl

same_normal : {p q : PathExpr} → Simplifies p q → normal_form p ≡ normal_form q
same_normal (closure_closure {p}) = closed_closed (normal_form p)
same_normal (closure_right {p} {q}) = ap (op branch_right (normal_form p)) (tested_closed (normal_form q))
same_normal (closure_left {p} {q}) = ap (λ x. op branch_left x (normal_form q)) (tested_closed (normal_form p))
same_normal join_right = refl
same_normal join_left = refl
same_normal (in_join_first {v} {q = q} s) = ap (λ x. join v x (normal_form q)) (same_normal s)
same_normal (in_join_second {v} {p} s) = ap (join v (normal_form p)) (same_normal s)
same_normal (in_op_first {o} {q = q} s) = ap (λ x. operated o x (normal_form q)) (same_normal s)
same_normal (in_op_second {o} {p} s) = ap (operated o (normal_form p)) (same_normal s)
same_normal (in_closure s) = ap closed (same_normal s)

all_normal : {p q : PathExpr} → Reduces p q → normal_form p ≡ normal_form q
all_normal l = along normal_form (λ _ _ s. same_normal s) l

-- ---- simplifications lead to it
both : {p q r : PathExpr} → Reduces p q → Reduces q r → Reduces p r
both done m = m
both (next s l) m = next s (both l m)

within : {p q : PathExpr} (f : PathExpr → PathExpr) → ((p q : PathExpr) → Simplifies p q → Simplifies (f p) (f q)) → Reduces p q → Reduces (f p) (f q)
within f k done = done
within f k (next s l) = next (k _ _ s) (within f k l)

reach_right : (p q : PathExpr) → Reduces (op branch_right p q) (op branch_right p (tested q))
reach_right p (step d l) = done
reach_right p (join any q r) = next join_right (within (op branch_right p) (λ _ _ s. in_op_second s) (reach_right q r))
reach_right p (join (through m) q r) = done
reach_right p (op o q r) = done
reach_right p (closure q) = next closure_right (reach_right p q)

reach_left : (p q : PathExpr) → Reduces (op branch_left p q) (op branch_left (tested p) q)
reach_left (step d l) q = done
reach_left (join any p r) q = next join_left (within (λ x. op branch_left x q) (λ _ _ s. in_op_first s) (reach_right p r))
reach_left (join (through m) p r) q = done
reach_left (op o p r) q = done
reach_left (closure p) q = next closure_left (reach_left p q)

reach_closed : (p : PathExpr) → Reduces (closure p) (closed p)
reach_closed (step d l) = done
reach_closed (join v p q) = done
reach_closed (op o p q) = done
reach_closed (closure p) = next closure_closure done

reach_operated : (o : Op) (p q : PathExpr) → Reduces (op o p q) (operated o p q)
reach_operated union p q = done
reach_operated conjunction p q = done
reach_operated branch_right p q = reach_right p q
reach_operated branch_left p q = reach_left p q

pub reaches : (p : PathExpr) → Reduces p (normal_form p)
reaches (step d l) = done
reaches (join v p q) = both (within (λ x. join v x q) (λ _ _ s. in_join_first s) (reaches p)) (within (join v (normal_form p)) (λ _ _ s. in_join_second s) (reaches q))
reaches (op o p q) =
    both (within (λ x. op o x q) (λ _ _ s. in_op_first s) (reaches p))
    (both (within (op o (normal_form p)) (λ _ _ s. in_op_second s) (reaches q)) (reach_operated o (normal_form p) (normal_form q)))
reaches (closure p) = both (within closure (λ _ _ s. in_closure s) (reaches p)) (reach_closed (normal_form p))

-- ---- each takes something from a path, if a step, a join, an operator and a closure are given a weight, and a join is not lighter than an operator
module _ (s j o c : ℕ) where
  abbrev pub weight : PathExpr → ℕ
  weight (step d l) = s
  weight (join v p q) = j + (weight p + weight q)
  weight (op x p q) = o + (weight p + weight q)
  weight (closure p) = c + weight p

  module _ (e : ℕ) (h : e + o ≤ j) (k : e ≤ c) where
    takes : {p q : PathExpr} → Simplifies p q → e + weight q ≤ weight p
    takes closure_closure = omega arith
    takes closure_right = omega arith
    takes closure_left = omega arith
    takes join_right = omega arith
    takes join_left = omega arith
    takes (in_join_first x) = omega (arith, takes x)
    takes (in_join_second x) = omega (arith, takes x)
    takes (in_op_first x) = omega (arith, takes x)
    takes (in_op_second x) = omega (arith, takes x)
    takes (in_closure x) = omega (arith, takes x)

    takes_all : {p q : PathExpr} → Reduces p q → weight q ≤ weight p
    takes_all done = omega arith
    takes_all (next x l) = omega (arith, takes x, takes_all l)

  -- so the normal form does not weigh more
  pub no_heavier : o ≤ j → (p : PathExpr) → weight (normal_form p) ≤ weight p
  no_heavier h p = takes_all 0 (omega arith) (omega arith) (reaches p)

-- "never longer"
pub never_longer : (p : PathExpr) → size (normal_form p) ≤ size p
never_longer p = omega (arith, no_heavier 1 1 1 1 (omega arith) p, size_is p, size_is (normal_form p))
  where
    size_is : (p : PathExpr) → weight 1 1 1 1 p ≡ size p
    size_is (step d l) = refl
    size_is (join v p q) = omega (arith, size_is p, size_is q)
    size_is (op o p q) = omega (arith, size_is p, size_is q)
    size_is (closure p) = omega (arith, size_is p)

-- every way ends: a join is heavier than a branch, so each simplification takes at least 1
pub ends : {p q : PathExpr} → Simplifies p q → weight 1 2 1 1 q < weight 1 2 1 1 p
ends s = omega (arith, takes 1 2 1 1 1 (omega arith) (omega arith) s)

-- ---- none fits the normal form: a simplification of it would lead to a lighter path, and from there back to it
pub irreducible : (p : PathExpr) → Irreducible (normal_form p)
irreducible p q s =
    let back : normal_form q ≡ normal_form p = sym (same_normal s) ∙ sym (all_normal (reaches p)) in
    absurd (omega (arith, ends s, no_heavier 1 2 1 1 (omega arith) q, ap (weight 1 2 1 1) back))

-- a path that none fits goes nowhere
stays : {p q : PathExpr} → Irreducible p → Reduces p q → q ≡ p
stays n done = refl
stays n (next s l) = absurd (n _ s)

pub normal_stays : (p : PathExpr) → Irreducible p → normal_form p ≡ p
normal_stays p n = stays n (reaches p)

-- "does not depend on where one begins"
pub one_result : {p q : PathExpr} → Reduces p q → Irreducible q → q ≡ normal_form p
one_result {p} {q} l n = sym (normal_stays q n) ∙ sym (all_normal l)

-- "a second pass leaves it be"
pub twice : (p : PathExpr) → normal_form (normal_form p) ≡ normal_form p
twice p = normal_stays (normal_form p) (irreducible p)

-- ---- "the same pairs on every register"
first_pair : {R : ℕ → ℕ → Type 0} {s t : ℕ} → TransitiveClosure R s t → (z : ℕ) × R s z
first_pair (single {b = b} h) = (b, h)
first_pair (extend c h) = first_pair c

flat : {R : ℕ → ℕ → Type 0} {s t : ℕ} → TransitiveClosure (λ a b. TransitiveClosure R a b) s t → TransitiveClosure R s t
flat (single h) = h
flat (extend c h) = closure_append (flat c) h

-- each holds what the other holds
record Same (p q : PathExpr) : Type 0 where
  there : Under p q
  back : Under q p

abbrev same : {p q : PathExpr} → ((r : Register) (s t : ℕ) → Holds r p s t → Holds r q s t) → ((r : Register) (s t : ℕ) → Holds r q s t → Holds r p s t) → Same p q
same f g = record { there = record { holds = f }; back = record { holds = g } }

keeps : {p q : PathExpr} → Simplifies p q → Same p q
keeps closure_closure = same (λ r s t h. flat h) (λ r s t h. single h)
keeps closure_right = same (λ r s t h. (h.0, first_pair h.1.1)) (λ r s t h. (h.0, (h.1.0, single h.1.1)))
keeps closure_left = same (λ r s t h. (h.0, first_pair h.1.1)) (λ r s t h. (h.0, (h.1.0, single h.1.1)))
keeps join_right = same (λ r s t h. (h.0, (h.1.1.0, (h.1.1.1, (h.1.0, h.1.1.2))))) (λ r s t h. (h.0, (h.1.1.1.0, (h.1.0, h.1.1.0, h.1.1.1.1, tt))))
keeps join_left = same (λ r s t h. (h.0, (h.1.1.0, (h.1.1.1, (h.1.0, h.1.1.2))))) (λ r s t h. (h.0, (h.1.1.1.0, (h.1.0, h.1.1.0, h.1.1.1.1, tt))))
keeps (in_join_first k) = let e = keeps k in record { there = join_under passing_refl e.there under_refl; back = join_under passing_refl e.back under_refl }
keeps (in_join_second k) = let e = keeps k in record { there = join_under passing_refl under_refl e.there; back = join_under passing_refl under_refl e.back }
keeps (in_op_first k) = let e = keeps k in record { there = op_under e.there under_refl; back = op_under e.back under_refl }
keeps (in_op_second k) = let e = keeps k in record { there = op_under under_refl e.there; back = op_under under_refl e.back }
keeps (in_closure k) = let e = keeps k in record { there = closure_under e.there; back = closure_under e.back }

keeps_all : {p q : PathExpr} → Reduces p q → Same p q
keeps_all done = record { there = under_refl; back = under_refl }
keeps_all (next k l) = record { there = under_trans (keeps k).there (keeps_all l).there; back = under_trans (keeps_all l).back (keeps k).back }

pub same_pairs : (r : Register) (p : PathExpr) (s t : ℕ) → Holds r (normal_form p) s t ↔ Holds r p s t
same_pairs r p s t = let e = keeps_all (reaches p) in (e.back.holds r s t, e.there.holds r s t)

-- ---- it is a question's path where the path is: no sets, and the same links
same_plain : {p q : PathExpr} → Simplifies p q → plain? p ≡ plain? q
same_plain closure_closure = refl
same_plain closure_right = refl
same_plain closure_left = refl
same_plain join_right = refl
same_plain join_left = refl
same_plain (in_join_first {v = any} {q = q} s) = ap (λ (b : Bool). b && plain? q) (same_plain s)
same_plain (in_join_first {v = through m} s) = refl
same_plain (in_join_second {v = any} {p = p} s) = ap (λ (b : Bool). plain? p && b) (same_plain s)
same_plain (in_join_second {v = through m} s) = refl
same_plain (in_op_first {q = q} s) = ap (λ (b : Bool). b && plain? q) (same_plain s)
same_plain (in_op_second {p = p} s) = ap (λ (b : Bool). plain? p && b) (same_plain s)
same_plain (in_closure s) = same_plain s

same_links : (n : ℕ) {p q : PathExpr} → Simplifies p q → links? n p ≡ links? n q
same_links n closure_closure = refl
same_links n closure_right = refl
same_links n closure_left = refl
same_links n join_right = refl
same_links n join_left = refl
same_links n (in_join_first {q = q} s) = ap (λ (b : Bool). b && links? n q) (same_links n s)
same_links n (in_join_second {p = p} s) = ap (λ (b : Bool). links? n p && b) (same_links n s)
same_links n (in_op_first {q = q} s) = ap (λ (b : Bool). b && links? n q) (same_links n s)
same_links n (in_op_second {p = p} s) = ap (λ (b : Bool). links? n p && b) (same_links n s)
same_links n (in_closure s) = same_links n s

pub normal_plain : (p : PathExpr) → plain? p ≡ plain? (normal_form p)
normal_plain p = along plain? (λ _ _ s. same_plain s) (reaches p)

pub normal_links : (n : ℕ) (p : PathExpr) → links? n p ≡ links? n (normal_form p)
normal_links n p = along (links? n) (λ _ _ s. same_links n s) (reaches p)
