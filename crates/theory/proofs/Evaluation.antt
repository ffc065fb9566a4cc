-- The computed tables hold a pair exactly where the path does, on a register whose links are between its records.
-- Assumes nothing.
use mathlib.Core.Logic.{◌⊎◌, inl, inr}
use mathlib.Core.Bool.{Bool, ◌&&◌, ◌||◌}
use mathlib.Core.List.{List, Memᴰ as In}
use Prim.Native.Nat.{ℕ, ◌<◌}
use lib.Dec.{T, ltb, ltb→lt}
use Rattle.theory.specs.Lists.{some?, range}
use Rattle.theory.specs.TransitiveClosure.{TransitiveClosure, single, extend, Table, table, look}
use Rattle.theory.specs.PathExpr.{Direction, forward, reverse, Label, Via, any, through, Op, union, conjunction, branch_right, branch_left, PathExpr, step, join, op, closure}
use Rattle.theory.specs.Register.{edge, Register, records, well_formed?, PassesThrough, Holds}
use Rattle.theory.specs.Merging.{Member}
use Rattle.theory.specs.Demand3.{Answer}
use Rattle.theory.specs.Evaluation.{passes?, step?, join?, op?, evaluate, plain_answer, member_answer, narrowed_answer}
use Rattle.theory.proofs.Tests.{tests, and_left, and_right, and_both, or_left, or_right, or_cases}
use Rattle.theory.proofs.Lists.{some_in, in_some, every_in, range_in}
use Rattle.theory.proofs.TransitiveClosure.{closure_map, look_make, look_true, closure_sound, closure_complete}
use Rattle.theory.proofs.Labels.{find_linked, found_linked}

module _ (r : Register) (well_formed : T (well_formed? r)) where
  abbrev Bounds : ℕ → ℕ → Type 0
  Bounds s t = (s < records r) × (t < records r)

  link_bounds : {a l b : ℕ} → In (edge a l b) r.links → Bounds a b
  unfolding well_formed?
  link_bounds {a} {l} {b} m =
      let t = every_in (λ c. ltb c.from (records r) && ltb c.to (records r)) well_formed m in
      search (tests, ltb→lt)

  closure_within : {R : ℕ → ℕ → Type 0} → ((s t : ℕ) → R s t → Bounds s t) → {s t : ℕ} → TransitiveClosure R s t → Bounds s t
  closure_within f (single {a} {b} x) = f a b x
  closure_within f (extend {b = b} {c = c} p x) = ((closure_within f p).0, (f b c x).1)

  -- pairs are between records
  pub holds_bounds : (p : PathExpr) (s t : ℕ) → Holds r p s t → Bounds s t
  holds_bounds (step forward l) s t h = link_bounds h.2
  holds_bounds (step reverse l) s t h = let b = link_bounds h.2 in (b.1, b.0)
  holds_bounds (join v p q) s t h = ((holds_bounds p s h.0 h.1).0, (holds_bounds q h.0 t h.2).1)
  holds_bounds (op union p q) s t (inl h) = holds_bounds p s t h
  holds_bounds (op union p q) s t (inr h) = holds_bounds q s t h
  holds_bounds (op conjunction p q) s t h = holds_bounds p s t h.0
  holds_bounds (op branch_right p q) s t h = holds_bounds p s t h.0
  holds_bounds (op branch_left p q) s t h = holds_bounds q s t h.0
  holds_bounds (closure p) s t h = closure_within (holds_bounds p) h

  abbrev Right : PathExpr → Type 0
  Right p = (s t : ℕ) → (T (look (evaluate r p) s t) → Holds r p s t) × (Holds r p s t → T (look (evaluate r p) s t))

  -- a table of a test is right where the test is
  tabled : (f : ℕ → ℕ → Bool) (p : PathExpr) → ((s t : ℕ) → T (f s t) → Holds r p s t) → ((s t : ℕ) → Holds r p s t → T (f s t))
      → (s t : ℕ) → (T (look (table (records r) f) s t) → Holds r p s t) × (Holds r p s t → T (look (table (records r) f) s t))
  tabled f p to from s t =
      (λ l. to s t (look_true (records r) f s t l).2, λ h. let b = holds_bounds p s t h in look_make (records r) f b.0 b.1 (from s t h))

  step_right : (d : Direction) (l : Label) → Right (step d l)
  step_right forward l = tabled (step? r forward l) (step forward l) (find_linked r l) (found_linked r l)
  step_right reverse l = tabled (step? r reverse l) (step reverse l) (λ s t. find_linked r l t s) (λ s t. found_linked r l t s)

  passed : (v : Via) (z : ℕ) → T (passes? r v z) → PassesThrough r v z
  passed any z t = tt
  passed (through m) z t = t

  of_passed : (v : Via) (z : ℕ) → PassesThrough r v z → T (passes? r v z)
  of_passed any z t = tt
  of_passed (through m) z t = t

  join_right : (v : Via) (p q : PathExpr) → Right p → Right q → Right (join v p q)
  join_right v p q f g = tabled (join? (records r) (passes? r v) (look x) (look y)) (join v p q) to from
    where
      x : Table
      x = evaluate r p

      y : Table
      y = evaluate r q

      to : (s t : ℕ) → T (join? (records r) (passes? r v) (look x) (look y) s t) → Holds r (join v p q) s t
      to s t h =
          let e = some_in (λ z. look x s z && (look y z t && passes? r v z)) (range (records r)) h in
          let z = e.0 in
          let u : T (look x s z && (look y z t && passes? r v z)) = e.2 in
          (z, (f s z).0 (search tests), (g z t).0 (search tests), passed v z (search tests))

      from : (s t : ℕ) → Holds r (join v p q) s t → T (join? (records r) (passes? r v) (look x) (look y) s t)
      from s t h =
          let z = h.0 in
          in_some (λ z. look x s z && (look y z t && passes? r v z)) (range_in (records r) z (holds_bounds p s z h.1).1)
          (search (tests, (f s z).1 h.1, (g z t).1 h.2, of_passed v z h.3))

  op_right : (o : Op) (p q : PathExpr) → Right p → Right q → Right (op o p q)
  op_right union p q f g =
      tabled (op? (records r) union (look (evaluate r p)) (look (evaluate r q))) (op union p q)
      (λ s t x. elim (or_cases (look (evaluate r p) s t) (look (evaluate r q) s t) x) [ inl u ↦ inl ((f s t).0 u) | inr u ↦ inr ((g s t).0 u) ])
      from
    where
      from : (s t : ℕ) → Holds r p s t ⊎ Holds r q s t → T (look (evaluate r p) s t || look (evaluate r q) s t)
      from s t (inl h) = or_left (look (evaluate r p) s t) (look (evaluate r q) s t) ((f s t).1 h)
      from s t (inr h) = or_right (look (evaluate r p) s t) (look (evaluate r q) s t) ((g s t).1 h)
  op_right conjunction p q f g =
      let x = evaluate r p in
      let y = evaluate r q in
      tabled (op? (records r) conjunction (look x) (look y)) (op conjunction p q)
      (λ s t u. ((f s t).0 (and_left (look x s t) (look y s t) u), (g s t).0 (and_right (look x s t) (look y s t) u)))
      (λ s t h. and_both (look x s t) (look y s t) ((f s t).1 h.0) ((g s t).1 h.1))
  op_right branch_right p q f g =
      let x = evaluate r p in
      let y = evaluate r q in
      tabled (op? (records r) branch_right (look x) (look y)) (op branch_right p q)
      (λ s t u.
      let e = some_in (look y t) (range (records r)) (and_right (look x s t) (some? (look y t) (range (records r))) u) in
      ((f s t).0 (and_left (look x s t) (some? (look y t) (range (records r))) u), (e.0, (g t e.0).0 e.2)))
      (λ s t h.
      and_both (look x s t) (some? (look y t) (range (records r))) ((f s t).1 h.0)
      (in_some (look y t) (range_in (records r) h.1.0 (holds_bounds q t h.1.0 h.1.1).1) ((g t h.1.0).1 h.1.1)))
  op_right branch_left p q f g =
      let x = evaluate r p in
      let y = evaluate r q in
      tabled (op? (records r) branch_left (look x) (look y)) (op branch_left p q)
      (λ s t u.
      let e = some_in (look x s) (range (records r)) (and_right (look y s t) (some? (look x s) (range (records r))) u) in
      ((g s t).0 (and_left (look y s t) (some? (look x s) (range (records r))) u), (e.0, (f s e.0).0 e.2)))
      (λ s t h.
      and_both (look y s t) (some? (look x s) (range (records r))) ((g s t).1 h.0)
      (in_some (look x s) (range_in (records r) h.1.0 (holds_bounds p s h.1.0 h.1.1).1) ((f s h.1.0).1 h.1.1)))

  closure_right : (p : PathExpr) → Right p → Right (closure p)
  closure_right p f s t = (
    λ l. closure_map (λ a b u. (f a b).0 u) (closure_sound (records r) (look (evaluate r p)) l),
    λ h. closure_complete (records r) (look (evaluate r p)) (λ a b u. holds_bounds p a b ((f a b).0 u)) (closure_map (λ a b u. (f a b).1 u) h),
  )

  pub evaluated : (p : PathExpr) → Right p
  evaluated (step d l) = step_right d l
  evaluated (join v p q) = join_right v p q (evaluated p) (evaluated q)
  evaluated (op o p q) = op_right o p q (evaluated p) (evaluated q)
  evaluated (closure p) = closure_right p (evaluated p)

  -- ---- the two answers
  pub plain_right : (q : PathExpr) (s t : ℕ) → (T (plain_answer r q s t) → Holds r q s t) × (Holds r q s t → T (plain_answer r q s t))
  unfolding plain_answer
  plain_right q s t = evaluated q s t

  pub narrowed_right : (ms : List Member) (s t : ℕ) → (T (narrowed_answer r ms s t) → Answer r ms s t) × (Answer r ms s t → T (narrowed_answer r ms s t))
  unfolding narrowed_answer
  narrowed_right ms s t = (to, from)
    where
      to : T (some? (member_answer r s t) ms) → Answer r ms s t
      to h =
          let e = some_in (member_answer r s t) ms h in
          let m = e.0 in
          let u : T (member_answer r s t m) = e.2 in
          (m, e.1, record { holds = (evaluated m.path s t).0 (search tests); from_kind = search tests; to_kind = search tests })

      from : Answer r ms s t → T (some? (member_answer r s t) ms)
      from h =
          let m = h.0 in
          in_some (member_answer r s t) h.1 (search (tests, (evaluated m.path s t).1 h.2.holds, h.2.from_kind, h.2.to_kind))
