-- When two nodes have the same path, and the same triple.
-- Assumes nothing.
use mathlib.Core.Path.{◌≡◌, refl, sym, ap, ◌∙◌, subst}
use mathlib.Core.Bool.{Bool, true, false, true≢false, false≢true}
use mathlib.Core.Logic.{◌↔◌}
use mathlib.Core.List.{List}
use mathlib.Core.Option
use Prim.Native.Nat.{ℕ}
use lib.Dec.{T}
use lib.ListN.{take, drop}
use borrow.Author.Tests.{eq-eqb, ne_eqb}
use Rattle.theory.specs.Lists.{decided}
use Rattle.theory.specs.KindSet.{singleton, has}
use Rattle.theory.specs.PathExpr.{forward, Label, named, through, Op, PathExpr, step, join, op, closure, codes, path_discrete, same?, Direction, Via, Symbol, s_step, s_join, s_op, s_closure}
use Rattle.theory.specs.Postfix.{path_of}
use Rattle.theory.specs.Inference.{Triple, triple?}
use Rattle.theory.proofs.KindSet.{has_singleton, singleton_has}
use Rattle.symbols.specs.Symbols.{symbol_numbered}
use Rattle.question.specs.Form.{question_symbols}
use Rattle.triples.specs.declared.Node.{Node}
use Rattle.triples.specs.Table.{node_at}
use Rattle.triples.specs.Paths.{original, triple_of, Copied, Has}
use Rattle.triples.specs.Tests.{Decides}
use Rattle.triples.proofs.Triples.{triple_from, triple_to}
use Rattle.triples.proofs.Codes.{last_code}
use Rattle.triples.proofs.NodePaths.{Binary, step_path, kept_path, kept_copied, last_made, left_has, right_has, join_path, join_binary, op_path, op_binary}

pub decides_yes : {P : Type 0} → P → Decides P true
decides_yes p = record { holds = λ e. p; fails = λ e. absurd (true≢false e) }

pub decides_no : {P : Type 0} → (P → ⊥) → Decides P false
decides_no n = record { holds = λ e. absurd (false≢true e); fails = λ e. n }

decides_as : {P Q : Type 0} {r : Bool} → (P → Q) → (Q → P) → Decides P r → Decides Q r
decides_as f g d = record { holds = λ e. f (d.holds e); fails = λ e q. d.fails e (g q) }

-- a test has one outcome
pub unlike : {P : Type 0} {b : Bool} → b ≡ false → b ≡ true → P
unlike f t = absurd (true≢false (sym t ∙ f))

-- one node has one path
pub same_node : (q ws : List ℕ) {a b : ℕ} → a ≡ b → Decides ((triple_of q ws a).path ≡ (triple_of q ws b).path) true
same_node q ws e = decides_yes (ap (λ (i : ℕ). (triple_of q ws i).path) e)

-- ---- constructors
closure_inj : {p q : PathExpr} → closure p ≡ closure q → p ≡ q
closure_inj e = cc

join_inj : {k k' : ℕ} {p q p' q' : PathExpr} → join (through k) p q ≡ join (through k') p' q' → (k ≡ k') × (p ≡ p') × (q ≡ q')
join_inj e = ((cc), (cc), (cc))

op_inj : {o o' : Op} {p q p' q' : PathExpr} → op o p q ≡ op o' p' q' → (p ≡ p') × (q ≡ q')
op_inj e = ((cc), (cc))

singleton_inj : (a b : ℕ) → singleton a ≡ singleton b → a ≡ b
singleton_inj a b e = singleton_has b a (subst (λ (m : ℕ). T (has m a)) e (has_singleton a))

-- ---- the paths of two nodes
module _ {qs ws : List ℕ} {used a b : ℕ} (ha : Has qs ws used a) (hb : Has qs ws used b) {x y : Node} (ex : x ≡ node_at ws a) (ey : y ≡ node_at ws b) where
  abbrev Same : Bool → Type 0
  Same r = Decides ((triple_of qs ws a).path ≡ (triple_of qs ws b).path) r

  pub made_differ : ¬ (x.made ≡ y.made) → Same false
  made_differ n = decides_no (λ e. n (sym (last_made ha x ex) ∙ ap last_code e ∙ last_made hb y ey))

  abbrev Left : Type 0
  Left = (triple_of qs ws x.left).path ≡ (triple_of qs ws y.left).path

  abbrev Right : Type 0
  Right = (triple_of qs ws x.right).path ≡ (triple_of qs ws y.right).path

  -- equal paths of an operator have equal operands
  module _ (bx : Binary qs ws a x) (by : Binary qs ws b y) where
    pub lefts_has : Has qs ws used x.left × Has qs ws used y.left
    lefts_has = (left_has ha x ex bx.two, left_has hb y ey by.two)

    pub rights_has : Has qs ws used x.right × Has qs ws used y.right
    rights_has = (right_has ha x ex bx.two, right_has hb y ey by.two)

    module _ (operands : (triple_of qs ws a).path ≡ (triple_of qs ws b).path → Left × Right) where
      differ_left : ¬ Left → Same false
      differ_left k = decides_no (λ e. k (operands e).0)

      differ_right : ¬ ((node_at ws x.right).made ≡ (node_at ws y.right).made) → Same false
      differ_right k = decides_no (λ e. k (sym (last_made rights_has.0 _ refl) ∙ ap last_code (operands e).1 ∙ last_made rights_has.1 _ refl))

  module _ (m : x.made ≡ y.made) where
    -- both have one last symbol
    other : {s : Symbol} → symbol_numbered x.made 0 ≡ s → symbol_numbered y.made 0 ≡ s
    other k = ap (λ (c : ℕ). symbol_numbered c 0) (sym m) ∙ k

    pub same_steps : (d : Direction) (l : Label) → symbol_numbered x.made 0 ≡ s_step d l → Same true
    same_steps d l s = decides_yes (step_path ha x ex d l s ∙ sym (step_path hb y ey d l (other s)))

    module _ (k : symbol_numbered x.made 0 ≡ s_closure) where
      pub both_copied : Copied qs x.left x.right × Copied qs y.left y.right
      both_copied = (kept_copied ha x ex k, kept_copied hb y ey (other k))

      pub same_kept : {r : Bool} → Decides (take x.right (drop x.left qs) ≡ take y.right (drop y.left qs)) r → Same r
      unfolding original
      same_kept d =
          decides_as (λ e. kept_path ha x ex k ∙ ap (λ (l : List ℕ). closure (Option.get_or (path_of (question_symbols l)) (step forward (named 0)))) e ∙ sym (kept_path hb y ey (other k)))
          (λ e. sym both_copied.0.same_codes ∙ ap codes (closure_inj (sym (kept_path ha x ex k) ∙ e ∙ kept_path hb y ey (other k))) ∙ both_copied.1.same_codes)
          d

    -- ---- joins
    module _ (v : Via) (j : symbol_numbered x.made 0 ≡ s_join v) where
      pub joins : Binary qs ws a x × Binary qs ws b y
      joins = (join_binary ha x ex v j, join_binary hb y ey v (other j))

      parts : (triple_of qs ws a).path ≡ (triple_of qs ws b).path
          → (singleton (node_at ws x.left).to.0 ≡ singleton (node_at ws y.left).to.0) × Left × Right
      parts e = join_inj (sym (join_path ha x ex v j) ∙ e ∙ join_path hb y ey v (other j))

      pub kinds_differ : ¬ ((node_at ws x.left).to.0 ≡ (node_at ws y.left).to.0) → Same false
      kinds_differ k = decides_no (λ e. k (singleton_inj _ _ (parts e).0))

      pub join_lefts_differ : ¬ Left → Same false
      join_lefts_differ = differ_left joins.0 joins.1 (λ e. ((parts e).1, (parts e).2))

      pub join_rights_differ : ¬ ((node_at ws x.right).made ≡ (node_at ws y.right).made) → Same false
      join_rights_differ = differ_right joins.0 joins.1 (λ e. ((parts e).1, (parts e).2))

      pub same_joins : {r : Bool} → (node_at ws x.left).to.0 ≡ (node_at ws y.left).to.0 → Left → Decides Right r → Same r
      same_joins k el d = decides_as (λ er. cc (join_path ha x ex v j, k, el, er, join_path hb y ey v (other j))) (λ e. (parts e).2) d

    -- ---- the other operators
    module _ (o : Op) (j : symbol_numbered x.made 0 ≡ s_op o) where
      pub ops : Binary qs ws a x × Binary qs ws b y
      ops = (op_binary ha x ex o j, op_binary hb y ey o (other j))

      halves : (triple_of qs ws a).path ≡ (triple_of qs ws b).path → Left × Right
      halves e = op_inj (sym (op_path ha x ex o j) ∙ e ∙ op_path hb y ey o (other j))

      pub op_lefts_differ : ¬ Left → Same false
      op_lefts_differ = differ_left ops.0 ops.1 halves

      pub op_rights_differ : ¬ ((node_at ws x.right).made ≡ (node_at ws y.right).made) → Same false
      op_rights_differ = differ_right ops.0 ops.1 halves

      pub same_ops : {r : Bool} → Left → Decides Right r → Same r
      same_ops el d = decides_as (λ er. cc (op_path ha x ex o j, el, er, op_path hb y ey o (other j))) (λ e. (halves e).1) d

-- ---- and their triples
path_test : (p q : PathExpr) {r : Bool} → Decides (p ≡ q) r → r ≡ same? p q
unfolding same?
path_test p q {r} d = go r (path_discrete p q) d
  where
    go : (r : Bool) (x : Dec (p ≡ q)) → Decides (p ≡ q) r → r ≡ decided x
    go true (yes e) d = refl
    go true (no n) d = absurd (n (d.holds refl))
    go false (yes e) d = absurd (d.fails refl e)
    go false (no n) d = refl

module _ (qs ws : List ℕ) (a b : ℕ) {x y : Node} (ex : x ≡ node_at ws a) (ey : y ≡ node_at ws b) where
  abbrev s : Triple
  s = triple_of qs ws a

  abbrev t : Triple
  t = triple_of qs ws b

  froms : (x.from.0 ≡ y.from.0) ↔ (s.from ≡ t.from)
  froms = rw (triple_from qs ws a, triple_from qs ws b, ← ex, ← ey) ((λ e. e), (λ e. e))

  tos : (x.to.0 ≡ y.to.0) ↔ (s.to ≡ t.to)
  tos = rw (triple_to qs ws a, triple_to qs ws b, ← ex, ← ey) ((λ e. e), (λ e. e))

  pub from_differ : ¬ (x.from.0 ≡ y.from.0) → false ≡ triple? s t
  unfolding triple?
  from_differ n = rw (ne_eqb s.from t.from (λ e. n (froms.1 e)))

  pub to_differ : x.from.0 ≡ y.from.0 → ¬ (x.to.0 ≡ y.to.0) → false ≡ triple? s t
  unfolding triple?
  to_differ e n = rw (eq-eqb s.from t.from (froms.0 e), ne_eqb s.to t.to (λ f. n (tos.1 f)))

  pub paths_decide : {r : Bool} → x.from.0 ≡ y.from.0 → x.to.0 ≡ y.to.0 → Decides (s.path ≡ t.path) r → r ≡ triple? s t
  unfolding triple?
  paths_decide e f d = rw (eq-eqb s.from t.from (froms.0 e), eq-eqb s.to t.to (tos.0 f)) (path_test s.path t.path d)
