-- The turns of an expansion: room for each operand, and what is written in the end.
-- Assumes nothing.
use mathlib.Core.Path.{◌≡◌, refl, sym, ap, ap₂, ◌∙◌, subst}
use mathlib.Core.List.{List, [], ◌∷◌}
use Prim.Native.Nat.{ℕ, suc, ◌+◌, ◌*◌, ◌%◌, ◌^◌, ◌<◌, ◌≤◌}
use native.Mathlib.Nat.{one-mul}
use native.Mathlib.Omega.{arith}
use lib.Pow.{shl_exact}
use lib.ListN.{length, take, drop, replicate, length-replicate}
use Rattle.theory.specs.KindSet.{singleton}
use Rattle.theory.specs.PathExpr.{through, Direction, Label, PathExpr, codes, code, size, Via, Op, Symbol, s_step, s_join, s_op, s_closure}
use Rattle.symbols.proofs.Numbers.{length_codes}
use Rattle.symbols.specs.Symbols.{symbol_numbered}
use Rattle.triples.specs.declared.Node.{Node}
use Rattle.triples.specs.Table.{node_at}
use Rattle.theory.specs.JoinSets.{sets_of}
use Rattle.theory.proofs.JoinSets.{sets_length}
use Rattle.triples.specs.Paths.{original, triple_of, Has}
use Rattle.triples.specs.Expansion.{PathWritten, Expanded, Expandable}
use Rattle.triples.proofs.NodePaths.{Binary, known, step_path, kept_path, kept_copied, left_has, right_has, join_path, op_path}
use Rattle.triples.proofs.Writing.{wrote_as, expanded_join, expanded_op, expanded_closure}

pub shl_singleton : (k : ℕ) → k < 64 → (1 * 2 ^ k) % 2 ^ 64 ≡ singleton k
unfolding singleton
shl_singleton k h = shl_exact {a = 1} 1 k 64 (omega arith) (omega arith) ∙ one-mul (2 ^ k)

-- a node's size is that of its path
sized : {qs ws : List ℕ} {used i : ℕ} → Has qs ws used i → size (triple_of qs ws i).path ≡ (node_at ws i).size
sized {i = i} h = (h.sound.good i h.in_use).sized

written : {qs ws : List ℕ} {used i : ℕ} → Has qs ws used i → length (codes (triple_of qs ws i).path) ≡ (node_at ws i).size
written {qs} {ws} {i = i} h = length_codes (triple_of qs ws i).path ∙ sized h

module _ {qs ws : List ℕ} {used i at : ℕ} {xs ys : List ℕ} (h : Expandable qs ws used i at xs ys) (n : Node) (e : n ≡ node_at ws i) where
  -- the node's code is that of its last symbol
  own : {s : Symbol} → symbol_numbered n.made 0 ≡ s → n.made ≡ code s
  own s = sym (known h.has n e).is ∙ ap code s

  one : {x y : ℕ} → x ≡ y → x ∷ [] ≡ y ∷ []
  one k = ap (λ (z : ℕ). z ∷ []) k

  -- ---- a step
  module _ (d : Direction) (l : Label) (s : symbol_numbered n.made 0 ≡ s_step d l) where
    pub step_room : (at < length xs) × (at < length ys)
    step_room =
        let z : (node_at ws i).size ≡ 1 = sym (sized h.has) ∙ ap size (step_path h.has n e d l s) in
        omega (arith, h.codes_room, h.sets_room)

    pub step_done : {xs' ys' : List ℕ} {r : ℕ} → PathWritten at (n.made ∷ []) (0 ∷ []) xs ys xs' ys' r → Expanded (triple_of qs ws i).path at xs ys xs' ys' r
    step_done w = let p = sym (step_path h.has n e d l s) in wrote_as w (one (own s) ∙ ap codes p) (ap sets_of p)

  -- ---- a kept chain
  module _ (m : symbol_numbered n.made 0 ≡ s_closure) where
    pub kept_room : (n.left + n.right ≤ length qs) × (at + n.right < length xs) × (at + n.right < length ys)
    kept_room =
        let c = kept_copied h.has n e m in
        let s = sym (sized h.has) ∙ ap size (kept_path h.has n e m) in
        let z : size (original qs n.left n.right) ≡ n.right = sym (sets_length (original qs n.left n.right)) ∙ ap length c.no_sets ∙ length-replicate n.right 0 in
        omega (arith, s, h.codes_room, h.sets_room, c.inside)

    module _ {xs₁ ys₁ : List ℕ} {mid : ℕ} (a : PathWritten at (take n.right (drop n.left qs)) (replicate n.right 0) xs ys xs₁ ys₁ mid) where
      pub kept_last : (mid < length xs₁) × (mid < length ys₁)
      kept_last = omega (arith, kept_room, length-replicate {A = ℕ} n.right 0)

      pub kept_done : {xs₂ ys₂ : List ℕ} {r : ℕ} → PathWritten mid (n.made ∷ []) (0 ∷ []) xs₁ ys₁ xs₂ ys₂ r → Expanded (triple_of qs ws i).path at xs ys xs₂ ys₂ r
      kept_done {xs₂} {ys₂} {r} b =
          let c = kept_copied h.has n e m in
          subst (λ (p : PathExpr). Expanded p at xs ys xs₂ ys₂ r) (sym (kept_path h.has n e m))
          (expanded_closure (original qs n.left n.right) (wrote_as a (sym c.same_codes) (sym c.no_sets)) (wrote_as b (one (own m)) refl))

  -- ---- two operands
  abbrev p : PathExpr
  p = (triple_of qs ws n.left).path

  abbrev q : PathExpr
  q = (triple_of qs ws n.right).path

  module _ (t : Binary qs ws i n) where
    -- what the room of an operand follows from
    facts : ((node_at ws i).size ≡ suc ((node_at ws n.left).size + (node_at ws n.right).size)) × (length (codes p) ≡ (node_at ws n.left).size) × (length (codes q) ≡ (node_at ws n.right).size)
    facts =
        let a = left_has h.has n e t.two in
        let b = right_has h.has n e t.two in
        (sym (sized h.has) ∙ t.sizes ∙ ap₂ (λ (x y : ℕ). suc (x + y)) (sized a) (sized b), written a, written b)

    pub left_ready : Expandable qs ws used n.left at xs ys
    left_ready = let f = facts in record { has = left_has h.has n e t.two; codes_room = omega (arith, h.codes_room); sets_room = omega (arith, h.sets_room) }

    module _ {xs₁ ys₁ : List ℕ} {mid : ℕ} (a : Expanded p at xs ys xs₁ ys₁ mid) where
      pub right_ready : Expandable qs ws used n.right mid xs₁ ys₁
      right_ready = let f = facts in record { has = right_has h.has n e t.two; codes_room = omega (arith, h.codes_room); sets_room = omega (arith, h.sets_room) }

      pub last_room : {xs₂ ys₂ : List ℕ} {end : ℕ} → Expanded q mid xs₁ ys₁ xs₂ ys₂ end → (end < length xs₂) × (end < length ys₂)
      last_room b = let f = facts in omega (arith, h.codes_room, h.sets_room)

  module _ {xs₁ ys₁ xs₂ ys₂ : List ℕ} {mid end : ℕ} (a : Expanded p at xs ys xs₁ ys₁ mid) (b : Expanded q mid xs₁ ys₁ xs₂ ys₂ end) {xs₃ ys₃ : List ℕ} {r : ℕ} where
    pub join_done : {k : ℕ} (v : Via) → symbol_numbered n.made 0 ≡ s_join v → k ≡ singleton (node_at ws n.left).to.0 → PathWritten end (n.made ∷ []) (k ∷ []) xs₂ ys₂ xs₃ ys₃ r
        → Expanded (triple_of qs ws i).path at xs ys xs₃ ys₃ r
    join_done v s k c =
        subst (λ (p : PathExpr). Expanded p at xs ys xs₃ ys₃ r) (sym (join_path h.has n e v s))
        (expanded_join p q (through (singleton (node_at ws n.left).to.0)) a b (wrote_as c (one (own s)) (one k)))

    pub op_done : (o : Op) → symbol_numbered n.made 0 ≡ s_op o → PathWritten end (n.made ∷ []) (0 ∷ []) xs₂ ys₂ xs₃ ys₃ r → Expanded (triple_of qs ws i).path at xs ys xs₃ ys₃ r
    op_done o s c = subst (λ (p : PathExpr). Expanded p at xs ys xs₃ ys₃ r) (sym (op_path h.has n e o s)) (expanded_op p q o a b (wrote_as c (one (own s)) refl))
