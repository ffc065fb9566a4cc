-- The closures that are kept: one for each two kinds between which a walk meets a cyclic kind, as the graph of the kinds has them.
-- Assumes nothing.
use mathlib.Core.Path.{◌≡◌, refl, sym, ap, ◌∙◌}
use mathlib.Core.List.{List}
use Prim.Native.Nat.{ℕ, ◌<◌, ◌≤◌}
use native.Mathlib.Omega.{arith}
use lib.ListN.{length, length-take, length-drop}
use Rattle.theory.specs.PathExpr.{closure, codes, size}
use Rattle.theory.specs.Inference.{Triple, reach, meets_cyclic?, kept_closures}
use Rattle.symbols.specs.Symbols.{symbol_numbered}
use Rattle.symbols.proofs.Numbers.{length_codes}
use Rattle.triples.specs.Paths.{original, Copied}
use Rattle.rules.specs.EdgeTriples.{edges_of, leaf_path, Leaf}
use Rattle.rules.proofs.Edges.{edges_are}
use Rattle.kind_graph.specs.Kinds.{KindGraph}
use Rattle.closure_rule.specs.Requirements.{kept_node}

pub copied_size : {qs : List ℕ} {o n : ℕ} → Copied qs o n → size (original qs o n) ≡ n
copied_size {qs} {o} {n} c =
    let e : length (codes (original qs o n)) ≡ n = ap length c.same_codes ∙ simp (length-take, length-drop) (omega (arith, c.inside)) in
    sym (length_codes (original qs o n)) ∙ e

-- the path of the node, whatever its kinds
kept_path : (qs : List ℕ) (o n : ℕ) → leaf_path qs (kept_node o n) ≡ closure (original qs o n)
unfolding leaf_path symbol_numbered
kept_path qs o n = refl

pub kept_leaf : {qs : List ℕ} {o n : ℕ} → Copied qs o n → o < 4096 → n ≤ 47 → Leaf qs (kept_node o n)
unfolding symbol_numbered
kept_leaf {qs} {o} {n} c l m =
    record {
      known = record { is = refl };
      alone = c;
      sized = ap size (kept_path qs o n) ∙ omega (arith, copied_size c);
      made_fits = omega arith;
      left_fits = l;
      right_fits = omega arith;
      size_fits = omega arith;
    }

pub kept_edges : {ts : List Triple} {xs : List ℕ} → KindGraph ts xs → (qs : List ℕ) (o n : ℕ) → edges_of xs (leaf_path qs (kept_node o n)) 64 ≡ kept_closures 64 (original qs o n) ts
kept_edges {ts} {xs} l qs o n = edges_are xs 64 (meets_cyclic? 64 (reach 64 ts)) (kept_path qs o n) l.met
