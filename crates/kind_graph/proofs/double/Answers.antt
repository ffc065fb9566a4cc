-- `kind_graph::double` meets its contract: the last 64 words are the first 64, which stay as they are.
-- Assumes nothing.
use mathlib.Core.Path.{refl, ap, ◌∙◌}
use Prim.Native.Nat.{◌+◌}
use native.Mathlib.Omega.{arith}
use lib.ListN.{get_or}
use Rattle.rows.proofs.Rows.{row_merged}
use Rattle.kind_graph.proofs.double.Goals as goal

pub returns : goal.returns
returns c =
    let w = c.args.work.now in
    let e = c.copy_within.ensures in
    let b = e.by_index in
    row_merged w 0 (λ x y. y) (λ x y. y) (λ x y k. refl)
    (record {
      kept = record { len = e.len; below = λ k h. b.1 k 0 h; above = λ k h. b.2 k 0 (omega arith) };
      word = λ j h. b.0 (64 + j) 0 (omega arith) (omega arith) ∙ ap (λ i. get_or w i 0) (omega arith);
    })
