-- `triples::Nodes::same_path` meets its contract: paths are equal where their last symbols, join sets and operands are, and operands stand below their node, so that it ends.
-- Assumes nothing.
use Rattle.symbols.proofs.Numbers.{decoded}
use Rattle.triples.specs.declared.Node.{Node}
use Rattle.triples.proofs.Comparing.{same_node, made_differ, same_steps, same_kept, unlike}
use Rattle.triples.proofs.Comparing.{kinds_differ, join_lefts_differ, join_rights_differ, same_joins, op_lefts_differ, op_rights_differ, same_ops}
use mathlib.Core.Path.{sym, ap, ◌∙◌}
use borrow.Author.Tests.{eqb-true, eqb-false}
use Prim.Native.Nat.{ℕ}
use Rattle.triples.proofs.Nodes.+same_path.Goals.{then-load, else-load, then-eq, else-eq, then-load-2, else-load-2}
use Rattle.triples.proofs.Nodes.+same_path.Goals as goal

-- Tie as tie

pub returns-then-a-b : goal.returns-then-a-b
returns-then-a-b t c = same_node _ _ c.if-a-b.true

pub returns-then-x-y : goal.returns-then-x-y
returns-then-x-y t c = made_differ c.requires.0 c.requires.1 c.load-x.ensures.is c.load-y.ensures.is c.if-x-y.true

abbrev to_kind : Node → ℕ
to_kind n = n.to.0

abbrev made_of : Node → ℕ
made_of n = n.made

pub returns-in-Step : goal.returns-in-Step
returns-in-Step t c =
    same_steps c.requires.0 c.requires.1 c.load-x.ensures.is c.load-y.ensures.is c.if-x-y.false _ _ (decoded c.decode.ensures c.in-Step.is)

pub returns-in-Closure : goal.returns-in-Closure
returns-in-Closure t c =
    same_kept c.requires.0 c.requires.1 c.load-x.ensures.is c.load-y.ensures.is c.if-x-y.false (decoded c.decode.ensures c.in-Closure.is)
    c.same_codes.ensures

-- a join: the tests in a row have said yes, or one of them has said no
pub returns-then-same_path : goal.returns-then-same_path
returns-then-same_path t c =
    elim c.if-eq.branch [
      | then-eq w ↦ elim c.if-load.branch [
        | then-load v ↦
            same_joins c.requires.0 c.requires.1 c.load-x.ensures.is c.load-y.ensures.is c.if-x-y.false _ (decoded c.decode.ensures c.in-Join.is)
            (sym (ap to_kind v.load-then-load.ensures.is) ∙ eqb-true _ _ (sym v.eq.ensures ∙ sym v.value-is ∙ w.if-eq.true) ∙ ap to_kind v.load-then-load-2.ensures.is)
            (w.same_path.ensures.holds (sym w.value-is ∙ c.if-same_path.true)) c.same_path-then-same_path.ensures
        | else-load v ↦ absurd (v.if-load.false (eqb-true _ _ (sym v.value-is ∙ w.if-eq.true)))
      ]
      | else-eq w ↦ unlike (w.value-is ∙ w.if-eq.false) c.if-same_path.true
    ]

pub returns-else-same_path : goal.returns-else-same_path
returns-else-same_path t c =
    rw c.if-same_path.false (elim c.if-eq.branch [
      | then-eq w ↦
          join_lefts_differ c.requires.0 c.requires.1 c.load-x.ensures.is c.load-y.ensures.is c.if-x-y.false _ (decoded c.decode.ensures c.in-Join.is)
          (w.same_path.ensures.fails (sym w.value-is ∙ c.if-same_path.false))
      | else-eq w ↦ elim c.if-load.branch [
        | then-load v ↦
            kinds_differ c.requires.0 c.requires.1 c.load-x.ensures.is c.load-y.ensures.is c.if-x-y.false _ (decoded c.decode.ensures c.in-Join.is)
            (λ e. eqb-false _ _ (sym v.eq.ensures ∙ sym v.value-is ∙ w.if-eq.false) (ap to_kind v.load-then-load.ensures.is ∙ e ∙ sym (ap to_kind v.load-then-load-2.ensures.is)))
        | else-load v ↦
            join_rights_differ c.requires.0 c.requires.1 c.load-x.ensures.is c.load-y.ensures.is c.if-x-y.false _ (decoded c.decode.ensures c.in-Join.is)
            (λ e. v.if-load.false (ap made_of c.load.ensures.is ∙ e ∙ sym (ap made_of c.load-in-Join.ensures.is)))
      ]
    ])

-- another operator: the same without kinds
pub returns-then-same_path-2 : goal.returns-then-same_path-2
returns-then-same_path-2 t c =
    elim c.if-load-2.branch [
      | then-load-2 w ↦
          same_ops c.requires.0 c.requires.1 c.load-x.ensures.is c.load-y.ensures.is c.if-x-y.false _ (decoded c.decode.ensures c.in-Op.is)
          (w.same_path-then-load-2.ensures.holds (sym w.value-is ∙ c.if-same_path-2.true)) c.same_path-then-same_path-2.ensures
      | else-load-2 w ↦ absurd (w.if-load-2.false (eqb-true _ _ (sym w.value-is ∙ c.if-same_path-2.true)))
    ]

pub returns-else-same_path-2 : goal.returns-else-same_path-2
returns-else-same_path-2 t c =
    rw c.if-same_path-2.false (elim c.if-load-2.branch [
      | then-load-2 w ↦
          op_lefts_differ c.requires.0 c.requires.1 c.load-x.ensures.is c.load-y.ensures.is c.if-x-y.false _ (decoded c.decode.ensures c.in-Op.is)
          (w.same_path-then-load-2.ensures.fails (sym w.value-is ∙ c.if-same_path-2.false))
      | else-load-2 w ↦
          op_rights_differ c.requires.0 c.requires.1 c.load-x.ensures.is c.load-y.ensures.is c.if-x-y.false _ (decoded c.decode.ensures c.in-Op.is)
          (λ e. w.if-load-2.false (ap made_of c.load-in-Op.ensures.is ∙ e ∙ sym (ap made_of c.load-in-Op-2.ensures.is)))
    ])
