-- `closure_rule::grow_walks` meets its contract: each walk is a shorter one joined with a triple of the start, and one of 25 triples would be too long, so the growth has them all.
use Prim.Native.Nat.{◌+◌, ◌-◌}
use Rattle.closure_rule.proofs.Growing.{WalksGrowing}
use Rattle.closure_rule.proofs.grow_walks.Given as goal

abbrev pub invariant-loop-i : goal.invariant-loop-i
invariant-loop-i l = WalksGrowing l.question l.initial.words l.words l.s l.f l.count l.i

abbrev pub decreases-loop-i : goal.decreases-loop-i
decreases-loop-i l = l.s + 129 - l.i
