-- `register::past_kinds` meets its contract: each turn takes one more field that is a kind's, whole and judged to be in range.
use Rattle.register.specs.Passed.{Passed}
use lib.ListN.{length}
use Prim.Native.Nat.{◌-◌, ◌≤◌}
use Rattle.register.proofs.past_kinds.Given as goal

abbrev pub invariant-loop-next : goal.invariant-loop-next
invariant-loop-next l = Passed l.s l.initial.r.progress l.initial.r.at l.r.progress l.r.at × (l.r.at ≤ length l.s)

abbrev pub decreases-loop-next : goal.decreases-loop-next
decreases-loop-next l = length l.s - l.r.at
