-- `rows::unite_masked` meets its contract: each turn finds a word as it was at the start, and adds the bits that the source's word and the mask's have in common.
use lib.Bits.{bit_or, bit_and}
use lib.ListN.{get_or}
use Rattle.rows.specs.Kept.{Wrote}
use Prim.Native.Nat.{◌+◌, ◌≤◌}
use Rattle.rows.proofs.unite_masked.Given as goal

abbrev pub invariant-loop-j : goal.invariant-loop-j
invariant-loop-j l = (l.j ≤ l.n) × Wrote l.d l.j (λ i. bit_or (get_or l.initial.to (l.d + i) 0) (bit_and (get_or l.from (l.s + i) 0) (get_or l.mask i 0))) l.initial.to l.to
