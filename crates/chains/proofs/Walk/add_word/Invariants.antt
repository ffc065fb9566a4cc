-- `chains::Walk::add_word` meets its contract: a turn adds the row of the next bit of the word, and the rows of no bit gain nothing.
use mathlib.Core.Path.{◌≡◌}
use Prim.Native.Nat.{ℕ, ◌+◌, ◌*◌, ◌≤◌}
use lib.ListN.{get_or}
use Rattle.rows.specs.BitList.{ones}
use Rattle.rows.proofs.BitLists.{ones_from}
use Rattle.chains.specs.Routed.{between, Gained}
use Rattle.chains.specs.Walked.{walked}
use Rattle.chains.proofs.Walk.add_word.Given as goal

abbrev pub invariant-loop-k : goal.invariant-loop-k
invariant-loop-k l =
    let v = l.self in
    ((p : ℕ) × (p ≤ 64) × (ones (l.k-iterator).0 ≡ ones_from (get_or l.from l.i 0) p)
    × Gained (64 * l.i) (64 * l.i + p) v.records v.words (between (walked v) l.from l.to) l.initial.answer l.answer)
