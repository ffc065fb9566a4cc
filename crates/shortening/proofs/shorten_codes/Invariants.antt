-- `shortening::shorten_codes` meets its contract: `Pass` holds at the head of the loop, a turn keeps it (`pass_top`), and where no code is left the output is that of the normal form (`pass_end`).
use Rattle.std.specs.Slice.Iter.{iter_rest}
use Rattle.std.specs.Iterator.Adapters.{rev_source}
use Rattle.shortening.specs.Pass.{OfQuestion}
use Rattle.shortening.proofs.Pass.{Pass}
use Rattle.shortening.proofs.shorten_codes.Given as goal

abbrev pub invariant-loop-code : goal.invariant-loop-code
invariant-loop-code l = (q : OfQuestion l.codes) × Pass (iter_rest (rev_source l.code-iterator)) q.0 l.out l.contexts l.depth l.start
