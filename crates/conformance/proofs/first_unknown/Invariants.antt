-- `conformance::first_unknown` meets its contract: the kinds of the records before i are known, so the search from i on finds what the whole search finds.
use Rattle.register.specs.Form.{register_in}
use Rattle.conformance.proofs.KindSearch.{KindsFrom}
use Rattle.conformance.proofs.first_unknown.Given as goal

abbrev pub invariant-loop-i : goal.invariant-loop-i
invariant-loop-i l = KindsFrom l.kinds (register_in l.register.file.now) l.i
