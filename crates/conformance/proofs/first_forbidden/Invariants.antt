-- `conformance::first_forbidden` meets its contract: the search over the links still to come, counted from their place, finds what the whole search finds.
use Rattle.conformance.proofs.LinkSearch.{LinksFrom}
use Rattle.register.specs.LinksAhead.{to_come}
use Rattle.conformance.proofs.first_forbidden.Given as goal

abbrev pub invariant-loop-i : goal.invariant-loop-i
invariant-loop-i l =
    let it = l.i-iterator.iter in
    LinksFrom l.register.file.now l.sheet.table l.i-iterator.count (to_come it.file.now it.left)
