-- `narrowed_question::earlier` meets its contract: the codes so far are equal in pairs, so those from there on compare as the whole members do.
use Rattle.std.proofs.Common.{◌≡◌, map, length, drop}
use Rattle.theory.specs.PathExpr.{before?}
use Rattle.symbols.specs.Symbols.{order_code}
use Rattle.narrowed_question.proofs.earlier.Given as goal

abbrev pub invariant-loop-x : goal.invariant-loop-x
invariant-loop-x l =
    before? (map order_code (drop (length l.yielded) l.a)) (map order_code (drop (length l.yielded) l.b)) ≡ before? (map order_code l.a) (map order_code l.b)
