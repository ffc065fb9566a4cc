-- `inference::infer` meets its contract: each part on the stack has the triples of its path, and the first symbol whose rule is refused is the first that the definition refuses.
use lib.ListN.{length}
use Rattle.inference.specs.Questions.{Asking}
use Rattle.inference.proofs.Turning.{Running}
use Rattle.inference.proofs.infer.Given as goal

abbrev pub invariant-loop-i : goal.invariant-loop-i
invariant-loop-i l = (h : Asking l.question l.initial.words l.sheet.kinds) × Running l.question l.initial.words l.words l.sheet.table (length l.question) l.sheet.kinds
    h.path l.parts l.depth l.used l.i-counter
