-- `triples::Nodes::stands` meets its contract: no triple from j on is equal, so that those before j decide.
use mathlib.Core.Path.{◌≡◌}
use Rattle.theory.specs.Lists.{some?}
use Rattle.theory.specs.Inference.{triple?}
use Rattle.triples.specs.Paths.{triple_of}
use Rattle.triples.specs.Parts.{part_of}
use Prim.Native.Nat.{◌-◌}
use Rattle.triples.proofs.Nodes.stands.Given as goal

abbrev pub invariant-loop-j : goal.invariant-loop-j
invariant-loop-j l =
    (some? (triple? (triple_of l.self.question.now l.self.words.now l.u)) (part_of l.self.question.now l.self.words.now l.s (l.u - l.s))
    ≡ some? (triple? (triple_of l.self.question.now l.self.words.now l.u))
    (part_of l.self.question.now l.self.words.now l.s (l.j - l.s)))
