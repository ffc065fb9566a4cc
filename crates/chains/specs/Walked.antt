-- What a route says over work words, and the pairs of a walk. Of words on the way: no caller needs to read this.
-- Assumes nothing.
use Rattle.std.specs.Prelude.{Bool, List, ℕ}
use Rattle.theory.specs.PathExpr.{PathExpr}
use Rattle.evaluation.specs.declared.ground.Ground.{Ground}
use Rattle.evaluation.specs.Standing.{register_on}
use Rattle.chains.specs.declared.Route.{Route}
use Rattle.chains.specs.declared.Walk.{Walk}
use Rattle.chains.specs.Routed.{routed, Routed, Leads}

-- there is such a route over the words xs
abbrev pub RoutedOn : Ground → List ℕ → Route → Type 0
RoutedOn g xs r = Routed xs r.bases r.masks g.register.records g.words r.links

-- its pairs are those of a path
abbrev pub LeadsOn : Ground → List ℕ → Route → PathExpr → Type 0
LeadsOn g xs r p = Leads (register_on g) xs r.bases r.masks g.register.records g.words r.links p

-- the pairs of a walk
abbrev pub walked : Walk → ℕ → ℕ → Bool
walked v s t = routed v.work.now v.route.now.bases v.route.now.masks v.records v.words v.route.now.links s t
