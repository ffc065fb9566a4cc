-- `register::Register::from_accepted` meets its contract: the head of an accepted file has the numbers of its records and links.
-- Assumes nothing.
use mathlib.Core.Path.{◌∙◌}
use Rattle.register.proofs.Places.{head_room, head_kinds, head_links}
use native.Mathlib.Omega.{arith}
use Rattle.register.proofs.Register.from_accepted.Goals as goal

pub two-requires : goal.two-requires
two-requires c = omega (arith, head_room _ c.requires)

pub two-requires-2 : goal.two-requires-2
two-requires-2 c = omega (arith, head_room _ c.requires)

pub invariant_of-result : goal.invariant_of-result
invariant_of-result c = record {
  accepted = c.requires;
  counted = c.from.ensures ∙ c.two.ensures ∙ head_kinds _ c.requires;
  linked = c.from-2.ensures ∙ c.two-2.ensures ∙ head_links _ c.requires;
}
