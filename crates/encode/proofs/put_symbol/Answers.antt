-- `encode::put_symbol` meets its contract: the symbol tells which field it has; an operator has its number in it.
-- Assumes nothing.
use borrow.Author.Rules.{rules}
use mathlib.Core.List.{[], ◌∷◌}
use Rattle.fields.specs.Writing.{eight_bytes}
use Rattle.symbols.specs.Contract.{direction_said}
use Rattle.symbols.specs.Writing.{direction_number}
use Rattle.encode.proofs.Parts.{tag_room, body_wrote}
use Rattle.encode.proofs.put_symbol.Goals as goal

pub put_step-requires : goal.put_step-requires
put_step-requires c = tag_room _ _ _ c.decode.ensures _ _ _ (search rules) c.requires

pub put_through-requires : goal.put_through-requires
put_through-requires c = tag_room _ _ _ c.decode.ensures _ _ _ (search rules) c.requires

pub put_operator-requires : goal.put_operator-requires
put_operator-requires c = tag_room _ _ _ c.decode.ensures _ _ _ (search rules) c.requires

pub returns-in-Step : goal.returns-in-Step
returns-in-Step c = body_wrote _ _ _ c.decode.ensures {b = direction_number (direction_said c.in-Step.direction) ∷ c.in-Step.link.0 ∷ []} c.put_step.ensures (search rules) (search rules)

pub returns-in-Join-Through : goal.returns-in-Join-Through
returns-in-Join-Through c = body_wrote _ _ _ c.decode.ensures {b = eight_bytes c.in-Join-Through.set} c.put_through.ensures (search rules) (search rules)

pub returns-in-Join-Any : goal.returns-in-Join-Any
returns-in-Join-Any c = body_wrote _ _ _ c.decode.ensures {b = c.args.number ∷ []} c.put_operator.ensures (search rules) (search rules)
