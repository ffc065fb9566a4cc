-- `fields::eight_at` meets its contract: four numbers of two bytes, each below 65536, are its digits in base 65536, and no step exceeds 64 bits.
-- Assumes nothing.
use Rattle.fields.specs.Reading.{eight}
use borrow.Author.Rules.{rules}
use Rattle.fields.proofs.eight_at.Goals as goal

pub returns : goal.returns
unfolding eight
returns c = search rules
