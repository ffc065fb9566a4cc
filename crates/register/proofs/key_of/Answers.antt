-- `register::key_of` meets its contract: the five bytes as one number are from, link and to, each times what it weighs.
-- Assumes nothing.
use Rattle.register.specs.Form.{key}
use borrow.Author.Rules.{rules}
use Rattle.register.proofs.key_of.Goals as goal

pub returns : goal.returns
unfolding key
returns c = search rules
