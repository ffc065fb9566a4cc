-- `register::kind_lies` meets its contract: it is true only past all tests: a kind is due, there is room, and tag and length are a kind's.
-- Assumes nothing.
use native.Mathlib.Omega.{arith}
use Rattle.std.proofs.lemmas.Bool.Decides.{nat_tests}
use Rattle.std.proofs.lemmas.Grind.{common_steps}
use Rattle.fields.specs.Table.{rows, tag_length, field_size}
use Rattle.register.proofs.kind_lies.Goals as goal

pub returns-then-s-r-eq-KIND_TAG : goal.returns-then-s-r-eq-KIND_TAG
unfolding field_size tag_length rows
returns-then-s-r-eq-KIND_TAG c = grind (arith, common_steps, nat_tests)
