-- The starred cases: antt computes the narrowing of each question of the table, and the file that SPECIFICATION prints.
-- Assumes nothing.
use mathlib.Core.Path.{◌≡◌, refl}
use mathlib.Core.List.{map}
use native.Mathlib.Decide.{ℕ_discrete}
use Rattle.theory.specs.Lists.{adjoin}
use Rattle.theory.specs.KindSet.{singleton, set_union}
use Rattle.theory.specs.TransitiveClosure.{closure?}
use Rattle.theory.specs.PathExpr.{same?}
use Rattle.theory.specs.Register.{same_edge?}
use Rattle.theory.specs.Sheet.{permits?}
use Rattle.theory.specs.Inference.{triple?, reach, meets_cyclic?, of_closure}
use Rattle.theory.specs.Merging.{same_shape?}
use Rattle.theory.specs.Narrowing.{part_fault, parted, narrow_symbols}
use Rattle.symbols.specs.Symbols.{symbol_numbered}
use Rattle.narrowed_question.specs.Writing.{encode}
use Rattle.narrowed_question.specs.Members.{narrowed_file}
use Rattle.starred_cases.specs.Table.{sheet, cases, computed, expected}

pub starred : map computed cases ≡ map expected cases
unfolding singleton set_union closure? same? same_edge? permits? adjoin triple? reach meets_cyclic? of_closure same_shape? part_fault
    parted narrow_symbols symbol_numbered encode narrowed_file sheet cases ℕ_discrete
starred = refl
