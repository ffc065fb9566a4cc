-- The definitions of theory give what the reference program gives, on every case of the tables: antt computes them, a table at a time.
-- Assumes nothing.
use mathlib.Core.Path.{◌≡◌, refl}
use mathlib.Core.Bool.{true}
use mathlib.Core.List.{[], ◌∷◌}
use native.Mathlib.Decide.{ℕ_discrete}
use Rattle.bits.specs.Bit.{bit_of}
use Rattle.theory.specs.Lists.{every?, adjoin}
use Rattle.theory.specs.KindSet.{has, singleton, set_union}
use Rattle.theory.specs.TransitiveClosure.{closure?}
use Rattle.theory.specs.PathExpr as paths
use Rattle.theory.specs.Register.{same_edge?, well_formed?}
use Rattle.theory.specs.Sheet.{sheet?, permits?, breach}
use Rattle.theory.specs.Inference.{triple?, reach, meets_cyclic?, of_closure}
use Rattle.theory.specs.Merging.{same_shape?}
use Rattle.theory.specs.Narrowing.{part_fault, parted, narrow_symbols}
use Rattle.theory.specs.Evaluation.{plain_answer, narrowed_answer}
use Rattle.theory.specs.Words.{answer_words}
use Rattle.theory_cases.specs.Format.{same?, shortened?}
use Rattle.theory_cases.specs.Table1 as t1
use Rattle.theory_cases.specs.Table2 as t2
use Rattle.theory_cases.specs.Table3 as t3
use Rattle.theory_cases.specs.Table4 as t4
use Rattle.theory_cases.specs.Table5 as t5
use Rattle.theory_cases.specs.Table6 as t6
use Rattle.theory_cases.specs.Table7 as t7
use Rattle.theory_cases.specs.Table8 as t8
use Rattle.theory_cases.specs.Shortened as short

table_1 : every? same? t1.table ≡ true
unfolding bit_of adjoin has singleton set_union closure? paths.same? same_edge? well_formed? sheet? permits? breach triple? reach meets_cyclic? of_closure same_shape? part_fault parted
    narrow_symbols plain_answer narrowed_answer answer_words same? t1.table ℕ_discrete
table_1 = refl

table_2 : every? same? t2.table ≡ true
unfolding bit_of adjoin has singleton set_union closure? paths.same? same_edge? well_formed? sheet? permits? breach triple? reach meets_cyclic? of_closure same_shape? part_fault parted
    narrow_symbols plain_answer narrowed_answer answer_words same? t2.table ℕ_discrete
table_2 = refl

table_3 : every? same? t3.table ≡ true
unfolding bit_of adjoin has singleton set_union closure? paths.same? same_edge? well_formed? sheet? permits? breach triple? reach meets_cyclic? of_closure same_shape? part_fault parted
    narrow_symbols plain_answer narrowed_answer answer_words same? t3.table ℕ_discrete
table_3 = refl

table_4 : every? same? t4.table ≡ true
unfolding bit_of adjoin has singleton set_union closure? paths.same? same_edge? well_formed? sheet? permits? breach triple? reach meets_cyclic? of_closure same_shape? part_fault parted
    narrow_symbols plain_answer narrowed_answer answer_words same? t4.table ℕ_discrete
table_4 = refl

table_5 : every? same? t5.table ≡ true
unfolding bit_of adjoin has singleton set_union closure? paths.same? same_edge? well_formed? sheet? permits? breach triple? reach meets_cyclic? of_closure same_shape? part_fault parted
    narrow_symbols plain_answer narrowed_answer answer_words same? t5.table ℕ_discrete
table_5 = refl

table_6 : every? same? t6.table ≡ true
unfolding bit_of adjoin has singleton set_union closure? paths.same? same_edge? well_formed? sheet? permits? breach triple? reach meets_cyclic? of_closure same_shape? part_fault parted
    narrow_symbols plain_answer narrowed_answer answer_words same? t6.table ℕ_discrete
table_6 = refl

table_7 : every? same? t7.table ≡ true
unfolding bit_of adjoin has singleton set_union closure? paths.same? same_edge? well_formed? sheet? permits? breach triple? reach meets_cyclic? of_closure same_shape? part_fault parted
    narrow_symbols plain_answer narrowed_answer answer_words same? t7.table ℕ_discrete
table_7 = refl

table_8 : every? same? t8.table ≡ true
unfolding bit_of adjoin has singleton set_union closure? paths.same? same_edge? well_formed? sheet? permits? breach triple? reach meets_cyclic? of_closure same_shape? part_fault parted
    narrow_symbols plain_answer narrowed_answer answer_words same? t8.table ℕ_discrete
table_8 = refl

-- each case of each table
pub agree : every? (every? same?) (t1.table ∷ t2.table ∷ t3.table ∷ t4.table ∷ t5.table ∷ t6.table ∷ t7.table ∷ t8.table ∷ []) ≡ true
agree = rw (table_1, table_2, table_3, table_4, table_5, table_6, table_7, table_8)

-- each question that was shortened
pub agree_short : every? shortened? short.table ≡ true
unfolding shortened? short.table
agree_short = refl
