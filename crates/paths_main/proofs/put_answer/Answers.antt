-- `paths_main::put_answer` meets its contract: the register was accepted, so that it is not refused here, and the pairs of its at most 128 records fit the page.
-- Assumes nothing.
use Prim.Native.Nat.{◌≤◌}
use native.Mathlib.Omega.{arith}
use Rattle.paths_main.proofs.Printing.{never_refused, few_records, words_room, is_answer, answer_room}
use mathlib.Core.Path.{refl}
use Rattle.paths_main.proofs.put_answer.Goals as goal

pub put_refusal-requires : goal.put_refusal-requires
put_refusal-requires c = absurd (never_refused _ _ _ c.read.ensures.said c.requires.0 _ c.in-Err.is)

pub row_words-requires : goal.row_words-requires
row_words-requires c = omega (arith, few_records _ _ _ c.read.ensures.said c.requires.0 _ _ c.in-Ok.is refl)

pub put_answer-requires : goal.put_answer-requires
put_answer-requires c =
    let n : c.in-Ok.field-0.records ≤ 128 = few_records _ _ _ c.read.ensures.said c.requires.0 _ _ c.in-Ok.is c.row_words.ensures in (
      c.row_words.ensures,
      omega arith,
      words_room _ _ _ c.read.ensures.said c.requires.0 _ _ c.in-Ok.is c.row_words.ensures,
      answer_room _ _ _ c.read.ensures.said c.requires.0 _ _ c.in-Ok.is c.row_words.ensures _ _ c.requires.1,
    )

pub returns-in-Err : goal.returns-in-Err
returns-in-Err c = absurd (never_refused _ _ _ c.read.ensures.said c.requires.0 _ c.in-Err.is)

pub returns-in-Ok : goal.returns-in-Ok
returns-in-Ok c =
    rw (is_answer _ _ _ c.read.ensures.said c.requires.0 _ _ c.in-Ok.is c.row_words.ensures _) at c.put_answer.ensures
