-- `printing::put_answer` meets its contract: `count_pairs` gives the number that is due, and the two numbers, a line end and the lines of the pairs make the text.
-- Assumes nothing.
use native.Mathlib.Omega.{arith}
use lib.ListN.{length-append}
use Rattle.encode.proofs.Along.{wrote_more}
use Rattle.printing.specs.Text.{answer_text, lines}
use Rattle.printing.proofs.Filling.{second_room}
use Rattle.relation.specs.Pairs.{pair_at}
use Rattle.printing.proofs.put_answer.Goals as goal

pub put_number-a-requires : goal.put_number-a-requires
unfolding answer_text
put_number-a-requires c = omega (arith, simp length-append at c.requires.3)

pub put_number-b-requires : goal.put_number-b-requires
unfolding answer_text
put_number-b-requires c =
    rw c.count_pairs.ensures (omega (arith, simp length-append at (second_room _ c.put_number-a.ensures c.requires.3)))

pub put_text-c-requires : goal.put_text-c-requires
unfolding answer_text
put_text-c-requires c =
    omega (arith, simp length-append at (second_room _ (rw c.count_pairs.ensures at c.put_number-b.ensures) (second_room _ c.put_number-a.ensures c.requires.3)))

pub put_pairs-requires : goal.put_pairs-requires
unfolding answer_text
put_pairs-requires c = (
  c.requires.0,
  c.requires.1,
  c.requires.2,
  second_room (lines (pair_at c.args.words.now 0 c.args.w) c.args.n) c.put_text-c.ensures
      (second_room _ (rw c.count_pairs.ensures at c.put_number-b.ensures) (second_room _ c.put_number-a.ensures c.requires.3)),
)

pub returns : goal.returns
unfolding answer_text
returns c =
    wrote_more c.put_number-a.ensures (wrote_more (rw c.count_pairs.ensures at c.put_number-b.ensures) (wrote_more c.put_text-c.ensures c.put_pairs.ensures))
