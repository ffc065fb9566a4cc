-- `printing::put_refusal` meets its contract: number, source and place are the refusal's own, and their four pieces in this order are the text.
-- Assumes nothing.
use mathlib.Core.Path.{◌∙◌}
use native.Mathlib.Omega.{arith}
use lib.ListN.{length-append}
use Rattle.encode.proofs.Along.{wrote_more}
use Rattle.printing.specs.Text.{refusal_text}
use Rattle.printing.proofs.Filling.{second_room}
use Rattle.printing.proofs.put_refusal.Goals as goal

pub put_number-a-requires : goal.put_number-a-requires
unfolding refusal_text
put_number-a-requires c = rw (c.from.ensures ∙ c.number.ensures) (omega (arith, simp length-append at c.requires))

pub put_text-b-requires : goal.put_text-b-requires
unfolding refusal_text
put_text-b-requires c =
    rw c.source_text.ensures (omega (arith, simp length-append at (second_room _ (rw (c.from.ensures ∙ c.number.ensures) at c.put_number-a.ensures) c.requires)))

pub put_number-c-requires : goal.put_number-c-requires
unfolding refusal_text
put_number-c-requires c =
    rw c.place.ensures (omega (
      arith,
      simp length-append at (second_room _ (rw c.source_text.ensures at c.put_text-b.ensures) (second_room _ (rw (c.from.ensures ∙ c.number.ensures) at c.put_number-a.ensures) c.requires)),
    ))

pub put_text-requires : goal.put_text-requires
unfolding refusal_text
put_text-requires c =
    second_room _ (rw c.place.ensures at c.put_number-c.ensures)
    (second_room _ (rw c.source_text.ensures at c.put_text-b.ensures) (second_room _ (rw (c.from.ensures ∙ c.number.ensures) at c.put_number-a.ensures) c.requires))

pub returns : goal.returns
unfolding refusal_text
returns c =
    wrote_more (rw (c.from.ensures ∙ c.number.ensures) at c.put_number-a.ensures)
    (wrote_more (rw c.source_text.ensures at c.put_text-b.ensures) (wrote_more (rw c.place.ensures at c.put_number-c.ensures) c.put_text.ensures))
