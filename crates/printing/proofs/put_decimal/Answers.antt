-- `printing::put_decimal` meets its contract: the digits that are put are the decimal digits of the number.
-- Assumes nothing.
use Rattle.std.proofs.Common.{◌∙◌}
use Rattle.printing.proofs.Decimal.{decimal_same}
use Rattle.printing.proofs.put_decimal.Goals as goal

pub put_text-requires : goal.put_text-requires
put_text-requires c =
    rw (c.as_bytes.ensures.value ∙ c.format.ensures.text ∙ decimal_same _ c.ranges.n.fits) c.requires

pub returns : goal.returns
returns c = rw (c.as_bytes.ensures.value ∙ c.format.ensures.text ∙ decimal_same _ c.ranges.n.fits) at c.put_text.ensures
