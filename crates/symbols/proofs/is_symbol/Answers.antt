-- `symbols::is_symbol` meets its contract: what is decoded has a number, which is that of the definition.
-- Assumes nothing.
use mathlib.Core.Path.{◌∙◌, ap}
use lib.Dec.{eqb}
use Rattle.symbols.specs.Symbols.{number_symbol, symbol?}
use Rattle.symbols.proofs.Numbers.{decoded_fits}
use Rattle.symbols.proofs.is_symbol.Goals as goal

pub encode-requires : goal.encode-requires
encode-requires c = decoded_fits c.decode.result _ _ c.decode.ensures

pub returns : goal.returns
unfolding symbol?
returns c = ap (λ x. eqb x.number c.args.number) (c.encode.ensures ∙ ap number_symbol c.decode.ensures)
