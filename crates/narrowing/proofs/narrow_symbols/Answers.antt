-- `narrowing::narrow_symbols` meets its contract: what `count_symbols` found to be due, members or a refusal, is what `put_members` puts into the area.
-- Assumes nothing.
use Rattle.std.proofs.lemmas.Result.{err_from_is_err_and}
use Rattle.narrowing.proofs.Inferring.{area_refused, area_filed}
use Rattle.narrowing.proofs.narrow_symbols.Goals as goal

pub put_members-requires : goal.put_members-requires
put_members-requires c = c.count_symbols.ensures.known _ c.in_ok-counted.was

pub returns-in_err-counted : goal.returns-in_err-counted
returns-in_err-counted c =
    let p = err_from_is_err_and c.from_residual.result c.from_residual.ensures.1 in
    rw (p.1, p.2) (record { kept = c.count_symbols.ensures.kept; files = area_refused c.count_symbols.ensures c.in_err-counted.was })

pub returns : goal.returns
returns c = record { kept = c.count_symbols.ensures.kept; files = area_filed c.count_symbols.ensures c.in_ok-counted.was c.put_members.ensures }
