-- `narrowing::narrowing` meets its contract: what is due is put into the area, and then the work words that were used are zeroed.
-- Assumes nothing.
use Rattle.std.proofs.lemmas.Result.{err_from_is_err_and}
use native.Mathlib.Omega.{arith}
use Rattle.narrowing.proofs.WholeCalls.{file_refused, file_told, enough}
use Rattle.narrowing.proofs.narrowing.Goals as goal

pub returns-in_err-q : goal.returns-in_err-q
returns-in_err-q c =
    let p = err_from_is_err_and c.from_residual.result c.from_residual.ensures.1 in
    rw (p.1, p.2) (file_refused _ _ _ _ (c.ready.ensures.refused _ c.in_err-q.was) _)

pub narrow_symbols-put-requires : goal.narrow_symbols-put-requires
narrow_symbols-put-requires c =
    let b = c.ready.ensures.begun _ c.in_ok-q.was in
    rw c.symbols.ensures (b.narrowable, enough b.enough)

pub settle-requires : goal.settle-requires
settle-requires c =
    let b = c.ready.ensures.begun _ c.in_ok-q.was in
    omega (arith, c.narrow_symbols-put.ensures.kept.len, b.enough)

pub returns : goal.returns
returns c =
    let b = c.ready.ensures.begun _ c.in_ok-q.was in
    file_told b c.settle.ensures (rw c.symbols.ensures at c.narrow_symbols-put.ensures)
