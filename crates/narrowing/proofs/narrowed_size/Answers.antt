-- `narrowing::narrowed_size` meets its contract: the members and bytes of the file are counted, or its refusal found, and the words that were used are zeroed.
-- Assumes nothing.
use Rattle.std.proofs.lemmas.Result.{err_from_is_err_and}
use native.Mathlib.Omega.{arith}
use Rattle.std.proofs.Common.{rules, ◌≡◌, ap, ◌∙◌}
use borrow.Author.Tests.{tests}
use Rattle.narrowing.specs.Contract.{work_said}
use Rattle.narrowing.proofs.WholeCalls.{size_refused, size_told, size_of, sized_told, enough}
use Rattle.narrowing.proofs.narrowed_size.Goals as goal

pub returns-in_err-q : goal.returns-in_err-q
returns-in_err-q c =
    let p = err_from_is_err_and c.from_residual.result c.from_residual.ensures.1 in
    rw (p.1, p.2) (size_refused _ _ _ _ (c.ready.ensures.refused _ c.in_err-q.was))

pub count_symbols-counted-requires : goal.count_symbols-counted-requires
count_symbols-counted-requires c =
    let b = c.ready.ensures.begun _ c.in_ok-q.was in
    rw c.symbols.ensures (b.narrowable, enough b.enough)

pub settle-requires : goal.settle-requires
settle-requires c =
    let b = c.ready.ensures.begun _ c.in_ok-q.was in
    omega (arith, c.count_symbols-counted.ensures.kept.len, b.enough)

pub returns : goal.returns
returns c =
    let b = c.ready.ensures.begun _ c.in_ok-q.was in
    let g = rw c.symbols.ensures at c.count_symbols-counted.ensures in
    let e : c.map.result ≡ size_of c.count_symbols-counted.result = search (rules, tests) in
    size_told b c.settle.ensures g (ap work_said e ∙ sized_told _ _ _ _ (g.counts b.sheet b.handed))
