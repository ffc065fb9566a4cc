-- `evaluation::evaluate` meets its contract: the rest of the symbols makes the path out of the relations on the stack, of which 48 symbols never need more than 24.
-- Assumes nothing.
use native.Mathlib.Omega.{arith}
use Rattle.std.proofs.Common.{rules}
use Rattle.std.proofs.lemmas.List.{length_push}
use Rattle.std.proofs.lemmas.Slice.Zip.{zip_turn, zip_end}
use Rattle.evaluation.proofs.Grounds.{path_is}
use Rattle.evaluation.proofs.SymbolLoop.{going_more, going_end, fits}
use Rattle.evaluation.proofs.evaluate.Goals as goal

pub apply-b-requires : goal.apply-b-requires
apply-b-requires c =
    let x = c.args.path.now.symbols in
    let l = c.loop-number in
    let g = l.invariant in
    let s = c.into_iter-number-iterator.result in
    let t =
    zip_turn x.numbers.now x.sets.now l.yielded s l.number-iterator c.next.new.self c.next.result
    (search rules) (search rules) l.yielded_by _ c.in-Some.is c.next.ensures.steps in
    let p = path_is _ c.args.path.now.whole in
    rw (t.2 0, t.3 0) (fits _ _ _ _ _ _ x.few t.0 p.0 (g.at p.0 p.1) (omega (arith, c.requires, g.kept.len)))

pub loop-number-preserved : goal.loop-number-preserved
loop-number-preserved c =
    let x = c.args.path.now.symbols in
    let l = c.loop-number in
    let s = c.into_iter-number-iterator.result in
    let t =
    zip_turn x.numbers.now x.sets.now l.yielded s l.number-iterator c.next.new.self c.next.result
    (search rules) (search rules) l.yielded_by _ c.in-Some.is c.next.ensures.steps in
    let p = path_is _ c.args.path.now.whole in
    rw (length_push l.yielded (c.in-Some.number, c.in-Some.set)) (going_more _ _ _ _ _ _ x.few t.0 p.0 p.1 l.invariant (rw (t.2 0, t.3 0) at c.apply-b.ensures))

pub returns : goal.returns
returns c p e =
    let x = c.args.path.now.symbols in
    let l = c.loop-number in
    let s = c.into_iter-number-iterator.result in
    let t =
    zip_end x.numbers.now x.sets.now l.yielded s l.number-iterator c.next.new.self c.next.result
    (search rules) (search rules) l.yielded_by c.in-None.is c.next.ensures.steps in
    going_end _ _ _ _ _ _ (omega (arith, t, x.paired)) l.invariant p e
