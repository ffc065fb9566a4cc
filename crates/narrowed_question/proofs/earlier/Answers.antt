-- `narrowed_question::earlier` meets its contract: the first codes that differ decide, and where one of the two has ended, the shorter one comes first.
-- Assumes nothing.
use Rattle.std.proofs.Common.{◌∙◌, ap, rules}
use Rattle.std.proofs.lemmas.List.{length_push}
use Rattle.std.proofs.lemmas.Slice.Zip.{zip_turn, zip_end}
use Rattle.symbols.specs.Symbols.{order_code}
use Rattle.narrowed_question.proofs.Comparing.{differ, same, shorter}
use Rattle.narrowed_question.proofs.earlier.Goals as goal

pub returns-then-x-y : goal.returns-then-x-y
returns-then-x-y c =
    let a = c.args.a.now in
    let b = c.args.b.now in
    let t = zip_turn a b c.loop-x.yielded c.into_iter-x-iterator.result c.loop-x.x-iterator c.next.new.self _ (search rules) (search rules) c.loop-x.yielded_by _ c.in-Some.is c.next.ensures.steps in
    differ a b _ t.0 t.1 (c.order_code-x.ensures ∙ ap order_code (t.2 0)) (c.order_code-y.ensures ∙ ap order_code (t.3 0)) c.if-x-y.true ∙ c.loop-x.invariant

pub loop-x-preserved : goal.loop-x-preserved
loop-x-preserved c =
    let a = c.args.a.now in
    let b = c.args.b.now in
    let t = zip_turn a b c.loop-x.yielded c.into_iter-x-iterator.result c.loop-x.x-iterator c.next.new.self _ (search rules) (search rules) c.loop-x.yielded_by _ c.in-Some.is c.next.ensures.steps in
    rw (length_push c.loop-x.yielded _)
    (same a b _ t.0 t.1 (c.order_code-x.ensures ∙ ap order_code (t.2 0)) (c.order_code-y.ensures ∙ ap order_code (t.3 0)) c.if-x-y.false ∙ c.loop-x.invariant)

pub returns : goal.returns
returns c =
    let a = c.args.a.now in
    let b = c.args.b.now in
    let n = zip_end a b c.loop-x.yielded c.into_iter-x-iterator.result c.loop-x.x-iterator c.next.new.self _ (search rules) (search rules) c.loop-x.yielded_by c.in-None.is c.next.ensures.steps in
    shorter a b _ n ∙ c.loop-x.invariant
