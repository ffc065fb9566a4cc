-- `narrowing::count_named` meets its contract: inference gives the refusal that is due, 12 or 13, or nodes that are the question's triples, whose members are counted.
-- Assumes nothing.
use Rattle.std.proofs.lemmas.Result.{err_from_is_err_and}
use Rattle.narrowing.proofs.Inferring.{asking, part_refused, listed, part_counted}
use Rattle.narrowing.proofs.count_named.Goals as goal

pub infer-requires : goal.infer-requires
infer-requires c = asking c.requires.0 c.requires.1

pub count_members-requires : goal.count_members-requires
count_members-requires c = listed c.requires.0 c.requires.1 c.infer.ensures _ c.in_ok-span.was

pub returns-in_err-span : goal.returns-in_err-span
returns-in_err-span c =
    let p = err_from_is_err_and c.from_residual.result c.from_residual.ensures.1 in
    rw (p.1, p.2) (part_refused c.requires.0 c.requires.1 c.infer.ensures _ c.in_err-span.was)

pub returns : goal.returns
returns c = part_counted c.requires.0 c.requires.1 c.infer.ensures _ c.in_ok-span.was c.count_members.ensures
