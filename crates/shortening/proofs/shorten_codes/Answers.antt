-- `shortening::shorten_codes` meets its contract: `Pass` holds at the head of the loop, a turn keeps it (`pass_top`), and where no code is left the output is that of the normal form (`pass_end`).
-- Assumes nothing.
use mathlib.Core.Path.{◌≡◌, ◌∙◌, sym, ap, subst}
use lib.ListN.{get_or, replicate}
use Prim.Native.Nat.{◌-◌}
use native.Mathlib.Omega.{arith}
use Rattle.std.specs.Slice.Iter.{iter_rest}
use Rattle.std.specs.Iterator.Adapters.{rev_source}
use Rattle.symbols.specs.Contract.{symbol_said}
use Rattle.shortening.specs.declared.Context.TheVariants.{Elsewhere}
use Rattle.shortening.specs.Pass.{turned}
use Rattle.shortening.proofs.Pass.{Pass, Top, pass_start, pass_top, pass_end}
use Rattle.shortening.proofs.Contexts.{turned_fits, kept_few}
use Rattle.shortening.proofs.Call.{leaves}
use Rattle.shortening.proofs.shorten_codes.Goals as goal
use Rattle.shortening.proofs.shorten_codes.Goals.{In-Some}

-- a code comes off the end, and there is an operand to come
top : (c : In-Some) → let l = c.loop-code in Top (iter_rest (rev_source c.next.new.self)) c.in-Some.field-0.now l.invariant.0.0 l.out l.contexts l.start l.depth
top c = pass_top _ _ _ _ _ _ c.in-Some.ensures.steps c.loop-code.invariant.1

pub loop-code-init : goal.loop-code-init
loop-code-init c =
    let e : iter_rest (rev_source c.into_iter-code-iterator.result) ≡ c.args.codes.now = cc in
    let q = c.requires in
    (q, subst (λ l. Pass l q.0 (replicate 32 0) (replicate 33 Elsewhere) 1 32) (sym e) (pass_start _ q.0 q.1))

pub overflow_sub-depth : goal.overflow_sub-depth
overflow_sub-depth c = omega (arith, (top (goal.at.overflow_sub-depth c).In-Some).some)

pub encode-requires : goal.encode-requires
encode-requires c =
    let k = get_or c.loop-code.contexts (c.loop-code.depth - 1) Elsewhere in
    turned_fits c.turn-x.result k _ (c.turn-x.ensures ∙ ap (turned k) c.decode.ensures)

pub overflow_sub-start : goal.overflow_sub-start
overflow_sub-start c =
    let l = c.loop-code in
    omega (arith, (top (goal.at.overflow_sub-start c).In-Some).room, kept_few (get_or l.contexts (l.depth - 1) Elsewhere) (symbol_said c.turn-x.result), c.keep-start.ensures)

pub loop-code-preserved : goal.loop-code-preserved
loop-code-preserved c =
    let l = c.loop-code in
    let said = c.turn-x.ensures ∙ ap (turned (get_or l.contexts (l.depth - 1) Elsewhere)) c.decode.ensures in (
      l.invariant.0,
      rw (c.first_context.ensures, c.second_context.ensures, c.from-depth.ensures, c.operands.ensures, c.encode.ensures, c.keep-start.ensures, said)
          (top (goal.at.loop-code-preserved c).In-Some).next,
    )

pub returns : goal.returns
returns c =
    let (q, h) = c.loop-code.invariant in
    leaves q.0 q.1 (pass_end h c.in-None.ensures.steps.0)
