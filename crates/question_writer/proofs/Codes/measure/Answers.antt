-- `question_writer::Codes::measure` meets its contract: the bytes of the head and of all symbols are those of the file.
-- Assumes nothing.
use mathlib.Core.Path.{◌≡◌, ◌∙◌, ap}
use Prim.Native.Nat.{◌+◌}
use native.Mathlib.Omega.{arith}
use borrow.Author.Rules.{rules}
use Rattle.std.specs.Prelude.{sum_by}
use Rattle.encode.specs.Size.{symbol_size}
use Rattle.question_writer.proofs.Measuring.{small, sized}
use Rattle.question_writer.proofs.Codes.measure.Goals as goal

pub overflow_add-result : goal.overflow_add-result
overflow_add-result c =
    let e : c.sum-symbols.result ≡ sum_by symbol_size c.args.self.codes.now = search rules in
    omega (arith, e, small c.args.self.codes.now c.args.self.few)

pub returns : goal.returns
returns c =
    let e : c.sum-symbols.result ≡ sum_by symbol_size c.args.self.codes.now = search rules in
    ap (λ n. 4 + n) e ∙ sized c.args.self.codes.now
