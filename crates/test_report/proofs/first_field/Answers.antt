-- `test_report::first_field` meets its contract: the input has room for a whole field.
-- Assumes nothing.
use Rattle.std.proofs.Common.{sym, arith}
use Rattle.fields.proofs.Raws.{field_room}
use Rattle.test_report.proofs.first_field.Goals as goal

pub slice_bounds-result-count : goal.slice_bounds-result-count
slice_bounds-result-count c = omega (arith, field_room _ _ _ _ (sym c.in-Whole.ensures))

pub slice_bounds-result-start : goal.slice_bounds-result-start
slice_bounds-result-start c = omega (arith, field_room _ _ _ _ (sym c.in-Whole.ensures))
