-- `merge::before` meets its contract: both nodes expand to the codes of their paths, which std compares as `before?` does.
-- Assumes nothing.
use Rattle.merge.proofs.Comparing.{expanded_codes, expanded_end, whole, tells_before}
use Rattle.merge.proofs.Segments.{segment_take}
use Rattle.merge.specs.Arranging.{earlier?}
use Rattle.theory.specs.PathExpr.{before?}
use lib.ListN.{take}
use mathlib.Core.Path.{refl, sym, ap₂, ◌∙◌}
use Rattle.merge.proofs.before.Goals as goal

pub slice_bounds-a-end : goal.slice_bounds-a-end
slice_bounds-a-end c = expanded_end c.requires.0 c.expand-n.ensures refl

pub slice_bounds-lt-end : goal.slice_bounds-lt-end
slice_bounds-lt-end c = whole _ _ (expanded_end c.requires.0 c.expand-n.ensures refl)

pub slice_bounds-b-end : goal.slice_bounds-b-end
slice_bounds-b-end c = expanded_end c.requires.1 c.expand-m.ensures refl

pub slice_bounds-lt-end-2 : goal.slice_bounds-lt-end-2
slice_bounds-lt-end-2 c = whole _ _ (expanded_end c.requires.1 c.expand-m.ensures refl)

pub returns : goal.returns
unfolding earlier?
returns c =
    let a = expanded_end c.requires.0 c.expand-n.ensures refl in
    let b = expanded_end c.requires.1 c.expand-m.ensures refl in
    tells_before (take c.expand-n.result c.expand-n.new.codes) (take c.expand-m.result c.expand-m.new.codes) c.lt.result c.lt.ensures
    ∙ ap₂ before? (sym (segment_take _ _ a) ∙ expanded_codes c.requires.0 c.expand-n.ensures refl) (sym (segment_take _ _ b) ∙ expanded_codes c.requires.1 c.expand-m.ensures refl)
