-- `merge::take_in` meets its contract: where the codes are equal the join sets are united place by place.
-- Assumes nothing.
use Rattle.merge.proofs.Merging.{taken_not, taken_in}
use Rattle.merge.proofs.Comparing.{expanded_end, expanded_sets_end, whole}
use mathlib.Core.Path.{refl}
use native.Mathlib.Omega.{arith}
use Rattle.merge.proofs.take_in.Goals as goal

pub slice_bounds-own-end : goal.slice_bounds-own-end
slice_bounds-own-end c = expanded_end c.requires.usable c.expand-m.ensures refl

pub slice_bounds-ne-end : goal.slice_bounds-ne-end
slice_bounds-ne-end c = whole _ _ (expanded_end c.requires.usable c.expand-m.ensures refl)

pub slice_bounds-vias-end : goal.slice_bounds-vias-end
slice_bounds-vias-end c = let e = expanded_sets_end c.requires.usable c.expand-m.ensures refl in omega arith

pub slice_bounds-or_sets-end : goal.slice_bounds-or_sets-end
slice_bounds-or_sets-end c =
    let z = whole c.expand-m.result c.expand-m.new.vias (expanded_sets_end c.requires.usable c.expand-m.ensures refl) in
    omega arith

pub returns-then-ne : goal.returns-then-ne
returns-then-ne c = taken_not c.requires refl c.expand-m.ensures c.ne.ensures c.if-ne.true

pub returns : goal.returns
returns c = taken_in c.requires refl c.expand-m.ensures c.ne.ensures c.if-ne.false refl c.or_sets.ensures
