-- `Growth::step` meets its contract: each of its ends is a law of a row that takes in another.
-- Assumes nothing.
use native.Mathlib.Omega.{arith}
use mathlib.Core.Path.{refl, ◌∙◌}
use Rattle.transitive_closure.proofs.Rows.{pick_word, pick_room, picked_grown, stepped_finished, stepped_pending}
use Rattle.transitive_closure.proofs.Growth.step.Goals as goal

pub take_finished-requires : goal.take_finished-requires
take_finished-requires c =
    let p = c.requires in
    let f = c.in-Some.ensures in
    let m = c.args.m.now in
    (p.0.words, omega (arith, pick_room p.0 m.finished _ p.1 f.1 f.0, c.row.ensures), pick_word p.0 m.finished _ p.1 f.1 f.0)

pub take_rest-requires : goal.take_rest-requires
take_rest-requires c =
    let p = c.requires in
    let f = c.in-Some.ensures in
    let m = c.args.m.now in
    let t = rw c.row.ensures at c.take_finished.ensures in
    (p.0, rw t.0 (picked_grown p.0 m.finished _ p.1 f.1 f.0 t.1 refl).growing, pick_word p.0 m.finished _ p.1 f.1 f.0)

pub returns-in-Some : goal.returns-in-Some
returns-in-Some c =
    let p = c.requires in
    let f = c.in-Some.ensures in
    let t = rw c.row.ensures at c.take_finished.ensures in
    let r = c.take_rest.ensures in
    (r.0 ∙ t.0, stepped_finished p.0 c.args.m.now.finished _ p.1 f.1 f.0 t.1 refl (rw t.0 at r.1))

pub take_pending-requires : goal.take_pending-requires
take_pending-requires c =
    let p = c.requires in
    let f = c.in-Some-first.ensures in
    let g = c.args.self.now in
    (p.0.words, omega (arith, pick_room p.0 g.left _ p.1 f.1 f.0, c.row-in-Some-first.ensures), pick_word p.0 g.left _ p.1 f.1 f.0)

pub returns-in-Some-first : goal.returns-in-Some-first
returns-in-Some-first c =
    let p = c.requires in
    let f = c.in-Some-first.ensures in
    let t = rw c.row-in-Some-first.ensures at c.take_pending.ensures in
    (t.0, stepped_pending p.0 c.args.self.now.left _ p.1 f.1 f.0 t.1)
