-- `Growth::take_rest` meets its contract: each bit of the word is a finished row that the row has.
-- Assumes nothing.
use Prim.Native.Nat.{◌^◌, ◌<◌}
use lib.ListN.{get_or}
use Rattle.std.proofs.Common.{rules}
use Rattle.transitive_closure.proofs.Rows.{word_bits, in_range, grown_word}
use Rattle.transitive_closure.proofs.Growth.take_rest.Goals as goal

pub take_all_finished-requires : goal.take_all_finished-requires
take_all_finished-requires c =
    let a = c.args in
    let p = c.requires in
    let g = a.self.now in
    let l : get_or g.row a.i 0 < 2 ^ 64 = search rules in
    (p.0.room, p.2, p.0.words, λ j e. in_range p.0 a.i j p.1 p.2 (word_bits g.row g.left a.m.now.finished a.i j l e))

pub returns-then-v-ne0 : goal.returns-then-v-ne0
returns-then-v-ne0 c =
    let a = c.args in
    let p = c.requires in
    let g = a.self.now in
    let l : get_or g.row a.i 0 < 2 ^ 64 = search rules in
    let t = c.take_all_finished.ensures in
    (t.0, grown_word p.0 a.i _ p.1 (λ j e. let y = word_bits g.row g.left a.m.now.finished a.i j l e in (in_range p.0 a.i j p.1 p.2 y, y.1, y.2)) t.1)
