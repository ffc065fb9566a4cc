-- `chains::Route::lay_links` meets its contract: the first step is held, and then link after link comes to it.
use Prim.Native.Nat.{◌*◌, ◌≤◌}
use Rattle.register.specs.Form.{register_in}
use Rattle.rows.specs.Kept.{Kept}
use Rattle.chains.specs.Chain.{Held, Laid}
use Rattle.chains.proofs.Route.lay_links.Given as goal

abbrev pub invariant-loop-j : goal.invariant-loop-j
invariant-loop-j l =
    let g = l.table.ground in
    let z = g.register.records * g.words in
    (l.j ≤ l.m) × Held (register_in g.register.file.now) g.register.records g.words l.held l.work × Kept (24 * z) (28 * z) l.initial.work l.work
    × Laid g.register.records g.words l.table.rows.now l.symbols.numbers.now l.symbols.sets.now l.j l.held l.self.bases l.self.masks
