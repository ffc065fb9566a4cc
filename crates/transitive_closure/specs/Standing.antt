-- The same of the code's structs: a place and its marks, a row that grows, and a walk.
-- Assumes nothing.
use Rattle.std.specs.Prelude.{◌≡◌, length, Bool, true, List, ℕ, ◌*◌, ◌+◌, ◌<◌}
use Rattle.rows.specs.Row.{row_bit, Row}
use Rattle.transitive_closure.specs.declared.Place.{Place}
use Rattle.transitive_closure.specs.declared.Marks.{Marks}
use Rattle.transitive_closure.specs.declared.Growth.{Growth}
use Rattle.transitive_closure.specs.declared.Search.{Search}
use Rattle.transitive_closure.specs.Finishing.{closure_at, amount, PartlyClosed, Took, Growing, Grown, Stepped, Stage, Trail}

abbrev pub Ready : List ℕ → Marks → Place → Type 0
Ready xs m p = PartlyClosed xs m.live m.pending m.finished p.b p.n p.w

-- ---- one row
abbrev pub TookIn : ℕ → (ℕ → Bool) → (ℕ → Bool) → Growth → Growth → Type 0
TookIn w new gone g h = (h.s ≡ g.s) × Took w new gone g.row g.left h.row h.left

abbrev pub Grows : List ℕ → Place → Growth → Type 0
Grows xs p g = Growing xs p.b p.n p.w g.s g.row g.left

abbrev pub GrownTo : List ℕ → Place → Growth → Growth → Type 0
GrownTo xs p g h = (h.s ≡ g.s) × Grown xs p.b p.n p.w g.s g.row g.left h.row h.left

abbrev pub StepTo : List ℕ → Place → Growth → Growth → Bool → Type 0
StepTo xs p g h took = (h.s ≡ g.s) × Stepped xs p.b p.n p.w g.s g.row g.left h.row h.left took

-- the row is the closure's
abbrev pub Reached : List ℕ → Place → Growth → Growth → Type 0
Reached xs p g h = Row 0 p.w (closure_at xs p.b p.n p.w g.s) g.row h.row

-- ---- the rows, one after another
abbrev pub StageTo : Place → List ℕ → Marks → List ℕ → Marks → Type 0
StageTo p xs m ys o = (o.live ≡ m.live) × Stage p.b p.n p.w m.live xs m.pending m.finished ys o.pending o.finished

abbrev pub Walking : Place → Search → Type 0
Walking p t = Trail t.stack.items t.unseen p.n p.w

-- one turn of the walk, or its end
pub record WalkedTo (p : Place) (t u : Search) (turned : Bool) : Type 0 where
  pub walking : Walking p u
  pub less : turned ≡ true → 2 * amount (row_bit u.unseen 0) (64 * p.w) + length u.stack.items < 2 * amount (row_bit t.unseen 0) (64 * p.w) + length t.stack.items
