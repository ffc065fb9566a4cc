-- What the code needs on the way: nothing that is handed on rests on it.
-- Assumes nothing.
use Rattle.std.specs.Prelude as std
use Rattle.std.specs.Prelude.{◌≡◌, ℕ, ◌<◌}
use Rattle.std.proofs.Math.Option.{Option, none, some}
use Rattle.theory.specs.Register.{Edge, edge}
use Rattle.fields.specs.Table.{tag_length}
use Rattle.theory.specs.Result.{Result}
use Rattle.fields.specs.declared.Refusal.{Refusal}
use Rattle.fields.specs.Contract.{read_said}
use Rattle.field_reader.specs.declared.Standing.{Standing}
use Rattle.field_reader.specs.declared.Standing.TheVariants.{Head, Within}
use Rattle.sheet.specs.declared.Triple.{Triple}
use Rattle.sheet.specs.declared.Triples.{Triples}

-- what the code needs of a body before it looks
abbrev pub BodyReady : Standing Triples → ℕ → Type 0
BodyReady Head n = n ≡ tag_length 0x11
BodyReady (Within q) n = (n ≡ tag_length 0x12) × (q.count < 512)

-- the numbers of kinds and of links where the file ends
abbrev pub sizes_at : Standing Triples → ℕ × ℕ
sizes_at Head = (0, 0)
sizes_at (Within q) = (q.kinds, q.links)

abbrev pub edge_said : Triple → Edge
edge_said x = edge x.from.0 x.link.0 x.to.0

abbrev pub edges_said : std.Option Triple → Option Edge
edges_said std.None = none
edges_said (std.Some x) = some (edge_said x)

abbrev pub head_said : std.Result Triples Refusal → Result Triples
head_said r = read_said (λ q. q) r

abbrev pub triple_said : std.Result (Triple × Triples) Refusal → Result (Standing Triples × Option Edge)
triple_said r = read_said (λ (p : Triple × Triples). (Within p.1, some (edge_said p.0))) r

abbrev pub turn_said : std.Result (std.Option Triple × Triples) Refusal → Result (Standing Triples × Option Edge)
turn_said r = read_said (λ (p : std.Option Triple × Triples). (Within p.1, edges_said p.0)) r
