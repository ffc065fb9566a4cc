-- What the code needs on the way: nothing that is handed on rests on it.
-- Assumes nothing.
use Rattle.std.specs.Prelude as std
use Rattle.std.specs.Prelude.{◌≡◌, ℕ, ◌<◌, set}
use Rattle.fields.specs.Table.{tag_length}
use Rattle.theory.specs.Result.{Result}
use Rattle.fields.specs.declared.Refusal.{Refusal}
use Rattle.fields.specs.Contract.{read_said}
use Rattle.symbols.specs.Symbols.{Numbered, symbol_length}
use Rattle.narrowed_question.specs.declared.Members.{Members}
use Rattle.narrowed_question.specs.declared.Standing.{Standing}
use Rattle.narrowed_question.specs.declared.Standing.TheVariants.{Head, Between, Within}
use Rattle.narrowed_question.specs.declared.Item as declared·Item
use Rattle.narrowed_question.specs.declared.Item.TheVariants as item
use Rattle.narrowed_question.specs.Form.{Item, nothing, opens, symbol, last}

-- what the code needs of a body before it looks
abbrev pub BodyReady : Standing → ℕ → ℕ → Type 0
BodyReady Head t n = n ≡ tag_length 0x41
BodyReady (Between l) t n = (n ≡ tag_length 0x42) × (0 < l)
BodyReady (Within l p q) t n = (n ≡ symbol_length t) × ((0 < q.left) × (q.depth < 255))

-- what the code's item says
abbrev pub item_said : declared·Item.Item → Item
item_said item.Nothing = nothing
item_said (item.Opens n f t) = opens n f t
item_said (item.Symbol x) = symbol x
item_said (item.Last x p) = last x p

-- and what a field that was judged says: where it leads, and what it hands over
abbrev pub judged_said : std.Result (Standing × declared·Item.Item) Refusal → Result (Standing × Item)
judged_said r = read_said (λ p. (p.0, item_said p.1)) r

-- what the code needs of a standing before it looks at a field
abbrev pub Able : Standing → Type 0
Able Head = Unit {0}
Able (Between l) = Unit {0}
Able (Within l p q) = q.depth < 255

-- a member's number of symbols and its sets are put in; and a symbol
abbrev pub head_kept : Members → ℕ → ℕ → ℕ → ℕ → Members
head_kept q i n f t = record { count = q.count; sizes = set q.sizes i n; from = set q.from i f; to = set q.to i t; numbers = q.numbers; sets = q.sets }

abbrev pub symbol_kept : Members → ℕ → Numbered → Members
symbol_kept q i x = record { count = q.count; sizes = q.sizes; from = q.from; to = q.to; numbers = set q.numbers i x.number; sets = set q.sets i x.set }

-- the members read are counted
abbrev pub counting : Members → ℕ → Members
counting q n = record { count = n; sizes = q.sizes; from = q.from; to = q.to; numbers = q.numbers; sets = q.sets }
