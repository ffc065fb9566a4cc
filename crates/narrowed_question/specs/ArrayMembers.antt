-- The members that the arrays of `Members` hold, whatever their contents.
-- Assumes nothing.
use Rattle.std.specs.Prelude.{List, [], ◌∷◌, ℕ, zero, suc, ◌+◌, get_or}
use Rattle.symbols.specs.Symbols.{symbols_given}
use Rattle.narrowed_question.specs.declared.Members.{Members}
use Rattle.narrowed_question.specs.Form.{Flat, flat}

-- n members from the i-th on, whose symbols begin with the k-th
abbrev pub members_given : Members → ℕ → ℕ → ℕ → List Flat
members_given q zero i k = []
members_given q (suc n) i k =
    flat (get_or q.from i 0) (get_or q.to i 0) (symbols_given q.numbers q.sets (get_or q.sizes i 0) k)
    ∷ members_given q n (suc i) (k + get_or q.sizes i 0)

unfoldable pub given : Members → List Flat
given q = members_given q q.count 0 0
