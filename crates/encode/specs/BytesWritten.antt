-- What is written into the caller's area.
-- Assumes nothing.
use Rattle.std.specs.Prelude.{List, ◌≡◌, ℕ, ◌+◌, ◌<◌, ◌≤◌, length, get_or}
use Rattle.std.proofs.lemmas.List.Edits.{sets}
use Rattle.narrowed_question.specs.declared.Members.{Members}

-- bytes were written from a place on, and the next place is after them
pub record BytesWritten (before after : List ℕ) (at next : ℕ) (bytes : List ℕ) : Type 0 where
  pub area : after ≡ sets before at bytes
  pub next_is : next ≡ at + length bytes

-- at most 128 members, of at most 48 symbols each
abbrev pub Few : Members → Type 0
Few q = (q.count ≤ 128) × ((i : ℕ) → i < q.count → get_or q.sizes i 0 ≤ 48)
