-- A table of nodes in words, a node to a word: its fields are digits of the word.
-- Assumes nothing.
use Rattle.std.specs.Prelude.{◌≡◌, List, ℕ, ◌+◌, ◌*◌, ◌/◌, ◌%◌, ◌<◌, get_or}
use Rattle.triples.specs.declared.Node.{Node}

-- the word of a node: from the last digit on 6, 6, 6, 12, 12 and 8 bits
abbrev pub word_of : Node → ℕ
word_of n = ((((n.made * 4096 + n.left) * 4096 + n.right) * 64 + n.size) * 64 + n.from.0) * 64 + n.to.0

-- the node of a word
unfoldable pub unpacked : ℕ → Node
unpacked x =
    record {
      made = x / 64 / 64 / 64 / 4096 / 4096 % 256;
      left = x / 64 / 64 / 64 / 4096 % 4096;
      right = x / 64 / 64 / 64 % 4096;
      size = x / 64 / 64 % 64;
      from = record { 0 = x / 64 % 64 };
      to = record { 0 = x % 64 };
    }

-- each field fits its digit
pub record InRange (n : Node) : Type 0 where
  pub made_fits : n.made < 256
  pub left_fits : n.left < 4096
  pub right_fits : n.right < 4096
  pub size_fits : n.size < 64
  pub from_fits : n.from.0 < 64
  pub to_fits : n.to.0 < 64

-- node i of a table
abbrev pub node_at : List ℕ → ℕ → Node
node_at ws i = unpacked (get_or ws i 0)

-- n is node i, and its fields are small
pub record Loaded (ws : List ℕ) (i : ℕ) (n : Node) : Type 0 where
  pub is : n ≡ node_at ws i
  pub made_small : n.made < 256
  pub from_small : n.from.0 < 64
  pub to_small : n.to.0 < 64
  pub size_small : n.size < 64
  pub left_small : n.left < 4096
  pub right_small : n.right < 4096
