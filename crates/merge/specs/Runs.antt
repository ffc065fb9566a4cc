-- A run of nodes with equal codes in the sorted array, and the member that it makes.
-- SPECIFICATION, Merging: from set, to set and each join set are the unions.
-- Assumes nothing.
use Rattle.std.specs.Prelude.{◌≡◌, Bool, true, false, ◌⊎◌, List, ◌∷◌, map, ℕ, ◌<◌, ◌≤◌, T, length, get_or}
use Rattle.theory.specs.KindSet.{singleton, set_union}
use Rattle.theory.specs.PathExpr.{codes, before?, links?, size}
use Rattle.theory.specs.Merging.{Member}
use Rattle.theory.specs.JoinSets.{sets_of, set_unions, Inferred}
use Rattle.algorithms.specs.Sorting.{grouped}
use Rattle.triples.specs.Table.{node_at}
use Rattle.triples.specs.Paths.{triple_of}
use Rattle.merge.specs.declared.Ends.{Ends}
use Rattle.merge.specs.declared.Group.{Group}
use Rattle.merge.specs.Arrays.{segment}
use Rattle.merge.specs.Arranging.{member_at, Usable}

-- ---- the kinds of node i as sets
pub record Singles (ws : List ℕ) (i : ℕ) (e : Ends) : Type 0 where
  pub from_is : e.from ≡ singleton (node_at ws i).from.0
  pub to_is : e.to ≡ singleton (node_at ws i).to.0

-- ---- sets ORed into others: up to j, ys is the union of xs and fs; from j on it is xs
pub record Ored (fs xs ys : List ℕ) (j : ℕ) : Type 0 where
  pub same_length : length ys ≡ length xs
  pub done : (k : ℕ) → k < j → get_or ys k 0 ≡ set_union (get_or xs k 0) (get_or fs k 0)
  pub rest : (k : ℕ) → j ≤ k → get_or ys k 0 ≡ get_or xs k 0

-- ---- a node taken in, if it has the codes cs
pub record Taking (qs ws : List ℕ) (used i : ℕ) (cs ss : List ℕ) : Type 0 where
  pub usable : Usable qs ws used i
  pub few : length cs ≤ 48
  pub sets_room : length ss ≡ 48

-- one comes before the other
abbrev pub Differ : List ℕ → List ℕ → Type 0
Differ a b = (before? a b ≡ true) ⊎ (before? b a ≡ true)

-- its sets are ORed into the first of ss, one for each code; or all stays
pub record Taken (qs ws : List ℕ) (i : ℕ) (cs ss ss' : List ℕ) (r : Bool) : Type 0 where
  pub same_length : length ss' ≡ length ss
  pub equal : r ≡ true → cs ≡ codes (triple_of qs ws i).path
  pub unions : r ≡ true → segment ss' 0 (length cs) ≡ set_unions (segment ss 0 (length cs)) (sets_of (triple_of qs ws i).path)
  pub differ : r ≡ false → Differ cs (codes (triple_of qs ws i).path)
  pub same : r ≡ false → ss' ≡ ss

-- ---- a member in arrays: n codes, n join sets, from set and to set
pub record HoldsMember (cs ss : List ℕ) (n from to : ℕ) (m : Member) : Type 0 where
  pub sized : n ≡ size m.path
  pub few : n ≤ 48
  pub codes_are : segment cs 0 n ≡ codes m.path
  pub sets_are : segment ss 0 n ≡ sets_of m.path
  pub from_is : from ≡ m.from
  pub to_is : to ≡ m.to
  pub inferred : Inferred m.path
  pub linked : T (links? 64 m.path)

-- nodes as members, from k up to n of the array
abbrev pub nodes_at : List ℕ → List ℕ → List ℕ → ℕ → ℕ → List Member
nodes_at qs ws xs k n = map (member_at qs ws) (segment xs k n)

-- from k on nodes stand in the array up to n, and there is room for a member
pub record Running (qs ws xs : List ℕ) (used n k : ℕ) (cs ss : List ℕ) : Type 0 where
  pub in_run : k < n
  pub fits : n ≤ length xs
  pub items : (j : ℕ) → k ≤ j → j < n → Usable qs ws used (get_or xs j 0)
  pub codes_room : length cs ≡ 48
  pub sets_room : length ss ≡ 48

-- the first member of those from k on is in the arrays, and what is left are those of the nodes behind its run
pub record Ran (qs ws xs : List ℕ) (n k : ℕ) (cs ss : List ℕ) (g : Group) : Type 0 where
  pub first : Member
  pub holds : HoldsMember cs ss g.size g.from g.to first
  pub is : grouped (nodes_at qs ws xs k n) ≡ first ∷ grouped (nodes_at qs ws xs g.next n)
  pub onward : k < g.next
  pub within : g.next ≤ n
  pub codes_room : length cs ≡ 48
  pub sets_room : length ss ≡ 48
