-- The nodes of a part, sorted by the codes of their paths, in an array of node numbers.
-- SPECIFICATION, Order of members.
-- Assumes nothing.
use Rattle.std.specs.Prelude.{◌≡◌, Bool, ℕ, ◌+◌, ◌-◌, ◌<◌, ◌≤◌, T, length, get_or}
use mathlib.Core.List.{List, Memᴰ as In}
use Rattle.theory.specs.Lists.{tabulate}
use Rattle.theory.specs.PathExpr.{codes, before?, links?, size}
use Rattle.theory.specs.Inference.{Triple}
use Rattle.theory.specs.Merging.{Member, of_triple}
use Rattle.theory.specs.JoinSets.{Inferred}
use Rattle.algorithms.specs.Sorting.{place, sorted}
use Rattle.triples.specs.Paths.{triple_of, Sound, Has}
use Rattle.triples.specs.Parts.{part_of}
use Rattle.merge.specs.Arrays.{segment}

-- node i's codes come before node j's
unfoldable pub earlier? : List ℕ → List ℕ → ℕ → ℕ → Bool
earlier? qs ws i j = before? (codes (triple_of qs ws i).path) (codes (triple_of qs ws j).path)

-- node i as a member
abbrev pub member_at : List ℕ → List ℕ → ℕ → Member
member_at qs ws i = of_triple (triple_of qs ws i)

-- what a question's triples are: at most 48 symbols, sets at joins but not within a kept closure, links below 64
pub record Suits (t : Triple) : Type 0 where
  pub short : size t.path ≤ 48
  pub inferred : Inferred t.path
  pub linked : T (links? 64 t.path)

-- node i is in use, and its triple is such a one
pub record Usable (qs ws : List ℕ) (used i : ℕ) : Type 0 where
  pub has : Has qs ws used i
  pub suits : Suits (triple_of qs ws i)

-- ---- one node put into its place: node t goes among those at i + 1 to n
pub record Placing (qs ws xs : List ℕ) (used i n t : ℕ) : Type 0 where
  pub inside : i < n
  pub fits : n ≤ length xs
  pub items : (k : ℕ) → i < k → k < n → Usable qs ws used (get_or xs k 0)
  pub item : Usable qs ws used t

pub record Placed (qs ws xs ys : List ℕ) (used i n t : ℕ) : Type 0 where
  pub same_length : length ys ≡ length xs
  pub is : segment ys i n ≡ place (earlier? qs ws) t (segment xs (i + 1) n)
  pub items : (k : ℕ) → i ≤ k → k < n → Usable qs ws used (get_or ys k 0)

-- ---- all of a part
-- the n nodes from s on are in use, and their triples are a question's
pub record Arranging (qs ws xs : List ℕ) (used s n : ℕ) : Type 0 where
  pub fits : n ≤ length xs
  pub small : n ≤ 128
  pub in_use : s + n ≤ used
  pub in_table : used ≤ length ws
  pub sound : Sound qs ws used
  pub suits : (t : Triple) → In t (part_of qs ws s n) → Suits t

-- those from s + i on stand sorted at i to n
pub record Arranged (qs ws xs ys : List ℕ) (used s n i : ℕ) : Type 0 where
  pub in_n : i ≤ n
  pub same_length : length ys ≡ length xs
  pub is : segment ys i n ≡ sorted (earlier? qs ws) (tabulate (λ k. k) (s + i) (n - i))
  pub items : (k : ℕ) → i ≤ k → k < n → Usable qs ws used (get_or ys k 0)
