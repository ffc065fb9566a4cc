-- A sheet: its kinds, its link names, its permitted triples; when a register conforms to it ("obeys" in SPECIFICATION), and the place where it does not.
-- SPECIFICATION, Words; Refusals, 16.
-- Assumes nothing.
use Rattle.std.specs.Prelude.{Bool, ◌&&◌, ℕ, ◌+◌, ◌≤◌, ◌<◌, T, leb, ltb}
use mathlib.Core.List.{List, Memᴰ as In}
use Rattle.std.proofs.Math.Option.{Option, none, some}
use Rattle.theory.specs.Lists.{some?, every?, first_failing, First}
use Rattle.theory.specs.KindSet.{width}
use Rattle.theory.specs.Register.{Edge, same_edge?, edge, Register, records, kind}

-- K kinds, E link names, and the permitted triples (from kind, link name, to kind)
pub record Sheet : Type 0 where
  pub kinds : ℕ
  pub link_names : ℕ
  pub permitted : List Edge

-- 1 to 64 kinds, 1 to 64 link names
abbrev pub sizes? : Sheet → Bool
sizes? S = (leb 1 S.kinds && leb S.kinds width) && (leb 1 S.link_names && leb S.link_names 64)

-- the kinds and the link of a triple are the sheet's
abbrev pub in_range? : Sheet → Edge → Bool
in_range? S e = ltb e.from S.kinds && ltb e.label S.link_names && ltb e.to S.kinds

-- what a sheet's reader hands on
unfoldable pub sheet? : Sheet → Bool
sheet? S = sizes? S && every? (in_range? S) S.permitted

-- "Only these exact triples count."
unfoldable pub permits? : Sheet → ℕ → ℕ → ℕ → Bool
permits? S a l b = some? (same_edge? (edge a l b)) S.permitted

-- ---- conforming
abbrev pub kind_known? : Sheet → ℕ → Bool
kind_known? S k = ltb k S.kinds

abbrev pub link_permitted? : Sheet → Register → Edge → Bool
link_permitted? S r e = permits? S (kind r e.from) e.label (kind r e.to)

unfoldable pub conforms? : Sheet → Register → Bool
conforms? S r = every? (kind_known? S) r.kinds && every? (link_permitted? S r) r.links

abbrev pub or_else : Option ℕ → Option ℕ → Option ℕ
or_else none y = y
or_else (some x) y = some x

-- the place of 16: the first record whose kind is unknown, else N plus the index of the first link that is not permitted
unfoldable pub breach : Sheet → Register → Option ℕ
breach S r = or_else (first_failing (kind_known? S) 0 r.kinds) (first_failing (link_permitted? S r) (records r) r.links)

-- the same in words: the register conforms; or i is its first record of an unknown kind; or, with all kinds known, j its first link that is not permitted
pub data Breached (S : Sheet) (r : Register) : Option ℕ → Type 0 where
  conforming : T (conforms? S r) → Breached S r none
  unknown_kind : {i k : ℕ} → First (λ k. S.kinds ≤ k) r.kinds i k → Breached S r (some i)
  forbidden_link : {j : ℕ} {e : Edge} → ((k : ℕ) → In k r.kinds → k < S.kinds)
      → First (λ e. ¬ T (link_permitted? S r e)) r.links j e → Breached S r (some (records r + j))
