-- Sheets: what is permitted is in range, and the place of 16 is that of the first breach.
-- Assumes nothing.
use mathlib.Core.Path.{◌≡◌, sym, subst}
use mathlib.Core.List.{List, Memᴰ as In}
use Prim.Native.Nat.{ℕ, ◌≤◌, ◌<◌}
use lib.Dec.{T, eqb→eq, eqb_refl, leb→le, ltb→lt}
use Rattle.theory.specs.Lists.{some?, every?}
use Rattle.theory.specs.KindSet.{width}
use Rattle.theory.specs.Register.{Edge, edge, same_edge?, Register, kind}
use Rattle.theory.specs.Sheet.{Sheet, in_range?, sheet?, permits?, link_permitted?, conforms?}
use Rattle.theory.proofs.Tests.{tests}
use Rattle.theory.proofs.Lists.{some_in, in_some, every_in}

pub edge_eq : (a b : Edge) → T (same_edge? a b) → a ≡ b
unfolding same_edge?
edge_eq a b t =
    let f : a.from ≡ b.from = search (tests, eqb→eq) in
    let n : a.label ≡ b.label = search (tests, eqb→eq) in
    let g : a.to ≡ b.to = search (tests, eqb→eq) in
    λ i. record { from = f i; label = n i; to = g i }

pub edge_refl : (a : Edge) → T (same_edge? a a)
unfolding same_edge?
edge_refl a = search (tests, eqb_refl)

-- membership as a test
pub find_edge : (a : Edge) (bs : List Edge) → T (some? (same_edge? a) bs) → In a bs
find_edge a bs t = let r = some_in (same_edge? a) bs t in subst (λ x. In x bs) (sym (edge_eq a r.0 r.2)) r.1

pub found_edge : {a : Edge} {bs : List Edge} → In a bs → T (some? (same_edge? a) bs)
found_edge {a} m = in_some (same_edge? a) m (edge_refl a)

-- ---- ranges
module _ (S : Sheet) (ok : T (sheet? S)) where
  pub kinds_fit : S.kinds ≤ width
  unfolding sheet?
  kinds_fit = search (tests, leb→le)

  pub names_fit : S.link_names ≤ 64
  unfolding sheet?
  names_fit = search (tests, leb→le)

  pub permits_inside : {a l b : ℕ} → T (permits? S a l b) → (a < S.kinds) × (l < S.link_names) × (b < S.kinds)
  unfolding sheet? permits?
  permits_inside {a} {l} {b} p =
      let edges : T (every? (in_range? S) S.permitted) = search tests in
      let t = every_in (in_range? S) edges (find_edge (edge a l b) S.permitted p) in
      search (tests, ltb→lt)

-- ---- conforming
module _ (S : Sheet) (r : Register) (conforms : T (conforms? S r)) where
  pub conforming : {s l t : ℕ} → In (edge s l t) r.links → T (permits? S (kind r s) l (kind r t))
  unfolding conforms?
  conforming m =
      let links : T (every? (link_permitted? S r) r.links) = search tests in
      every_in (link_permitted? S r) links m
