-- The search for a record of an unknown kind, from record i on.
-- Assumes nothing.
use mathlib.Core.Path.{◌≡◌, refl, sym, ap, ◌∙◌}
use mathlib.Core.List.{◌∷◌}
use mathlib.Core.Option.{none, some}
use Prim.Native.Nat.{ℕ, suc, ◌+◌, ◌<◌, ◌≤◌}
use native.Mathlib.Numerals.{add-one}
use borrow.Author.Tests.{lt-ltb, le-ltb}
use lib.ListN.{drop, drop_of_length-le}
use lib.Seq.{drop-cons}
use Rattle.theory.specs.Lists.{first_failing}
use Rattle.theory.specs.Register.{Register, records, kind}
use Rattle.conformance.specs.Contract.{below?, first_unknown}
use Rattle.conformance.proofs.Search.{fails_here, fails_later}

module _ (K : ℕ) (r : Register) where
  -- the search from record i on finds what the whole search finds
  abbrev pub KindsFrom : ℕ → Type 0
  KindsFrom i = first_failing (below? K) i (drop i r.kinds) ≡ first_unknown K r

  pub kinds_start : KindsFrom 0
  unfolding first_unknown
  kinds_start = refl

  module _ (n i : ℕ) (e : n ≡ records r) (s : KindsFrom i) where
    pub kinds_end : n ≤ i → none ≡ first_unknown K r
    kinds_end h = sym (ap (first_failing (below? K) i) (drop_of_length-le r.kinds (rw e at h))) ∙ s

    -- record i, of kind k
    module _ (h : i < n) (k : ℕ) (ke : k ≡ kind r i) where
      from_here : first_failing (below? K) i (k ∷ drop (suc i) r.kinds) ≡ first_unknown K r
      from_here = rw ke (sym (ap (first_failing (below? K) i) (drop-cons r.kinds i 0 (rw e at h))) ∙ s)

      pub kinds_unknown : K ≤ k → some i ≡ first_unknown K r
      kinds_unknown u = sym (fails_here (below? K) i k (drop (suc i) r.kinds) (le-ltb _ _ u)) ∙ from_here

      pub kinds_known : k < K → KindsFrom (i + 1)
      kinds_known u = rw add-one (sym (fails_later (below? K) i k (drop (suc i) r.kinds) (lt-ltb _ _ u)) ∙ from_here)
