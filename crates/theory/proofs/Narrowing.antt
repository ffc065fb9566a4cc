-- What a narrowing that is not refused has shown of its parts.
-- Assumes nothing.
use mathlib.Core.Path.{◌≡◌, sym, ◌∙◌}
use mathlib.Core.Logic.{◌⊎◌, inl, inr}
use mathlib.Core.Bool.{Bool, true, false, cond}
use mathlib.Core.List.{List, Memᴰ as In}
use Prim.Native.Nat.{ℕ}
use native.Mathlib.Omega.{arith}
use lib.Dec.{T}
use Rattle.theory.specs.PathExpr.{Symbol, PathExpr, postfix, parts}
use Rattle.theory.specs.Sheet.{Sheet}
use Rattle.theory.specs.Inference.{triples}
use Rattle.theory.specs.Merging.{Member, members}
use Rattle.theory.specs.Narrowing.{Narrowing, link_fault, short?, few?, part_fault, refuse, narrow}
use Rattle.theory.specs.Result.{got, refused}
use Rattle.theory.specs.Lists.{First}
use Rattle.theory.proofs.FirstFailing.{scan, Fault, fault?, no_fault, first_refused, none_refused}
use Rattle.theory.proofs.Inference.{Short}

-- what is not refused has no fault
pub not_refused : {A : Type 0} (fault : A → ℕ) (xs : List A) (o : Narrowing) (ms : List Member) → refuse fault 0 xs o ≡ got ms
    → ((x : A) → In x xs → fault x ≡ 0) × (o ≡ got ms)
not_refused {A} fault xs o ms e = go (scan (fault? fault) xs)
  where
    never : {n i : ℕ} → refused n i ≡ got ms → ((x : A) → In x xs → fault x ≡ 0) × (o ≡ got ms)
    never d = let z : ◌≡◌ {A = ℕ} 0 1 = cc in absurd (omega arith)

    go : ((i : ℕ) × (x : A) × First (Fault fault) xs i x) ⊎ ((x : A) → In x xs → ¬ Fault fault x) → ((x : A) → In x xs → fault x ≡ 0) × (o ≡ got ms)
    go (inl f) = never (sym (first_refused fault f.2 0 o) ∙ e)
    go (inr h) = let clean : (x : A) → In x xs → fault x ≡ 0 = λ x m. no_fault fault x (h x m) in (clean, sym (none_refused fault xs clean 0 o) ∙ e)

module _ (S : Sheet) (p : PathExpr) (e : part_fault S p ≡ 0) where
  pub fault_short : T (short? (triples S p))
  unfolding part_fault
  fault_short = go (short? (triples S p)) e
    where
      go : (b : Bool) → ◌≡◌ {A = ℕ} (cond b (cond (few? (triples S p)) 0 12) 13) 0 → T b
      go true d = tt
      go false d = absurd (omega arith)

  fault_few : T (few? (triples S p))
  unfolding part_fault
  fault_few = go (short? (triples S p)) (few? (triples S p)) e
    where
      go : (b c : Bool) → ◌≡◌ {A = ℕ} (cond b (cond c 0 12) 13) 0 → T c
      go true true d = tt
      go true false d = absurd (omega arith)
      go false c d = absurd (omega arith)

module _ (S : Sheet) (q : PathExpr) (ms : List Member) (e : narrow S q ≡ got ms) where
  links_clean : ((s : Symbol) → In s (postfix q) → link_fault S.link_names s ≡ 0) × (refuse (part_fault S) 0 (parts q) (got (members (triples S q))) ≡ got ms)
  unfolding narrow
  links_clean = not_refused (link_fault S.link_names) (postfix q) (refuse (part_fault S) 0 (parts q) (got (members (triples S q)))) ms e

  parts_clean : ((p : PathExpr) → In p (parts q) → part_fault S p ≡ 0) × (got (members (triples S q)) ≡ got ms)
  parts_clean = not_refused (part_fault S) (parts q) (got (members (triples S q))) ms links_clean.1

  pub narrow_links : (s : Symbol) → In s (postfix q) → link_fault S.link_names s ≡ 0
  narrow_links = links_clean.0

  pub narrow_short : Short S q
  narrow_short p m = fault_short S p (parts_clean.0 p m)

  pub narrow_few : (p : PathExpr) → In p (parts q) → T (few? (triples S p))
  narrow_few p m = fault_few S p (parts_clean.0 p m)

  pub narrow_members : ms ≡ members (triples S q)
  narrow_members = let d : got (members (triples S q)) ≡ got ms = parts_clean.1 in cc
