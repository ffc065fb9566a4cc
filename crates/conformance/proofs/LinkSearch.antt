-- The search for a link that the table does not permit, along the walk over the links.
-- Assumes nothing.
use mathlib.Core.Path.{◌≡◌, refl, sym, ap, subst, ◌∙◌}
use mathlib.Core.Bool.{Bool, true, false, ◌&&◌}
use mathlib.Core.List.Memᴰ.{head as here}
use mathlib.Core.List.Memᴰ.{tail as there}
use mathlib.Core.List.{List, [], ◌∷◌, Memᴰ as In}
use mathlib.Core.Option.{none, some}
use Prim.Native.Nat.{ℕ, suc, ◌+◌, ◌<◌, ◌≤◌}
use native.Mathlib.Nat.{add-zero}
use native.Mathlib.Omega.{arith}
use lib.Dec.{ltb, ltb→lt}
use lib.ListN.{length}
use Rattle.theory.specs.Lists.{first_failing}
use Rattle.theory.specs.Register.{Edge, Register, records, kind, well_formed?}
use Rattle.theory.proofs.Tests.{tests}
use Rattle.theory.proofs.Lists.{every_in}
use Rattle.register.specs.Form.{register_in}
use Rattle.register.specs.LinksAhead.{Accepted}
use Rattle.register.proofs.AcceptedRegister.{accepted_register, Limits}
use Rattle.sheet.specs.Table.{tabled?}
use Rattle.conformance.specs.Contract.{link_tabled?, first_forbidden}
use Rattle.conformance.proofs.Search.{fails_here, fails_later}

-- what is known of each link of an accepted file
record InRange (r : Register) (e : Edge) : Type 0 where
  from : e.from < records r
  label : e.label < 64
  to : e.to < records r

in_range : (r : Register) → Limits r → (e : Edge) → In e r.links → InRange r e
unfolding well_formed?
in_range r l e m =
    let t = every_in (λ (e : Edge). ltb e.from (records r) && ltb e.to (records r)) l.formed m in
    record { from = search (tests, ltb→lt); label = l.labels e m; to = search (tests, ltb→lt) }

-- and of each kind
pub kind_fits : (s : List ℕ) → Accepted s → (i k : ℕ) → k ≡ kind (register_in s) i → k < 64
kind_fits s a i k e = omega (arith, e, (accepted_register s (register_in s) a).kinds i)

-- the search over the links still to come, the i-th and those after it, finds what the whole search finds
pub record LinksFrom (s t : List ℕ) (i : ℕ) (es : List Edge) : Type 0 where
  ranges : (e : Edge) → In e es → InRange (register_in s) e
  pub few : records (register_in s) + i + length es ≤ 5120
  same : first_failing (link_tabled? t (register_in s)) (records (register_in s) + i) es ≡ first_forbidden t (register_in s)

pub links_start : (s t : List ℕ) (es : List Edge) → Accepted s → es ≡ (register_in s).links → LinksFrom s t 0 es
unfolding first_forbidden
links_start s t es a h =
    let l = accepted_register s (register_in s) a in
    record {
      ranges = λ x m. in_range (register_in s) l x (subst (In x) h m);
      few = omega (arith, l.few_records, l.few_links, ap length h);
      same = rw (add-zero, h);
    }

-- its numbers fit
pub few_links : (s : List ℕ) (es : List Edge) → Accepted s → es ≡ (register_in s).links → length es ≤ 4096
few_links s es a h = let l = accepted_register s (register_in s) a in omega (arith, l.few_links, ap length h)

module _ (s t : List ℕ) (i : ℕ) (es : List Edge) (h : LinksFrom s t i es) where
  pub links_end : es ≡ [] → none ≡ first_forbidden t (register_in s)
  links_end e = rw e at h.same

  module _ {x : Edge} {rest : List Edge} (e : es ≡ x ∷ rest) where
    range : InRange (register_in s) x
    range = h.ranges x (subst (In x) (sym e) (here refl))

    pub link_from : x.from < records (register_in s)
    link_from = range.from

    pub link_label : x.label < 64
    link_label = range.label

    pub link_to : x.to < records (register_in s)
    link_to = range.to

    -- its test, as the code makes it
    module _ {a b : ℕ} (ha : a ≡ kind (register_in s) x.from) (hb : b ≡ kind (register_in s) x.to) {p : Bool} (hp : p ≡ tabled? t a x.label b) where
      test : p ≡ link_tabled? t (register_in s) x
      test = rw (← ha, ← hb) hp

      from_here : first_failing (link_tabled? t (register_in s)) (records (register_in s) + i) (x ∷ rest) ≡ first_forbidden t (register_in s)
      from_here = sym (ap (first_failing (link_tabled? t (register_in s)) (records (register_in s) + i)) e) ∙ h.same

      pub link_forbidden : p ≡ false → {n : ℕ} → n ≡ records (register_in s) → some (n + i) ≡ first_forbidden t (register_in s)
      link_forbidden f n = rw n (sym (fails_here (link_tabled? t (register_in s)) (records (register_in s) + i) x rest (sym test ∙ f)) ∙ from_here)

      pub link_permitted : p ≡ true → LinksFrom s t (i + 1) rest
      link_permitted f =
          let k : suc (records (register_in s) + i) ≡ records (register_in s) + (i + 1) = omega arith in
          record {
            ranges = λ y m. h.ranges y (subst (In y) (sym e) (there m));
            few = omega (arith, h.few, ap length e);
            same = rw (← k) (sym (fails_later (link_tabled? t (register_in s)) (records (register_in s) + i) x rest (sym test ∙ f)) ∙ from_here);
          }
