-- What is known of a register whose file was accepted.
-- Assumes nothing.
use mathlib.Core.Path.{◌≡◌, refl, sym, ap}
use mathlib.Core.Bool.{true, ◌&&◌, false≢true}
use mathlib.Core.List.{List, [], ◌∷◌, Memᴰ as In}
use Prim.Native.Nat.{ℕ, zero, suc, ◌<◌, ◌≤◌}
use native.Mathlib.Omega.{arith}
use borrow.Author.Tests.{eqb-true, ltb-true}
use lib.Dec.{T, eqb, ltb}
use lib.ListN.{length, get_or}
use Rattle.theory.specs.Lists.{every?}
use Rattle.theory.specs.Register.{Edge, Register, records, kind, well_formed?}
use Rattle.theory.proofs.Tests.{of_true, to_true}
use Rattle.theory.proofs.Lists.{every_in}
use Rattle.theory.specs.Result.{Result, got, refused}
use Rattle.fields.specs.Reading.{read}
use Rattle.fields.proofs.Bools.{and_left, and_right}
use Rattle.fields.proofs.Fields.{ended}
use Rattle.fields.proofs.Accepted.{accepted_ind}
use Rattle.field_reader.specs.declared.Standing.{Standing}
use Rattle.register.specs.declared.Progress.{Progress}
use Rattle.field_reader.specs.declared.Standing.TheVariants.{Head, Within}
use Rattle.register.specs.Form.{due, no_register, register_form, value_of, register_in, kind?, link?}
use Rattle.register.specs.Contract.{sizes, sized}
use Rattle.register.specs.LinksAhead.{Accepted}
use Rattle.register.proofs.Sound.{SoundState, sound_more}

pub record Limits (r : Register) : Type 0 where
  pub formed : T (well_formed? r)
  pub few_records : records r ≤ 1024
  pub few_links : length r.links ≤ 4096
  pub kinds : (i : ℕ) → kind r i < 64
  pub labels : (e : Edge) → In e r.links → e.label < 64

kinds_below : (ks : List ℕ) → every? kind? ks ≡ true → (i : ℕ) → get_or ks i 0 < 64
kinds_below [] e i = omega arith
kinds_below (k ∷ ks) e zero = ltb-true k 64 (and_left _ (every? kind? ks) e)
kinds_below (k ∷ ks) e (suc i) = kinds_below ks (and_right (kind? k) _ e) i

ends_linked : (n : ℕ) (es : List Edge) → every? (link? n) es ≡ true → every? (λ (e : Edge). ltb e.from n && ltb e.to n) es ≡ true
ends_linked n [] h = refl
ends_linked n (e ∷ es) h =
    let a = and_left (link? n e) (every? (link? n) es) h in
    rw (
      and_left (ltb e.from n) (ltb e.label 64) (and_left _ (ltb e.to n) a),
      and_right (ltb e.from n && ltb e.label 64) (ltb e.to n) a,
      ends_linked n es (and_right (link? n e) (every? (link? n) es) h),
    )

label_below : (n : ℕ) (e : Edge) → link? n e ≡ true → e.label < 64
label_below n e h = ltb-true e.label 64 (and_right (ltb e.from n) _ (and_left _ (ltb e.to n) h))

sound_limits : (st : Standing Progress) (r : Register) → (due st).complete ≡ true → SoundState (st, r) → Limits r
unfolding well_formed?
sound_limits Head r e w = absurd (false≢true e)
sound_limits (Within q) r e w =
    let a : q.kindless ≡ 0 = eqb-true q.kindless 0 (and_left _ (eqb q.left 0) e) in
    let b : q.left ≡ 0 = eqb-true q.left 0 (and_right (eqb q.kindless 0) _ e) in
    let ks = r.kinds in
    let n : q.records ≡ length ks = omega (arith, w.records) in
    let f : every? (link? (length ks)) r.links ≡ true = rw (← n) w.edges in
    record {
      formed = of_true _ (ends_linked (length ks) r.links f);
      few_records = omega (arith, w.few_records);
      few_links = omega (arith, w.few_links, w.links);
      kinds = kinds_below ks w.kinds;
      labels = λ x m. label_below (length ks) x (to_true _ (every_in (link? (length ks)) (of_true _ f) m));
    }

pub accepted_register : (s : List ℕ) (r : Register) → read register_form s ≡ got r → Limits r
unfolding read
accepted_register s r e =
    accepted_ind register_form s (λ st at v. SoundState st → Limits v)
    (λ st at f. sound_limits st.0 st.1 (ended (due st.0) s at f).may)
    (λ st at t n st' v f j ih w. ih (sound_more st s at t n st' f j w))
    (suc (length s)) (Head, no_register) 0 r e refl

-- what the reader's answer says of the register in the file
pub accepted_sizes : (s : List ℕ) (n l : ℕ) → got (sizes n l) ≡ sized (read register_form s)
    → Accepted s × (records (register_in s) ≡ n) × (length (register_in s).links ≡ l)
unfolding register_in
accepted_sizes s n l h = by_answer (read register_form s) refl h
  where
    by_answer : (a : Result Register) → read register_form s ≡ a → got (sizes n l) ≡ sized a
        → (read register_form s ≡ got (value_of a)) × (records (value_of a) ≡ n) × (length (value_of a).links ≡ l)
    by_answer (got r) e h = let z : sizes n l ≡ sizes (records r) (length r.links) = cc in (e, sym (ap (λ p. p.records) z), sym (ap (λ p. p.links) z))
    by_answer (refused m p) e h = let z : ◌≡◌ {A = ℕ} 0 1 = cc in absurd (omega arith)

-- a file with a record or a link in it is accepted: of a refused one there are none
pub accepted_by_record : (s : List ℕ) (i : ℕ) → i < records (register_in s) → Accepted s
unfolding register_in
accepted_by_record s i h = by_answer (read register_form s) refl h
  where
    by_answer : (a : Result Register) → read register_form s ≡ a → i < records (value_of a) → read register_form s ≡ got (value_of a)
    by_answer (got r) e h = e
    by_answer (refused n p) e h = absurd (omega arith)

pub accepted_by_link : (s : List ℕ) (x : Edge) → In x (register_in s).links → Accepted s
unfolding register_in
accepted_by_link s x m = by_answer (read register_form s) refl m
  where
    by_answer : (a : Result Register) → read register_form s ≡ a → In x (value_of a).links → read register_form s ≡ got (value_of a)
    by_answer (got r) e m = e
    by_answer (refused n p) e m = elim m [ ]
