-- The loop over a register's fields.
-- Assumes nothing.
use mathlib.Core.Path.{◌≡◌, refl, sym, ap, ap₂, subst, ◌∙◌}
use mathlib.Core.Bool.{Bool, true, false, cond, false≢true}
use mathlib.Core.List.{List}
use Prim.Native.Nat.{ℕ, ◌+◌}
use native.Mathlib.Omega.{arith}
use borrow.Author.Tests.{eqb-true}
use lib.Dec.{eqb}
use lib.ListN.{length, get_or, take, drop}
use Rattle.theory.specs.Register.{Register}
use Rattle.theory.specs.Result.{Result, got, refused, onward}
use Rattle.fields.specs.Reading.{ends, wrong, body, field_at, kept, read}
use Rattle.fields.proofs.Bools.{and_left, and_right}
use Rattle.fields.specs.declared.Found as declared·Found
use Rattle.fields.proofs.Fields.{ended, Handed}
use Rattle.fields.proofs.ReaderLoop.{Going, going_start, going_ends, going_wrong, going_more, handed_refused}
use Rattle.register.specs.declared.Progress.{Progress}
use Rattle.field_reader.specs.declared.Standing.{Standing}
use Rattle.field_reader.specs.declared.Standing.TheVariants.{Head, Within}
use Rattle.register.specs.Form.{due, complete?, advance, handed_over, with_kind, with_link, kind_entry, link_entry, keep, edge_of, no_register, register_format, register_form, register_in}
use Rattle.register.specs.Contract.{sizes, sized}
use Rattle.register.specs.Internal.{BodyReady}
use Rattle.register.specs.LinksAhead.{Accepted}
use Rattle.register.proofs.AcceptedRegister.{accepted_sizes}
use Rattle.register.proofs.Fields.{ready}
use Rattle.register.proofs.Sound.{SoundState, sound_more}

-- what holds at the loop's head
pub record Reading (s : List ℕ) (st : Standing Progress) (at : ℕ) : Type 0 where
  pub sofar : Register
  pub going : Going register_form s (read register_form s) (st, sofar) at
  pub sound : SoundState (st, sofar)

pub reading_start : (s : List ℕ) → Reading s Head 0
reading_start s = record { sofar = no_register; going = going_start register_form s; sound = refl }

-- what the field hands over is kept
keeps : (st : Standing Progress) (r : Register) (b : List ℕ) → (r' : Register) × (keep r (handed_over st b) ≡ got r')
keeps Head r b = (r, refl)
keeps (Within q) r b = by_kind (eqb q.kindless 0)
  where
    by_kind : (c : Bool) → (r' : Register) × (keep r (cond c (link_entry (edge_of b)) (kind_entry (get_or b 0 0))) ≡ got r')
    by_kind true = (with_link r (edge_of b), refl)
    by_kind false = (with_kind r (get_or b 0 0), refl)

module _ (s : List ℕ) (st : Standing Progress) (at : ℕ) (r : Reading s st at) where
  -- the file ends only where its head was read
  pub ends_within : field_at (due st) s at ≡ ends → st ≡ Head → ⊥
  ends_within e z = false≢true (sym (ap (λ (st : Standing Progress). (due st).complete) z) ∙ (ended (due st) s at e).may)

  sizes_is : (q : Progress) (v : Register) → SoundState (Within q, v) → complete? q ≡ true → got (sizes q.records q.links) ≡ sized (got v)
  sizes_is q v w h =
      let a : q.kindless ≡ 0 = eqb-true q.kindless 0 (and_left _ (eqb q.left 0) h) in
      let b : q.left ≡ 0 = eqb-true q.left 0 (and_right (eqb q.kindless 0) _ h) in
      let x : q.records ≡ length v.kinds = omega (arith, w.records) in
      let y : q.links ≡ length v.links = omega (arith, w.links) in
      λ i. got (sizes (x i) (y i))

  module _ (q : Progress) (z : st ≡ Within q) (e : field_at (due st) s at ≡ ends) where
    pub reading_ends : got (sizes q.records q.links) ≡ sized (read register_form s)
    reading_ends =
        rw (going_ends register_form s _ _ at r.going e)
        (sizes_is q r.sofar (subst (λ (p : Standing Progress). SoundState (p, r.sofar)) z r.sound) (sym (ap (λ (p : Standing Progress). (due p).complete) z) ∙ (ended (due st) s at e).may))

    pub reading_accepted : Accepted s
    reading_accepted = (accepted_sizes s q.records q.links reading_ends).0

    pub reading_counted : q.records ≡ length (register_in s).kinds
    reading_counted = sym (accepted_sizes s q.records q.links reading_ends).1

    pub reading_linked : q.links ≡ length (register_in s).links
    reading_linked = sym (accepted_sizes s q.records q.links reading_ends).2

  pub reading_wrong : (n p : ℕ) → field_at (due st) s at ≡ wrong n p → refused n p ≡ sized (read register_form s)
  reading_wrong n p e = rw (going_wrong register_form s _ _ at r.going n p e)

  -- a field lies there
  module _ (t n : ℕ) (e : field_at (due st) s at ≡ body t n) where
    pub reading_more : (q : Progress) → advance st at (take n (drop (at + 3) s)) ≡ got q → Reading s (Within q) (at + 3 + n)
    reading_more q j =
        let b = take n (drop (at + 3) s) in
        let (v, k) = keeps st r.sofar b in
        let g : register_form.judge (st, r.sofar) at (at + 3 + n) t b ≡ got (Within q, v) =
        ap (λ (a : Result Progress). kept register_format r.sofar (onward (λ q. got (Within q, handed_over st b)) a)) j ∙ ap (onward (λ (x : Register). got (Within q, x))) k in
        record { sofar = v; going = going_more register_form s _ _ at r.going t n e (Within q, v) g; sound = sound_more (st, r.sofar) s at t n (Within q, v) e g r.sound }

  -- the field f was handed out
  module _ {f : declared·Found.Found} (h : Handed (due st) s at f) where
    pub reading_ready : BodyReady st (length f.body.now)
    reading_ready = ready st s at _ _ h.seen

    pub reading_refused : (m p : ℕ) → advance st f.at f.body.now ≡ refused m p → refused m p ≡ sized (read register_form s)
    reading_refused m p j = rw (handed_refused register_form s _ _ at r.going h m p (rw j refl))

    pub reading_next : (q : Progress) → advance st f.at f.body.now ≡ got q → Reading s (Within q) f.next
    reading_next q j =
        subst (λ (k : ℕ). Reading s (Within q) k) (sym h.next)
        (reading_more f.tag (length f.body.now) h.seen q (ap₂ (advance st) (sym h.here) (sym h.body_is) ∙ j))
