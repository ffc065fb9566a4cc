-- The loop that puts members: what holds at its head, and how it goes on.
-- Assumes nothing.
use Prim.Native.Nat.{ℕ, ◌+◌, ◌-◌, ◌*◌, ◌<◌, ◌≤◌}
use mathlib.Core.Path.{◌≡◌, ap, ◌∙◌, sym, subst}
use mathlib.Core.List.{List}
use lib.ListN.{length, get_or, length-append}
use lib.Seq.{sets}
use native.Mathlib.Omega.{arith}
use Rattle.fields.specs.Table.{rows, tag_length, field_size}
use Rattle.narrowed_question.specs.declared.Members.{Members}
use Rattle.fields.specs.Writing.{two_bytes, field_bytes}
use Rattle.narrowed_question.specs.Writing.{member_bytes, members_bytes, encode}
use Rattle.narrowed_question.specs.ArrayMembers.{members_given, given}
use Rattle.encode.specs.BytesWritten.{BytesWritten, Few}
use Rattle.encode.proofs.Along.{wrote_length, wrote_more, Along, along_start, along_more, along_end, along_room}
use Rattle.encode.proofs.Parts.{member_at, members_more, encode_parts}

-- the 41 and all members
abbrev pub opening : Members → List ℕ
opening q = field_bytes 0x41 (two_bytes q.count)

abbrev pub members_all : Members → List ℕ
members_all q = members_bytes (members_given q q.count 0 0)

encode_length : (q : Members) → length (encode (given q)) ≡ 5 + length (members_all q)
encode_length q = ap length (encode_parts q) ∙ length-append (opening q) (members_all q)

pub count_room : (q : Members) {room : ℕ} → length (encode (given q)) ≤ room → 0 + field_size 0x41 ≤ room
unfolding field_size tag_length rows
count_room q h = omega (arith, h, encode_length q)

-- of the members, written from a place s of an area o on, those before the i-th are; its symbols begin with the k-th
pub record Placed (o : List ℕ) (s : ℕ) (q : Members) (out : List ℕ) (a i k : ℕ) : Type 0 where
  pub few : Few q
  pub room : s + length (members_all q) ≤ length o
  pub within : i ≤ q.count
  pub used : k ≤ 48 * i
  pub along : Along o out s a (members_all q) (members_bytes (members_given q (q.count - i) i k))

pub placed_start : {e o : List ℕ} {s : ℕ} (q : Members) → Few q → length (encode (given q)) ≤ length e → BytesWritten e o 0 s (opening q) → Placed o s q o s 0 0
placed_start {e} {o} {s} q f h w = record {
  few = f;
  room = omega (arith, h, encode_length q, wrote_length w, w.next_is);
  within = omega arith;
  used = omega arith;
  along = subst (λ (n : ℕ). Along o o s s (members_all q) (members_bytes (members_given q n 0 0))) (let z : q.count ≡ q.count - 0 = omega arith in z) (along_start o s (members_all q));
}

module _ {o : List ℕ} {s : ℕ} {q : Members} {out : List ℕ} {a i k : ℕ} (p : Placed o s q out a i k) where
  pub placed_small : i < q.count → i < 128
  placed_small h = omega (arith, p.few.0)

  -- the symbols of a member lie in the arrays
  pub placed_in : i < q.count → k + get_or q.sizes i 0 ≤ 6144
  placed_in h = omega (arith, p.few.0, p.few.1 i h, p.used)

  pub placed_room : i < q.count → a + length (member_bytes (member_at q i k)) ≤ length out
  placed_room h =
      along_room (member_bytes (member_at q i k)) (members_bytes (members_given q (q.count - (i + 1)) (i + 1) (k + get_or q.sizes i 0))) p.along (members_more q i k h) p.room

  pub placed_next : {b : List ℕ} {y : ℕ} → i < q.count → BytesWritten out b a y (member_bytes (member_at q i k)) → Placed o s q b y (i + 1) (k + get_or q.sizes i 0)
  placed_next h w = record {
    few = p.few;
    room = p.room;
    within = omega arith;
    used = omega (arith, p.few.1 i h, p.used);
    along = along_more (member_bytes (member_at q i k)) (members_bytes (members_given q (q.count - (i + 1)) (i + 1) (k + get_or q.sizes i 0))) p.along (members_more q i k h) w;
  }

  pub placed_end : {e : List ℕ} → BytesWritten e o 0 s (opening q) → q.count ≤ i → (out ≡ sets e 0 (encode (given q))) × (a ≡ length (encode (given q)))
  placed_end {e} u h =
      let v = along_end p.along (ap (λ (n : ℕ). members_bytes (members_given q n i k)) (let z : q.count - i ≡ 0 = omega arith in z)) in
      let w = subst (λ (l : List ℕ). BytesWritten e out 0 a l) (sym (encode_parts q)) (wrote_more u v) in
      (w.area, omega (arith, w.next_is))
