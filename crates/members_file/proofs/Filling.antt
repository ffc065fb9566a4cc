-- The file of the members written member by member: what is written, and what is left.
-- Assumes nothing.
use mathlib.Core.Path.{◌≡◌, refl, sym, ap, ◌∙◌, subst}
use mathlib.Core.List.{List, [], ◌++◌, map}
use Prim.Native.Nat.{ℕ, ◌+◌, ◌<◌, ◌≤◌}
use native.Mathlib.Nat.{zero-add}
use native.Mathlib.Omega.{arith}
use lib.ListN.{length, length-map}
use Rattle.theory.specs.Merging.{Member}
use Rattle.algorithms.specs.Sorting.{grouped}
use Rattle.symbols.specs.Symbols.{symbols_given}
use Rattle.narrowed_question.specs.Form.{Flat, flat}
use Rattle.fields.specs.Writing.{two_bytes, field_bytes}
use Rattle.narrowed_question.specs.Writing.{member_bytes, members_bytes, encode}
use Rattle.narrowed_question.specs.Members.{flat_of, narrowed_file}
use Rattle.encode.specs.BytesWritten.{BytesWritten}
use Rattle.fields.specs.Table.{rows, tag_length, field_size}
use Rattle.encode.proofs.Along.{wrote_length, wrote_more, Along, along_start, along_more, along_end, along_room}
use Rattle.merge.specs.Runs.{nodes_at, Running}
use Rattle.merge.proofs.Segments.{segment_end}
use Rattle.members_file.specs.declared.Entry.{Entry}
use Rattle.members_file.specs.Files.{Next, Filing, Filed}
use Rattle.members_file.proofs.Counting.{bytes_left, file_length, running}

-- from o, with the head before s, to out
pub record Filling (qs ws xs : List ℕ) (n : ℕ) (o : List ℕ) (s : ℕ) (out cs ss : List ℕ) (at k : ℕ) : Type 0 where
  pub within : k ≤ n
  pub room : s + length (bytes_left qs ws xs 0 n) ≤ length o
  pub along : Along o out s at (bytes_left qs ws xs 0 n) (bytes_left qs ws xs k n)
  pub codes_room : length cs ≡ 48
  pub sets_room : length ss ≡ 48
  pub same_length : length out ≡ length o

module _ {qs ws xs : List ℕ} {used n members : ℕ} {out₀ : List ℕ} (h : Filing qs ws xs used n members out₀) where
  abbrev ms : List Member
  ms = grouped (nodes_at qs ws xs 0 n)

  abbrev opening : List ℕ
  opening = field_bytes 0x41 (two_bytes members)

  file_parts : opening ++ bytes_left qs ws xs 0 n ≡ narrowed_file ms
  unfolding narrowed_file encode
  file_parts = ap (λ (x : ℕ). field_bytes 0x41 (two_bytes x) ++ bytes_left qs ws xs 0 n) (h.counted ∙ sym (length-map ms flat_of))

  pub count_room : 0 + field_size 0x41 ≤ length out₀
  unfolding field_size tag_length rows
  count_room = omega (arith, h.room, file_length ms)

  pub fill_start : {o cs ss : List ℕ} {s : ℕ} → length cs ≡ 48 → length ss ≡ 48 → BytesWritten out₀ o 0 s opening → Filling qs ws xs n o s o cs ss s 0
  fill_start {o} {s = s} ec es w =
      let z : s ≡ 0 + 5 = w.next_is in
      record {
        within = omega arith;
        room = omega (arith, h.room, file_length ms, wrote_length w);
        along = along_start o s (bytes_left qs ws xs 0 n);
        codes_room = ec;
        sets_room = es;
        same_length = refl;
      }

  module _ {o : List ℕ} {s : ℕ} {out cs ss : List ℕ} {at k : ℕ} (g : Filling qs ws xs n o s out cs ss at k) where
    pub fill_asks : k < n → Running qs ws xs used n k cs ss
    fill_asks l = running h.nodes l g.codes_room g.sets_room

    pub fill_over : BytesWritten out₀ o 0 s opening → n ≤ k → Filed qs ws xs n out₀ out at
    fill_over u l =
        let e : bytes_left qs ws xs k n ≡ [] = rw (segment_end xs k n l) in
        let w = subst (λ (b : List ℕ). BytesWritten out₀ out 0 at b) file_parts (wrote_more u (along_end g.along e)) in
        record { area = w.area; bytes_are = w.next_is ∙ zero-add (length (narrowed_file ms)); same_length = g.same_length ∙ wrote_length u }

    module _ {cs' ss' : List ℕ} {r : Entry} (e : Next qs ws xs n k cs' ss' r) where
      -- the first of what is left
      parted : bytes_left qs ws xs k n ≡ member_bytes (flat r.group.from r.group.to (symbols_given cs' ss' r.group.size 0)) ++ bytes_left qs ws xs r.group.next n
      parted =
          ap (λ (l : List Member). members_bytes (map flat_of l)) e.is
          ∙ ap (λ (m : Flat). member_bytes m ++ bytes_left qs ws xs r.group.next n) e.flat_is

      pub fill_room : (0 + r.group.size ≤ length cs')
          × ((0 + r.group.size ≤ length ss') × (at + length (member_bytes (flat r.group.from r.group.to (symbols_given cs' ss' r.group.size 0))) ≤ length out))
      fill_room = (
        omega (arith, e.few, e.codes_room),
        (
          omega (arith, e.few, e.sets_room),
          along_room (member_bytes (flat r.group.from r.group.to (symbols_given cs' ss' r.group.size 0))) (bytes_left qs ws xs r.group.next n) g.along parted g.room,
        ),
      )

      pub fill_turn : {out' : List ℕ} {at' : ℕ} → BytesWritten out out' at at' (member_bytes (flat r.group.from r.group.to (symbols_given cs' ss' r.group.size 0)))
          → Filling qs ws xs n o s out' cs' ss' at' r.group.next
      fill_turn w =
          record {
            within = e.within;
            room = g.room;
            along = along_more (member_bytes (flat r.group.from r.group.to (symbols_given cs' ss' r.group.size 0))) (bytes_left qs ws xs r.group.next n) g.along parted w;
            codes_room = e.codes_room;
            sets_room = e.sets_room;
            same_length = wrote_length w ∙ g.same_length;
          }
